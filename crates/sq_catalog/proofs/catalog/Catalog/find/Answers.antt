use Rattle.std.proofs.Common.{ap, ◌∙◌, is_some}
use Rattle.sq_catalog.proofs.Lookups.{found, place}
use Rattle.sq_catalog.proofs.catalog.Catalog.find.Goals as goal

pub returns-in_err-get_index_of-clause-place : goal.returns-in_err-get_index_of-clause-place
returns-in_err-get_index_of-clause-place c = c.from_residual.ensures ∙ place c.args.name.now c.self.inside.relations.entries c.args.self.now _ c.self.invariant.own c.self.view_is c.in_err-get_index_of.ensures.index

pub returns-in_err-get_index_of-clause-found : goal.returns-in_err-get_index_of-clause-found
returns-in_err-get_index_of-clause-found c = ap is_some c.from_residual.ensures ∙ found c.args.name.now c.self.inside.relations.entries c.args.self.now _ c.self.invariant.own c.self.view_is c.in_err-get_index_of.ensures.found

pub returns-clause-place : goal.returns-clause-place
returns-clause-place c = place c.args.name.now c.self.inside.relations.entries c.args.self.now _ c.self.invariant.own c.self.view_is c.in_ok-get_index_of.ensures.index

pub returns-clause-found : goal.returns-clause-found
returns-clause-found c = found c.args.name.now c.self.inside.relations.entries c.args.self.now _ c.self.invariant.own c.self.view_is c.in_ok-get_index_of.ensures.found
