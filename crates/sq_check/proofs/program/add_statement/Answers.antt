use Rattle.std.proofs.Common.{sym, ◌∙◌}
use Rattle.sq_typed.specs.Faults.{described}
use Rattle.sq_check.proofs.QueriesProgram.{few_relations, heads_apart, new_name}
use Rattle.sq_check.proofs.program.add_statement.Goals as goal

pub create-requires : goal.create-requires
create-requires c = record {
  small = c.requires.small;
  apart = heads_apart c.args.before c.args.catalog.now (described c.args.catalog.now c.args.statement.now.body) (sym c.in_ok-kind.ensures ∙ c.in-None.is);
  few = few_relations c.args.before c.args.catalog.now (described c.args.catalog.now c.args.statement.now.body) c.requires.before (sym c.in_ok-kind.ensures ∙ c.in-None.is);
  new_name = new_name c.args.before c.args.catalog.now (described c.args.catalog.now c.args.statement.now.body) (sym c.in_ok-kind.ensures ∙ c.in-None.is);
}
