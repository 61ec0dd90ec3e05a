use Rattle.std.proofs.Common.{sym, ap, ◌∙◌, refl}
use Rattle.sq_catalog.specs.Names.{is_named}
use Rattle.sq_catalog.proofs.Lookups.{added}
use Rattle.sq_catalog.proofs.catalog.Catalog.add.Goals as goal

pub invariant_of-self-2 : goal.invariant_of-self-2
invariant_of-self-2 c = (added _ c.in_ok-name.name c.args.relation c.self.inside.relations.entries c.insert.new.self.entries c.args.self.now (λ j. refl) c.self.invariant c.self.view_is (c.in_ok-name.ensures.ok ∙ c.as_str-2.ensures) (ap (λ name. is_named name c.args.self.now) (sym c.as_str.ensures) ∙ (sym c.find.ensures.found ∙ (sym c.is_some.ensures ∙ c.if-is_some.false))) c.requires.few c.in_ok-insert.ensures.entries).0

pub returns-clause-ok : goal.returns-clause-ok
returns-clause-ok c = (added _ c.in_ok-name.name c.args.relation c.self.inside.relations.entries c.insert.new.self.entries c.args.self.now (λ j. refl) c.self.invariant c.self.view_is (c.in_ok-name.ensures.ok ∙ c.as_str-2.ensures) (ap (λ name. is_named name c.args.self.now) (sym c.as_str.ensures) ∙ (sym c.find.ensures.found ∙ (sym c.is_some.ensures ∙ c.if-is_some.false))) c.requires.few c.in_ok-insert.ensures.entries).1
