use Rattle.std.proofs.Common.{◌≤◌, length, sym, ap, subst, ◌∙◌}
use Rattle.std.specs.Prelude.{slice_get}
use Rattle.sq_plan.proofs.RelationsTables.{TablesSoFar, tables_begin, tables_end, tables_go_on}
use Rattle.sq_plan.proofs.relations.table_parts.Goals as goal

pub loop-i-init : goal.loop-i-init
loop-i-init c = subst (λ parts. TablesSoFar c.args.program.now.catalog 0 parts) (sym c.new-parts.ensures.items) (tables_begin c.args.program.now.catalog)

pub loop-i-preserved : goal.loop-i-preserved
loop-i-preserved c =
    tables_go_on c.args.program.now.catalog c.loop-i.i c.loop-i.parts.items c.in_ok-parts.parts.items c.at.result.now (ap (λ rs. slice_get rs c.loop-i.i) (sym c.catalog-relations.ensures.relations) ∙ c.at.ensures) c.loop-i.invariant c.in_ok-parts.ensures

pub returns : goal.returns
returns c = tables_end c.args.program.now.catalog c.loop-i.i c.loop-i.parts.items (subst (λ n. n ≤ c.loop-i.i) (c.len-i-end.ensures.len ∙ ap length c.catalog-relations.ensures.relations) c.loop-i-test.false) c.loop-i.invariant
