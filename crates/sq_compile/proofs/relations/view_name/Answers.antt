use Rattle.std.proofs.Common.{arith, sym, ◌∙◌}
use Rattle.std.proofs.lemmas.Result.{IfOk-weaker}
use Rattle.sq_compile.proofs.RelationLemmas.{name_found, name_passed, name_skipped}
use Rattle.sq_compile.proofs.relations.view_name.Goals.{then-is_view+else-left-eq0, else-is_view}
use Rattle.sq_compile.proofs.relations.view_name.Goals as goal

pub returns-then-left-eq0 : goal.returns-then-left-eq0
returns-then-left-eq0 c =
    IfOk-weaker c.clone_str.result _ _
    (λ name e. e ∙ name_found c.args.catalog.now c.loop-i.i c.loop-i.left c.args.view c.at-relation.result.now c.loop-i.invariant c.at-relation.ensures
    (sym c.is_view.ensures ∙ c.if-is_view.true) c.if-left-eq0.true)
    c.clone_str.ensures.equal

pub loop-i-preserved : goal.loop-i-preserved
loop-i-preserved c = elim c.if-is_view.branch [
  | then-is_view+else-left-eq0 w ↦
      name_passed c.args.catalog.now c.loop-i.i c.loop-i.left c.if-is_view.left c.args.view c.at-relation.result.now c.loop-i.invariant c.at-relation.ensures
      (sym c.is_view.ensures ∙ w.if-is_view.true) (omega (arith, w.left-is, w.if-left-eq0.false))
  | else-is_view w ↦
      name_skipped c.args.catalog.now c.loop-i.i c.loop-i.left c.if-is_view.left c.args.view c.at-relation.result.now c.loop-i.invariant c.at-relation.ensures
      (sym c.is_view.ensures ∙ w.if-is_view.false) w.left-is
]
