use Rattle.std.proofs.Common.{◌∙◌, ap₂, sym, ◌++◌, ◌∷◌, []}
use Rattle.sq_expr.proofs.Lists.{take_more}
use Rattle.sq_agg.proofs.argument.copy_values.Goals as goal

pub loop-i-preserved : goal.loop-i-preserved
loop-i-preserved c =
    c.in_ok-push.ensures.items
    ∙ ap₂ (λ xs x. xs ++ x ∷ []) c.loop-i.invariant c.in_ok-clone_value.ensures.equal
    ∙ sym (take_more c.args.row.now c.loop-i.i c.at.result.now c.at.ensures)
