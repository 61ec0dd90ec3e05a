use Rattle.std.proofs.Common.{◌≡◌, suc, ◌+◌, ◌++◌, [], ◌∷◌, take, sym, ap, ◌∙◌, arith}
use Rattle.sq_typed.specs.Resolved.{widened}
use Rattle.sq_check.proofs.QueriesPlaces.{wide_step}
use Rattle.sq_check.proofs.widen.widened.Goals as goal

pub loop-i-preserved : goal.loop-i-preserved
loop-i-preserved c =
    let i = c.loop-i.i in
    let next : i + 1 ≡ suc i = omega arith in
    c.in_ok-push.ensures.ok
    ∙ ((λ j. c.loop-i.invariant j ++ record { name = c.in_ok-clone_str.ensures.equal j; kind = c.wider_at.ensures j; nullable = c.index-columns-i.result.nullable } ∷ [])
    ∙ (sym (wide_step c.args.columns.now c.args.others.now i c.index-columns-i.result (omega arith) c.index-columns-i.is)
    ∙ ap (λ k. widened (take k c.args.columns.now) c.args.others.now) (sym next)))
