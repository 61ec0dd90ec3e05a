use Rattle.std.proofs.Common.{◌≡◌, suc, ◌+◌, ◌||◌, drop, sym, ap, ◌∙◌, arith}
use Rattle.sq_typed.specs.Faults.{differ_in_sort}
use Rattle.sq_check.proofs.QueriesPlaces.{sort_step}
use Rattle.sq_check.proofs.widen.sorts_differ.Goals as goal

pub returns-then-is_unlike_at : goal.returns-then-is_unlike_at
returns-then-is_unlike_at c =
    let i = c.loop-i.i in
    ap (λ b. b || differ_in_sort (drop (suc i) c.args.columns.now) (drop (suc i) c.args.others.now)) (sym c.if-is_unlike_at.true ∙ c.is_unlike_at.ensures)
    ∙ (sym (sort_step c.args.columns.now c.args.others.now i c.index-columns-i.result (omega arith) c.index-columns-i.is) ∙ c.loop-i.invariant)

pub loop-i-preserved : goal.loop-i-preserved
loop-i-preserved c =
    let i = c.loop-i.i in
    let next : i + 1 ≡ suc i = omega arith in
    ap (λ k. differ_in_sort (drop k c.args.columns.now) (drop k c.args.others.now)) next
    ∙ (ap (λ b. b || differ_in_sort (drop (suc i) c.args.columns.now) (drop (suc i) c.args.others.now)) (sym c.if-is_unlike_at.false ∙ c.is_unlike_at.ensures)
    ∙ (sym (sort_step c.args.columns.now c.args.others.now i c.index-columns-i.result (omega arith) c.index-columns-i.is) ∙ c.loop-i.invariant))
