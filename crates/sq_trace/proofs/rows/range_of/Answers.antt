use Rattle.std.proofs.Common.{◌-◌, ◌∙◌, take, drop, take_all, length-drop, length, refl, sym, ap, arith}
use Rattle.sq_value.specs.OrderLaws.{row_eq-same}
use Rattle.sq_trace.proofs.RowLemmas.{Leaves, keyed_next, leaves_at, leaves_none, range_is}
use Rattle.sq_trace.proofs.rows.range_of.Goals.{then-loop-count-test+else-eq, else-loop-count-test}
use Rattle.sq_trace.proofs.rows.range_of.Goals as goal

pub loop-count-preserved : goal.loop-count-preserved
loop-count-preserved g c =
    let low = c.loop-count-test.true in (
      omega arith,
      keyed_next c.args.key.now _ c.loop-count.count c.index-rest-count.result c.loop-count.invariant.1 low c.index-rest-count.is
          (ap (λ e. e.key) c.index-rest-count.is ∙ (row_eq-same _ c.args.key.now).0 (sym c.eq.ensures ∙ c.if-eq.true)),
    )

pub returns : goal.returns
returns g c =
    let es = c.args.entries.now in
    let n = c.bound.result in
    let leaves : Leaves c.args.key.now (drop c.loop-count.count (take (length es - n) (drop n es))) = elim c.loop-count-test.branch [
      | then-loop-count-test+else-eq w ↦ leaves_at c.args.key.now _ c.loop-count.count w.index-rest-count.result w.loop-count-test.true w.index-rest-count.is
          (λ same. let is = (row_eq-same w.index-rest-count.result.key c.args.key.now).1 same in cc (w.eq.ensures, w.if-eq.false, is))
      | else-loop-count-test w ↦ leaves_none c.args.key.now _ c.loop-count.count (grind (arith, w.loop-count-test))
    ] in
    range_is g.P.Group.addition g.met.P.Group.laws g.P.Group.first_outside c.args.key.now c.args.first.now es (take (length es - n) (drop n es)) _ n c.loop-count.count c.requires.is_run c.requires.first c.bound.ensures
    (take_all (length es - n) (drop n es) (omega (arith, length-drop n es))) refl c.loop-count.invariant.1 leaves
