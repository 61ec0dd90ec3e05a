use Rattle.std.proofs.Common.{SFits, to_z-of_z, rules, ◌++◌, ◌∷◌, [], sym, ap, ◌∙◌}
use Rattle.std.specs.Int.{w128}
use Rattle.std.proofs.lemmas.Option.{same_Some}
use Rattle.sq_algebra.specs.ZSet.{total}
use Rattle.sq_incr.proofs.Noting.{got_at}
use Rattle.sq_tests_ticks.specs.Ticks.{IsTotalAt}
use Rattle.sq_tests_ticks.proofs.Putting.{more_each}
use Rattle.sq_tests_ticks.proofs.ticks.totals_of.Goals as goal

pub loop-i-preserved : goal.loop-i-preserved
loop-i-preserved c =
    let fits : SFits w128 c.total.result = search rules in
    more_each (IsTotalAt c.args.values.now) c.loop-i.totals.items c.push.new.self.items c.loop-i.i c.total.result c.loop-i.invariant
    (λ z e. c.total.ensures ∙ ap total (same_Some c.index-values-i.result z (sym (got_at c.args.values.now c.loop-i.i c.index-values-i.result c.loop-i-test.true c.index-values-i.is) ∙ e)))
    (c.in_ok-push.ensures.items ∙ ap (λ n. c.loop-i.totals.items ++ n ∷ []) (to_z-of_z fits))
