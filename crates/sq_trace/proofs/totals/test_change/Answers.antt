use Rattle.std.proofs.Common.{◌≡◌, Err}
use Rattle.std.proofs.lemmas.Result.{err_from_is_err_and}
use Rattle.sq_zset.specs.declared.pair.ZFault.TheVariants.{Weight}
use Rattle.sq_trace.proofs.Ranges.{in_range_got, change_starts, change_goes_on, change_stops, total_in_range}
use Rattle.sq_trace.proofs.totals.test_change.Goals as goal

pub loop-entry-init : goal.loop-entry-init
loop-entry-init g c = change_starts g.P.Group.addition g.met.P.Group.laws g.P.Group.first_outside c.args.parts.now c.args.change.now c.requires.is_run c.requires.fronts

pub plus-requires-clause-self_in_range : goal.plus-requires-clause-self_in_range
plus-requires-clause-self_in_range g c =
    total_in_range g.P.Group.addition g.P.Group.first_outside c.args.parts.now c.in_ok-total.total _ c.requires.fronts c.in_ok-total.ensures.ok

pub plus-requires-clause-other_in_range : goal.plus-requires-clause-other_in_range
plus-requires-clause-other_in_range g c = in_range_got g.P.Group.addition g.P.Group.first_outside c.args.change.now c.loop-entry.entry-index c.entry-item.result c.requires.is_run c.loop-entry-test.true c.entry-item.is

pub returns-in_err-_sum-clause-outside : goal.returns-in_err-_sum-clause-outside
returns-in_err-_sum-clause-outside g c number e =
    let (fault, is, same) = err_from_is_err_and c.from_residual-in_err-_sum.result c.from_residual-in_err-_sum.ensures.1 in
    let was : c.plus.result ≡ Err (Weight number) = cc (c.in_err-_sum.was, is, same, e) in
    change_stops g.P.Group.addition g.met.P.Group.laws g.P.Group.first_outside c.args.parts.now c.args.change.now c.requires.is_run c.loop-entry.entry-index c.entry-item.result c.in_ok-total.total number
    c.loop-entry-test.true c.entry-item.is c.in_ok-total.ensures.ok (c.plus.ensures.outside number was) c.loop-entry.invariant

pub loop-entry-preserved : goal.loop-entry-preserved
loop-entry-preserved g c =
    change_goes_on g.P.Group.addition g.met.P.Group.laws g.P.Group.first_outside c.args.parts.now c.args.change.now c.requires.is_run c.loop-entry.entry-index c.entry-item.result c.in_ok-total.total c.in_ok-_sum._sum
    c.loop-entry-test.true c.entry-item.is c.in_ok-total.ensures.ok c.in_ok-_sum.ensures.ok c.in_ok-_sum.ensures.in_range c.loop-entry.invariant
