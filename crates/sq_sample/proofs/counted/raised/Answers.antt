use Rattle.std.proofs.Common.{rules, ◌≤◌, ◌∙◌, SFits, length, to_z-of_z}
use Rattle.std.specs.Int.{w128}
use Rattle.sq_sample.proofs.Raising.{all_raised, next_raised}
use Rattle.sq_sample.proofs.counted.raised.Goals as goal

pub loop-i-preserved : goal.loop-i-preserved
loop-i-preserved c =
    let fits : SFits w128 c.sum_at.result = search rules in
    next_raised c.args.numbers.now c.args.views.now c.loop-i.i c.loop-i.sums.items c.push.new.self.items _ c.sum_at.result c.in_ok-push.ensures.items (to_z-of_z fits)
    c.loop-i-test.true c.requires c.loop-i.invariant c.sum_at.ensures

pub returns : goal.returns
returns c =
    let past : length c.args.numbers.now ≤ c.loop-i.i = search rules in
    c.loop-i.invariant ∙ all_raised c.args.numbers.now c.args.views.now c.loop-i.i past
