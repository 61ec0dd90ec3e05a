use Rattle.std.proofs.Common.{rules, ◌≤◌, length}
use Rattle.sq_algebra.specs.ZSet.{entries}
use Rattle.sq_agg.proofs.Placing.{all_placed, keys_placed, one_placed, within_placed}
use Rattle.sq_agg.proofs.group.group_places.Goals as goal

pub loop-i-preserved : goal.loop-i-preserved
loop-i-preserved c =
    one_placed c.args.spec.now (entries c.args.z.now) c.loop-i.i c.at.result.0.now c.at.result.1 c.at.ensures.entry c.in_ok-key.key c.in_ok-key.ensures c.loop-i.groups c.add_place.new.groups c.loop-i.invariant c.in_ok-add_place.ensures.keys c.in_ok-add_place.ensures.places

pub returns-clause-keys : goal.returns-clause-keys
returns-clause-keys c =
    let past : length (entries c.args.z.now) ≤ c.loop-i.i = search rules in
    keys_placed c.args.spec.now c.args.z.now c.loop-i.i c.loop-i.groups c.loop-i.invariant past

pub returns-clause-in_range : goal.returns-clause-in_range
returns-clause-in_range c =
    let low : c.loop-i.i ≤ length (entries c.args.z.now) = search rules in
    within_placed c.args.spec.now (entries c.args.z.now) c.loop-i.i c.loop-i.groups c.loop-i.invariant low

pub returns-clause-rows : goal.returns-clause-rows
returns-clause-rows c =
    let past : length (entries c.args.z.now) ≤ c.loop-i.i = search rules in
    all_placed c.args.spec.now (entries c.args.z.now) c.loop-i.i c.loop-i.groups c.loop-i.invariant past
