use Rattle.std.proofs.Common.{rules, ◌≤◌, length}
use Rattle.sq_algebra.specs.ZSet.{entries}
use Rattle.sq_zset.proofs.Entries.{kept}
use Rattle.sq_agg.proofs.Turning.{all_kept, one_kept}
use Rattle.sq_agg.proofs.entries.push_kept.Goals as goal

pub loop-i-preserved : goal.loop-i-preserved
loop-i-preserved c =
    one_kept c.args.key.now c.args.number (entries c.args.kept.now) c.loop-i.i c.at-weight.result.0.now c.at-weight.result.1 c.at-weight.ensures.entry c.in_ok-group.group _ c.args.ordered.now.items c.loop-i.ordered.items c.push_copy.new.entries.items
    c.in_ok-group.ensures (kept c.at-weight.result.1 c.at-weight.ensures.in_range) c.loop-i.invariant c.in_ok-push_copy.ensures

pub returns : goal.returns
returns c =
    let past : length (entries c.args.kept.now) ≤ c.loop-i.i = search rules in
    all_kept c.args.key.now c.args.number (entries c.args.kept.now) c.loop-i.i c.args.ordered.now.items c.loop-i.ordered.items past c.loop-i.invariant
