use Rattle.std.proofs.Common.{arith}
use Rattle.sq_incr.proofs.Keying.{part_at, parts_count}
use Rattle.sq_incr.proofs.keys.part_by.Goals as goal

pub swap_remove-requires : goal.swap_remove-requires
swap_remove-requires c =
    let many = parts_count c.args.shards c.args.columns.now c.args.z c.in_ok-parts.parts.items c.in_ok-parts.ensures.parts in
    let long = c.in_ok-parts.parts.ok.0 in
    let low = c.requires.inside in
    omega (arith, many, long, low)

pub returns : goal.returns
returns c = part_at c.args.shards c.args.columns.now c.args.z c.in_ok-parts.parts.items c.args.shard c.swap_remove.result c.in_ok-parts.ensures.parts c.requires.inside c.swap_remove.ensures.value
