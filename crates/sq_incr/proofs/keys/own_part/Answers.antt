use Rattle.std.proofs.Common.{◌≡◌, suc, subst, arith}
use Rattle.std.specs.Prelude.{pred, IfOk}
use Rattle.sq_incr.proofs.Keying.{only_shard, own_ready, own_sums}
use Rattle.sq_incr.proofs.keys.own_part.Goals as goal

pub sum_of_pairs-requires : goal.sum_of_pairs-requires
sum_of_pairs-requires c =
    let some : c.args.shards ≡ suc (pred c.args.shards) = let above = c.requires.shards.0 in omega (arith, above) in
    own_ready c.args.shards (pred c.args.shards) some c.args.shard c.args.z c.in_ok-pairs.pairs.items c.in_ok-pairs.ensures.pairs c.in_ok-pairs.ensures.in_range c.in_ok-pairs.ensures.light

pub returns : goal.returns
returns c =
    let some : c.args.shards ≡ suc (pred c.args.shards) = let above = c.requires.shards.0 in omega (arith, above) in
    subst (λ y. IfOk c.sum_of_pairs.result (λ part. part ≡ y)) (own_sums c.args.shards (pred c.args.shards) some c.args.shard c.args.z c.in_ok-pairs.pairs.items c.in_ok-pairs.ensures.pairs) c.sum_of_pairs.ensures

pub returns-then-shards-eq1 : goal.returns-then-shards-eq1
returns-then-shards-eq1 c = only_shard c.args.shards c.args.shard c.args.z c.if-shards-eq1.true c.requires.inside
