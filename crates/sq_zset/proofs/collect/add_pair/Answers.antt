use Rattle.std.proofs.Common.{rules, SFits, to_z-of_z}
use mir.Syntax.{w128}
use Rattle.sq_zset.proofs.Entries.{fits_128}
use Rattle.sq_zset.proofs.Collecting.{sum_bound, sum_kept, sum_nonzero, added}
use Rattle.sq_zset.proofs.collect.add_pair.Goals as goal

pub overflow_add-sum : goal.overflow_add-sum
overflow_add-sum c =
    let weight : SFits w128 c.args.pair.weight = search rules in
    let sum : SFits w128 c.take_sum.result = search rules in
    rw (to_z-of_z weight, to_z-of_z sum) (fits_128 _ (sum_bound c.args.pair.row c.args.pair.weight c.take_sum.result c.args.sums.now.items c.take_sum.ensures.sum c.requires.fits))

pub returns-in_ok-push : goal.returns-in_ok-push
returns-in_ok-push c =
    let weight : SFits w128 c.args.pair.weight = search rules in
    let sum : SFits w128 c.take_sum.result = search rules in
    let total = sum_kept c.args.pair.row c.args.pair.weight c.take_sum.result c.args.sums.now.items weight sum c.take_sum.ensures.sum c.requires.fits in
    added c.args.pair.row c.args.pair.weight _ c.take_sum.result c.args.sums.now.items c.take_sum.new.sums.items c.push.new.self.items c.requires.lowest
    (record { sum_is = c.take_sum.ensures.sum; rest_is = c.take_sum.ensures.rest })
    total (sum_nonzero c.args.pair.weight c.take_sum.result _ weight sum total c.if-sum-ne0.true) c.in_ok-push.ensures.items
