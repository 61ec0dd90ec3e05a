use Rattle.std.proofs.Common.{◌≡◌, ◌≤◌, ◌^◌, arith, unsigned_abs}
use Rattle.std.proofs.lemmas.List.Sorted.{sum_by-IsPermutation}
use Rattle.sq_zset.specs.declared.pair.Pair.{Pair}
use Rattle.sq_zset.specs.Pairs.{mass}
use Rattle.sq_zset.proofs.Collecting.{no_items, collecting_start, collecting_turn, collecting_end}
use Rattle.sq_zset.proofs.collect.sums_of.Goals as goal

pub loop-pair-init : goal.loop-pair-init
loop-pair-init c =
    let same : mass c.sort_unstable.new.self.items ≡ mass c.args.pairs.items = sum_by-IsPermutation (λ (p : Pair). unsigned_abs p.weight) _ _ c.sort_unstable.ensures.permutation in
    let fits : mass c.sort_unstable.new.self.items ≤ 2 ^ 126 = omega arith in
    collecting_start c.sort_unstable.new.self.items c.new-sums.result.items c.new-sums.ensures.items c.sort_unstable.ensures.sorted fits

pub loop-pair-preserved : goal.loop-pair-preserved
loop-pair-preserved c =
    collecting_turn c.sort_unstable.new.self.items c.loop-pair.pairs.items c.pop.new.self.items c.in-Some.pair c.loop-pair.sums.items c.add_pair.new.sums.items c.loop-pair.invariant c.in-Some.ensures.items c.in_ok-add_pair.ensures

pub returns : goal.returns
returns c =
    collecting_end c.args.pairs.items c.sort_unstable.new.self.items c.loop-pair.pairs.items c.loop-pair.sums.items c.loop-pair.invariant
    (no_items c.loop-pair.pairs.items _ c.loop-pair.pairs.ok.0 c.in_default.ensures.cases.0) c.sort_unstable.ensures.permutation
