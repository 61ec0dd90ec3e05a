use Rattle.std.proofs.Common.{rules, ◌≤◌, ◌∙◌, length, map, ap, sym, subst, take_all}
use Rattle.std.specs.List.{AllByRecursion}
use Rattle.sq_agg.specs.Tallies.{IsWithin, turned}
use Rattle.sq_agg.proofs.Summing.{all_turned}
use Rattle.sq_agg.proofs.tally.negate_tallies.Goals as goal

pub returns-clause-within : goal.returns-clause-within
returns-clause-within c =
    let past : length c.args.tallies.now ≤ c.loop-tally.tally-index = search rules in
    subst (AllByRecursion IsWithin) (sym (c.loop-tally.invariant ∙ ap (map turned) (take_all c.loop-tally.tally-index c.args.tallies.now past))) (all_turned c.args.tallies.now c.requires)
