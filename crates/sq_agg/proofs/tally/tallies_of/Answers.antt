use Rattle.std.proofs.Common.{rules, ◌≤◌, ◌∙◌, length, map, ap, sym, subst, take_all}
use Rattle.std.specs.List.{AllByRecursion}
use Rattle.sq_agg.specs.Accumulators.{call_tally}
use Rattle.sq_agg.specs.Tallies.{IsWithin}
use Rattle.sq_agg.proofs.Tallying.{all_tallies_within}
use Rattle.sq_agg.proofs.tally.tallies_of.Goals as goal

pub returns-clause-within : goal.returns-clause-within
returns-clause-within c =
    let past : length c.args.calls.now ≤ c.loop-call.call-index = search rules in
    subst (AllByRecursion IsWithin) (sym (c.loop-call.invariant ∙ ap (map (call_tally c.args.z.now)) (take_all c.loop-call.call-index c.args.calls.now past))) (all_tallies_within c.args.z.now c.requires c.args.calls.now)
