use Rattle.std.proofs.Common.{◌≡◌, ◌≤◌, ◌^◌, ◌++◌, [], ◌∙◌, ap, sym, length, take_all, rules}
use Rattle.sq_algebra.specs.ZSet.{entries, in_front}
use Rattle.sq_zset.proofs.Entries.{kept}
use Rattle.sq_zset.specs.Pairs.{weighted_rows}
use Rattle.sq_distinct.specs.Stepping.{held_weight, rise_of, rises_of}
use Rattle.sq_distinct.proofs.Rising.{few_weigh, one_more, one_step}
use Rattle.sq_distinct.proofs.step.rises.Goals as goal

pub loop-i-preserved : goal.loop-i-preserved
loop-i-preserved g c = (
  c.in_ok-push_rise.ensures.ok
      ∙ ap (λ w. weighted_rows c.loop-i.pairs.items ++ in_front c.at-weight.result.0.now (rise_of (held_weight c.args.old.now c.at-weight.result.0.now) w) []) (kept c.at-weight.result.1 c.at-weight.ensures.in_range)
      ∙ ap (λ xs. xs ++ in_front c.at-weight.result.0.now (rise_of (held_weight c.args.old.now c.at-weight.result.0.now) c.at-weight.result.1) []) c.loop-i.invariant.0
      ∙ sym (one_more (held_weight c.args.old.now) (entries c.args.d.now) c.loop-i.i c.at-weight.result.0.now c.at-weight.result.1 c.at-weight.ensures.entry),
  one_step c.args.steps.now.count c.loop-i.steps.count c.push_rise.new.steps.count c.loop-i.i c.loop-i.invariant.1 c.push_rise.ensures.count,
  c.push_rise.ensures.ledger ∙ c.loop-i.invariant.2,
)

pub returns-clause-bounded : goal.returns-clause-bounded
returns-clause-bounded g c =
    let past : length (entries c.args.d.now) ≤ c.loop-i.i = search rules in
    let made : weighted_rows c.loop-i.pairs.items ≡ rises_of (held_weight c.args.old.now) (entries c.args.d.now) =
    c.loop-i.invariant.0 ∙ ap (rises_of (held_weight c.args.old.now)) (take_all c.loop-i.i (entries c.args.d.now) past) in
    let short : length (entries c.args.d.now) ≤ 2 ^ 64 = search rules in
    few_weigh (held_weight c.args.old.now) c.loop-i.pairs.items (entries c.args.d.now) made short
