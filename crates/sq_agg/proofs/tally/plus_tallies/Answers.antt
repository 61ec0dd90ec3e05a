use Rattle.std.proofs.Common.{rules, ◌≡◌, ◌<◌, ◌∙◌, length, ap, ap₂, sym, Some, ℤ}
use Rattle.std.proofs.lemmas.Result.{err_from_is_err_and}
use Rattle.sq_zset.specs.declared.pair.ZFault.TheVariants.{Weight}
use Rattle.sq_agg.specs.Tallies.{both, first_of_tally, summed}
use Rattle.sq_agg.proofs.Summing.{one_outside, one_summed}
use Rattle.sq_agg.proofs.tally.plus_tallies.Goals as goal

weight_is : (m n : ℤ) → Weight m ≡ Weight n → m ≡ n
weight_is m n e = cc e

pub returns-in_err-sum-clause-outside : goal.returns-in_err-sum-clause-outside
returns-in_err-sum-clause-outside c number e =
    let (fault, is, same) = err_from_is_err_and c.from_residual.result c.from_residual.ensures.1 in
    let named : c.in_err-sum.field-0.0.sum ≡ number = weight_is _ number (cc (is, same, e)) in
    let low : c.loop-i.i < length (summed c.args.a.now c.args.b.now) = search rules in
    one_outside c.args.a.now c.args.b.now c.loop-i.i c.loop-i.list.items number low c.loop-i.invariant
    (sym (ap₂ (λ s t. first_of_tally (both s t)) c.tally_at.ensures.tally c.tally_at-in-loop-i.ensures.tally) ∙ c.plus.ensures.outside c.in_err-sum.field-0.0 c.in_err-sum.was ∙ ap Some named)

pub loop-i-preserved : goal.loop-i-preserved
loop-i-preserved c =
    let low : c.loop-i.i < length (summed c.args.a.now c.args.b.now) = search rules in
    one_summed c.args.a.now c.args.b.now c.loop-i.i c.loop-i.list.items c.push.new.self.items c.in_ok-sum.sum low c.loop-i.invariant c.in_ok-push.ensures.items
    (c.in_ok-sum.ensures.ok ∙ ap₂ both c.tally_at.ensures.tally c.tally_at-in-loop-i.ensures.tally) c.in_ok-sum.ensures.within
