use Rattle.std.proofs.Common.{◌≡◌, ◌+ℤ◌, ◌∙◌, ap, true, false, rules}
use Rattle.std.proofs.lemmas.Result.{err_from_is_err_and}
use Rattle.sq_zset.specs.declared.pair.OutsideRange.{OutsideRange}
use Rattle.sq_agg.specs.Accumulators.{is_count_in_range, is_sum_in_range}
use Rattle.sq_agg.proofs.Tallying.{sum_told}
use Rattle.sq_agg.proofs.tally.Tally.plus.Goals as goal

pub returns-in_err-sum-clause-outside : goal.returns-in_err-sum-clause-outside
returns-in_err-sum-clause-outside c outside e =
    let (fault, is, same) = err_from_is_err_and c.from_residual-in_err-sum.result c.from_residual-in_err-sum.ensures.1 in
    let named : outside ≡ c.in_err-sum.field-0.0 = cc (is, same, e) in
    let inside : is_count_in_range (c.args.self.count +ℤ c.args.other.count) ≡ true = search rules in
    let out : is_sum_in_range (c.args.self.sum +ℤ c.args.other.sum) ≡ false = search rules in
    let told : c.in_err-sum.field-0.0.sum ≡ c.args.self.sum +ℤ c.args.other.sum = search rules in
    sum_told c.args.self c.args.other outside.sum inside out (ap (λ (o : OutsideRange). o.sum) named ∙ told)
