use Rattle.std.proofs.Common.{◌≡◌, ◌∙◌, ap, sym, Err}
use Rattle.std.proofs.lemmas.Result.{err_from_is_err_and}
use Rattle.sq_algebra.specs.Operators.{image}
use Rattle.sq_algebra.specs.ZSet.{from_pairs}
use Rattle.sq_value.specs.Order.{row_cmp}
use Rattle.sq_zset.specs.Range.{first_outside}
use Rattle.sq_zset.specs.declared.pair.ZFault.TheVariants as zset
use Rattle.sq_linear.specs.Faults.{of_sum}
use Rattle.sq_linear.specs.declared.fault.LinearFault.TheVariants as linear
use Rattle.sq_linear.proofs.FaultLemmas.{sum_of}
use Rattle.sq_linear.proofs.apply.apply_linear.Goals as goal

pub returns-in_err-answer-clause-weight : goal.returns-in_err-answer-clause-weight
unfolding image
returns-in_err-answer-clause-weight g c sum e =
    let (fault, is, same) = err_from_is_err_and c.from_residual-in_err-answer.result c.from_residual-in_err-answer.ensures.1 in
    let named : of_sum c.in_err-answer.field-0.0 ≡ linear.Weight sum = cc (is, same, e) in
    let failed : c.consolidate.result ≡ Err (zset.Weight sum) = c.in_err-answer.was ∙ ap Err (sum_of c.in_err-answer.field-0.0 sum named) in
    ap (λ ps. first_outside (from_pairs row_cmp ps)) (sym c.in_ok-pairs.ensures.ok) ∙ c.consolidate.ensures.outside sum failed

pub returns-clause-ok : goal.returns-clause-ok
unfolding image
returns-clause-ok g c = c.in_ok-answer.ensures.ok ∙ ap (from_pairs row_cmp) c.in_ok-pairs.ensures.ok
