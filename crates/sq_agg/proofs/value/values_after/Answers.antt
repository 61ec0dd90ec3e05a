use Rattle.std.proofs.Common.{rules, ◌≡◌, ◌∙◌, ◌<◌, ◌≤◌, ◌+◌, length, Err, arith}
use Rattle.std.proofs.lemmas.Option.{slice_get-get_or}
use Rattle.std.proofs.lemmas.Result.{err_from_is_err_and}
use Rattle.sq_algebra.specs.ZSet.{entries}
use Rattle.sq_expr.specs.declared.expr.Func.TheVariants.{CountAll}
use Rattle.sq_ops.specs.declared.fault.OpFault.TheVariants.{Value}
use Rattle.sq_agg.proofs.Values.{all_values, none_outside, one_cost, one_value, sum_outside}
use Rattle.sq_agg.proofs.value.values_after.Goals as goal

pub returns-in_err-value-clause-outside : goal.returns-in_err-value-clause-outside
returns-in_err-value-clause-outside g c sum e a =
    let (fault, is, same) = err_from_is_err_and c.from_residual.result c.from_residual.ensures.1 in
    let failed : c.value_of_call.result ≡ Err (Value sum) = cc (c.in_err-value.was, is, same, e) in
    let low : c.loop-i.i < length c.as_slice.result.now = search rules in
    sum_outside c.args.spec.now c.args.ordered.now c.args.key.now c.args.changed.now c.args.acc.now a c.as_slice.result.now c.as_slice.ensures c.loop-i.i
    _ (slice_get-get_or c.as_slice.result.now c.loop-i.i (record { func = CountAll; arg = 0 }) low)
    c.loop-i.values.items sum (c.loop-i.invariant.0 a) (c.value_of_call.ensures.outside sum failed)

pub loop-i-preserved : goal.loop-i-preserved
loop-i-preserved g c =
    let low : c.loop-i.i < length c.as_slice.result.now = search rules in
    let more = one_cost c.loop-i.i (1 + length (entries c.args.changed.now)) in
    let before = c.loop-i.invariant.1 in
    let now = c.value_of_call.ensures.count in (
      λ a. one_value c.args.spec.now c.args.ordered.now c.args.key.now c.args.changed.now c.args.acc.now a c.as_slice.result.now c.as_slice.ensures c.loop-i.i
          _ (slice_get-get_or c.as_slice.result.now c.loop-i.i (record { func = CountAll; arg = 0 }) low)
          c.loop-i.values.items c.push.new.self.items c.in_ok-value.value (c.loop-i.invariant.0 a) c.in_ok-push.ensures.items c.in_ok-value.ensures.ok c.in_ok-value.ensures.in_range,
      omega arith,
      c.value_of_call.ensures.ledger ∙ c.loop-i.invariant.2,
    )

pub returns-clause-ok : goal.returns-clause-ok
returns-clause-ok g c a =
    let past : length c.as_slice-i-end.result.now ≤ c.loop-i.i = search rules in
    all_values c.args.spec.now c.args.ordered.now c.args.key.now c.args.changed.now c.args.acc.now a c.as_slice-i-end.result.now c.as_slice-i-end.ensures c.loop-i.i c.loop-i.values.items (c.loop-i.invariant.0 a) past

pub returns-clause-in_range : goal.returns-clause-in_range
returns-clause-in_range g c a =
    let past : length c.as_slice-i-end.result.now ≤ c.loop-i.i = search rules in
    none_outside c.args.spec.now c.args.ordered.now c.args.key.now c.args.changed.now c.args.acc.now a c.as_slice-i-end.result.now c.as_slice-i-end.ensures c.loop-i.i c.loop-i.values.items (c.loop-i.invariant.0 a) past
