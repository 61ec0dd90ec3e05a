use Rattle.std.proofs.Common.{◌≡◌, Err}
use Rattle.std.proofs.lemmas.Option.{slice_get-get_or}
use Rattle.sq_expr.specs.declared.expr.Func.TheVariants.{CountAll}
use Rattle.std.proofs.lemmas.Result.{err_from_is_err_and}
use Rattle.sq_ops.specs.declared.fault.OpFault.TheVariants.{Value}
use Rattle.sq_ops.proofs.Calling.{one_called, one_outside}
use Rattle.sq_ops.proofs.aggregate.call_values.Goals as goal

pub returns-in_err-value-clause-outside : goal.returns-in_err-value-clause-outside
returns-in_err-value-clause-outside c sum e =
    let (fault, is, same) = err_from_is_err_and c.from_residual-in_err-value.result c.from_residual-in_err-value.ensures.1 in
    let failed : c.value_of_call.result ≡ Err (Value sum) = cc (c.in_err-value.was, is, same, e) in
    one_outside c.args.calls.now c.args.z.now c.loop-call.call-index _ (slice_get-get_or c.args.calls.now c.loop-call.call-index (record { func = CountAll; arg = 0 }) c.loop-call-test.true)
    c.loop-call.values.items sum c.loop-call.invariant (c.value_of_call.ensures.outside sum failed)

pub loop-call-preserved : goal.loop-call-preserved
loop-call-preserved c =
    one_called c.args.calls.now c.args.z.now c.loop-call.call-index _ (slice_get-get_or c.args.calls.now c.loop-call.call-index (record { func = CountAll; arg = 0 }) c.loop-call-test.true)
    c.loop-call.values.items c.push.new.self.items c.in_ok-value.value c.loop-call.invariant c.in_ok-push.ensures.items c.in_ok-value.ensures.ok c.in_ok-value.ensures.in_range
