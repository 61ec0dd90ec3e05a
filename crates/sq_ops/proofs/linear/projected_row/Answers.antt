use Rattle.std.proofs.Common.{◌≡◌, refl}
use Rattle.std.proofs.lemmas.Option.{slice_get_read}
use Rattle.std.proofs.lemmas.Result.{err_from_is_err_and}
use Rattle.sq_expr.specs.Meaning.{num}
use Rattle.sq_ops.specs.Faults.{fault_of}
use Rattle.sq_ops.specs.declared.fault.OpFault.TheVariants.{Value}
use Rattle.sq_ops.proofs.Computing.{one_computed, one_outside, refused_for}
use Rattle.sq_ops.proofs.linear.projected_row.Goals as goal

pub returns-in_err-value-clause-outside : goal.returns-in_err-value-clause-outside
returns-in_err-value-clause-outside c value e =
    let (fault, is, same) = err_from_is_err_and c.from_residual-in_err-value.result c.from_residual-in_err-value.ensures.1 in
    let named : fault_of c.in_err-value.field-0.0 ≡ Value value = cc (is, same, e) in
    let cause = refused_for c.in_err-value.field-0.0 (num c.expr-item.result c.args.row.now) value named c.in_err-value.ensures in
    one_outside c.args.items.now c.args.row.now c.loop-expr.expr-index c.expr-item.result (slice_get_read c.args.items.now _ c.loop-expr.expr-index c.expr-item.result refl c.loop-expr-test.true c.expr-item.is)
    c.loop-expr.values.items value c.loop-expr.invariant cause.0 cause.1

pub loop-expr-preserved : goal.loop-expr-preserved
loop-expr-preserved c =
    one_computed c.args.items.now c.args.row.now c.loop-expr.expr-index c.expr-item.result (slice_get_read c.args.items.now _ c.loop-expr.expr-index c.expr-item.result refl c.loop-expr-test.true c.expr-item.is)
    c.loop-expr.values.items c.push.new.self.items c.in_ok-value.value c.loop-expr.invariant c.in_ok-push.ensures.items c.in_ok-value.ensures.0 c.in_ok-value.ensures.1
