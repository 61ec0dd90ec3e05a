use Rattle.std.proofs.Common.{refl}
use Rattle.std.proofs.lemmas.Option.{slice_get_read}
use Rattle.std.proofs.lemmas.Result.{err_from_is_err_and}
use Rattle.sq_expr.specs.Meaning.{num}
use Rattle.sq_typed.specs.Queries.{is_outside}
use Rattle.sq_lists.proofs.Loops.{any_mapped, same_fault}
use Rattle.sq_lists.specs.declared.stop.Stop.TheVariants.{Range}
use Rattle.sq_lists.proofs.aggregate.values_on.Goals as goal

pub returns-in_err-value-clause-range : goal.returns-in_err-value-clause-range
returns-in_err-value-clause-range c e =
    let p = err_from_is_err_and c.from_residual-in_err-value.result c.from_residual-in_err-value.ensures.1 in
    any_mapped c.args.rows.now c.loop-row.row-index c.row-item.result (slice_get_read c.args.rows.now _ c.loop-row.row-index c.row-item.result refl c.loop-row-test.true c.row-item.is)
    is_outside (num c.args.expr.now) (c.in_err-value.ensures.range (same_fault c.from_residual-in_err-value.result p.0 c.in_err-value.field-0.0 Range p.1 p.2 e))
