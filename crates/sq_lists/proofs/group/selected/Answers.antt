use Rattle.std.proofs.Common.{◌++◌, ◌∷◌, [], ap₂, sym, ◌∙◌, refl, map}
use Rattle.std.proofs.lemmas.Option.{slice_get_read}
use Rattle.std.proofs.lemmas.Result.{err_from_is_err_and}
use Rattle.sq_expr.specs.Meaning.{num}
use Rattle.sq_typed.specs.Queries.{is_outside}
use Rattle.sq_lists.proofs.Loops.{any_flat, map_more, none_flat, same_fault}
use Rattle.sq_lists.specs.declared.stop.Stop.TheVariants.{Range}
use Rattle.sq_lists.proofs.group.selected.Goals as goal

pub returns-in_err-row-clause-range : goal.returns-in_err-row-clause-range
returns-in_err-row-clause-range c e =
    let p = err_from_is_err_and c.from_residual-in_err-row.result c.from_residual-in_err-row.ensures.1 in
    any_flat c.args.rows.now c.loop-row.row-index c.row-item.result (slice_get_read c.args.rows.now _ c.loop-row.row-index c.row-item.result refl c.loop-row-test.true c.row-item.is)
    is_outside (λ row. map (λ e. num e row) c.args.items.now) (c.in_err-row.ensures.range (same_fault c.from_residual-in_err-row.result p.0 c.in_err-row.field-0.0 Range p.1 p.2 e))

pub loop-row-preserved : goal.loop-row-preserved
loop-row-preserved c =
    let found = slice_get_read c.args.rows.now _ c.loop-row.row-index c.row-item.result refl c.loop-row-test.true c.row-item.is in (
      c.in_ok-push.ensures.items ∙ ap₂ (λ rs r. rs ++ r ∷ []) c.loop-row.invariant.0 c.in_ok-row.ensures.ok ∙ sym (map_more c.args.rows.now c.loop-row.row-index c.row-item.result found (λ row. map (λ e. num e row) c.args.items.now)),
      none_flat c.args.rows.now c.loop-row.row-index c.row-item.result found is_outside (λ row. map (λ e. num e row) c.args.items.now) c.loop-row.invariant.1 c.in_ok-row.ensures.inside,
    )
