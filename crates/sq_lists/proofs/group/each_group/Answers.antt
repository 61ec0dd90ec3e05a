use Rattle.std.proofs.Common.{◌++◌, ◌∷◌, [], ap₂, sym, ◌∙◌, refl}
use Rattle.std.proofs.lemmas.Option.{slice_get_read}
use Rattle.std.proofs.lemmas.Result.{err_from_is_err_and}
use Rattle.sq_typed.specs.Blocks.{group_row}
use Rattle.sq_lists.specs.Values.{is_group_outside, rows_at}
use Rattle.sq_lists.proofs.Loops.{any_mapped, mapped_more, none_mapped, same_fault}
use Rattle.sq_lists.specs.declared.stop.Stop.TheVariants.{Range}
use Rattle.sq_lists.proofs.group.each_group.Goals as goal

pub returns-in_err-row-clause-range : goal.returns-in_err-row-clause-range
returns-in_err-row-clause-range c e =
    let p = err_from_is_err_and c.from_residual-in_err-row.result c.from_residual-in_err-row.ensures.1 in
    any_mapped c.args.keys.now c.loop-key.key-index c.key-item.result (slice_get_read c.args.keys.now _ c.loop-key.key-index c.key-item.result refl c.loop-key-test.true c.key-item.is)
    (is_group_outside c.args.calls.now) (λ k. (k, rows_at c.args.columns.now k c.args.rows.now)) (c.in_err-row.ensures.range (same_fault c.from_residual-in_err-row.result p.0 c.in_err-row.field-0.0 Range p.1 p.2 e))

pub loop-key-preserved : goal.loop-key-preserved
loop-key-preserved c =
    let found = slice_get_read c.args.keys.now _ c.loop-key.key-index c.key-item.result refl c.loop-key-test.true c.key-item.is in (
      c.in_ok-push.ensures.items ∙ ap₂ (λ rs r. rs ++ r ∷ []) c.loop-key.invariant.0 c.in_ok-row.ensures.ok
          ∙ sym (mapped_more c.args.keys.now c.loop-key.key-index c.key-item.result found (group_row c.args.calls.now) (λ k. (k, rows_at c.args.columns.now k c.args.rows.now))),
      none_mapped c.args.keys.now c.loop-key.key-index c.key-item.result found (is_group_outside c.args.calls.now) (λ k. (k, rows_at c.args.columns.now k c.args.rows.now)) c.loop-key.invariant.1 c.in_ok-row.ensures.inside,
    )
