use Rattle.std.proofs.Common.{◌++◌, ap, sym, ◌∙◌, take, refl}
use Rattle.std.proofs.lemmas.Option.{slice_get_read}
use Rattle.sq_value.specs.Order.{row_cmp}
use Rattle.sq_value.specs.OrderLaws.{row_cmp-total}
use Rattle.sq_algebra.specs.Listed.{count, first_of_each}
use Rattle.sq_expr.proofs.Lists.{take_more}
use Rattle.sq_lists.proofs.Repeats.{first_grown, one_of_none}
use Rattle.sq_lists.proofs.sets.first_of_each.Goals as goal

pub loop-row-preserved : goal.loop-row-preserved
loop-row-preserved c =
    c.in_ok-push_new.ensures
    ∙ ap (λ firsts. firsts ++ one_of_none (count row_cmp c.row-item.result firsts) c.row-item.result) c.loop-row.invariant
    ∙ sym (first_grown row_cmp row_cmp-total c.row-item.result (take c.loop-row.row-index c.args.rows.now))
    ∙ ap (first_of_each row_cmp) (sym (take_more c.args.rows.now c.loop-row.row-index c.row-item.result (slice_get_read c.args.rows.now _ c.loop-row.row-index c.row-item.result refl c.loop-row-test.true c.row-item.is)))
