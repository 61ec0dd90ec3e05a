-- The numbers beside the rows of a change.
use Rattle.std.specs.Prelude.{◌-ℤ◌}
use Rattle.std.proofs.Common.{◌≡◌, List, sym, ap, ap₂, ◌∙◌}
use Rattle.sq_value.specs.Order.{row_cmp}
use Rattle.sq_value.specs.OrderLaws.{row_cmp-total, row_cmp-antisymmetric}
use Rattle.sq_algebra.specs.ZSet.{of_list, minus, weight_in}
use Rattle.sq_algebra.proofs.Changes.{entries_change}
use Rattle.sq_algebra.proofs.Weights.{weight-entries, weight-of_list, weight-minus}
use Rattle.sq_typed.specs.From.{Row}
use Rattle.sq_ticks.specs.Texts.{rise, changes}

-- the number beside a row among the changes is the rise of its count
pub told_rise : (row : Row) (before now : List Row) → weight_in row_cmp row (changes before now) ≡ rise before now row
told_rise row before now =
    ap (weight_in row_cmp row) (sym (entries_change row_cmp row_cmp-total row_cmp-antisymmetric before now))
    ∙ sym (weight-entries row_cmp row (minus (of_list row_cmp now) (of_list row_cmp before)))
    ∙ weight-minus row_cmp row_cmp-total row (of_list row_cmp now) (of_list row_cmp before)
    ∙ ap₂ ◌-ℤ◌ (weight-of_list row_cmp row_cmp-total row now) (weight-of_list row_cmp row_cmp-total row before)
