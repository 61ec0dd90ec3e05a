-- How often a list of rows holds a row.
use Rattle.std.specs.Prelude.{ℕ, List, count_by}
use Rattle.std.specs.Ordering.{is_eq}
use Rattle.sq_value.specs.declared.value.Value.{Value}
use Rattle.sq_value.specs.Order.{row_cmp}

-- the number of places of `rows` that hold a row the same as `r`
abbrev pub count : List Value → List (List Value) → ℕ
count r rows = count_by (λ s. is_eq (row_cmp r s)) rows
