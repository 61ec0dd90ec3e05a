-- The arguments of MIN and MAX that are kept of the rows of a group, each with its weight.
--     arguments column z      the values in the column other than NULL, as rows of one value; the weights of equal ones add up
--     argument_weight column z x      the weight of a value there
--     IsLeast w x, IsGreatest w x     x has a weight above 0, and no value below it, or above it, has one
--     IsKeptNowhere w         no value has a weight above 0
use Rattle.std.specs.Prelude.{◌≡◌, ℕ, ℤ, pos, ◌≤ℤ◌, false, if◌then◌else◌, List, [], ◌∷◌}
use Rattle.std.specs.Ordering.{is_lt}
use Rattle.sq_value.specs.declared.value.Value.{Value}
use Rattle.sq_value.specs.Order.{row_cmp, value_cmp}
use Rattle.sq_algebra.specs.Operators.{image}
use Rattle.sq_algebra.specs.ZSet.{ZSet, weight}
use Rattle.sq_expr.specs.Meaning.{column_of}
use Rattle.sq_ops.specs.Aggregates.{has_value, rows_of_group}
use Rattle.sq_ops.specs.declared.aggregate.AggSpec.{AggSpec}

-- the argument of a row, unless it is NULL
abbrev pub argument_of : ℕ → List Value → List (List Value)
argument_of column row = if has_value column row then (column_of row column ∷ []) ∷ [] else []

abbrev pub arguments : ℕ → ZSet (List Value) row_cmp → ZSet (List Value) row_cmp
arguments column z = image row_cmp (argument_of column) z

abbrev pub argument_weight : ℕ → ZSet (List Value) row_cmp → Value → ℤ
argument_weight column z x = weight (x ∷ []) (arguments column z)

-- those of the group with the key c
abbrev pub arguments_of_group : AggSpec → ℕ → List Value → ZSet (List Value) row_cmp → ZSet (List Value) row_cmp
arguments_of_group spec column c z = arguments column (rows_of_group spec z c)

pub record IsLeast (w : Value → ℤ) (x : Value) : Type 0 where
  pub there : pos 1 ≤ℤ w x
  pub none_below : (y : Value) → pos 1 ≤ℤ w y → is_lt (value_cmp y x) ≡ false

pub record IsGreatest (w : Value → ℤ) (x : Value) : Type 0 where
  pub there : pos 1 ≤ℤ w x
  pub none_above : (y : Value) → pos 1 ≤ℤ w y → is_lt (value_cmp x y) ≡ false

abbrev pub IsKeptNowhere : (Value → ℤ) → Type 0
IsKeptNowhere w = (x : Value) → pos 1 ≤ℤ w x → ⊥
