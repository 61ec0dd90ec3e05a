-- One turn of the collection of pairs into sums.
use Rattle.std.specs.Prelude.{ℕ, List, [], ◌∷◌, IsTrue, cond, ℤ, pos, unsigned_abs}
use Rattle.std.specs.List.{list_all, sum_by}
use Rattle.std.specs.Ordering.{is_eq, is_le}
use Rattle.sq_value.specs.declared.value.Value.{Value}
use Rattle.sq_value.specs.Order.{row_cmp}
use Rattle.sq_algebra.specs.ZSet.{keys}

-- no row of a list is below this row
abbrev pub IsLowest : List Value → List (List Value × ℤ) → Type 0
IsLowest row es = IsTrue (list_all (λ other. is_le (row_cmp row other)) (keys es))

-- the sum of the absolute weights
abbrev pub mass_of : List (List Value × ℤ) → ℕ
mass_of es = sum_by (λ e. unsigned_abs e.1) es

-- the weight of the first row of a list, if it is this row, and else 0
abbrev pub first_weight : List Value → List (List Value × ℤ) → ℤ
first_weight row [] = pos 0
first_weight row (e ∷ es) = cond (is_eq (row_cmp row e.0)) e.1 (pos 0)

-- a list without its first row, if that is this row
abbrev pub without_first : List Value → List (List Value × ℤ) → List (List Value × ℤ)
without_first row [] = []
without_first row (e ∷ es) = cond (is_eq (row_cmp row e.0)) es (e ∷ es)
