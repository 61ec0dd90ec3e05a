-- Z-sets of rows that are a part of another.
--     IsOfWidth w z         each row of the Z-set z has w columns
--     IsNoMoreThan x y      x has no weight below 0, and at most the total of y
use Rattle.std.specs.Prelude.{◌≡◌, ◌≤ℤ◌, ℕ, length}
use Rattle.std.specs.List.{All}
use Rattle.sq_algebra.specs.Operators.{IsNonNegative}
use Rattle.sq_algebra.specs.ZSet.{entries, total}
use Rattle.sq_bridge.specs.Rows.{Rows}

abbrev pub IsOfWidth : ℕ → Rows → Type 0
IsOfWidth w z = All (λ e. length e.0 ≡ w) (entries z)

abbrev pub IsNoMoreThan : Rows → Rows → Type 0
IsNoMoreThan x y = IsNonNegative x × (total x ≤ℤ total y)
