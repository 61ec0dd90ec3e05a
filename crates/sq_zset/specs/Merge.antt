-- One turn of the merge that adds a Z-set to another, or takes it away.
use Rattle.std.specs.Prelude.{◌≡◌, ℕ, ◌+◌, ◌<◌, ◌≤◌, List, [], ◌∷◌, ◌++◌, map, length, drop, ℤ, neg_ℤ, Option, Some, None}
use Rattle.std.specs.declared.cmp.Ordering.{Ordering}
use Rattle.std.specs.declared.cmp.Ordering.TheVariants.{Less, Greater}
use Rattle.sq_value.specs.declared.value.Value.{Value}
use Rattle.sq_value.specs.Order.{row_cmp}
use Rattle.sq_algebra.specs.ZSet.{in_front, collect}
use Rattle.sq_zset.specs.declared.merge.Sign.{Sign}
use Rattle.sq_zset.specs.declared.merge.Sign.TheVariants.{Plus, Minus}
use Rattle.sq_zset.specs.Inside.{IsSound}

-- a whole number with a sign in front
abbrev pub signed : Sign → ℤ → ℤ
signed Plus n = n
signed Minus n = neg_ℤ n

-- the entries with a sign in front of each weight
abbrev pub signed_entries : Sign → List (List Value × ℤ) → List (List Value × ℤ)
signed_entries sign es = map (λ e. (e.0, signed sign e.1)) es

-- the canonical list in which each row has its weight in the left list and, with the sign in front, that in the right one
abbrev pub merged : Sign → List (List Value × ℤ) → List (List Value × ℤ) → List (List Value × ℤ)
merged sign left right = collect row_cmp (left ++ signed_entries sign right)

-- how the first rows of two lists compare, where there are any: a list with no more rows comes last
abbrev pub first_rows_cmp : List (List Value × ℤ) → List (List Value × ℤ) → Option Ordering
first_rows_cmp [] [] = None
first_rows_cmp [] (q ∷ qs) = Some Greater
first_rows_cmp (p ∷ ps) [] = Some Less
first_rows_cmp (p ∷ ps) (q ∷ qs) = Some (row_cmp p.0 q.0)

-- two merged lists begin with `row` and its weight, if that is not 0, and go on with what is left of them, merged
pub record BeginsWith (sign : Sign) (left right : List (List Value × ℤ)) (row : List Value) (weight : ℤ) (from_left from_right : ℕ) : Type 0 where
  pub begins : merged sign left right ≡ in_front row weight (merged sign (drop from_left left) (drop from_right right))
  pub left_sound : IsSound (drop from_left left)
  pub right_sound : IsSound (drop from_right right)
  pub left_bound : from_left ≤ length left
  pub right_bound : from_right ≤ length right
  pub one_left : from_left ≤ 1
  pub one_right : from_right ≤ 1
  pub takes_some : 0 < from_left + from_right
