-- Operators that work key by key: the rows with one key give a part of the answer, and the parts add up.
--     beyond_none part c z      the part of the key c, less what it is for no rows
--     standing_rows stands part     what is there for no rows: the part of the key without values, where it stands
--     sum_of_parts stands key part z      the standing rows, and what the parts of the keys that z has add to them
--     rise_of_parts part key cs y z     what the parts of the keys cs give over z less what they give over y, added up
--     with_shards standing answers S share z     the standing rows, and what the rows of each shard add to them
--     IsNothingForNone stands part        a part over no rows is empty, but for the key without values where that stands
use Rattle.std.specs.Prelude.{◌≡◌, Bool, true, false, ◌&&◌, if◌then◌else◌, List, [], ◌∷◌}
use Rattle.sq_value.specs.declared.value.Value.{Value}
use Rattle.sq_value.specs.Order.{row_cmp}
use Rattle.sq_algebra.specs.Groups.{sum_over, z_sets}
use Rattle.sq_algebra.specs.Keyed.{Shards, at_key, by_key, cut, over_shards}
use Rattle.sq_algebra.specs.ZSet.{ZSet, zero, plus, minus}

abbrev pub has_no_values : {X : Type 0} → List X → Bool
has_no_values [] = true
has_no_values (x ∷ xs) = false

module _ (part : List Value → ZSet (List Value) row_cmp → ZSet (List Value) row_cmp) where
  abbrev pub beyond_none : List Value → ZSet (List Value) row_cmp → ZSet (List Value) row_cmp
  beyond_none c z = minus (part c z) (part c (zero row_cmp))

  abbrev pub standing_rows : Bool → ZSet (List Value) row_cmp
  standing_rows stands = if stands then part [] (zero row_cmp) else zero row_cmp

  abbrev pub sum_of_parts : Bool → (List Value → List Value) → ZSet (List Value) row_cmp → ZSet (List Value) row_cmp
  sum_of_parts stands key z = plus (standing_rows stands) (by_key row_cmp key (z_sets row_cmp) beyond_none z)

  abbrev pub rise_of_parts : (List Value → List Value) → List (List Value) → ZSet (List Value) row_cmp → ZSet (List Value) row_cmp → ZSet (List Value) row_cmp
  rise_of_parts key cs y z = sum_over (z_sets row_cmp) (λ c. minus (part c (at_key row_cmp key c z)) (part c (at_key row_cmp key c y))) cs

  abbrev pub IsNothingForNone : Bool → Type 0
  IsNothingForNone stands = (c : List Value) → stands && has_no_values c ≡ false → part c (zero row_cmp) ≡ zero row_cmp

module _ (standing : ZSet (List Value) row_cmp) (answers : ZSet (List Value) row_cmp → ZSet (List Value) row_cmp) where
  abbrev pub with_shards : Shards (List Value) → (List Value → List Value) → ZSet (List Value) row_cmp → ZSet (List Value) row_cmp
  with_shards S share z = plus standing (over_shards (z_sets row_cmp) S (λ s. minus (answers (cut S share s z)) standing))
