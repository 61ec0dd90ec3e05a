-- The least and the greatest of some values, NULL of none.
use Rattle.std.specs.Prelude.{if◌then◌else◌, List, [], ◌∷◌, fold}
use Rattle.std.specs.Ordering.{is_lt}
use Rattle.sq_value.specs.declared.value.Value.{Value}
use Rattle.sq_value.specs.declared.value.Value.TheVariants.{Null}
use Rattle.sq_value.specs.Order.{value_cmp}

abbrev pub least_or_null : List Value → Value
least_or_null [] = Null
least_or_null (x ∷ xs) = fold (λ a b. if is_lt (value_cmp b a) then b else a) x xs

abbrev pub greatest_or_null : List Value → Value
greatest_or_null [] = Null
greatest_or_null (x ∷ xs) = fold (λ a b. if is_lt (value_cmp a b) then b else a) x xs
