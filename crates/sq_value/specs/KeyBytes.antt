-- The key bytes of values and of rows.
use Rattle.std.specs.Prelude.{ℕ, ◌<◌, ◌^◌, List, [], ◌∷◌, ◌++◌, length, FitsSigned}
use Rattle.std.specs.Int.{w64, to_be_bytes, cast_unsigned}
use Rattle.std.specs.List.{flat_map}
use Rattle.sq_value.specs.declared.value.Value.{Value}
use Rattle.sq_value.specs.declared.value.Value.TheVariants.{Null, Int, Text}

-- a mark for the kind; then a number's two's complement in 64 bits, or a text's length and the text itself.
-- The highest byte stands first.
abbrev pub value_key : Value → List ℕ
value_key Null = 0 ∷ []
value_key (Int x) = 1 ∷ to_be_bytes w64 (cast_unsigned w64 x)
value_key (Text t) = 2 ∷ (to_be_bytes w64 (length t) ++ t)

-- those of the values, one after the other
abbrev pub row_key : List Value → List ℕ
row_key row = flat_map value_key row

-- a number has 64 bits, and the length of a text has as many
abbrev pub IsKept : Value → Type 0
IsKept Null = Unit {0}
IsKept (Int x) = FitsSigned w64 x
IsKept (Text t) = length t < 2 ^ 64
