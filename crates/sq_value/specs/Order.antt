-- The orders of texts, of values and of rows.
use Rattle.std.specs.Prelude.{ℕ, List}
use Rattle.std.specs.declared.cmp.Ordering.{Ordering}
use Rattle.std.specs.declared.cmp.Ordering.TheVariants.{Less, Equal, Greater}
use Rattle.std.specs.Ordering.{nat_cmp, int_cmp}
use Rattle.std.specs.Cmp.Lexicographic.{slice_cmp}
use Rattle.sq_value.specs.declared.value.Value.{Value}
use Rattle.sq_value.specs.declared.value.Value.TheVariants.{Null, Int, Text}

-- texts by their bytes, a proper prefix first
abbrev pub text_cmp : List ℕ → List ℕ → Ordering
text_cmp = slice_cmp nat_cmp

-- NULL, then numbers by size, then texts
abbrev pub value_cmp : Value → Value → Ordering
value_cmp Null Null = Equal
value_cmp Null (Int y) = Less
value_cmp Null (Text t) = Less
value_cmp (Int x) Null = Greater
value_cmp (Int x) (Int y) = int_cmp x y
value_cmp (Int x) (Text t) = Less
value_cmp (Text s) Null = Greater
value_cmp (Text s) (Int y) = Greater
value_cmp (Text s) (Text t) = text_cmp s t

-- column by column, a proper prefix first
abbrev pub row_cmp : List Value → List Value → Ordering
row_cmp = slice_cmp value_cmp
