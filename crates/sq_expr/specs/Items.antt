-- When an expression gives a value that a row can hold.
use Rattle.std.specs.Prelude.{◌≡◌, FitsSigned, ⊤}
use Rattle.std.specs.Int.{w64}
use Rattle.sq_value.specs.declared.value.Value.{Value}
use Rattle.sq_value.specs.declared.value.Value.TheVariants.{Null, Int, Text}
use Rattle.sq_expr.specs.declared.value.ItemFault.{ItemFault}
use Rattle.sq_expr.specs.declared.value.ItemFault.TheVariants as fault

-- a number is in the range of BIGINT
abbrev pub IsStorable : Value → Type 0
IsStorable Null = ⊤
IsStorable (Int x) = FitsSigned w64 x
IsStorable (Text t) = ⊤

abbrev pub IsText : Value → Type 0
IsText Null = ⊥
IsText (Int x) = ⊥
IsText (Text t) = ⊤

-- why this value is refused: it is that number, outside the range of BIGINT; or it is a text, and memory ran out
abbrev pub HasCause : ItemFault → Value → Type 0
HasCause (fault.Value n) x = (x ≡ Int n) × ¬ FitsSigned w64 n
HasCause fault.Memory x = IsText x
