-- Rows, and what the linear operators make of a row.
--     kept c row, items_of es row, padded n row      the images under Keep, and the one image under Project and under Pad
--     numbers_of es row      the numbers among the items.      holds c row      whether a condition is True
use Rattle.std.specs.Prelude.{ℕ, ℤ, Bool, if◌then◌else◌, List, [], ◌∷◌, ◌++◌, map, replicate}
use Rattle.std.specs.List.{flat_map}
use Rattle.sq_value.specs.Truth.{is_true}
use Rattle.sq_value.specs.declared.value.Value.{Value}
use Rattle.sq_value.specs.declared.value.Value.TheVariants.{Null, Int, Text}
use Rattle.sq_expr.specs.declared.cond.Cond.{Cond}
use Rattle.sq_expr.specs.declared.expr.Expr.{Expr}
use Rattle.sq_expr.specs.Meaning.{num, truth}

-- the values of a row, from left to right
abbrev pub Row : Type 0
Row = List Value

-- whether a condition is True on a row
abbrev pub holds : Cond → List Value → Bool
holds c row = is_true (truth c row)

-- the row itself where the condition is True, and else nothing
abbrev pub kept : Cond → List Value → List (List Value)
kept c row = if holds c row then row ∷ [] else []

-- the values of the items on a row
abbrev pub items_of : List Expr → List Value → List Value
items_of es row = map (λ e. num e row) es

-- the number that a value is, if it is one
abbrev pub number_in : Value → List ℤ
number_in Null = []
number_in (Int n) = n ∷ []
number_in (Text t) = []

-- the numbers among the items
abbrev pub numbers_of : List Expr → List Value → List ℤ
numbers_of es row = flat_map number_in (items_of es row)

-- the row with n NULLs behind it
abbrev pub padded : ℕ → List Value → List Value
padded n row = row ++ replicate n Null
