-- Which values a column may hold.
use Rattle.std.specs.Prelude.{List, [], ◌∷◌, FitsSigned, ⊤}
use Rattle.std.specs.Int.{w32, w64}
use Rattle.sq_value.specs.declared.value.Value.{Value}
use Rattle.sq_value.specs.declared.value.Value.TheVariants as value
use Rattle.sq_expr.specs.declared.expr.Kind.{Kind}
use Rattle.sq_expr.specs.declared.expr.Kind.TheVariants.{Integer, Bigint, Text}

-- NULL is of every kind; a number is of the kinds in whose range it is, 32 or 64 bits with a sign; a text is a Text
abbrev pub IsOfKind : Value → Kind → Type 0
IsOfKind value.Null kind = ⊤
IsOfKind (value.Int x) Integer = FitsSigned w32 x
IsOfKind (value.Int x) Bigint = FitsSigned w64 x
IsOfKind (value.Int x) Text = ⊥
IsOfKind (value.Text t) Integer = ⊥
IsOfKind (value.Text t) Bigint = ⊥
IsOfKind (value.Text t) Text = ⊤

-- a row has as many values as there are kinds, each of its kind
abbrev pub AreOfKinds : List Value → List Kind → Type 0
AreOfKinds [] [] = ⊤
AreOfKinds [] (kind ∷ kinds) = ⊥
AreOfKinds (x ∷ row) [] = ⊥
AreOfKinds (x ∷ row) (kind ∷ kinds) = IsOfKind x kind × AreOfKinds row kinds
