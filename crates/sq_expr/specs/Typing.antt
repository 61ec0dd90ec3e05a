-- Which expressions and conditions have a type for columns of these kinds.
use Rattle.std.specs.Prelude.{Bool, true, false, if◌then◌else◌, List, Option, Some, None, IsSome, IsTrue, is_some, slice_get, ⊤}
use Rattle.std.specs.List.{list_all}
use Rattle.std.specs.Option.{option_map}
use Rattle.sq_value.specs.declared.value.Value.{Value}
use Rattle.sq_value.specs.declared.value.Value.TheVariants as value
use Rattle.sq_expr.specs.declared.cond.Cond.{Cond}
use Rattle.sq_expr.specs.declared.cond.Cond.TheFolds.{fold-Cond}
use Rattle.sq_expr.specs.declared.cond.Cond.TheOpen.{Cond-F}
use Rattle.sq_expr.specs.declared.expr.Expr.{Expr}
use Rattle.sq_expr.specs.declared.expr.Expr.TheFolds.{fold-Expr}
use Rattle.sq_expr.specs.declared.expr.Expr.TheOpen.{Expr-F}
use Rattle.sq_expr.specs.declared.expr.Kind.{Kind}
use Rattle.sq_expr.specs.declared.expr.Kind.TheVariants.{Integer, Bigint, Text}
pub use Rattle.sq_expr.specs.declared.typing.Sort.{Sort}
pub use Rattle.sq_expr.specs.declared.typing.Sort.TheVariants.{Numeric, Textual}

-- NULL is of both sorts
abbrev pub IsOfSort : Sort → Value → Type 0
IsOfSort s value.Null = ⊤
IsOfSort Numeric (value.Int x) = ⊤
IsOfSort Numeric (value.Text t) = ⊥
IsOfSort Textual (value.Int x) = ⊥
IsOfSort Textual (value.Text t) = ⊤

abbrev pub sort_of_kind : Kind → Sort
sort_of_kind Integer = Numeric
sort_of_kind Bigint = Numeric
sort_of_kind Text = Textual

abbrev pub is_numeric : Option Sort → Bool
is_numeric None = false
is_numeric (Some Numeric) = true
is_numeric (Some Textual) = false

-- both have a sort, and it is the same
abbrev pub are_alike : Option Sort → Option Sort → Bool
are_alike None s = false
are_alike (Some r) None = false
are_alike (Some Numeric) (Some Numeric) = true
are_alike (Some Numeric) (Some Textual) = false
are_alike (Some Textual) (Some Numeric) = false
are_alike (Some Textual) (Some Textual) = true

-- arithmetic is a number, where each operand is one
abbrev pub arithmetic : Bool → Option Sort
arithmetic over_numbers = if over_numbers then Some Numeric else None

-- one level of an expression, with the sort of each part in its place
abbrev pub sort_step : List Kind → Expr-F (Option Sort) (Option Sort) → Option Sort
sort_step kinds (Expr-F.Column n) = option_map sort_of_kind (slice_get kinds n)
sort_step kinds (Expr-F.Number n) = Some Numeric
sort_step kinds (Expr-F.Text t) = Some Textual
sort_step kinds (Expr-F.Neg s) = arithmetic (is_numeric s)
sort_step kinds (Expr-F.Sum ss) = arithmetic (list_all is_numeric ss)
sort_step kinds (Expr-F.Product ss) = arithmetic (list_all is_numeric ss)

-- whether the expression is a number or a text; None where it is neither
unfoldable pub sort_of : List Kind → Expr → Option Sort
sort_of kinds e = fold-Expr (Option Sort) (Option Sort) (sort_step kinds) (λ t. t.expr) e

-- one level of a condition
abbrev pub typed_step : List Kind → Cond-F Bool → Bool
typed_step kinds (Cond-F.Compare cmp left right) = are_alike (sort_of kinds left) (sort_of kinds right)
typed_step kinds (Cond-F.Null e negated) = is_some (sort_of kinds e)
typed_step kinds (Cond-F.Not b) = b
typed_step kinds (Cond-F.All bs) = list_all (λ b. b) bs
typed_step kinds (Cond-F.Any bs) = list_all (λ b. b) bs

unfoldable pub is_typed_cond : List Kind → Cond → Bool
is_typed_cond kinds c = fold-Cond Bool (typed_step kinds) c

-- the columns are there, and arithmetic is over numbers
abbrev pub IsTyped : List Kind → Expr → Type 0
IsTyped kinds e = IsSome (sort_of kinds e)

-- each expression is typed, and a comparison has two numbers or two texts
abbrev pub IsTypedCond : List Kind → Cond → Type 0
IsTypedCond kinds c = IsTrue (is_typed_cond kinds c)
