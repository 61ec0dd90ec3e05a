-- What an expression and a condition are on a row. Numbers have no bound.
use Rattle.std.specs.Prelude.{ℕ, ℤ, pos, ◌+ℤ◌, ◌*ℤ◌, neg_ℤ, Bool, true, false, not, if◌then◌else◌, List, fold, map, slice_get, unwrap_or}
use Rattle.std.specs.Ordering.{is_eq, is_lt, is_le, is_gt, is_ge}
use Rattle.std.specs.declared.cmp.Ordering.{Ordering}
use Rattle.sq_value.specs.declared.tri.Tri.{Tri}
use Rattle.sq_value.specs.declared.tri.Tri.TheVariants as tri
use Rattle.sq_value.specs.declared.value.Value.{Value}
use Rattle.sq_value.specs.declared.value.Value.TheVariants.{Null, Int, Text}
use Rattle.sq_value.specs.Order.{value_cmp}
use Rattle.sq_value.specs.Truth.{least, greatest, opposite}
use Rattle.sq_expr.specs.declared.cond.Cmp.{Cmp}
use Rattle.sq_expr.specs.declared.cond.Cmp.TheVariants.{Eq, Ne, Lt, Le, Gt, Ge}
use Rattle.sq_expr.specs.declared.cond.Cond.{Cond}
use Rattle.sq_expr.specs.declared.cond.Cond.TheFolds.{fold-Cond}
use Rattle.sq_expr.specs.declared.cond.Cond.TheOpen.{Cond-F}
use Rattle.sq_expr.specs.declared.expr.Expr.{Expr}
use Rattle.sq_expr.specs.declared.expr.Expr.TheFolds.{fold-Expr, fold-Term}
use Rattle.sq_expr.specs.declared.expr.Expr.TheOpen.{Expr-F, Term-F}
use Rattle.sq_expr.specs.declared.number.Num.{Num}
use Rattle.sq_expr.specs.declared.number.Num.TheVariants as result
use Rattle.sq_expr.specs.declared.expr.Term.{Term}

-- ---- expressions

-- the value in a column; a column that is not there reads as NULL
abbrev pub column_of : List Value → ℕ → Value
column_of row n = unwrap_or (slice_get row n) Null

-- the values in these columns
abbrev pub columns_of : List ℕ → List Value → List Value
columns_of columns row = map (column_of row) columns

-- the number with its sign turned; NULL where there is no number
abbrev pub negative : Value → Value
negative Null = Null
negative (Int x) = Int (neg_ℤ x)
negative (Text t) = Null

-- a term of a sum, which may be subtracted
abbrev pub signed : Bool → Value → Value
signed minus x = if minus then negative x else x

-- what f makes of two numbers; NULL where one of them is no number
abbrev pub of_both : (ℤ → ℤ → ℤ) → Value → Value → Value
of_both f (Int x) (Int y) = Int (f x y)
of_both f (Int x) Null = Null
of_both f (Int x) (Text t) = Null
of_both f Null y = Null
of_both f (Text t) y = Null

-- the sum of some values, and their product
abbrev pub sum_of : List Value → Value
sum_of = fold (of_both ◌+ℤ◌) (Int (pos 0))

abbrev pub product_of : List Value → Value
product_of = fold (of_both ◌*ℤ◌) (Int (pos 1))

-- one level of an expression, with the value of each part in its place
abbrev pub num_step : List Value → Expr-F Value Value → Value
num_step row (Expr-F.Column n) = column_of row n
num_step row (Expr-F.Number n) = Int (pos n)
num_step row (Expr-F.Text t) = Text t
num_step row (Expr-F.Neg x) = negative x
num_step row (Expr-F.Sum xs) = sum_of xs
num_step row (Expr-F.Product xs) = product_of xs

abbrev pub term_step : Term-F Value Value → Value
term_step t = signed t.minus t.expr

-- the value of an expression on a row
unfoldable pub num : Expr → List Value → Value
num e row = fold-Expr Value Value (num_step row) term_step e

-- the value of a term of a sum, with its sign
unfoldable pub term_num : Term → List Value → Value
term_num t row = fold-Term Value Value (num_step row) term_step t

-- the value that the code's result stands for
abbrev pub value_of : Num → Value
value_of result.Null = Null
value_of (result.Whole x) = Int x
value_of (result.Text t) = Text t.now

-- ---- conditions

-- whether two things in this order compare so
abbrev pub compares : Cmp → Ordering → Bool
compares Eq o = is_eq o
compares Ne o = not (is_eq o)
compares Lt o = is_lt o
compares Le o = is_le o
compares Gt o = is_gt o
compares Ge o = is_ge o

-- True or False
abbrev pub tri_of : Bool → Tri
tri_of holds = if holds then tri.True else tri.False

-- numbers by size and texts by bytes; Unknown with a NULL
abbrev pub comparison : Cmp → Value → Value → Tri
comparison cmp Null y = tri.Unknown
comparison cmp (Int x) Null = tri.Unknown
comparison cmp (Int x) (Int y) = tri_of (compares cmp (value_cmp (Int x) (Int y)))
comparison cmp (Int x) (Text t) = tri_of (compares cmp (value_cmp (Int x) (Text t)))
comparison cmp (Text s) Null = tri.Unknown
comparison cmp (Text s) (Int y) = tri_of (compares cmp (value_cmp (Text s) (Int y)))
comparison cmp (Text s) (Text t) = tri_of (compares cmp (value_cmp (Text s) (Text t)))

abbrev pub is_null : Value → Bool
is_null Null = true
is_null (Int x) = false
is_null (Text t) = false

-- one level of a condition, with the truth of each part in its place
abbrev pub truth_step : List Value → Cond-F Tri → Tri
truth_step row (Cond-F.Compare cmp left right) = comparison cmp (num left row) (num right row)
truth_step row (Cond-F.Null e negated) = tri_of (if negated then not (is_null (num e row)) else is_null (num e row))
truth_step row (Cond-F.Not a) = opposite a
truth_step row (Cond-F.All ts) = fold least tri.True ts
truth_step row (Cond-F.Any ts) = fold greatest tri.False ts

-- the truth of a condition on a row
unfoldable pub truth : Cond → List Value → Tri
truth c row = fold-Cond Tri (truth_step row) c
