-- Running sums, and the least and the greatest of some values: words of private contracts.
use Rattle.std.specs.Prelude.{ℕ, ℤ, pos, length, map, filter, ◌*◌, ◌^◌, ◌≤◌, unsigned_abs, Bool, if◌then◌else◌, ◌||◌, ◌&&◌, List, [], ◌∷◌, fold, Option, Some, None, ⊤}
use Rattle.std.specs.List.{list_any}
use Rattle.std.specs.Ordering.{is_eq, is_lt}
use Rattle.sq_expr.specs.declared.expr.Expr.{Expr}
use Rattle.sq_expr.specs.declared.expr.Func.{Func}
use Rattle.sq_expr.specs.declared.expr.Func.TheVariants.{CountAll, Count, Sum, Min, Max}
use Rattle.sq_expr.specs.Fits.{Fits}
use Rattle.sq_value.specs.declared.value.Value.{Value}
use Rattle.sq_value.specs.declared.value.Value.TheVariants.{Null, Int}
use Rattle.sq_value.specs.Order.{row_cmp, value_cmp}
use Rattle.sq_typed.specs.declared.query.BlockCall.{BlockCall}
use Rattle.sq_typed.specs.Blocks.{arguments, call_value, is_sum, present, sum_or_null}
use Rattle.sq_expr.specs.Meaning.{columns_of}
use Rattle.sq_expr.specs.Extremes.{greatest_or_null, least_or_null}
use Rattle.sq_typed.specs.From.{Row}
use Rattle.sq_typed.specs.Queries.{is_outside}

-- a sum as a value: NULL if a text was added
abbrev pub sum_value : Option ℤ → Value
sum_value None = Null
sum_value (Some x) = Int x

-- the sum of at most so many 64-bit numbers
abbrev pub IsSumOf : ℕ → Option ℤ → Type 0
IsSumOf n None = ⊤
IsSumOf n (Some x) = unsigned_abs x ≤ n * 2 ^ 63

-- whether a value takes the place of the one chosen so far
abbrev pub is_better : Bool → Value → Value → Bool
is_better greatest chosen x = if greatest then is_lt (value_cmp chosen x) else is_lt (value_cmp x chosen)

abbrev pub better : Bool → Value → Value → Value
better greatest chosen x = if is_better greatest chosen x then x else chosen

-- the least or the greatest of some values, if there is any
abbrev pub extreme : Bool → List Value → Option Value
extreme greatest [] = None
extreme greatest (x ∷ xs) = Some (fold (better greatest) x xs)

-- the value of a call from the number of rows and the arguments on them
abbrev pub of_arguments : Func → ℕ → List Value → Value
of_arguments CountAll n xs = Int (pos n)
of_arguments Count n xs = Int (pos (length (present xs)))
of_arguments Sum n xs = sum_or_null (present xs)
of_arguments Min n xs = least_or_null (present xs)
of_arguments Max n xs = greatest_or_null (present xs)

-- a row is of kinds that the argument of a call suits, if it has one
abbrev pub ArgumentFits : Option Expr → Row → Type 0
ArgumentFits None row = ⊤
ArgumentFits (Some e) row = Fits e row

-- whether a call over the rows of a group has a number outside BIGINT: as an argument, or as a sum
abbrev pub is_call_outside : List Row → BlockCall → Bool
is_call_outside rows c = list_any is_outside (arguments c.arg rows) || (is_sum c.func && is_outside (call_value c.func c.arg rows))

-- the rows with this key
abbrev pub rows_at : List ℕ → Row → List Row → List Row
rows_at columns key rows = filter (λ row. is_eq (row_cmp key (columns_of columns row))) rows

-- the groups with these keys
abbrev pub groups_at : List ℕ → List Row → List Row → List (Row × List Row)
groups_at columns keys rows = map (λ k. (k, rows_at columns k rows)) keys

-- whether a call over some group has a number outside BIGINT
abbrev pub is_group_outside : List BlockCall → Row × List Row → Bool
is_group_outside calls group = list_any (is_call_outside group.1) calls

-- whether a call has an argument outside BIGINT
abbrev pub is_argument_outside : List Row → BlockCall → Bool
is_argument_outside rows c = list_any is_outside (arguments c.arg rows)
