-- GROUP BY and aggregates over a Z-set, in which each row counts as often as its weight says.
--     call_value f column z       the value of a call on a column over the rows of a group
--     group_row calls c z         the row of the group with the key c: the key, and then the values of the calls
--     part_of stands calls c z    that row as a Z-set; nothing for no rows, but for the key without values where that stands
--     aggregated spec z           the rows of all groups
--     sums_of calls z             each SUM over a group.    first_sum_outside spec z      the first that is no BIGINT, with the key of its group
use Rattle.std.specs.Prelude.{ℕ, nat_lt, Bool, IsTrue, true, false, not, ◌&&◌, ◌||◌, if◌then◌else◌, List, [], ◌∷◌, ◌++◌, map, fold, length, slice_get, ℤ, pos, Option, Some, None}
use Rattle.std.specs.List.{find, flat_map, list_all}
use Rattle.std.specs.Ordering.{int_eq, is_lt}
use Rattle.sq_value.specs.declared.value.Value.{Value}
use Rattle.sq_value.specs.declared.value.Value.TheVariants.{Null, Int, Text}
use Rattle.sq_value.specs.Order.{value_cmp, row_cmp}
use Rattle.sq_algebra.specs.Groups.{integers}
use Rattle.sq_algebra.specs.Keyed.{at_key, keys_of}
use Rattle.sq_algebra.specs.Operators.{keep, lin}
use Rattle.sq_algebra.specs.ZSet.{ZSet, entries, of_list, total}
use Rattle.sq_expr.specs.declared.expr.Func.{Func}
use Rattle.sq_expr.specs.declared.expr.Func.TheVariants.{CountAll, Count, Sum, Min, Max}
use Rattle.sq_expr.specs.declared.expr.Kind.{Kind}
use Rattle.sq_expr.specs.declared.expr.Kind.TheVariants as kind
use Rattle.sq_expr.specs.Meaning.{column_of, is_null, columns_of}
use Rattle.sq_ops.specs.declared.aggregate.AggSpec.{AggSpec}
use Rattle.sq_ops.specs.declared.aggregate.Call.{Call}
use Rattle.sq_expr.specs.Bigint.{is_bigint}
use Rattle.sq_ops.specs.Wholes.{has_no_values}

-- ---- values

-- the lesser and the greater of two values, where NULL is none
abbrev pub lesser : Value → Value → Value
lesser a b = if is_null b then a else (if is_null a || is_lt (value_cmp b a) then b else a)

abbrev pub greater : Value → Value → Value
greater a b = if is_lt (value_cmp a b) then b else a

-- the number that a value is, and else 0
abbrev pub number_or_zero : Value → ℤ
number_or_zero Null = pos 0
number_or_zero (Int n) = n
number_or_zero (Text t) = pos 0

abbrev pub has_value : ℕ → List Value → Bool
has_value column row = not (is_null (column_of row column))

abbrev pub number_at : ℕ → List Value → ℤ
number_at column row = number_or_zero (column_of row column)

-- ---- calls

module _ (column : ℕ) (z : ZSet (List Value) row_cmp) where
  -- how many rows have a value in the column
  abbrev pub count_in : ℤ
  count_in = total (keep (has_value column) z)

  -- the sum of the numbers in the column
  abbrev pub sum_in : ℤ
  sum_in = lin integers (number_at column) z

  -- the values in the column, one for each row
  abbrev pub values_in : List Value
  values_in = map (λ e. column_of e.0 column) (entries z)

abbrev pub call_value : Func → ℕ → ZSet (List Value) row_cmp → Value
call_value CountAll column z = Int (total z)
call_value Count column z = Int (count_in column z)
call_value Sum column z = if int_eq (count_in column z) (pos 0) then Null else Int (sum_in column z)
call_value Min column z = fold lesser Null (values_in column z)
call_value Max column z = fold greater Null (values_in column z)

-- ---- groups

abbrev pub group_row : List Call → List Value → ZSet (List Value) row_cmp → List Value
group_row calls c z = c ++ map (λ call. call_value call.func call.arg z) calls

abbrev pub part_of : Bool → List Call → List Value → ZSet (List Value) row_cmp → ZSet (List Value) row_cmp
part_of stands calls c z = of_list row_cmp (if has_no_values (entries z) && not (stands && has_no_values c) then [] else group_row calls c z ∷ [])

-- the columns by which rows are grouped: none in a global aggregate
abbrev pub group_columns : AggSpec → List ℕ
group_columns spec = if spec.global then [] else spec.group

-- the key of a row
abbrev pub group_of : AggSpec → List Value → List Value
group_of spec row = columns_of (group_columns spec) row

-- the keys of the groups, ascending: in a global aggregate one without values, also where there are no rows
abbrev pub groups_of : AggSpec → ZSet (List Value) row_cmp → List (List Value)
groups_of spec z = if spec.global then [] ∷ [] else keys_of row_cmp (group_of spec) z

-- the rows of a group
abbrev pub rows_of_group : AggSpec → ZSet (List Value) row_cmp → List Value → ZSet (List Value) row_cmp
rows_of_group spec z c = at_key row_cmp (group_of spec) c z

abbrev pub shown_rows : AggSpec → ZSet (List Value) row_cmp → List (List Value)
shown_rows spec z = map (λ c. group_row spec.calls c (rows_of_group spec z c)) (groups_of spec z)

abbrev pub aggregated : AggSpec → ZSet (List Value) row_cmp → ZSet (List Value) row_cmp
aggregated spec z = of_list row_cmp (shown_rows spec z)

-- ---- sums outside the range of BIGINT

abbrev pub tested_sum : Func → ℕ → ZSet (List Value) row_cmp → List ℤ
tested_sum CountAll column z = []
tested_sum Count column z = []
tested_sum Sum column z = sum_in column z ∷ []
tested_sum Min column z = []
tested_sum Max column z = []

abbrev pub sums_of : List Call → ZSet (List Value) row_cmp → List ℤ
sums_of calls z = flat_map (λ call. tested_sum call.func call.arg z) calls

-- each SUM of each group, with the key of the group
abbrev pub keyed_sums : AggSpec → ZSet (List Value) row_cmp → List (List Value × ℤ)
keyed_sums spec z = flat_map (λ c. map (λ n. (c, n)) (sums_of spec.calls (rows_of_group spec z c))) (groups_of spec z)

abbrev pub first_sum_outside : AggSpec → ZSet (List Value) row_cmp → Option (List Value × ℤ)
first_sum_outside spec z = find (λ s. not (is_bigint s.1)) (keyed_sums spec z)

-- ---- which rows an aggregate takes

-- whether a column holds numbers
abbrev pub is_numeric : Option Kind → Bool
is_numeric None = false
is_numeric (Some kind.Integer) = true
is_numeric (Some kind.Bigint) = true
is_numeric (Some kind.Text) = false

-- whether the column of a call stands there; one to be summed holds numbers
abbrev pub call_suits : Func → ℕ → List Kind → Bool
call_suits CountAll column kinds = true
call_suits Count column kinds = nat_lt column (length kinds)
call_suits Sum column kinds = is_numeric (slice_get kinds column)
call_suits Min column kinds = nat_lt column (length kinds)
call_suits Max column kinds = nat_lt column (length kinds)

-- whether a global aggregate has no group columns, the group columns stand there, and each call suits
abbrev pub spec_suits : AggSpec → List Kind → Bool
spec_suits spec kinds = (not spec.global || has_no_values spec.group) && (list_all (λ c. nat_lt c (length kinds)) spec.group && list_all (λ call. call_suits call.func call.arg kinds) spec.calls)

abbrev pub SuitsSpec : AggSpec → List Kind → Type 0
SuitsSpec spec kinds = IsTrue (spec_suits spec kinds)
