-- A number is outside BIGINT on lists exactly if an operator says so of their Z-sets, and a place has as many rows as its list.
use Rattle.std.proofs.Common.{◌≡◌, ℕ, suc, ◌^◌, ℤ, pos, List, [], ◌∷◌, ◌++◌, map, length, Bool, true, cond, not, ◌&&◌, ◌||◌, Option, Some, None, filter, refl, sym, ap, ap₂, ◌∙◌, append_assoc, arith, is_eq}
use Rattle.std.proofs.lemmas.Int.{ints}
use Rattle.std.specs.Prelude.{◌+ℤ◌, int_lt, is_some, option_to_list}
use Rattle.std.specs.List.{AllByRecursion, flat_map, list_any}
use Rattle.sq_value.specs.declared.value.Value.{Value}
use Rattle.sq_value.specs.declared.value.Value.TheVariants.{Null, Int, Text}
use Rattle.sq_value.specs.Order.{row_cmp}
use Rattle.sq_algebra.specs.Groups.{integers, sum_over}
use Rattle.sq_algebra.specs.Keyed.{members_at}
use Rattle.sq_algebra.specs.Listed.{first_of_each}
use Rattle.sq_algebra.proofs.AnyLemmas.{any_filtered, any_flat, any_mapped, any_same, find_is, or_false}
use Rattle.sq_zset.proofs.RowOperators.{image-of_list-map}
use Rattle.sq_zset.proofs.Rows.{total-of_list}
use Rattle.sq_expr.specs.declared.expr.Expr.{Expr}
use Rattle.sq_expr.specs.declared.expr.Func.{Func}
use Rattle.sq_expr.specs.declared.expr.Func.TheVariants.{CountAll, Count, Sum, Min, Max}
use Rattle.sq_expr.specs.declared.typing.Sort.TheVariants.{Numeric}
use Rattle.sq_expr.specs.Bigint.{is_bigint}
use Rattle.sq_expr.specs.Meaning.{column_of, columns_of, num, sum_of}
use Rattle.sq_expr.specs.Typing.{IsOfSort}
use Rattle.sq_ops.specs.declared.aggregate.Call.{Call}
use Rattle.sq_ops.specs.Aggregates.{first_sum_outside, group_of, number_at, number_or_zero}
use Rattle.sq_ops.specs.Lists.{keys_of_list, list_sum, sums_of_groups, sums_of_list}
use Rattle.sq_ops.specs.Wholes.{has_no_values}
use Rattle.sq_ops.specs.Rows.{items_of, number_in, numbers_of}
use Rattle.sq_ops.proofs.Outside.{sums_outside, values_outside}
use Rattle.sq_typed.specs.declared.query.BlockCall.{BlockCall}
use Rattle.sq_typed.specs.declared.query.Grouping.{Grouping}
use Rattle.sq_typed.specs.Blocks.{call_value, groups, is_sum, present, selected, sum_or_null}
use Rattle.sq_typed.specs.Fit.{is_count_all}
use Rattle.sq_typed.specs.From.{Row}
use Rattle.sq_typed.specs.Queries.{is_crowded, is_outside}
use Rattle.sq_typed.proofs.FitRows.{length_mapped}
use Rattle.sq_typed.proofs.Tests.{every, filter_all}
use Rattle.sq_bridge.specs.Groups.{argument_items, behind, calls_from, group_items, group_spec, slot, tested_sums}
use Rattle.sq_bridge.specs.Meaning.{CallSuits, CallsSuit}
use Rattle.sq_bridge.specs.Nodes.{has_item_outside, lists_too_many}
use Rattle.sq_bridge.specs.Rows.{listed, projected}
use Rattle.sq_bridge.proofs.Grouping.{added, calls_filtered, column_is, found, found_is, keys_are, made, length_more, next_column, numbers_mapped, projected_is, sum_of_column, values_at}

-- ---- places

pub crowded_is : (rows : List Row) → lists_too_many (listed rows) ≡ is_crowded rows
crowded_is rows = ap (int_lt (pos (2 ^ 61))) (total-of_list rows)

-- ---- items

abbrev no_bigint : ℤ → Bool
no_bigint n = not (is_bigint n)

pub outside_number : (x : Value) → list_any no_bigint (number_in x) ≡ is_outside x
outside_number Null = refl
outside_number (Int n) = or_false (not (is_bigint n))
outside_number (Text t) = refl

outside_row : (items : List Expr) (row : Row) → list_any no_bigint (numbers_of items row) ≡ list_any is_outside (items_of items row)
outside_row items row =
    any_flat no_bigint number_in (items_of items row)
    ∙ any_same (λ x. list_any no_bigint (number_in x)) is_outside (items_of items row) outside_number

pub items_outside : (items : List Expr) (rows : List Row) → has_item_outside items (listed rows) ≡ list_any (λ row. list_any is_outside (items_of items row)) rows
items_outside items rows =
    values_outside (numbers_of items) rows
    ∙ find_is no_bigint (flat_map (numbers_of items) rows)
    ∙ any_flat no_bigint (numbers_of items) rows
    ∙ any_same (λ row. list_any no_bigint (numbers_of items row)) (λ row. list_any is_outside (items_of items row)) rows (outside_row items)

pub selected_outside : (items : List Expr) (rows : List Row) → has_item_outside items (listed rows) ≡ list_any is_outside (flat_map (λ row. row) (selected items rows))
selected_outside items rows =
    items_outside items rows
    ∙ sym (any_flat is_outside (λ row. row) (selected items rows) ∙ any_mapped (list_any is_outside) (items_of items) rows)

-- ---- sums

outside_sum : (xs : List Value) → is_outside (sum_or_null xs) ≡ is_outside (sum_of xs)
outside_sum [] = refl
outside_sum (x ∷ xs) = refl

zero_plus : (s : ℤ) → s ≡ pos 0 +ℤ s
zero_plus s = omega (arith, ints)

module _ (n : ℕ) (e : Expr) (g : Row → Row) (is : (row : Row) → column_of (g row) n ≡ num e row) (rows : List Row) where
  sum_outside : AllByRecursion (λ row. IsOfSort Numeric (num e row)) rows → no_bigint (sum_over integers (number_at n) (map g rows)) ≡ is_outside (sum_or_null (present (map (num e) rows)))
  sum_outside h =
      ap no_bigint (sum_of_column n (map g rows) ∙ ap (sum_over integers number_or_zero) (column_is n e g is rows) ∙ zero_plus (sum_over integers number_or_zero (map (num e) rows)))
      ∙ sym (outside_sum (present (map (num e) rows)) ∙ ap is_outside (added (pos 0) (map (num e) rows) (numbers_mapped n e g is rows rows h)))

  tested_outside : (f : Func) → (is_sum f ≡ true → AllByRecursion (λ row. IsOfSort Numeric (num e row)) rows) → list_any no_bigint (list_sum f n (map g rows)) ≡ (is_sum f && is_outside (call_value f (Some e) rows))
  tested_outside CountAll k = refl
  tested_outside Count k = refl
  tested_outside Sum k = or_false (no_bigint (sum_over integers (number_at n) (map g rows))) ∙ sum_outside (k refl)
  tested_outside Min k = refl
  tested_outside Max k = refl

count_all_outside : (f : Func) → is_count_all f ≡ true → (n : ℕ) (g : Row → Row) (rows : List Row) → list_any no_bigint (list_sum f n (map g rows)) ≡ (is_sum f && is_outside (call_value f None rows))
count_all_outside CountAll h n g rows = refl
count_all_outside Count h n g rows = absurd (cc h)
count_all_outside Sum h n g rows = absurd (cc h)
count_all_outside Min h n g rows = absurd (cc h)
count_all_outside Max h n g rows = absurd (cc h)

module _ (g : Row → Row) (rows : List Row) where
  abbrev call_outside : Call → Bool
  call_outside call = list_any no_bigint (list_sum call.func call.arg (map g rows))

  abbrev value_outside : BlockCall → Bool
  value_outside c = is_sum c.func && is_outside (call_value c.func c.arg rows)

  abbrev AreTested : List BlockCall → Type 0
  AreTested calls = (n : ℕ) (front : Row → Row) → ((row : Row) → length (front row) ≡ n) → ((row : Row) → g row ≡ front row ++ values_at (argument_items calls) row) → list_any call_outside (calls_from n calls) ≡ list_any value_outside calls

  call_tested : (f : Func) (arg : Option Expr) (calls : List BlockCall) → CallSuits rows f arg → AreTested calls → (n : ℕ) (front : Row → Row) → ((row : Row) → length (front row) ≡ n) → ((row : Row) → g row ≡ front row ++ values_at (option_to_list arg ++ argument_items calls) row) →
      (list_any no_bigint (list_sum f (slot n arg) (map g rows)) || list_any call_outside (calls_from (behind n arg) calls)) ≡ ((is_sum f && is_outside (call_value f arg rows)) || list_any value_outside calls)
  call_tested f None calls now later n front long is = ap₂ (λ a b. a || b) (count_all_outside f now 0 g rows) (later n front long is)
  call_tested f (Some e) calls now later n front long is =
      ap₂ (λ a b. a || b)
      (tested_outside n e g (λ row. ap (λ r. column_of r n) (is row) ∙ next_column (front row) (num e row) (values_at (argument_items calls) row) n (long row)) rows f now)
      (later (suc n) (λ row. front row ++ num e row ∷ []) (λ row. length_more (front row) (num e row) n (long row))
      (λ row. is row ∙ sym (append_assoc (front row) (num e row ∷ []) (values_at (argument_items calls) row))))

  calls_tested : (calls : List BlockCall) → CallsSuit rows calls → AreTested calls
  calls_tested [] h n front long is = refl
  calls_tested (c ∷ calls) h n front long is = call_tested c.func c.arg calls h.0 (calls_tested calls h.1) n front long is

group_outside : (g : Grouping) (key : Row) (rows : List Row) → CallsSuit rows g.calls → list_any no_bigint (sums_of_list (group_spec g).calls (map (items_of (group_items g)) rows)) ≡ list_any is_outside (tested_sums g.calls (key, rows))
group_outside g key rows h =
    any_flat no_bigint (λ call. list_sum call.func call.arg (map (items_of (group_items g)) rows)) (group_spec g).calls
    ∙ calls_tested (items_of (group_items g)) rows g.calls h (length g.columns) (columns_of g.columns) (λ row. length_mapped (column_of row) g.columns) (projected_is g)
    ∙ sym (any_filtered is_outside (λ c. call_value c.func c.arg rows) (λ c. is_sum c.func) g.calls)

module _ (g : Grouping) (rows : List Row) (h : CallsSuit rows g.calls) where
  -- the rows that are grouped
  abbrev all_made : List Row
  all_made = map (made g rows h) rows

  abbrev sums_at : Row → List ℤ
  sums_at k = sums_of_list (group_spec g).calls (members_at row_cmp (group_of (group_spec g)) k all_made)

  abbrev is_outside_at : Row → Bool
  is_outside_at k = list_any is_outside (tested_sums g.calls (k, found g rows h k))

  outside_at : (k : Row) → list_any no_bigint (sums_at k) ≡ is_outside_at k
  outside_at k =
      ap (λ rs. list_any no_bigint (sums_of_list (group_spec g).calls rs)) (found_is g rows h k)
      ∙ group_outside g k (found g rows h k) (calls_filtered (λ row. is_eq (row_cmp k (columns_of g.columns row))) rows g.calls h)

  abbrev all_sums : List ℕ → Bool
  all_sums columns = list_any is_outside (flat_map (tested_sums g.calls) (groups columns rows))

  -- group by group, where the columns are there and where they are not
  by_columns : (columns : List ℕ) → g.columns ≡ columns → list_any is_outside_at (keys_of_list (group_spec g) all_made) ≡ all_sums columns
  by_columns [] e =
      ap (λ keys. list_any is_outside_at keys) (one_key e)
      ∙ or_false (is_outside_at [])
      ∙ ap (λ rs. list_any is_outside (tested_sums g.calls ([], rs)))
      (ap (λ columns. filter (λ row. is_eq (row_cmp [] (columns_of columns row))) rows) e ∙ filter_all (λ row. is_eq (row_cmp [] (columns_of [] row))) rows (every (λ row. is_eq (row_cmp [] (columns_of [] row)) ≡ true) rows (λ row. refl)))
      ∙ sym (any_flat is_outside (tested_sums g.calls) (groups [] rows) ∙ or_false (list_any is_outside (tested_sums g.calls ([], rows))))
    where
      one_key : g.columns ≡ [] → keys_of_list (group_spec g) all_made ≡ [] ∷ []
      one_key none = ap (λ b. cond b ([] ∷ []) (first_of_each row_cmp (map (group_of (group_spec g)) all_made))) (ap has_no_values none)
  by_columns (c ∷ cs) e =
      ap (λ keys. list_any is_outside_at keys) (keys_are_columns e)
      ∙ sym (any_flat is_outside (tested_sums g.calls) (map (λ k. (k, found g rows h k)) (first_of_each row_cmp (map (columns_of g.columns) rows)))
      ∙ any_mapped (λ group. list_any is_outside (tested_sums g.calls group)) (λ k. (k, found g rows h k)) (first_of_each row_cmp (map (columns_of g.columns) rows)))
      ∙ ap (λ columns. list_any is_outside (flat_map (tested_sums g.calls) (map (λ k. (k, filter (λ row. is_eq (row_cmp k (columns_of columns row))) rows)) (first_of_each row_cmp (map (columns_of columns) rows))))) e
    where
      keys_are_columns : g.columns ≡ c ∷ cs → keys_of_list (group_spec g) all_made ≡ first_of_each row_cmp (map (columns_of g.columns) rows)
      keys_are_columns some =
          ap (λ b. cond b ([] ∷ []) (first_of_each row_cmp (map (group_of (group_spec g)) all_made))) (ap has_no_values some)
          ∙ ap (first_of_each row_cmp) (keys_are g rows h)

pub group_sums_outside : (g : Grouping) (rows : List Row) → CallsSuit rows g.calls → is_some (first_sum_outside (group_spec g) (projected (group_items g) (listed rows))) ≡ list_any is_outside (flat_map (tested_sums g.calls) (groups g.columns rows))
group_sums_outside g rows h =
    ap (λ z. is_some (first_sum_outside (group_spec g) z)) (image-of_list-map (items_of (group_items g)) rows)
    ∙ sums_outside (group_spec g) (map (items_of (group_items g)) rows)
    ∙ find_is no_bigint (sums_of_groups (group_spec g) (map (items_of (group_items g)) rows))
    ∙ any_flat no_bigint (sums_at g rows h) (keys_of_list (group_spec g) (all_made g rows h))
    ∙ any_same (λ k. list_any no_bigint (sums_at g rows h k)) (is_outside_at g rows h) (keys_of_list (group_spec g) (all_made g rows h)) (outside_at g rows h)
    ∙ by_columns g rows h g.columns refl
