-- Groups over expressions as a projection and an aggregate.
use Rattle.std.proofs.Common.{◌≡◌, ℕ, suc, ◌+◌, ℤ, pos, List, [], ◌∷◌, ◌++◌, map, fold, length, Bool, true, false, cond, not, Option, Some, None, filter, refl, sym, subst, ap, ap₂, ◌∙◌, append_assoc, arith, is_eq}
use Rattle.std.proofs.lemmas.Int.{ints}
use Rattle.std.specs.Prelude.{◌+ℤ◌, option_to_list}
use Rattle.std.specs.List.{AllByRecursion, flat_map}
use Rattle.std.proofs.lemmas.List.{length-append, map-append}
use Rattle.std.proofs.lemmas.List.Concat.{flat_map_single}
use Rattle.std.proofs.lemmas.Simd.{map-map}
use Rattle.sq_value.specs.declared.value.Value.{Value}
use Rattle.sq_value.specs.declared.value.Value.TheVariants.{Null, Int, Text}
use Rattle.sq_value.specs.Order.{row_cmp}
use Rattle.sq_algebra.specs.Groups.{integers, sum_over}
use Rattle.sq_algebra.specs.Keyed.{members_at, numbers_below}
use Rattle.sq_algebra.specs.Listed.{first_of_each}
use Rattle.sq_algebra.specs.Operators.{distinct}
use Rattle.sq_zset.proofs.RowOperators.{distinct-of_list, image-of_list-map}
use Rattle.sq_expr.specs.declared.expr.Expr.{Expr}
use Rattle.sq_expr.specs.declared.expr.Expr.TheVariants as expr
use Rattle.sq_expr.specs.declared.expr.Func.{Func}
use Rattle.sq_expr.specs.declared.expr.Func.TheVariants.{CountAll, Count, Sum, Min, Max}
use Rattle.sq_expr.specs.Extremes.{greatest_or_null, least_or_null}
use Rattle.sq_expr.specs.Meaning.{column_of, columns_of, is_null, num, of_both, sum_of}
use Rattle.sq_expr.specs.Typing.{IsOfSort}
use Rattle.sq_expr.specs.declared.typing.Sort.TheVariants.{Numeric}
use Rattle.sq_expr.proofs.Lists.{all_weaker}
use Rattle.sq_expr.proofs.Shifts.{column_behind}
use Rattle.sq_ops.specs.Aggregates.{aggregated, group_of, has_value, number_at, number_or_zero}
use Rattle.sq_ops.specs.Lists.{group_of_list, list_value, row_of_list, values_of}
use Rattle.sq_ops.specs.Rows.{items_of}
use Rattle.sq_ops.specs.Wholes.{has_no_values}
use Rattle.sq_ops.proofs.Indexing.{equals_itself}
use Rattle.sq_ops.proofs.ListTies.{all_of_list, groups_of_list}
use Rattle.sq_ops.proofs.RowColumns.{plain_items}
use Rattle.sq_typed.specs.declared.query.BlockCall.{BlockCall}
use Rattle.sq_typed.specs.declared.query.Grouping.{Grouping}
use Rattle.sq_typed.specs.Blocks.{call_value, group_row, groups, is_sum, item_rows, present, selected, sum_or_null, without_repeats}
use Rattle.sq_typed.specs.Fit.{is_count_all}
use Rattle.sq_typed.specs.From.{Row, members_of}
use Rattle.sq_typed.proofs.AnswerLemmas.{all_first}
use Rattle.sq_typed.proofs.ColumnLemmas.{map_alike}
use Rattle.sq_typed.proofs.FitRows.{length_mapped}
use Rattle.sq_typed.proofs.Tests.{all_filter, every, filter_same}
use Rattle.sq_bridge.specs.Groups.{argument_items, behind, calls_from, group_items, group_rows, group_spec, item_node, once_node, slot}
use Rattle.sq_bridge.specs.Meaning.{CallSuits, CallsSuit, GroupsSuit}
use Rattle.sq_bridge.specs.Nodes.{Node}
use Rattle.sq_bridge.specs.Rows.{kept_on_all, listed, projected}
use Rattle.sq_bridge.proofs.Joining.{kept_all}
use Rattle.sq_bridge.proofs.LeftJoining.{front_columns}
use Rattle.sq_bridge.proofs.Lists.{filter_of_map, flat_map_agree}

-- ---- sums

pub added : (a : ℤ) (xs : List Value) → AllByRecursion (IsOfSort Numeric) xs → fold (of_both ◌+ℤ◌) (Int a) (present xs) ≡ Int (a +ℤ sum_over integers number_or_zero xs)
added a [] h = ap Int (omega (arith, ints))
added a (Null ∷ xs) h = added a xs h.1 ∙ ap Int (omega (arith, ints))
added a (Int x ∷ xs) h = added (a +ℤ x) xs h.1 ∙ ap Int (omega (arith, ints))
added a (Text t ∷ xs) h = absurd h.0

sum_at : (xs : List Value) (n : ℤ) → sum_of xs ≡ Int n → cond (has_no_values xs) Null (Int n) ≡ sum_or_null xs
sum_at [] n e = refl
sum_at (x ∷ xs) n e = sym e

-- the values in a column
abbrev pub column_values : ℕ → List Row → List Value
column_values n rows = map (λ row. column_of row n) rows

pub sum_of_column : (n : ℕ) (rows : List Row) → sum_over integers (number_at n) rows ≡ sum_over integers number_or_zero (column_values n rows)
sum_of_column n [] = refl
sum_of_column n (row ∷ rows) = ap (λ s. number_at n row +ℤ s) (sum_of_column n rows)

values_are : (n : ℕ) (rows : List Row) → values_of n rows ≡ map (λ row. column_of row n) (filter (has_value n) rows)
values_are n rows = filter_of_map (λ x. not (is_null x)) (λ row. column_of row n) rows

none_mapped : {A B : Type 0} (f : A → B) (xs : List A) → has_no_values (map f xs) ≡ has_no_values xs
none_mapped f [] = refl
none_mapped f (x ∷ xs) = refl

sum_is : (n : ℕ) (rows : List Row) → AllByRecursion (IsOfSort Numeric) (column_values n rows) → list_value Sum n rows ≡ sum_or_null (values_of n rows)
sum_is n rows h =
    ap₂ (λ b s. cond b Null (Int s)) (sym (none_mapped (λ row. column_of row n) (filter (has_value n) rows)) ∙ ap has_no_values (sym (values_are n rows))) (sum_of_column n rows)
    ∙ sum_at (values_of n rows) (sum_over integers number_or_zero (column_values n rows))
    (added (pos 0) (column_values n rows) h ∙ ap Int (omega (arith, ints)))

-- ---- one call

count_is : (n : ℕ) (rows : List Row) → length (filter (has_value n) rows) ≡ length (values_of n rows)
count_is n rows = sym (length_mapped (λ row. column_of row n) (filter (has_value n) rows)) ∙ ap length (sym (values_are n rows))

module _ (n : ℕ) (e : Expr) (g : Row → Row) (is : (row : Row) → column_of (g row) n ≡ num e row) (rows : List Row) where
  pub column_is : column_values n (map g rows) ≡ map (num e) rows
  column_is = map-map (λ row. column_of row n) g rows ∙ map_alike (λ row. column_of (g row) n) (num e) rows is

  pub numbers_mapped : (rows : List Row) → AllByRecursion (λ row. IsOfSort Numeric (num e row)) rows → AllByRecursion (IsOfSort Numeric) (map (num e) rows)
  numbers_mapped [] h = tt
  numbers_mapped (row ∷ rows) h = (h.0, numbers_mapped rows h.1)

  value_is : (f : Func) → (is_sum f ≡ true → AllByRecursion (λ row. IsOfSort Numeric (num e row)) rows) → list_value f n (map g rows) ≡ call_value f (Some e) rows
  value_is CountAll h = ap (λ k. Int (pos k)) (length_mapped g rows)
  value_is Count h = ap (λ k. Int (pos k)) (count_is n (map g rows) ∙ ap (λ xs. length (present xs)) column_is)
  value_is Sum h = sum_is n (map g rows) (subst (AllByRecursion (IsOfSort Numeric)) (sym column_is) (numbers_mapped rows (h refl))) ∙ ap (λ xs. sum_or_null (present xs)) column_is
  value_is Min h = ap (λ xs. least_or_null (present xs)) column_is
  value_is Max h = ap (λ xs. greatest_or_null (present xs)) column_is

count_all_is : (f : Func) → is_count_all f ≡ true → (n : ℕ) (g : Row → Row) (rows : List Row) → list_value f n (map g rows) ≡ call_value f None rows
count_all_is CountAll h n g rows = ap (λ k. Int (pos k)) (length_mapped g rows)
count_all_is Count h n g rows = absurd (cc h)
count_all_is Sum h n g rows = absurd (cc h)
count_all_is Min h n g rows = absurd (cc h)
count_all_is Max h n g rows = absurd (cc h)

-- ---- all calls

abbrev pub values_at : List Expr → Row → Row
values_at es row = map (λ e. num e row) es

pub length_more : (row : Row) (x : Value) (n : ℕ) → length row ≡ n → length (row ++ x ∷ []) ≡ suc n
length_more row x n e = length-append row (x ∷ []) ∙ omega (arith, e)

pub next_column : (front : Row) (x : Value) (rest : Row) (n : ℕ) → length front ≡ n → column_of (front ++ x ∷ rest) n ≡ x
next_column front x rest n e =
    let stands : n ≡ length front + 0 = omega (arith, e) in
    ap (column_of (front ++ x ∷ rest)) stands ∙ column_behind front (x ∷ rest) 0

module _ (g : Row → Row) (rows : List Row) where
  -- the calls read the arguments that stand behind n columns
  abbrev AreCalled : List BlockCall → Type 0
  AreCalled calls = (n : ℕ) (front : Row → Row) → ((row : Row) → length (front row) ≡ n) → ((row : Row) → g row ≡ front row ++ values_at (argument_items calls) row) →
      map (λ call. list_value call.func call.arg (map g rows)) (calls_from n calls) ≡ map (λ c. call_value c.func c.arg rows) calls

  call_is : (f : Func) (arg : Option Expr) (calls : List BlockCall) → CallSuits rows f arg → AreCalled calls → (n : ℕ) (front : Row → Row) → ((row : Row) → length (front row) ≡ n) → ((row : Row) → g row ≡ front row ++ values_at (option_to_list arg ++ argument_items calls) row) →
      ◌≡◌ {A = List Value} (list_value f (slot n arg) (map g rows) ∷ map (λ call. list_value call.func call.arg (map g rows)) (calls_from (behind n arg) calls)) (call_value f arg rows ∷ map (λ c. call_value c.func c.arg rows) calls)
  call_is f None calls now later n front long is = ap₂ (λ x xs. x ∷ xs) (count_all_is f now 0 g rows) (later n front long is)
  call_is f (Some e) calls now later n front long is =
      ap₂ (λ x xs. x ∷ xs)
      (value_is n e g (λ row. ap (λ r. column_of r n) (is row) ∙ next_column (front row) (num e row) (values_at (argument_items calls) row) n (long row)) rows f now)
      (later (suc n) (λ row. front row ++ num e row ∷ []) (λ row. length_more (front row) (num e row) n (long row))
      (λ row. is row ∙ sym (append_assoc (front row) (num e row ∷ []) (values_at (argument_items calls) row))))

  calls_are : (calls : List BlockCall) → CallsSuit rows calls → AreCalled calls
  calls_are [] h n front long is = refl
  calls_are (c ∷ calls) h n front long is = call_is c.func c.arg calls h.0 (calls_are calls h.1) n front long is

-- ---- groups

pub projected_is : (g : Grouping) (row : Row) → items_of (group_items g) row ≡ columns_of g.columns row ++ values_at (argument_items g.calls) row
projected_is g row =
    map-append (λ e. num e row) (map expr.Column g.columns) (argument_items g.calls)
    ∙ ap (λ front. front ++ values_at (argument_items g.calls) row)
    (plain_items g.columns row)

first_ones : (columns : List ℕ) → cond (has_no_values columns) [] (numbers_below (length columns)) ≡ numbers_below (length columns)
first_ones [] = refl
first_ones (c ∷ cs) = refl

pub key_is : (g : Grouping) (row : Row) → group_of (group_spec g) (items_of (group_items g) row) ≡ columns_of g.columns row
key_is g row =
    ap₂ columns_of (first_ones g.columns) (projected_is g row)
    ∙ front_columns (length g.columns) (columns_of g.columns row) (values_at (argument_items g.calls) row) (length_mapped (column_of row) g.columns)

-- the row of a group
group_is : (g : Grouping) (key : Row) (rows : List Row) → CallsSuit rows g.calls → row_of_list (group_spec g).calls key (map (items_of (group_items g)) rows) ≡ group_row g.calls (key, rows)
group_is g key rows h = ap (λ xs. key ++ xs)
    (calls_are (items_of (group_items g)) rows g.calls h (length g.columns) (columns_of g.columns) (λ row. length_mapped (column_of row) g.columns) (projected_is g))

suits_filtered : (p : Row → Bool) (rows : List Row) (f : Func) (arg : Option Expr) → CallSuits rows f arg → CallSuits (filter p rows) f arg
suits_filtered p rows f None h = h
suits_filtered p rows f (Some e) h = λ s. all_filter (λ row. IsOfSort Numeric (num e row)) p rows (h s)

pub calls_filtered : (p : Row → Bool) (rows : List Row) (calls : List BlockCall) → CallsSuit rows calls → CallsSuit (filter p rows) calls
calls_filtered p rows calls h = all_weaker (λ c. CallSuits rows c.func c.arg) (λ c. CallSuits (filter p rows) c.func c.arg) calls (λ c. suits_filtered p rows c.func c.arg) h

module _ (key : Row → Row) where
  abbrev pub of_key : Row → List Row → List Row
  of_key k rows = filter (λ row. is_eq (row_cmp k (key row))) rows

  abbrev HasRows : List Row → Row → Type 0
  HasRows rows k = has_no_values (of_key k rows) ≡ false

  more_rows : (row : Row) (rows : List Row) (k : Row) → HasRows rows k → HasRows (row ∷ rows) k
  more_rows row rows k h = elim (is_eq (row_cmp k (key row))) as (λ b. has_no_values (cond b (row ∷ of_key k rows) (of_key k rows)) ≡ false) [ true ↦ refl | false ↦ h ]

  -- the key of each row has a row
  keys_have_rows : (rows : List Row) → AllByRecursion (HasRows rows) (map key rows)
  keys_have_rows [] = tt
  keys_have_rows (row ∷ rows) = (
    ap (λ b. has_no_values (cond b (row ∷ of_key (key row) rows) (of_key (key row) rows))) (equals_itself (key row)),
    all_weaker (HasRows rows) (HasRows (row ∷ rows)) (map key rows) (more_rows row rows) (keys_have_rows rows),
  )

module _ (g : Grouping) (rows : List Row) (h : CallsSuit rows g.calls) where
  abbrev pub made : Row → Row
  made row = items_of (group_items g) row

  abbrev key_of_row : Row → Row
  key_of_row row = columns_of g.columns row

  abbrev pub found : Row → List Row
  found k = of_key key_of_row k rows

  pub found_is : (k : Row) → members_at row_cmp (group_of (group_spec g)) k (map made rows) ≡ map made (found k)
  found_is k =
      filter_of_map (λ row. is_eq (row_cmp k (group_of (group_spec g) row))) made rows
      ∙ ap (map made) (filter_same (λ row. is_eq (row_cmp k (group_of (group_spec g) (made row)))) (λ row. is_eq (row_cmp k (key_of_row row))) rows
      (every (λ row. is_eq (row_cmp k (group_of (group_spec g) (made row))) ≡ is_eq (row_cmp k (key_of_row row))) rows (λ row. ap (λ c. is_eq (row_cmp k c)) (key_is g row))))

  pub keys_are : map (group_of (group_spec g)) (map made rows) ≡ map key_of_row rows
  keys_are = map-map (group_of (group_spec g)) made rows ∙ map_alike (λ row. group_of (group_spec g) (made row)) key_of_row rows (key_is g)

  one_group : (k : Row) → HasRows key_of_row rows k → group_of_list (group_spec g).calls k (members_at row_cmp (group_of (group_spec g)) k (map made rows)) ≡ group_row g.calls (k, found k) ∷ []
  one_group k some =
      ap (group_of_list (group_spec g).calls k) (found_is k)
      ∙ ap (λ b. cond b [] (row_of_list (group_spec g).calls k (map made (found k)) ∷ [])) (none_mapped made (found k) ∙ some)
      ∙ ap (λ row. row ∷ []) (group_is g k (found k) (calls_filtered (λ row. is_eq (row_cmp k (key_of_row row))) rows g.calls h))

  abbrev listed_groups : List Row → List Row
  listed_groups keys = flat_map (λ k. group_of_list (group_spec g).calls k (members_at row_cmp (group_of (group_spec g)) k (map made rows))) keys

  grouped_are : listed_groups (first_of_each row_cmp (map (group_of (group_spec g)) (map made rows))) ≡ map (group_row g.calls) (map (λ k. (k, found k)) (first_of_each row_cmp (map key_of_row rows)))
  grouped_are =
      ap (λ keys. listed_groups (first_of_each row_cmp keys)) keys_are
      ∙ flat_map_agree (λ k. group_of_list (group_spec g).calls k (members_at row_cmp (group_of (group_spec g)) k (map made rows))) (λ k. group_row g.calls (k, found k) ∷ []) (first_of_each row_cmp (map key_of_row rows))
      (all_weaker (HasRows key_of_row rows) (λ k. group_of_list (group_spec g).calls k (members_at row_cmp (group_of (group_spec g)) k (map made rows)) ≡ group_row g.calls (k, found k) ∷ []) (first_of_each row_cmp (map key_of_row rows)) one_group
      (all_first (HasRows key_of_row rows) (map key_of_row rows) (keys_have_rows key_of_row rows)))
      ∙ flat_map_single (λ k. group_row g.calls (k, found k)) (first_of_each row_cmp (map key_of_row rows))
      ∙ sym (map-map (group_row g.calls) (λ k. (k, found k)) (first_of_each row_cmp (map key_of_row rows)))

aggregated_are : (columns : List ℕ) (g : Grouping) → g.columns ≡ columns → (rows : List Row) → CallsSuit rows g.calls → aggregated (group_spec g) (listed (map (items_of (group_items g)) rows)) ≡ listed (map (group_row g.calls) (groups columns rows))
aggregated_are [] g e rows h =
    all_of_list (group_spec g) (map (items_of (group_items g)) rows) (ap has_no_values e)
    ∙ ap (λ row. listed (row ∷ [])) (group_is g [] rows h)
aggregated_are (c ∷ cs) g e rows h =
    groups_of_list (group_spec g) (map (items_of (group_items g)) rows) (ap has_no_values e)
    ∙ ap listed (grouped_are g rows h)
    ∙ ap (λ columns. listed (map (group_row g.calls) (map (λ k. (k, filter (λ row. is_eq (row_cmp k (columns_of columns row))) rows)) (first_of_each row_cmp (map (columns_of columns) rows))))) e

pub groups_are : (g : Grouping) (rows : List Row) → CallsSuit rows g.calls → group_rows g (listed rows) ≡ listed (map (group_row g.calls) (groups g.columns rows))
groups_are g rows h = ap (aggregated (group_spec g)) (image-of_list-map (items_of (group_items g)) rows) ∙ aggregated_are g.columns g refl rows h

-- ---- items

pub item_rows_are : (grouping : Option Grouping) (n : Node) (rows : List Row) → GroupsSuit rows grouping → n.rows ≡ listed rows → (item_node grouping n).rows ≡ listed (item_rows grouping rows)
item_rows_are None n rows h is = is
item_rows_are (Some g) n rows h is =
    ap (λ z. kept_on_all (members_of g.having) (group_rows g z)) is
    ∙ ap (kept_on_all (members_of g.having)) (groups_are g rows h)
    ∙ kept_all (members_of g.having) (map (group_row g.calls) (groups g.columns rows))

pub selected_are : (items : List Expr) (rows : List Row) → projected items (listed rows) ≡ listed (selected items rows)
selected_are items rows = image-of_list-map (items_of items) rows

pub once_is : (is_distinct : Bool) (n : Node) (rows : List Row) → n.rows ≡ listed rows → (once_node is_distinct n).rows ≡ listed (without_repeats is_distinct rows)
once_is true n rows is = ap (λ z. distinct z) is ∙ distinct-of_list rows
once_is false n rows is = is
