-- Blocks over small tables: no place lists many rows, and no tested value is a great number.
--     most n sources        the product of n and of one more than the rows of each source: no place lists more rows
use Rattle.std.proofs.Common.{◌≡◌, ℕ, zero, suc, ◌+◌, ◌*◌, ◌≤◌, ◌^◌, pos, negsuc, List, [], ◌∷◌, ◌++◌, map, fold, filter, length, replicate, Bool, true, false, not, ◌||◌, refl, sym, ap, subst, ◌∙◌, arith}
use Rattle.std.specs.Prelude.{Option, Some, None, ⊤, ◌+ℤ◌}
use Rattle.std.specs.List.{AllByRecursion, flat_map, list_any}
use Rattle.std.specs.Ordering.{is_eq}
use Rattle.std.proofs.lemmas.Bool.{le-ltb, lt-ltb}
use Rattle.std.proofs.lemmas.List.{length-append}
use Rattle.std.proofs.Math.Nat.{le-mul_of_pos_right, mul-le-mul_right, suc-mul}
use Rattle.sq_value.specs.declared.value.Value.{Value}
use Rattle.sq_value.specs.declared.value.Value.TheVariants.{Null, Int, Text}
use Rattle.sq_value.specs.Order.{row_cmp}
use Rattle.sq_algebra.specs.Listed.{first_of_each}
use Rattle.sq_expr.specs.declared.cond.Cond.{Cond}
use Rattle.sq_expr.specs.declared.expr.Expr.{Expr}
use Rattle.sq_expr.specs.declared.expr.Expr.TheVariants as expr
use Rattle.sq_expr.specs.declared.expr.Func.{Func}
use Rattle.sq_expr.specs.declared.expr.Func.TheVariants.{CountAll, Count, Sum, Min, Max}
use Rattle.sq_expr.specs.declared.expr.Kind.{Kind}
use Rattle.sq_expr.specs.Meaning.{column_of, columns_of, is_null, num, of_both}
use Rattle.sq_expr.proofs.Equations.{num-Column}
use Rattle.sq_expr.proofs.Lists.{all_append, all_flattened, all_over, all_weaker}
use Rattle.sq_typed.specs.declared.query.BlockCall.{BlockCall}
use Rattle.sq_typed.specs.declared.query.FromJoin.{FromJoin}
use Rattle.sq_typed.specs.declared.query.FromJoin.TheVariants.{Comma, Inner, Left}
use Rattle.sq_typed.specs.declared.query.Grouping.{Grouping}
use Rattle.sq_typed.specs.Blocks.{arguments, block_answer, call_value, group_row, groups, is_sum, item_rows, present, selected, sum_or_null, tested_calls, without_repeats}
use Rattle.sq_typed.specs.Fit.{Pairwise}
use Rattle.sq_typed.specs.From.{Row, Answer, Source, all_hold, from, inner, joined_by, kept, matches, members_at, members_of, or_padded, stage, stages, stages_from, widths_of}
use Rattle.sq_typed.specs.Queries.{has_range_fault, is_crowded, is_outside}
use Rattle.sq_typed.proofs.AnswerLemmas.{all_first}
use Rattle.sq_typed.proofs.FitRows.{length_filter, length_mapped}
use Rattle.sq_typed.proofs.GivenRows.{SourceOf, greatest_of, kept_of, least_of}
use Rattle.sq_typed.proofs.Tests.{all_filter}
use Rattle.sq_meant.specs.Small.{AreUpTo, IsUpTo}

-- ---- how many rows

abbrev most : ℕ → List Source → ℕ
most n [] = n
most n (s ∷ ss) = most (n * suc (length s.answer.rows)) ss

most_grows : (n m : ℕ) (ss : List Source) → n ≤ m → most n ss ≤ most m ss
most_grows n m [] le = le
most_grows n m (s ∷ ss) le = most_grows (n * suc (length s.answer.rows)) (m * suc (length s.answer.rows)) ss (mul-le-mul_right (suc (length s.answer.rows)) le)

most_is_more : (n : ℕ) (ss : List Source) → n ≤ most n ss
most_is_more n [] = omega arith
most_is_more n (s ∷ ss) =
    let here : n ≤ n * suc (length s.answer.rows) = le-mul_of_pos_right n (omega arith) in
    let later = most_is_more (n * suc (length s.answer.rows)) ss in
    omega arith

flat_few : {A B : Type 0} (f : A → List B) (n : ℕ) (xs : List A) → ((x : A) → length (f x) ≤ n) → length (flat_map f xs) ≤ length xs * n
flat_few f n [] few = omega arith
flat_few f n (x ∷ xs) few =
    let both = length-append (f x) (flat_map f xs) in
    let more = suc-mul (length xs) n in
    let here = few x in
    let later = flat_few f n xs few in
    omega arith

matches_few : (conds : List Cond) (others : List Row) (row : Row) → length (matches conds others row) ≤ length others
matches_few conds others row =
    let kept = length_filter (all_hold conds) (map (λ other. row ++ other) others) in
    let all = length_mapped (λ (other : Row). row ++ other) others in
    omega arith

padded_few : (width : ℕ) (row : Row) (rows : List Row) (n : ℕ) → length rows ≤ n → length (or_padded width row rows) ≤ suc n
padded_few width row [] n few = omega arith
padded_few width row (r ∷ rs) n few = omega arith

inner_few : (conds : List Cond) (others rows : List Row) → length (inner conds others rows) ≤ length rows * suc (length others)
inner_few conds others rows = flat_few (matches conds others) (suc (length others)) rows (λ row. let few = matches_few conds others row in omega arith)

joined_few : (more : List Cond) (join : FromJoin) (a : Answer) (rows : List Row) → length (joined_by more join a rows) ≤ length rows * suc (length a.rows)
joined_few more Comma a rows = inner_few more a.rows rows
joined_few more (Inner on) a rows = inner_few (on ∷ more) a.rows rows
joined_few more (Left on) a rows =
    flat_few (λ row. or_padded a.width row (matches (on ∷ []) a.rows row)) (suc (length a.rows)) rows
    (λ row. padded_few a.width row (matches (on ∷ []) a.rows row) (length a.rows) (matches_few (on ∷ []) a.rows row))

from_few : (rows : List Row) (ss : List Source) → length (fold (λ rows s. joined_by [] s.join s.answer rows) rows ss) ≤ most (length rows) ss
from_few rows [] = omega arith
from_few rows (s ∷ ss) =
    let later = from_few (joined_by [] s.join s.answer rows) ss in
    let grows = most_grows (length (joined_by [] s.join s.answer rows)) (length rows * suc (length s.answer.rows)) ss (joined_few [] s.join s.answer rows) in
    omega arith

kept_few : (conds : List Cond) (ss : List Source) → length (kept conds ss) ≤ most 1 ss
kept_few conds ss =
    let kept = length_filter (all_hold conds) (from ss) in
    let all = from_few ([] ∷ []) ss in
    omega arith

stage_few : (conds : List Cond) (join : FromJoin) (a : Answer) (before : List Row) → length (stage conds join a before).0 ≤ length before * suc (length a.rows)
stage_few conds Comma a before = joined_few conds Comma a before
stage_few conds (Inner on) a before = joined_few conds (Inner on) a before
stage_few conds (Left on) a before = joined_few [] (Left on) a before

stage_shrinks : (conds : List Cond) (join : FromJoin) (a : Answer) (before : List Row) → length (stage conds join a before).1 ≤ length (stage conds join a before).0
stage_shrinks conds Comma a before = omega arith
stage_shrinks conds (Inner on) a before = omega arith
stage_shrinks conds (Left on) a before = length_filter (all_hold conds) (joined_by [] (Left on) a before)

abbrev IsUncrowded : List Row → Type 0
IsUncrowded rows = is_crowded rows ≡ false

uncrowded : (rows : List Row) → length rows ≤ 2 ^ 27 → IsUncrowded rows
uncrowded rows few = le-ltb (2 ^ 61) (length rows) (omega arith)

stages_few : (widths : List ℕ) (conds : List Cond) (k : ℕ) (before : List Row) (ss : List Source) → most (length before) ss ≤ 2 ^ 27
    → AllByRecursion IsUncrowded (map (λ stage. stage.0) (stages_from widths conds k before ss))
stages_few widths conds k before [] few = tt
stages_few widths conds k before (s ∷ ss) few =
    let this = stage (members_at widths conds k) s.join s.answer before in
    let bound = stage_few (members_at widths conds k) s.join s.answer before in
    let shrinks = stage_shrinks (members_at widths conds k) s.join s.answer before in
    let here = most_is_more (length before * suc (length s.answer.rows)) ss in
    let later = most_grows (length this.1) (length before * suc (length s.answer.rows)) ss (omega arith) in
    (uncrowded this.0 (omega arith), stages_few widths conds (suc k) this.1 ss (omega arith))

-- ---- how great the values are

up_to_more : (n m : ℕ) → n ≤ m → (x : Value) → IsUpTo n x → IsUpTo m x
up_to_more n m le Null h = tt
up_to_more n m le (Int (pos k)) h = omega arith
up_to_more n m le (Int (negsuc k)) h = h
up_to_more n m le (Text t) h = h

rows_up_to_more : (n m : ℕ) → n ≤ m → (rows : List Row) → AreUpTo n rows → AreUpTo m rows
rows_up_to_more n m le rows h = all_weaker (λ row. AllByRecursion (IsUpTo n) row) (λ row. AllByRecursion (IsUpTo m) row) rows (λ row k. all_weaker (IsUpTo n) (IsUpTo m) row (up_to_more n m le) k) h

abbrev IsInside : Value → Type 0
IsInside x = is_outside x ≡ false

inside : (x : Value) → IsUpTo (2 ^ 58) x → IsInside x
inside Null h = refl
inside (Int (pos k)) h = ap not (lt-ltb k (2 ^ 63) (omega arith))
inside (Int (negsuc k)) h = absurd h
inside (Text t) h = absurd h

column_up_to : (n : ℕ) (row : Row) (i : ℕ) → AllByRecursion (IsUpTo n) row → IsUpTo n (column_of row i)
column_up_to n [] i h = tt
column_up_to n (x ∷ row) zero h = h.0
column_up_to n (x ∷ row) (suc i) h = column_up_to n row i h.1

columns_up_to : (n : ℕ) (row : Row) (columns : List ℕ) → AllByRecursion (IsUpTo n) row → AllByRecursion (IsUpTo n) (columns_of columns row)
columns_up_to n row [] h = tt
columns_up_to n row (i ∷ is) h = (column_up_to n row i h, columns_up_to n row is h)

nulls_up_to : (n width : ℕ) → AllByRecursion (IsUpTo n) (replicate width Null)
nulls_up_to n zero = tt
nulls_up_to n (suc width) = (tt, nulls_up_to n width)

-- ---- the rows that WHERE keeps

abbrev Of : Row → List Kind → Type 0
Of row kinds = AllByRecursion (IsUpTo (2 ^ 31)) row

kept_up_to : (conds : List Cond) (ss : List Source) (kinds : List (List Kind)) → Pairwise (SourceOf Of) ss kinds → AreUpTo (2 ^ 31) (kept conds ss)
kept_up_to conds ss kinds p =
    kept_of Of (λ row other before kinds h k. all_append (IsUpTo (2 ^ 31)) row other h k) (λ kinds. nulls_up_to (2 ^ 31) (length kinds)) conds ss kinds p

-- ---- calls, of which each argument is a column

abbrev pub IsColumn : Expr → Type 0
IsColumn e = (i : ℕ) × (e ≡ expr.Column i)

abbrev pub IsOverColumn : Option Expr → Type 0
IsOverColumn None = ⊤
IsOverColumn (Some e) = IsColumn e

item_up_to : (n : ℕ) (row : Row) (e : Expr) → IsColumn e → AllByRecursion (IsUpTo n) row → IsUpTo n (num e row)
item_up_to n row e is h = subst (λ x. IsUpTo n x) (sym (ap (λ e. num e row) is.1 ∙ num-Column is.0 row)) (column_up_to n row is.0 h)

arguments_up_to : (arg : Option Expr) (rows : List Row) → IsOverColumn arg → AreUpTo (2 ^ 31) rows → AllByRecursion (IsUpTo (2 ^ 31)) (arguments arg rows)
arguments_up_to None rows is h = tt
arguments_up_to (Some e) [] is h = tt
arguments_up_to (Some e) (row ∷ rows) is h = (item_up_to (2 ^ 31) row e is h.0, arguments_up_to (Some e) rows is h.1)

arguments_few : (arg : Option Expr) (rows : List Row) → length (arguments arg rows) ≤ length rows
arguments_few None rows = omega arith
arguments_few (Some e) rows = let all = length_mapped (num e) rows in omega arith

both_up_to : (n m : ℕ) (x y : Value) → IsUpTo n x → IsUpTo m y → IsUpTo (n + m) (of_both ◌+ℤ◌ x y)
both_up_to n m Null y h k = tt
both_up_to n m (Int x) Null h k = tt
both_up_to n m (Int (pos x)) (Int (pos y)) h k = omega arith
both_up_to n m (Int (pos x)) (Int (negsuc y)) h k = absurd k
both_up_to n m (Int (negsuc x)) (Int y) h k = absurd h
both_up_to n m (Int x) (Text t) h k = absurd k
both_up_to n m (Text t) y h k = absurd h

sum_up_to : (n : ℕ) (x : Value) (xs : List Value) → IsUpTo n x → AllByRecursion (IsUpTo (2 ^ 31)) xs → IsUpTo (n + length xs * 2 ^ 31) (fold (of_both ◌+ℤ◌) x xs)
sum_up_to n x [] h hs = up_to_more n (n + 0 * 2 ^ 31) (omega arith) x h
sum_up_to n x (y ∷ ys) h hs =
    up_to_more ((n + 2 ^ 31) + length ys * 2 ^ 31) (n + suc (length ys) * 2 ^ 31) (omega arith) _
    (sum_up_to (n + 2 ^ 31) (of_both ◌+ℤ◌ x y) ys (both_up_to n (2 ^ 31) x y h hs.0) hs.1)

sums_up_to : (xs : List Value) → length xs ≤ 2 ^ 27 → AllByRecursion (IsUpTo (2 ^ 31)) xs → IsUpTo (2 ^ 58) (sum_or_null xs)
sums_up_to [] few h = tt
sums_up_to (x ∷ xs) few h = up_to_more (0 + suc (length xs) * 2 ^ 31) (2 ^ 58) (omega arith) _ (sum_up_to 0 (Int (pos 0)) (x ∷ xs) (omega arith) h)

abbrev shown_arguments : Option Expr → List Row → List Value
shown_arguments arg rows = present (arguments arg rows)

present_up_to : (arg : Option Expr) (rows : List Row) → IsOverColumn arg → AreUpTo (2 ^ 31) rows → AllByRecursion (IsUpTo (2 ^ 31)) (shown_arguments arg rows)
present_up_to arg rows is h = all_filter (IsUpTo (2 ^ 31)) (λ x. not (is_null x)) (arguments arg rows) (arguments_up_to arg rows is h)

present_few : (arg : Option Expr) (rows : List Row) → length (shown_arguments arg rows) ≤ length rows
present_few arg rows = let some = length_filter (λ x. not (is_null x)) (arguments arg rows) in let all = arguments_few arg rows in omega arith

call_up_to : (f : Func) (arg : Option Expr) (rows : List Row) → length rows ≤ 2 ^ 27 → IsOverColumn arg → AreUpTo (2 ^ 31) rows → IsUpTo (2 ^ 58) (call_value f arg rows)
call_up_to CountAll arg rows few is h = omega arith
call_up_to Count arg rows few is h = let some = present_few arg rows in omega arith
call_up_to Sum arg rows few is h = let some = present_few arg rows in sums_up_to (shown_arguments arg rows) (omega arith) (present_up_to arg rows is h)
call_up_to Min arg rows few is h = up_to_more (2 ^ 31) (2 ^ 58) (omega arith) _ (least_of (IsUpTo (2 ^ 31)) tt (shown_arguments arg rows) (present_up_to arg rows is h))
call_up_to Max arg rows few is h = up_to_more (2 ^ 31) (2 ^ 58) (omega arith) _ (greatest_of (IsUpTo (2 ^ 31)) tt (shown_arguments arg rows) (present_up_to arg rows is h))

-- ---- groups

abbrev pub AreOverColumns : List BlockCall → Type 0
AreOverColumns calls = AllByRecursion (λ c. IsOverColumn c.arg) calls

calls_up_to : (calls : List BlockCall) (rows : List Row) → AreOverColumns calls → length rows ≤ 2 ^ 27 → AreUpTo (2 ^ 31) rows → AllByRecursion (IsUpTo (2 ^ 58)) (map (λ c. call_value c.func c.arg rows) calls)
calls_up_to [] rows over few h = tt
calls_up_to (c ∷ calls) rows over few h = (call_up_to c.func c.arg rows few over.0 h, calls_up_to calls rows over.1 few h)

record IsSmallGroup (g : Row × List Row) : Type 0 where
  key : AllByRecursion (IsUpTo (2 ^ 31)) g.0
  few : length g.1 ≤ 2 ^ 27
  rows : AreUpTo (2 ^ 31) g.1

keys_up_to : (columns : List ℕ) (rows : List Row) → AreUpTo (2 ^ 31) rows → AreUpTo (2 ^ 31) (map (columns_of columns) rows)
keys_up_to columns [] h = tt
keys_up_to columns (row ∷ rows) h = (columns_up_to (2 ^ 31) row columns h.0, keys_up_to columns rows h.1)

parted : (p : Row → Row → Bool) (rows : List Row) → length rows ≤ 2 ^ 27 → AreUpTo (2 ^ 31) rows → (keys : List Row) → AreUpTo (2 ^ 31) keys → AllByRecursion IsSmallGroup (map (λ k. (k, filter (p k) rows)) keys)
parted p rows few h [] ks = tt
parted p rows few h (k ∷ keys) ks =
    let fewer = length_filter (p k) rows in
    (record { key = ks.0; few = omega arith; rows = all_filter (λ row. AllByRecursion (IsUpTo (2 ^ 31)) row) (p k) rows h }, parted p rows few h keys ks.1)

small_groups : (columns : List ℕ) (rows : List Row) → length rows ≤ 2 ^ 27 → AreUpTo (2 ^ 31) rows → AllByRecursion IsSmallGroup (groups columns rows)
small_groups [] rows few h = (record { key = tt; few = few; rows = h }, tt)
small_groups (c ∷ cs) rows few h =
    parted (λ k row. is_eq (row_cmp k (columns_of (c ∷ cs) row))) rows few h (first_of_each row_cmp (map (columns_of (c ∷ cs)) rows))
    (all_first (λ row. AllByRecursion (IsUpTo (2 ^ 31)) row) (map (columns_of (c ∷ cs)) rows) (keys_up_to (c ∷ cs) rows h))

group_row_up_to : (calls : List BlockCall) → AreOverColumns calls → (g : Row × List Row) → IsSmallGroup g → AllByRecursion (IsUpTo (2 ^ 58)) (group_row calls g)
group_row_up_to calls over g s =
    all_append (IsUpTo (2 ^ 58)) g.0 (map (λ c. call_value c.func c.arg g.1) calls)
    (all_weaker (IsUpTo (2 ^ 31)) (IsUpTo (2 ^ 58)) g.0 (up_to_more (2 ^ 31) (2 ^ 58) (omega arith)) s.key)
    (calls_up_to calls g.1 over s.few s.rows)

-- what is asked of groups: that the arguments of their calls are columns
abbrev pub AreGrouped : Option Grouping → Type 0
AreGrouped None = ⊤
AreGrouped (Some g) = AreOverColumns g.calls

item_rows_up_to : (grouping : Option Grouping) (rows : List Row) → AreGrouped grouping → length rows ≤ 2 ^ 27 → AreUpTo (2 ^ 31) rows → AreUpTo (2 ^ 58) (item_rows grouping rows)
item_rows_up_to None rows over few h = rows_up_to_more (2 ^ 31) (2 ^ 58) (omega arith) rows h
item_rows_up_to (Some g) rows over few h =
    all_filter (λ row. AllByRecursion (IsUpTo (2 ^ 58)) row) (all_hold (members_of g.having)) (map (group_row g.calls) (groups g.columns rows))
    (all_over (λ row. AllByRecursion (IsUpTo (2 ^ 58)) row) (group_row g.calls) (groups g.columns rows)
    (all_weaker IsSmallGroup (λ x. AllByRecursion (IsUpTo (2 ^ 58)) (group_row g.calls x)) (groups g.columns rows) (group_row_up_to g.calls over) (small_groups g.columns rows few h)))

-- ---- what is tested

all_inside : (xs : List Value) → AllByRecursion (IsUpTo (2 ^ 58)) xs → AllByRecursion IsInside xs
all_inside xs h = all_weaker (IsUpTo (2 ^ 58)) IsInside xs inside h

items_inside : (items : List Expr) (row : Row) → AllByRecursion IsColumn items → AllByRecursion (IsUpTo (2 ^ 58)) row → AllByRecursion IsInside (map (λ e. num e row) items)
items_inside [] row are h = tt
items_inside (e ∷ es) row are h = (inside (num e row) (item_up_to (2 ^ 58) row e are.0 h), items_inside es row are.1 h)

selected_inside : (items : List Expr) (rows : List Row) → AllByRecursion IsColumn items → AreUpTo (2 ^ 58) rows → AllByRecursion IsInside (flat_map (λ row. row) (selected items rows))
selected_inside items [] are h = tt
selected_inside items (row ∷ rows) are h =
    all_append IsInside (map (λ e. num e row) items) (flat_map (λ row. row) (selected items rows)) (items_inside items row are h.0) (selected_inside items rows are h.1)

sums_inside : (calls : List BlockCall) (p : BlockCall → Bool) (rows : List Row) → AreOverColumns calls → length rows ≤ 2 ^ 27 → AreUpTo (2 ^ 31) rows
    → AllByRecursion IsInside (map (λ c. call_value c.func c.arg rows) (filter p calls))
sums_inside calls p rows over few h =
    all_inside (map (λ c. call_value c.func c.arg rows) (filter p calls)) (calls_up_to (filter p calls) rows (all_filter (λ c. IsOverColumn c.arg) p calls over) few h)

calls_inside : (grouping : Option Grouping) (rows : List Row) → AreGrouped grouping → length rows ≤ 2 ^ 27 → AreUpTo (2 ^ 31) rows → AllByRecursion IsInside (tested_calls grouping rows)
calls_inside None rows over few h = tt
calls_inside (Some g) rows over few h =
    all_append IsInside (flat_map (λ c. arguments c.arg rows) g.calls) _
    (all_flattened IsInside (λ c. arguments c.arg rows) g.calls
    (all_weaker (λ c. IsOverColumn c.arg) (λ c. AllByRecursion IsInside (arguments c.arg rows)) g.calls
    (λ c is. all_weaker (IsUpTo (2 ^ 31)) IsInside (arguments c.arg rows) (λ x k. inside x (up_to_more (2 ^ 31) (2 ^ 58) (omega arith) x k)) (arguments_up_to c.arg rows is h)) over))
    (all_flattened IsInside (λ group. map (λ c. call_value c.func c.arg group.1) (filter (λ c. is_sum c.func) g.calls)) (groups g.columns rows)
    (all_weaker IsSmallGroup (λ group. AllByRecursion IsInside (map (λ c. call_value c.func c.arg group.1) (filter (λ c. is_sum c.func) g.calls))) (groups g.columns rows)
    (λ group s. sums_inside g.calls (λ c. is_sum c.func) group.1 over s.few s.rows) (small_groups g.columns rows few h)))

-- ---- blocks

none_passes : {A : Type 0} (p : A → Bool) (xs : List A) → AllByRecursion (λ x. p x ≡ false) xs → list_any p xs ≡ false
none_passes p [] h = refl
none_passes p (x ∷ xs) h = ap (λ b. b || list_any p xs) h.0 ∙ none_passes p xs h.1

-- sources of few rows with small numbers, and without places and tested values of their own
pub record AreSmallSources (ss : List Source) (kinds : List (List Kind)) : Type 0 where
  pub values : Pairwise (SourceOf Of) ss kinds
  pub few : most 1 ss ≤ 2 ^ 27
  pub no_places : flat_map (λ s. s.answer.places) ss ≡ []
  pub no_tested : flat_map (λ s. s.answer.tested) ss ≡ []

pub block_in_range : (distinct : Bool) (ss : List Source) (kinds : List (List Kind)) (filter : Option Cond) (grouping : Option Grouping) (items : List Expr) → AreSmallSources ss kinds
    → AreGrouped grouping → AllByRecursion IsColumn items → has_range_fault (block_answer distinct ss filter grouping items) ≡ false
block_in_range distinct ss kinds filter grouping items small over are =
    let conds = members_of filter in
    let rows = kept conds ss in
    let few : length rows ≤ 2 ^ 27 = (let all = kept_few conds ss in let bound = small.few in omega arith) in
    let up = kept_up_to conds ss kinds small.values in
    let places : list_any is_crowded (flat_map (λ s. s.answer.places) ss ++ map (λ stage. stage.0) (stages conds ss)) ≡ false =
    none_passes is_crowded _ (subst (λ ps. AllByRecursion IsUncrowded (ps ++ map (λ stage. stage.0) (stages conds ss))) (sym small.no_places)
    (stages_few (widths_of ss) conds 1 ([] ∷ []) ss small.few)) in
    let tested : list_any is_outside (flat_map (λ s. s.answer.tested) ss ++ tested_calls grouping rows ++ flat_map (λ row. row) (selected items (item_rows grouping rows))) ≡ false =
    none_passes is_outside _ (subst (λ ts. AllByRecursion IsInside (ts ++ tested_calls grouping rows ++ flat_map (λ row. row) (selected items (item_rows grouping rows)))) (sym small.no_tested)
    (all_append IsInside (tested_calls grouping rows) (flat_map (λ row. row) (selected items (item_rows grouping rows))) (calls_inside grouping rows over few up)
    (selected_inside items (item_rows grouping rows) are (item_rows_up_to grouping rows over few up)))) in
    ap (λ b. b || list_any is_outside (flat_map (λ s. s.answer.tested) ss ++ tested_calls grouping rows ++ flat_map (λ row. row) (selected items (item_rows grouping rows)))) places ∙ tested

-- ---- how many rows a block lists

first_fewer : (rows : List Row) → length (first_of_each row_cmp rows) ≤ length rows
first_fewer [] = omega arith
first_fewer (row ∷ rows) =
    let fewer = length_filter (λ r. not (is_eq (row_cmp row r))) (first_of_each row_cmp rows) in
    let later = first_fewer rows in
    omega arith

groups_few : (columns : List ℕ) (rows : List Row) → length (groups columns rows) ≤ suc (length rows)
groups_few [] rows = omega arith
groups_few (c ∷ cs) rows =
    let keys = first_of_each row_cmp (map (columns_of (c ∷ cs)) rows) in
    let as_keys : length (groups (c ∷ cs) rows) ≡ length keys = length_mapped {A = Row} {B = Row × List Row} (λ k. (k, filter (λ row. is_eq (row_cmp k (columns_of (c ∷ cs) row))) rows)) keys in
    let once = first_fewer (map (columns_of (c ∷ cs)) rows) in
    let all = length_mapped (columns_of (c ∷ cs)) rows in
    omega arith

item_rows_few : (grouping : Option Grouping) (rows : List Row) → length (item_rows grouping rows) ≤ suc (length rows)
item_rows_few None rows = omega arith
item_rows_few (Some g) rows =
    let kept = length_filter (all_hold (members_of g.having)) (map (group_row g.calls) (groups g.columns rows)) in
    let all = length_mapped (group_row g.calls) (groups g.columns rows) in
    let few = groups_few g.columns rows in
    omega arith

repeats_few : (distinct : Bool) (rows : List Row) → length (without_repeats distinct rows) ≤ length rows
repeats_few true rows = first_fewer rows
repeats_few false rows = omega arith

pub block_lists_few : (distinct : Bool) (ss : List Source) (filter : Option Cond) (grouping : Option Grouping) (items : List Expr) → most 1 ss ≤ 2 ^ 27
    → length (block_answer distinct ss filter grouping items).rows ≤ 2 ^ 28
block_lists_few distinct ss filter grouping items few =
    let rows = item_rows grouping (kept (members_of filter) ss) in
    let all = kept_few (members_of filter) ss in
    let grouped = item_rows_few grouping (kept (members_of filter) ss) in
    let chosen = length_mapped (λ row. map (λ e. num e row) items) rows in
    let once = repeats_few distinct (selected items rows) in
    omega arith
