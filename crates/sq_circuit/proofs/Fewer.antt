-- Operators on one side give no more rows than they read, but for the one row of a global aggregate.
use Rattle.std.proofs.Common.{◌≡◌, zero, suc, ◌≤◌, ◌^◌, Bool, true, false, cond, ◌&&◌, T, List, [], ◌∷◌, map, length, ℤ, pos, negsuc, unsigned_abs, Less, Equal, Greater, refl, arith}
use Rattle.std.specs.List.{list_all}
use Rattle.std.specs.Ordering.{match_ordering}
use Rattle.std.specs.Prelude.{int_lt}
use Rattle.std.proofs.lemmas.List.Sums.{sum_by-cons}
use Rattle.std.proofs.lemmas.List.{length-map}
use borrow.Author.Differences.{ints}
use Rattle.sq_value.specs.Order.{row_cmp}
use Rattle.sq_value.specs.OrderLaws.{row_cmp-total, row_cmp-antisymmetric}
use Rattle.sq_value.specs.declared.value.Value.{Value}
use Rattle.sq_expr.specs.declared.cond.Cond.{Cond}
use Rattle.sq_algebra.specs.Keyed.{keys_of}
use Rattle.sq_algebra.specs.Listed.{in_order, place}
use Rattle.sq_algebra.specs.Operators.{IsNonNegative, distinct, image}
use Rattle.sq_algebra.specs.ZSet.{entries, entries_canonical, is_nonzero}
use Rattle.sq_algebra.proofs.NonNegativeLemmas.{nonnegative-distinct, nonnegative-image, nonnegative-of_list}
use Rattle.sq_algebra.proofs.PairLemmas.{nonzero_from}
use Rattle.sq_algebra.proofs.Weights.{nonzero_weights_from}
use Rattle.sq_zset.specs.Collecting.{mass_of}
use Rattle.sq_zset.proofs.Masses.{mass-from_pairs, mass-image, mass-total}
use Rattle.sq_zset.proofs.Rows.{total-of_list}
use Rattle.sq_ops.specs.Aggregates.{aggregated, group_of, group_row, groups_of, rows_of_group, shown_rows}
use Rattle.sq_ops.specs.Rows.{holds, kept}
use Rattle.sq_ops.specs.declared.aggregate.AggSpec.{AggSpec}
use Rattle.sq_circuit.specs.Invariant.{IsListed}
use Rattle.sq_circuit.specs.Nodes.{Rows}
use Rattle.sq_circuit.proofs.Bounding.{listed_few}

abbrev Pairs : Type 0
Pairs = List (List Value × ℤ)

-- few rows, none with a negative weight
few_listed : (z : Rows) → IsNonNegative z → mass_of (entries z) ≤ 2 ^ 61 → IsListed z
few_listed z above few = record { above = above; few = let same = mass-total z above in omega (arith, ints) }

-- ---- images
pub image_listed : (f : List Value → List (List Value)) → ((row : List Value) → length (f row) ≤ 1) → (y : Rows) → IsListed y → IsListed (image row_cmp f y)
image_listed f few y h =
    few_listed (image row_cmp f y) (nonnegative-image row_cmp row_cmp-total row_cmp-antisymmetric row_cmp row_cmp-total row_cmp-antisymmetric f y h.above)
    (let less = mass-image f few y in let before = listed_few y h in omega arith)

pub kept_few : (c : Cond) (row : List Value) → length (kept c row) ≤ 1
kept_few c row = elim (holds c row) as (λ b. length (cond b (row ∷ []) []) ≤ 1) [ true ↦ omega arith | false ↦ omega arith ]

-- ---- rows once each
above_zero : (n : ℤ) → int_lt (pos 0) n ≡ true → 1 ≤ unsigned_abs n
above_zero (pos zero) e = absurd (cc e)
above_zero (pos (suc n)) e = omega arith
above_zero (negsuc n) e = absurd (cc e)

once : (n : ℤ) → unsigned_abs (cond (int_lt (pos 0) n) (pos 1) (pos 0)) ≤ unsigned_abs n
once n = elim (int_lt (pos 0) n) as (λ b. int_lt (pos 0) n ≡ b → unsigned_abs (cond b (pos 1) (pos 0)) ≤ unsigned_abs n) [ true ↦ λ e. let high = above_zero n e in omega arith | false ↦ λ e. omega arith ] refl

once_weigh : (es : Pairs) → mass_of (map (λ e. (e.0, cond (int_lt (pos 0) e.1) (pos 1) (pos 0))) es) ≤ mass_of es
once_weigh [] = omega arith
once_weigh (e ∷ es) =
    let now = sum_by-cons (λ (d : List Value × ℤ). unsigned_abs d.1) (e.0, cond (int_lt (pos 0) e.1) (pos 1) (pos 0)) (map (λ d. (d.0, cond (int_lt (pos 0) d.1) (pos 1) (pos 0))) es) in
    let before = sum_by-cons (λ (d : List Value × ℤ). unsigned_abs d.1) e es in
    let here = once e.1 in
    let rest = once_weigh es in
    omega arith

pub distinct_mass : (y : Rows) → mass_of (entries (distinct y)) ≤ mass_of (entries y)
unfolding distinct
distinct_mass y = let made = mass-from_pairs (map (λ e. (e.0, cond (int_lt (pos 0) e.1) (pos 1) (pos 0))) (entries y)) in let less = once_weigh (entries y) in omega arith

pub distinct_listed : (y : Rows) → IsListed y → IsListed (distinct y)
distinct_listed y h = few_listed (distinct y) (nonnegative-distinct row_cmp row_cmp-total y) (let less = distinct_mass y in let before = listed_few y h in omega arith)

-- ---- groups
both : (a b : Bool) → T (a && b) → T a × T b
both true b h = (tt, h)
both false b h = absurd h

weighs : (n : ℤ) → T (is_nonzero n) → 1 ≤ unsigned_abs n
weighs (pos zero) h = absurd (nonzero_from (pos 0) h refl)
weighs (pos (suc n)) h = omega arith
weighs (negsuc n) h = omega arith

-- each row has a weight
rows_weigh : (es : Pairs) → T (list_all (λ e. is_nonzero e.1) es) → length es ≤ mass_of es
rows_weigh [] h = omega arith
rows_weigh (e ∷ es) h =
    let whole = sum_by-cons (λ (d : List Value × ℤ). unsigned_abs d.1) e es in
    let here = weighs e.1 (both (is_nonzero e.1) (list_all (λ d. is_nonzero d.1) es) h).0 in
    let rest = rows_weigh es (both (is_nonzero e.1) (list_all (λ d. is_nonzero d.1) es) h).1 in
    omega arith

placed_once : (x : List Value) (xs : List (List Value)) → length (place row_cmp x xs) ≤ suc (length xs)
placed_once x [] = omega arith
placed_once x (y ∷ xs) =
    let later = placed_once x xs in
    elim (row_cmp x y) as (λ r. length (match_ordering r (x ∷ y ∷ xs) (y ∷ xs) (y ∷ place row_cmp x xs)) ≤ suc (suc (length xs))) [ Less ↦ omega arith | Equal ↦ omega arith | Greater ↦ omega arith ]

ordered_once : (xs : List (List Value)) → length (in_order row_cmp xs) ≤ length xs
ordered_once [] = omega arith
ordered_once (x ∷ xs) = let here = placed_once x (in_order row_cmp xs) in let rest = ordered_once xs in omega arith

keys_few : (key : List Value → List Value) (y : Rows) → length (keys_of row_cmp key y) ≤ mass_of (entries y)
unfolding keys_of
keys_few key y =
    let ordered = ordered_once (map (λ e. key e.0) (entries y)) in
    let same = length-map (entries y) (λ e. key e.0) in
    let rows = rows_weigh (entries y) (nonzero_weights_from row_cmp (entries y) (entries_canonical y)) in
    omega arith

groups_few : (spec : AggSpec) (y : Rows) → IsListed y → length (groups_of spec y) ≤ 2 ^ 61
groups_few spec y h =
    let keys = keys_few (group_of spec) y in
    let before = listed_few y h in
    elim (spec.global) as (λ b. length (cond b ([] ∷ []) (keys_of row_cmp (group_of spec) y)) ≤ 2 ^ 61) [ true ↦ omega arith | false ↦ omega arith ]

pub aggregated_listed : (spec : AggSpec) (y : Rows) → IsListed y → IsListed (aggregated spec y)
aggregated_listed spec y h = record {
  above = nonnegative-of_list row_cmp row_cmp-total (shown_rows spec y);
  few = let many = total-of_list (shown_rows spec y) in let same = length-map (groups_of spec y) (λ c. group_row spec.calls c (rows_of_group spec y c)) in let groups = groups_few spec y h in omega (arith, ints);
}
