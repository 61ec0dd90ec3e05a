-- A list of rows as pairs of weight 1, and the weights of its Z-set.
use Rattle.std.proofs.Common.{◌≡◌, suc, ◌+◌, ◌≤◌, List, [], ◌∷◌, true, cond, not, ℤ, pos, None, Some, length, ◌^◌, get_or, refl, sym, ap, ◌∙◌, arith, is_eq, unsigned_abs, sum_by}
use Rattle.std.specs.List.{All}
use Rattle.std.proofs.lemmas.List.Sums.{count_by-le-length, sum_by-cons}
use Rattle.std.proofs.lemmas.Bool.{le-leb}
use Rattle.sq_value.specs.declared.value.Value.{Value}
use Rattle.sq_value.specs.Order.{row_cmp}
use Rattle.sq_value.specs.OrderLaws.{row_cmp-total}
use Rattle.sq_algebra.specs.Listed.{count}
use Rattle.sq_algebra.specs.Operators.{weighing}
use Rattle.sq_algebra.specs.ZSet.{entries, from_pairs, of_list}
use Rattle.sq_algebra.proofs.LinearLemmas.{entry_weight}
use Rattle.sq_algebra.proofs.Weights.{entries-from_pairs, weight-of_list}
use Rattle.sq_zset.specs.declared.pair.Pair.{Pair}
use Rattle.sq_zset.specs.Pairs.{mass, weighted_rows}
use Rattle.sq_zset.proofs.Entries.{Holds, holds_entries}
use Rattle.sq_zset.specs.Range.{first_outside, first_outside_in, is_in_range, IsInRange}

-- pairs of weight 1 weigh as much as there are rows
masses : (pairs : List Pair) → mass pairs ≡ sum_by (λ (e : List Value × ℤ). unsigned_abs e.1) (weighted_rows pairs)
masses [] = refl
masses (p ∷ pairs) =
    sum_by-cons (λ (q : Pair). unsigned_abs q.weight) p pairs ∙ ap (λ n. unsigned_abs p.weight + n) (masses pairs)
    ∙ sym (sum_by-cons (λ (e : List Value × ℤ). unsigned_abs e.1) (p.row, p.weight) (weighted_rows pairs))

ones : (rows : List (List Value)) → sum_by (λ (e : List Value × ℤ). unsigned_abs e.1) (weighing (pos 1) rows) ≡ length rows
ones [] = refl
ones (row ∷ rows) = let rest = ones rows in let first = sum_by-cons (λ (e : List Value × ℤ). unsigned_abs e.1) (row, pos 1) (weighing (pos 1) rows) in omega arith

pub ones_weigh : (pairs : List Pair) (rows : List (List Value)) → weighted_rows pairs ≡ weighing (pos 1) rows → mass pairs ≡ length rows
ones_weigh pairs rows e = masses pairs ∙ ap (λ es. sum_by (λ (e : List Value × ℤ). unsigned_abs e.1) es) e ∙ ones rows

pub few_weigh : (pairs : List Pair) (rows : List (List Value)) → weighted_rows pairs ≡ weighing (pos 1) rows → length rows ≤ 2 ^ 62 → mass pairs ≤ 2 ^ 126
few_weigh pairs rows e few = let weighs = ones_weigh pairs rows e in omega arith

-- weights that all lie in the range
pub all_in_range : (es : List (List Value × ℤ)) → All (λ e. is_in_range e.1 ≡ true) es → first_outside_in es ≡ None
all_in_range [] h = refl
all_in_range (e ∷ es) h = ap (λ b. cond (not b) (Some e.1) (first_outside_in es)) (h 0 e (omega arith)) ∙ all_in_range es (λ i d low. h (suc i) d (omega arith))

-- no row of a list of at most 2^62 rows has a weight outside
pub counts_in_range : (rows : List (List Value)) → length rows ≤ 2 ^ 62 → IsInRange (of_list row_cmp rows)
counts_in_range rows few = all_in_range (entries (of_list row_cmp rows)) (λ i d low.
    let row : List Value = (get_or (entries (of_list row_cmp rows)) i d).0 in
    let weighs : (get_or (entries (of_list row_cmp rows)) i d).1 ≡ pos (count row_cmp row rows) = sym (entry_weight row_cmp row_cmp-total (of_list row_cmp rows) i d low) ∙ weight-of_list row_cmp row_cmp-total row rows in
    let fits : count row_cmp row rows ≤ 2 ^ 62 = omega (arith, count_by-le-length (λ x. is_eq (row_cmp row x)) rows, few) in
    ap is_in_range weighs ∙ le-leb _ _ fits)

pub of_counted : (rows : List (List Value)) (pairs : List Pair) → weighted_rows pairs ≡ weighing (pos 1) rows → from_pairs row_cmp (weighted_rows pairs) ≡ of_list row_cmp rows
unfolding of_list
of_counted rows pairs counted = ap (from_pairs row_cmp) counted

-- so no count is a sum outside
pub never_outside : (rows : List (List Value)) (pairs : List Pair) (sum : ℤ) → weighted_rows pairs ≡ weighing (pos 1) rows → length rows ≤ 2 ^ 62 → first_outside (from_pairs row_cmp (weighted_rows pairs)) ≡ Some sum → ⊥
never_outside rows pairs sum counted few outside = let inside = ap first_outside (of_counted rows pairs counted) ∙ counts_in_range rows few in absurd (cc (inside, outside))

-- the Z-set of one row has one entry
pub one_entry : (row : List Value) → entries (of_list row_cmp (row ∷ [])) ≡ (row, pos 1) ∷ []
unfolding of_list
one_entry row = entries-from_pairs row_cmp row_cmp-total ((row, pos 1) ∷ [])

pub one_held : (row : List Value) (es : List (List Value × ℤ)) → es ≡ (row, pos 1) ∷ [] → Holds es (of_list row_cmp (row ∷ []))
one_held row es is = holds_entries es (of_list row_cmp (row ∷ [])) (is ∙ sym (one_entry row)) (ap first_outside_in is)
