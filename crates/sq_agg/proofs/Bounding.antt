-- The first number of an accumulator that lies outside its range, and when it is zero.
use Rattle.std.proofs.Common.{◌≡◌, ◌↔◌, ℕ, suc, List, [], ◌∷◌, Bool, true, false, cond, ◌&&◌, T, ℤ, pos, Some, None, Option, int_eq, ◌+ℤ◌, refl, sym, ap, ap₂, ◌∙◌, arith, Ordering, Less, Equal, Greater, is_lt}
use Rattle.std.specs.Cmp.{nat_cmp_total}
use Rattle.std.specs.List.{AllByRecursion, list_all}
use Rattle.std.specs.Option.{option_or}
use Rattle.std.specs.Ordering.{match_ordering, nat_cmp}
use Rattle.std.proofs.lemmas.Bool.{le-leb, lt-ltb}
use Rattle.sq_algebra.specs.Listed.{is_below_all}
use Rattle.sq_algebra.specs.ZSet.{add, collect, entries, entries-zero, in_front, keys, same_entries, zero as no_places}
use Rattle.sq_algebra.proofs.PairLemmas.{zero_from}
use Rattle.sq_algebra.proofs.Weights.{entries-from_pairs, is_below_all-add}
use Rattle.sq_agg.specs.declared.tally.Tally.{Tally}
use Rattle.sq_agg.specs.Accumulators.{accumulator, count_place, first_number_in, first_number_outside, is_count_in_range, is_number_in_range, is_sum_in_range, is_sum_place, sum_place, tallied}
use Rattle.sq_agg.specs.Tallies.{AreWithin, IsWithin, first_of_tallies, first_of_tally, is_no_tally}
use Rattle.sq_agg.proofs.PlaceOrder.{below_place, below_tallied, holds_count, holds_sum, passing}

first : (a b : Bool) → T (a && b) → T a
first true b h = tt
first false b h = h

second : (a b : Bool) → T (a && b) → T b
second true b h = h
second false b h = absurd h

less : (r : Ordering) → T (is_lt r) → r ≡ Less
less Less h = refl
less Equal h = absurd h
less Greater h = absurd h

-- ---- places that ascend are collected as they stand, but for those of 0
below_collect : (j : ℕ) (ps : List (ℕ × ℤ)) → T (is_below_all nat_cmp j (keys ps)) → T (is_below_all nat_cmp j (keys (collect nat_cmp ps)))
below_collect j [] h = tt
below_collect j (p ∷ ps) h = is_below_all-add nat_cmp j p.0 p.1 (collect nat_cmp ps) (first (is_lt (nat_cmp j p.0)) (is_below_all nat_cmp j (keys ps)) h) (below_collect j ps (second (is_lt (nat_cmp j p.0)) (is_below_all nat_cmp j (keys ps)) h))

add_below : (k : ℕ) (n : ℤ) (qs : List (ℕ × ℤ)) → T (is_below_all nat_cmp k (keys qs)) → add nat_cmp k n qs ≡ in_front k n qs
add_below k n [] h = refl
add_below k n (q ∷ qs) h = ap (λ r. match_ordering r (in_front k n (q ∷ qs)) (in_front q.0 (n +ℤ q.1) qs) (q ∷ add nat_cmp k n qs)) (less (nat_cmp k q.0) (first (is_lt (nat_cmp k q.0)) (is_below_all nat_cmp k (keys qs)) h))

collect_first : (k : ℕ) (n : ℤ) (ps : List (ℕ × ℤ)) → T (is_below_all nat_cmp k (keys ps)) → collect nat_cmp ((k, n) ∷ ps) ≡ in_front k n (collect nat_cmp ps)
collect_first k n ps h = add_below k n (collect nat_cmp ps) (below_collect k ps h)

module _ (i : ℕ) (t : Tally) (ts : List Tally) where
  -- the places of one call stand in front of those of later ones
  collect_call : collect nat_cmp (tallied i (t ∷ ts)) ≡ in_front (count_place i) t.count (in_front (sum_place i) t.sum (collect nat_cmp (tallied (suc i) ts)))
  collect_call =
      collect_first (count_place i) t.count ((sum_place i, t.sum) ∷ tallied (suc i) ts)
      (passing (is_lt (nat_cmp (count_place i) (sum_place i))) (is_below_all nat_cmp (count_place i) (keys (tallied (suc i) ts))) (below_place (count_place i) (sum_place i) (omega arith)) (below_tallied (count_place i) (suc i) ts (omega arith)))
      ∙ ap (in_front (count_place i) t.count) (collect_first (sum_place i) t.sum (tallied (suc i) ts) (below_tallied (sum_place i) (suc i) ts (omega arith)))

module _ (rows : ℤ) (ts : List Tally) where
  entries_of : entries (accumulator rows ts) ≡ in_front 0 rows (collect nat_cmp (tallied 0 ts))
  entries_of = entries-from_pairs nat_cmp nat_cmp_total ((0, rows) ∷ tallied 0 ts) ∙ collect_first 0 rows (tallied 0 ts) (below_tallied 0 0 ts (omega arith))

-- ---- the first number outside its range
zero_in_range : (k : ℕ) → is_number_in_range k (pos 0) ≡ true
zero_in_range k = elim (is_sum_place k) as (λ b. cond b (is_sum_in_range (pos 0)) (is_count_in_range (pos 0)) ≡ true) [ true ↦ refl | false ↦ refl ]

first_in_front : (k : ℕ) (n : ℤ) (ps : List (ℕ × ℤ)) → first_number_in (in_front k n ps) ≡ cond (is_number_in_range k n) (first_number_in ps) (Some n)
first_in_front k n ps =
    elim (int_eq n (pos 0)) as (λ b. int_eq n (pos 0) ≡ b → first_number_in (cond b ps ((k, n) ∷ ps)) ≡ cond (is_number_in_range k n) (first_number_in ps) (Some n)) [
      | true ↦ λ e. sym (ap (λ b. cond b (first_number_in ps) (Some n)) (ap (is_number_in_range k) (zero_from n e) ∙ zero_in_range k))
      | false ↦ λ e. refl
    ] refl

count_range : (i : ℕ) (n : ℤ) → is_number_in_range (count_place i) n ≡ is_count_in_range n
count_range i n = ap (λ b. cond b (is_sum_in_range n) (is_count_in_range n)) (holds_count i)

sum_range : (i : ℕ) (n : ℤ) → is_number_in_range (sum_place i) n ≡ is_sum_in_range n
sum_range i n = ap (λ b. cond b (is_sum_in_range n) (is_count_in_range n)) (holds_sum i)

first_in_both : (b c : Bool) (m n : ℤ) (o : Option ℤ) → cond b (cond c o (Some n)) (Some m) ≡ option_or (cond b (cond c None (Some n)) (Some m)) o
first_in_both true true m n o = refl
first_in_both true false m n o = refl
first_in_both false c m n o = refl

first_in_tallied : (i : ℕ) (ts : List Tally) → first_number_in (collect nat_cmp (tallied i ts)) ≡ first_of_tallies ts
first_in_tallied i [] = refl
first_in_tallied i (t ∷ ts) =
    ap first_number_in (collect_call i t ts)
    ∙ first_in_front (count_place i) t.count (in_front (sum_place i) t.sum (collect nat_cmp (tallied (suc i) ts)))
    ∙ ap (λ o. cond (is_number_in_range (count_place i) t.count) o (Some t.count)) (first_in_front (sum_place i) t.sum (collect nat_cmp (tallied (suc i) ts)))
    ∙ ap₂ (λ b c. cond b (cond c (first_number_in (collect nat_cmp (tallied (suc i) ts))) (Some t.sum)) (Some t.count)) (count_range i t.count) (sum_range i t.sum)
    ∙ first_in_both (is_count_in_range t.count) (is_sum_in_range t.sum) t.count t.sum (first_number_in (collect nat_cmp (tallied (suc i) ts)))
    ∙ ap (option_or (first_of_tally t)) (first_in_tallied (suc i) ts)

pub first_outside_is : (rows : ℤ) (ts : List Tally) → first_number_outside (accumulator rows ts) ≡ cond (is_count_in_range rows) (first_of_tallies ts) (Some rows)
first_outside_is rows ts =
    ap first_number_in (entries_of rows ts) ∙ first_in_front 0 rows (collect nat_cmp (tallied 0 ts))
    ∙ ap (λ o. cond (is_count_in_range rows) o (Some rows)) (first_in_tallied 0 ts)

-- ---- numbers in their ranges
pub none_of_tally : (t : Tally) → IsWithin t → first_of_tally t ≡ None
none_of_tally t h = ap₂ (λ b c. cond b (cond c None (Some t.sum)) (Some t.count)) (le-leb _ _ h.count) (lt-ltb _ _ h.sum)

pub none_of_tallies : (ts : List Tally) → AllByRecursion IsWithin ts → first_of_tallies ts ≡ None
none_of_tallies [] h = refl
none_of_tallies (t ∷ ts) h = ap₂ option_or (none_of_tally t h.0) (none_of_tallies ts h.1)

pub none_outside : (rows : ℤ) (ts : List Tally) → AreWithin rows ts → first_number_outside (accumulator rows ts) ≡ None
none_outside rows ts h = first_outside_is rows ts ∙ ap₂ (λ b o. cond b o (Some rows)) (le-leb _ _ h.rows) (none_of_tallies ts h.tallies)

pub rows_outside : (rows : ℤ) (ts : List Tally) → is_count_in_range rows ≡ false → first_number_outside (accumulator rows ts) ≡ Some rows
rows_outside rows ts e = first_outside_is rows ts ∙ ap (λ b. cond b (first_of_tallies ts) (Some rows)) e

pub tally_outside : (rows : ℤ) (ts : List Tally) (n : ℤ) → is_count_in_range rows ≡ true → first_of_tallies ts ≡ Some n → first_number_outside (accumulator rows ts) ≡ Some n
tally_outside rows ts n e f = first_outside_is rows ts ∙ ap₂ (λ b o. cond b o (Some rows)) e f

-- ---- zero
nothing_in_front : (k : ℕ) (n : ℤ) (ps : List (ℕ × ℤ)) → in_front k n ps ≡ [] → (int_eq n (pos 0) ≡ true) × (ps ≡ [])
nothing_in_front k n ps =
    elim (int_eq n (pos 0)) as (λ b. cond b ps ((k, n) ∷ ps) ≡ [] → (b ≡ true) × (ps ≡ [])) [
      | true ↦ λ e. (refl, e)
      | false ↦ λ e. absurd (cc e)
    ]

both_pass : (a b c : Bool) → a ≡ true → b ≡ true → c ≡ true → ((a && b) && c) ≡ true
both_pass a b c e f g = ap₂ (λ x y. (x && y) && c) e f ∙ g

no_tallies : (i : ℕ) (ts : List Tally) → collect nat_cmp (tallied i ts) ≡ [] → list_all is_no_tally ts ≡ true
no_tallies i [] e = refl
no_tallies i (t ∷ ts) e =
    let counts = nothing_in_front (count_place i) t.count (in_front (sum_place i) t.sum (collect nat_cmp (tallied (suc i) ts))) (sym (collect_call i t ts) ∙ e) in
    let sums = nothing_in_front (sum_place i) t.sum (collect nat_cmp (tallied (suc i) ts)) counts.1 in
    both_pass (int_eq t.count (pos 0)) (int_eq t.sum (pos 0)) (list_all is_no_tally ts) counts.0 sums.0 (no_tallies (suc i) ts sums.1)

left_true : (a b : Bool) → (a && b) ≡ true → a ≡ true
left_true true b h = refl
left_true false b h = absurd (cc h)

right_true : (a b : Bool) → (a && b) ≡ true → b ≡ true
right_true true b h = h
right_true false b h = absurd (cc h)

collect_none : (i : ℕ) (ts : List Tally) → list_all is_no_tally ts ≡ true → collect nat_cmp (tallied i ts) ≡ []
collect_none i [] e = refl
collect_none i (t ∷ ts) e =
    let one = left_true (is_no_tally t) (list_all is_no_tally ts) e in
    collect_call i t ts
    ∙ ap (λ b. cond b (in_front (sum_place i) t.sum (collect nat_cmp (tallied (suc i) ts))) ((count_place i, t.count) ∷ in_front (sum_place i) t.sum (collect nat_cmp (tallied (suc i) ts)))) (left_true (int_eq t.count (pos 0)) (int_eq t.sum (pos 0)) one)
    ∙ ap (λ b. cond b (collect nat_cmp (tallied (suc i) ts)) ((sum_place i, t.sum) ∷ collect nat_cmp (tallied (suc i) ts))) (right_true (int_eq t.count (pos 0)) (int_eq t.sum (pos 0)) one)
    ∙ collect_none (suc i) ts (right_true (is_no_tally t) (list_all is_no_tally ts) e)

pub zero_where : (rows : ℤ) (ts : List Tally) → (int_eq rows (pos 0) && list_all is_no_tally ts ≡ true) ↔ (accumulator rows ts ≡ no_places nat_cmp)
zero_where rows ts = (there, back)
  where
    there : int_eq rows (pos 0) && list_all is_no_tally ts ≡ true → accumulator rows ts ≡ no_places nat_cmp
    there e = same_entries (accumulator rows ts) (no_places nat_cmp)
        (entries_of rows ts
        ∙ ap (λ b. cond b (collect nat_cmp (tallied 0 ts)) ((0, rows) ∷ collect nat_cmp (tallied 0 ts))) (left_true (int_eq rows (pos 0)) (list_all is_no_tally ts) e)
        ∙ collect_none 0 ts (right_true (int_eq rows (pos 0)) (list_all is_no_tally ts) e) ∙ sym (entries-zero nat_cmp))

    back : accumulator rows ts ≡ no_places nat_cmp → int_eq rows (pos 0) && list_all is_no_tally ts ≡ true
    back e =
        let parts = nothing_in_front 0 rows (collect nat_cmp (tallied 0 ts)) (sym (entries_of rows ts) ∙ ap entries e ∙ entries-zero nat_cmp) in
        ap₂ (λ a b. a && b) parts.0 (no_tallies 0 ts parts.1)
