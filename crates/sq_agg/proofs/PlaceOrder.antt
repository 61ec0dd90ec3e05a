-- The order of the places of an accumulator, and what stands at each.
use Rattle.std.proofs.Common.{◌≡◌, ℕ, zero, suc, ◌+◌, ◌<◌, List, [], ◌∷◌, Bool, true, false, cond, ◌==◌, ◌&&◌, T, ℤ, pos, refl, sym, ap, subst, ◌∙◌, arith, Less, Equal, Greater, is_eq, is_lt}
use Rattle.std.specs.Cmp.{nat_cmp_total, tied_itself}
use Rattle.std.specs.Ordering.{nat_cmp}
use Rattle.std.proofs.lemmas.Bool.{lt-ltb}
use Rattle.std.proofs.lemmas.Bool.Decides.{nat_tests}
use borrow.Author.Differences.{ints}
use Rattle.sq_algebra.specs.Listed.{is_below_all}
use Rattle.sq_algebra.specs.ZSet.{keys, weight, weight_in}
use Rattle.sq_algebra.proofs.ShardLemmas.{same_number}
use Rattle.sq_algebra.proofs.Weights.{weight-from_pairs, weight_in_none}
use Rattle.sq_agg.specs.declared.tally.Tally.{Tally}
use Rattle.sq_agg.specs.Accumulators.{accumulator, count_place, is_sum_place, sum_place, tallied}
use Rattle.sq_agg.specs.Tallies.{tally_or_none}

-- ---- places
pub count_place_is : (i : ℕ) → count_place i ≡ suc (i + i)
count_place_is zero = refl
count_place_is (suc i) = let rest = count_place_is i in omega arith

pub holds_count : (i : ℕ) → is_sum_place (count_place i) ≡ false
holds_count zero = refl
holds_count (suc i) = next (count_place i) (count_place_is i) (holds_count i)
  where
    next : (k : ℕ) → k ≡ suc (i + i) → is_sum_place k ≡ false → is_sum_place (suc (suc k)) ≡ false
    next zero e h = absurd (omega arith)
    next (suc k) e h = h

pub holds_sum : (i : ℕ) → is_sum_place (sum_place i) ≡ true
holds_sum zero = refl
holds_sum (suc i) = holds_sum i

-- two tests that both pass
pub passing : (a b : Bool) → T a → T b → T (a && b)
passing true b h k = k
passing false b h k = absurd h

less_cmp : (j k : ℕ) → j < k → nat_cmp j k ≡ Less
less_cmp j k h = ap (λ b. cond b Less (cond (j == k) Equal Greater)) (lt-ltb j k h)

pub below_place : (j k : ℕ) → j < k → T (is_lt (nat_cmp j k))
below_place j k h = subst (λ r. T (is_lt r)) (sym (less_cmp j k h)) tt

apart : (j k : ℕ) → k < j → is_eq (nat_cmp j k) ≡ false
apart j k h = same_number j k ∙ differs j k h
  where
    differs : (j k : ℕ) → k < j → (j == k) ≡ false
    differs j k h = grind (arith, nat_tests)

apart_below : (j k : ℕ) → j < k → is_eq (nat_cmp j k) ≡ false
apart_below j k h = ap is_eq (less_cmp j k h)

here : (k : ℕ) → is_eq (nat_cmp k k) ≡ true
here k = ap is_eq (tied_itself nat_cmp_total k)

-- what is below the places of a list's calls
pub below_tallied : (j i : ℕ) (ts : List Tally) → j < count_place i → T (is_below_all nat_cmp j (keys (tallied i ts)))
below_tallied j i [] h = tt
below_tallied j i (t ∷ ts) h =
    passing (is_lt (nat_cmp j (count_place i))) (is_lt (nat_cmp j (sum_place i)) && is_below_all nat_cmp j (keys (tallied (suc i) ts))) (below_place j (count_place i) h)
    (passing (is_lt (nat_cmp j (sum_place i))) (is_below_all nat_cmp j (keys (tallied (suc i) ts))) (below_place j (sum_place i) (omega arith)) (below_tallied j (suc i) ts (omega arith)))

-- ---- the weights of places
module _ (i : ℕ) (t : Tally) (ts : List Tally) where
  at_count : weight_in nat_cmp (count_place i) (tallied i (t ∷ ts)) ≡ t.count
  at_count =
      let first = ap (λ b. cond b t.count (pos 0)) (here (count_place i)) in
      let second = ap (λ b. cond b t.sum (pos 0)) (apart_below (count_place i) (sum_place i) (omega arith)) in
      let rest = weight_in_none nat_cmp nat_cmp_total (count_place i) (tallied (suc i) ts) (below_tallied (count_place i) (suc i) ts (omega arith)) in
      omega (arith, ints)

  at_sum : weight_in nat_cmp (sum_place i) (tallied i (t ∷ ts)) ≡ t.sum
  at_sum =
      let first = ap (λ b. cond b t.count (pos 0)) (apart (sum_place i) (count_place i) (omega arith)) in
      let second = ap (λ b. cond b t.sum (pos 0)) (here (sum_place i)) in
      let rest = weight_in_none nat_cmp nat_cmp_total (sum_place i) (tallied (suc i) ts) (below_tallied (sum_place i) (suc i) ts (omega arith)) in
      omega (arith, ints)

  at_later : (k : ℕ) → sum_place i < k → weight_in nat_cmp k (tallied i (t ∷ ts)) ≡ weight_in nat_cmp k (tallied (suc i) ts)
  at_later k h =
      let first = ap (λ b. cond b t.count (pos 0)) (apart k (count_place i) (omega arith)) in
      let second = ap (λ b. cond b t.sum (pos 0)) (apart k (sum_place i) h) in
      omega (arith, ints)

no_more : (i : ℕ) → 0 + i ≡ i
no_more i = omega arith

later : (n i : ℕ) → count_place (n + suc i) ≡ count_place (suc n + i)
later n i = ap count_place (omega arith)

beyond : (n i : ℕ) → sum_place i < count_place (suc n + i)
beyond n i = let e = count_place_is (suc n + i) in let f = count_place_is i in omega arith

counts_from : (n i : ℕ) (ts : List Tally) → weight_in nat_cmp (count_place (n + i)) (tallied i ts) ≡ (tally_or_none n ts).count
counts_from n i [] = refl
counts_from zero i (t ∷ ts) = ap (λ k. weight_in nat_cmp (count_place k) (tallied i (t ∷ ts))) (no_more i) ∙ at_count i t ts
counts_from (suc n) i (t ∷ ts) =
    at_later i t ts (count_place (suc n + i)) (beyond n i)
    ∙ ap (λ k. weight_in nat_cmp k (tallied (suc i) ts)) (sym (later n i)) ∙ counts_from n (suc i) ts

sums_from : (n i : ℕ) (ts : List Tally) → weight_in nat_cmp (sum_place (n + i)) (tallied i ts) ≡ (tally_or_none n ts).sum
sums_from n i [] = refl
sums_from zero i (t ∷ ts) = ap (λ k. weight_in nat_cmp (sum_place k) (tallied i (t ∷ ts))) (no_more i) ∙ at_sum i t ts
sums_from (suc n) i (t ∷ ts) =
    at_later i t ts (sum_place (suc n + i)) (let low = beyond n i in omega arith)
    ∙ ap (λ k. weight_in nat_cmp (suc k) (tallied (suc i) ts)) (sym (later n i)) ∙ sums_from n (suc i) ts

module _ (rows : ℤ) (ts : List Tally) where
  pub weight_of_rows : weight 0 (accumulator rows ts) ≡ rows
  weight_of_rows =
      let whole = weight-from_pairs nat_cmp nat_cmp_total 0 ((0, rows) ∷ tallied 0 ts) in
      let rest = weight_in_none nat_cmp nat_cmp_total 0 (tallied 0 ts) (below_tallied 0 0 ts (omega arith)) in
      omega (arith, ints)

  not_rows : (k : ℕ) → 0 < k → weight k (accumulator rows ts) ≡ weight_in nat_cmp k (tallied 0 ts)
  not_rows k h =
      let whole = weight-from_pairs nat_cmp nat_cmp_total k ((0, rows) ∷ tallied 0 ts) in
      let first = ap (λ b. cond b rows (pos 0)) (apart k 0 h) in
      omega (arith, ints)

  pub weight_of_count : (i : ℕ) → weight (count_place i) (accumulator rows ts) ≡ (tally_or_none i ts).count
  weight_of_count i =
      not_rows (count_place i) (let e = count_place_is i in omega arith)
      ∙ ap (λ k. weight_in nat_cmp (count_place k) (tallied 0 ts)) (none_more i) ∙ counts_from i 0 ts
    where
      none_more : (i : ℕ) → i ≡ i + 0
      none_more i = omega arith

  pub weight_of_sum : (i : ℕ) → weight (sum_place i) (accumulator rows ts) ≡ (tally_or_none i ts).sum
  weight_of_sum i =
      not_rows (sum_place i) (omega arith)
      ∙ ap (λ k. weight_in nat_cmp (sum_place k) (tallied 0 ts)) (none_more i) ∙ sums_from i 0 ts
    where
      none_more : (i : ℕ) → i ≡ i + 0
      none_more i = omega arith
