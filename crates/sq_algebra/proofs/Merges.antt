-- How canonical lists are built and subtracted entry by entry, as a merge and a collection do it.
use Rattle.std.proofs.Common.{◌≡◌, List, [], ◌∷◌, ◌++◌, true, false, cond, ◌&&◌, not, T, ℤ, pos, ◌+ℤ◌, ◌-ℤ◌, neg_ℤ, IsPermutation, refl, sym, ap, subst, ◌∙◌, arith, int_eq, Ordering, Less, Equal, Greater, is_lt, is_eq}
use Rattle.std.specs.Ordering.{match_ordering}
use Rattle.std.specs.List.{list_all}
use Rattle.std.specs.Cmp.{IsTotalOrder}
use Rattle.std.specs.FinMap.{IsAntisymmetric}
use Rattle.std.proofs.lemmas.Cmp.{tied_back}
use Rattle.std.proofs.lemmas.List.Sorted.{IsPermutation-middle}
use borrow.Author.Differences.{ints}
use Rattle.sq_algebra.specs.Listed.{is_below_all, is_ascending}
use Rattle.sq_algebra.specs.ZSet.{keys, is_nonzero, is_canonical, in_front, add, collect, negated, difference, ZSet, entries, entries_canonical, plus, negate, minus}
use Rattle.sq_algebra.proofs.Tests.{both, first, second}
use Rattle.sq_algebra.proofs.Sums.{int_sum_by-IsPermutation}
use Rattle.sq_algebra.proofs.Lists.{below_tied}
use Rattle.sq_algebra.proofs.Weights.{FrontOf, front_of, nonzero_T, nonzero_from, canonical_from, ascending_from, nonzero_weights_from, is_below_all-add, is_canonical-collect, weight_in-collect, same_lists, entries-from_pairs}

pub nonzero-neg : (n : ℤ) → T (is_nonzero n) → T (is_nonzero (neg_ℤ n))
nonzero-neg n h = nonzero_T (neg_ℤ n) (λ e. nonzero_from n h (omega (arith, ints)))

module _ {K : Type 0} (R : K → K → Ordering) where
  pub in_front_nonzero : (p : K × ℤ) (ps : List (K × ℤ)) → T (is_nonzero p.1) → in_front p.0 p.1 ps ≡ p ∷ ps
  in_front_nonzero p ps h = elim (int_eq p.1 (pos 0)) as (λ b. T (not b) → cond b ps (p ∷ ps) ≡ p ∷ ps) [ true ↦ λ f. absurd f | false ↦ λ _. refl ] h

  -- a key below all others goes in front
  pub add_below : (k : K) (n : ℤ) (ps : List (K × ℤ)) → T (is_below_all R k (keys ps)) → add R k n ps ≡ in_front k n ps
  add_below k n [] h = refl
  add_below k n (p ∷ ps) h =
      elim (R k p.0) as (λ r. T (is_lt r && is_below_all R k (keys ps)) → match_ordering r (in_front k n (p ∷ ps)) (in_front p.0 (n +ℤ p.1) ps) (p ∷ add R k n ps) ≡ in_front k n (p ∷ ps)) [
        | Less ↦ λ _. refl
        | Equal ↦ λ f. absurd f
        | Greater ↦ λ f. absurd f
      ] h

  -- the weight of a key that ties with the first is added to the first
  pub add_tied : (k : K) (n : ℤ) (p : K × ℤ) (ps : List (K × ℤ)) → R k p.0 ≡ Equal → add R k n (p ∷ ps) ≡ in_front p.0 (n +ℤ p.1) ps
  add_tied k n p ps e = ap (λ r. match_ordering r (in_front k n (p ∷ ps)) (in_front p.0 (n +ℤ p.1) ps) (p ∷ add R k n ps)) e

  is_below_all-append : (k : K) (ps qs : List (K × ℤ)) → T (is_below_all R k (keys ps)) → T (is_below_all R k (keys qs)) → T (is_below_all R k (keys (ps ++ qs)))
  is_below_all-append k [] qs g h = h
  is_below_all-append k (p ∷ ps) qs g h =
      both (is_lt (R k p.0)) (is_below_all R k (keys (ps ++ qs))) (first (is_lt (R k p.0)) (is_below_all R k (keys ps)) g)
      (is_below_all-append k ps qs (second (is_lt (R k p.0)) (is_below_all R k (keys ps)) g) h)

  keys-negated : (ps : List (K × ℤ)) → keys (negated ps) ≡ keys ps
  keys-negated [] = refl
  keys-negated (p ∷ ps) = ap (λ ks. p.0 ∷ ks) (keys-negated ps)

  all_nonzero-negated : (ps : List (K × ℤ)) → T (list_all (λ p. is_nonzero p.1) ps) → T (list_all (λ p. is_nonzero p.1) (negated ps))
  all_nonzero-negated [] h = tt
  all_nonzero-negated (p ∷ ps) h =
      both (is_nonzero (neg_ℤ p.1)) (list_all (λ q. is_nonzero q.1) (negated ps)) (nonzero-neg p.1 (first (is_nonzero p.1) (list_all (λ q. is_nonzero q.1) ps) h))
      (all_nonzero-negated ps (second (is_nonzero p.1) (list_all (λ q. is_nonzero q.1) ps) h))

  pub is_canonical-negated : (ps : List (K × ℤ)) → T (is_canonical R ps) → T (is_canonical R (negated ps))
  is_canonical-negated ps h =
      canonical_from R (negated ps) (subst (λ ks. T (is_ascending R ks)) (sym (keys-negated ps)) (ascending_from R ps h)) (all_nonzero-negated ps (nonzero_weights_from R ps h))

  pub is_below_all-collect : (k : K) (ps : List (K × ℤ)) → T (is_below_all R k (keys ps)) → T (is_below_all R k (keys (collect R ps)))
  is_below_all-collect k [] h = tt
  is_below_all-collect k (p ∷ ps) h =
      is_below_all-add R k p.0 p.1 (collect R ps) (first (is_lt (R k p.0)) (is_below_all R k (keys ps)) h)
      (is_below_all-collect k ps (second (is_lt (R k p.0)) (is_below_all R k (keys ps)) h))

  -- a canonical list collects to itself
  pub collect_canonical : (ps : List (K × ℤ)) → T (is_canonical R ps) → collect R ps ≡ ps
  collect_canonical [] h = refl
  collect_canonical (p ∷ ps) h =
      let front = front_of R p ps h in
      ap (add R p.0 p.1) (collect_canonical ps front.rest) ∙ add_below p.0 p.1 ps front.below ∙ in_front_nonzero p ps front.nonzero

  -- a first key of the left list that is below all keys of the right one
  pub difference_left : (p : K × ℤ) (ps qs : List (K × ℤ)) → FrontOf R p ps → T (is_below_all R p.0 (keys qs)) → difference R (p ∷ ps) qs ≡ p ∷ difference R ps qs
  difference_left p ps qs front h =
      add_below p.0 p.1 (difference R ps qs)
      (is_below_all-collect p.0 (ps ++ negated qs) (is_below_all-append p.0 ps (negated qs) front.below (subst (λ ks. T (is_below_all R p.0 ks)) (sym (keys-negated qs)) h)))
      ∙ in_front_nonzero p (difference R ps qs) front.nonzero

  module _ (o : IsTotalOrder R) (identical : IsAntisymmetric R) where
    pub collect-IsPermutation : (ps qs : List (K × ℤ)) → IsPermutation ps qs → collect R qs ≡ collect R ps
    collect-IsPermutation ps qs moved =
        same_lists R o identical (collect R qs) (collect R ps) (is_canonical-collect R o qs) (is_canonical-collect R o ps)
        (λ k. weight_in-collect R o k qs ∙ int_sum_by-IsPermutation (λ p. cond (is_eq (R k p.0)) p.1 (pos 0)) ps qs moved ∙ sym (weight_in-collect R o k ps))

    -- a first key of the right list that is below all keys of the left one
    pub difference_right : (q : K × ℤ) (ps qs : List (K × ℤ)) → FrontOf R q qs → T (is_below_all R q.0 (keys ps)) → difference R ps (q ∷ qs) ≡ (q.0, neg_ℤ q.1) ∷ difference R ps qs
    difference_right q ps qs front h =
        sym (collect-IsPermutation (ps ++ negated (q ∷ qs)) ((q.0, neg_ℤ q.1) ∷ (ps ++ negated qs)) (IsPermutation-middle ps (q.0, neg_ℤ q.1) (negated qs)))
        ∙ add_below q.0 (neg_ℤ q.1) (difference R ps qs)
        (is_below_all-collect q.0 (ps ++ negated qs) (is_below_all-append q.0 ps (negated qs) h (subst (λ ks. T (is_below_all R q.0 ks)) (sym (keys-negated qs)) front.below)))
        ∙ in_front_nonzero (q.0, neg_ℤ q.1) (difference R ps qs) (nonzero-neg q.1 front.nonzero)

    -- first keys that are the same
    pub difference_both : (p q : K × ℤ) (ps qs : List (K × ℤ)) → FrontOf R p ps → FrontOf R q qs → R p.0 q.0 ≡ Equal → difference R (p ∷ ps) (q ∷ qs) ≡ in_front p.0 (p.1 -ℤ q.1) (difference R ps qs)
    difference_both p q ps qs left right e =
        ap (add R p.0 p.1) (difference_right q ps qs right (below_tied R o q.0 p.0 (keys ps) (tied_back o p.0 q.0 e) left.below))
        ∙ add_tied p.0 p.1 (q.0, neg_ℤ q.1) (difference R ps qs) e
        ∙ ap (λ k. in_front k (p.1 -ℤ q.1) (difference R ps qs)) (sym (identical p.0 q.0 e))

    -- the entries of a difference
    pub entries-minus : (y z : ZSet K R) → entries (minus y z) ≡ difference R (entries y) (entries z)
    unfolding plus negate
    entries-minus y z =
        entries-from_pairs R o (entries y ++ entries (negate z))
        ∙ ap (λ es. collect R (entries y ++ es)) (entries-from_pairs R o (negated (entries z)) ∙ collect_canonical (negated (entries z)) (is_canonical-negated (entries z) (entries_canonical z)))
