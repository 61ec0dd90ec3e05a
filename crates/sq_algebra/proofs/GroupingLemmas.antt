-- Lists grouped by a key, as sums over the keys of their Z-sets.
use Rattle.std.proofs.Common.{◌≡◌, ℕ, zero, suc, ◌+◌, ◌≤◌, List, [], ◌∷◌, map, Bool, true, false, cond, ◌==◌, ℤ, pos, refl, sym, ap, ◌∙◌, arith, Ordering, Less, Equal, Greater, is_eq}
use Rattle.std.specs.List.{fold}
use Rattle.std.specs.Ordering.{match_ordering}
use Rattle.std.specs.Cmp.{IsTotalOrder}
use Rattle.std.specs.FinMap.{IsAntisymmetric}
use Rattle.std.proofs.lemmas.Cmp.{tied_itself}
use Rattle.std.proofs.lemmas.Bool.Decides.{nat_tests}
use mathlib.Core.Logic.{◌⊎◌, inl, inr}
use Rattle.sq_algebra.specs.Listed.{count, place, in_order, first_of_each}
use Rattle.sq_algebra.specs.ZSet.{ZSet, of_list, weight}
use Rattle.sq_algebra.specs.Groups.{AbelianGroup, IsAbelian, z_sets, sum_over}
use Rattle.sq_algebra.specs.Keyed.{members_at, groups_by, at_key, CoversOnce, by_key}
use Rattle.sq_algebra.proofs.Tests.{equal}
use Rattle.sq_algebra.proofs.Lists.{count-cons}
use Rattle.sq_algebra.proofs.Weights.{weight-of_list}
use Rattle.sq_algebra.proofs.GroupLemmas.{z_sets-IsAbelian, sum_over_agree}
use Rattle.sq_algebra.proofs.OperatorLemmas.{of_list-nil, of_list-flat_map, keep-of_list}
use Rattle.sq_algebra.proofs.ListLemmas.{count-first_of_each}
use Rattle.sq_algebra.proofs.KeyedLemmas.{covers_from, by_key_over}

more_step : (t u : Bool) (n m : ℕ) → (t ≡ true → u ≡ true) → n ≤ m → cond t 1 0 + n ≤ cond u 1 0 + m
more_step true true n m tells l = omega arith
more_step false true n m tells l = omega arith
more_step false false n m tells l = omega arith
more_step true false n m tells l = let e : false ≡ true = tells refl in absurd (cc)

none_or_once : (n m c : ℕ) → n ≤ m → c ≡ cond (m == 0) 0 1 → (◌≡◌ {A = ℤ} (pos n) (pos 0)) ⊎ (c ≡ 1)
none_or_once zero m c l e = inl refl
none_or_once (suc n) zero c l e = absurd (omega arith)
none_or_once (suc n) (suc m) c l e = inr (e ∙ once m)
  where
    once : (m : ℕ) → ◌≡◌ {A = ℕ} (cond (suc m == 0) 0 1) 1
    once m = grind (arith, nat_tests)

module _ {C : Type 0} (Q : C → C → Ordering) (q : IsTotalOrder Q) (alike : IsAntisymmetric Q) {K : Type 0} (R : K → K → Ordering) (o : IsTotalOrder R) (identical : IsAntisymmetric R) (key : K → C) where
  count-map : (k : K) (xs : List K) → count R k xs ≤ count Q (key k) (map key xs)
  count-map k [] = omega arith
  count-map k (x ∷ xs) =
      let step = more_step (is_eq (R k x)) (is_eq (Q (key k) (key x))) (count R k xs) (count Q (key k) (map key xs))
      (λ t. ap (λ j. is_eq (Q (key k) (key j))) (sym (identical k x (equal (R k x) t))) ∙ ap is_eq (tied_itself q (key k))) (count-map k xs) in
      omega (arith, count-cons R k x xs, count-cons Q (key k) (key x) (map key xs), step)

  -- the keys by first appearance cover a list's Z-set
  pub covers-first_of_each : (xs : List K) → CoversOnce Q key (first_of_each Q (map key xs)) (of_list R xs)
  covers-first_of_each xs = covers_from Q q alike R o identical key (first_of_each Q (map key xs)) (of_list R xs) (λ k.
      step k (none_or_once (count R k xs) (count Q (key k) (map key xs)) (count Q (key k) (first_of_each Q (map key xs))) (count-map k xs) (count-first_of_each Q q (key k) (map key xs))))
    where
      step : (k : K) → (◌≡◌ {A = ℤ} (pos (count R k xs)) (pos 0)) ⊎ (count Q (key k) (first_of_each Q (map key xs)) ≡ 1) → (weight k (of_list R xs) ≡ pos 0) ⊎ (count Q (key k) (first_of_each Q (map key xs)) ≡ 1)
      step k (inl none) = inl (weight-of_list R o k xs ∙ none)
      step k (inr once) = inr once

  pub at_key-of_list : (c : C) (xs : List K) → at_key Q key c (of_list R xs) ≡ of_list R (members_at Q key c xs)
  unfolding at_key
  at_key-of_list c xs = keep-of_list R o identical (λ k. is_eq (Q c (key k))) xs

  -- a sum over the groups of a list is the sum over the keys of its Z-set
  pub grouped : {A : Type 0} (G : AbelianGroup A) (laws : IsAbelian G) (value : C → List K → A) (part : C → ZSet K R → A) → ((c : C) (xs : List K) → value c xs ≡ part c (of_list R xs)) → ((c : C) → value c [] ≡ G.zero) →
      (xs : List K) → sum_over G (λ c. value c (members_at Q key c xs)) (first_of_each Q (map key xs)) ≡ by_key Q key G part (of_list R xs)
  grouped G laws value part means empty xs =
      sum_over_agree G (λ c. value c (members_at Q key c xs)) (λ c. part c (at_key Q key c (of_list R xs))) (λ c. means c (members_at Q key c xs) ∙ ap (part c) (sym (at_key-of_list c xs))) (first_of_each Q (map key xs))
      ∙ sym (by_key_over Q q alike R o identical key G laws part (λ c. ap (part c) (sym (of_list-nil R o identical)) ∙ sym (means c []) ∙ empty c) (first_of_each Q (map key xs)) (of_list R xs) (covers-first_of_each xs))

  -- what the groups of a list give is the sum over the keys of its Z-set
  pub of_list-groups_by : {L : Type 0} (U : L → L → Ordering) (u : IsTotalOrder U) (one : IsAntisymmetric U) (out : C → List K → List L) (part : C → ZSet K R → ZSet L U) → ((c : C) (xs : List K) → of_list U (out c xs) ≡ part c (of_list R xs)) → ((c : C) → out c [] ≡ []) →
      (xs : List K) → of_list U (groups_by Q key out xs) ≡ by_key Q key (z_sets U) part (of_list R xs)
  of_list-groups_by U u one out part means empty xs =
      of_list-flat_map U u one (λ c. out c (members_at Q key c xs)) (first_of_each Q (map key xs))
      ∙ grouped (z_sets U) (z_sets-IsAbelian U u one) (λ c ys. of_list U (out c ys)) part means (λ c. ap (of_list U) (empty c) ∙ of_list-nil U u one) xs

-- ---- folds that forget order and repeats, as those of the least and the greatest member
module _ {K B : Type 0} (step : B → K → B) (swaps : (b : B) (x y : K) → step (step b x) y ≡ step (step b y) x) where
  fold_last : (b : B) (x : K) (ys : List K) → fold step (step b x) ys ≡ step (fold step b ys) x
  fold_last b x [] = refl
  fold_last b x (y ∷ ys) = ap (λ c. fold step c ys) (swaps b x y) ∙ fold_last (step b y) x ys

  module _ (repeats : (b : B) (x : K) → step (step b x) x ≡ step b x) (R : K → K → Ordering) (identical : IsAntisymmetric R) where
    fold-place : (b : B) (x : K) (ys : List K) → fold step b (place R x ys) ≡ step (fold step b ys) x
    fold-place b x [] = refl
    fold-place b x (y ∷ ys) =
        elim (R x y) as (λ r. R x y ≡ r → fold step b (match_ordering r (x ∷ y ∷ ys) (y ∷ ys) (y ∷ place R x ys)) ≡ step (fold step (step b y) ys) x) [
          | Less ↦ λ e. fold_last b x (y ∷ ys)
          | Equal ↦ λ e.
              fold_last b y ys
              ∙ sym (ap (λ c. step c x) (fold_last b y ys) ∙ ap (step (step (fold step b ys) y)) (identical x y e) ∙ repeats (fold step b ys) y)
          | Greater ↦ λ e. fold-place (step b y) x ys
        ] refl

    -- such a fold depends on which keys a list has alone
    pub fold-in_order : (b : B) (xs : List K) → fold step b (in_order R xs) ≡ fold step b xs
    fold-in_order b [] = refl
    fold-in_order b (x ∷ xs) = fold-place b x (in_order R xs) ∙ ap (λ c. step c x) (fold-in_order b xs) ∙ sym (fold_last b x xs)
