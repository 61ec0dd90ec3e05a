-- Z-sets without weights below 0: they are the Z-sets of lists, and the operators keep them so.
use Rattle.std.proofs.Common.{◌≡◌, ℕ, zero, suc, ◌≤◌, List, Bool, true, false, cond, ℤ, pos, negsuc, ◌+ℤ◌, ◌≤ℤ◌, nat_abs, replicate, length, get_or, filter, refl, sym, ap, ap₂, subst, ◌∙◌, arith, Ordering, is_eq}
use Rattle.std.specs.Prelude.{int_lt}
use Rattle.std.specs.List.{flat_map, list_all}
use Rattle.std.specs.Cmp.{IsTotalOrder}
use Rattle.std.specs.FinMap.{IsAntisymmetric}
use Rattle.std.proofs.lemmas.List.Sums.{count_by-le-length, length-filter}
use borrow.Author.Differences.{ints, at_most_in}
use Rattle.sq_algebra.specs.Listed.{count}
use Rattle.sq_algebra.specs.ZSet.{ZSet, entries, single, of_list, weight, total, plus as plus_keys}
use Rattle.sq_algebra.specs.Groups.{z_sets, multiple, times, sum_over}
use Rattle.sq_algebra.specs.Operators.{keep, distinct, image, product, IsNonNegative, repeated}
use Rattle.sq_algebra.specs.Passing.{all_pass}
use Rattle.sq_algebra.proofs.PassingLemmas.{list_passes}
use Rattle.sq_algebra.proofs.Weights.{weight-plus, weight-of_list, total-of_list}
use Rattle.sq_algebra.proofs.GroupLemmas.{sum_over_agree_at}
use Rattle.sq_algebra.proofs.LinearLemmas.{lin-entries, lin_of_singles, of_list_is, entry_weight}
use Rattle.sq_algebra.proofs.OperatorLemmas.{of_list-flat_map, weight-keep, keep-of_list, image-of_list, product-of_list}
use Rattle.sq_algebra.proofs.ListLemmas.{weight-distinct}

at_most : (m n : ℤ) (a b : ℕ) → m ≡ pos a → n ≡ pos b → a ≤ b → m ≤ℤ n
at_most m n a b e f l = omega (arith, ints)

module _ {K : Type 0} (R : K → K → Ordering) (o : IsTotalOrder R) where
  pub nonnegative-of_list : (xs : List K) → IsNonNegative (of_list R xs)
  nonnegative-of_list xs k = subst (λ n. pos 0 ≤ℤ n) (sym (weight-of_list R o k xs)) (at_most_in (pos 0) (pos (count R k xs)) (omega arith))

  module _ (identical : IsAntisymmetric R) where
    of_list-replicate : (n : ℕ) (k : K) → of_list R (replicate n k) ≡ multiple (z_sets R) n (single R k)
    of_list-replicate n k = of_list_is R o identical (replicate n k) ∙ repeat n
      where
        repeat : (n : ℕ) → sum_over (z_sets R) (single R) (replicate n k) ≡ multiple (z_sets R) n (single R k)
        repeat zero = refl
        repeat (suc n) = ap (plus_keys (single R k)) (repeat n)

    -- a Z-set without weights below 0 is that of the list of its keys, each as often as its weight says
    pub of_list-repeated : (z : ZSet K R) → IsNonNegative z → of_list R (repeated z) ≡ z
    of_list-repeated z proper =
        of_list-flat_map R o identical (λ (e : K × ℤ). replicate (nat_abs e.1) e.0) (entries z)
        ∙ sum_over_agree_at (z_sets R) (λ (e : K × ℤ). of_list R (replicate (nat_abs e.1) e.0)) (λ (e : K × ℤ). times (z_sets R) e.1 (single R e.0)) (entries z)
        (λ i d l. step (get_or (entries z) i d).0 (get_or (entries z) i d).1 (subst (λ n. pos 0 ≤ℤ n) (entry_weight R o z i d l) (proper (get_or (entries z) i d).0)))
        ∙ sym (lin-entries (z_sets R) (single R) z)
        ∙ lin_of_singles R o identical z
      where
        step : (k : K) (n : ℤ) → pos 0 ≤ℤ n → of_list R (replicate (nat_abs n) k) ≡ times (z_sets R) n (single R k)
        step k (pos n) h = of_list-replicate n k
        step k (negsuc n) h = absurd (omega (arith, ints))

  pub nonnegative-plus : (y z : ZSet K R) → IsNonNegative y → IsNonNegative z → IsNonNegative (plus_keys y z)
  nonnegative-plus y z left right k = step (weight k y) (weight k z) (weight k (plus_keys y z)) (left k) (right k) (weight-plus R o k y z)
    where
      step : (m n s : ℤ) → pos 0 ≤ℤ m → pos 0 ≤ℤ n → s ≡ m +ℤ n → pos 0 ≤ℤ s
      step m n s g h e = omega (arith, ints)

  pub nonnegative-distinct : (z : ZSet K R) → IsNonNegative (distinct z)
  nonnegative-distinct z k = subst (λ n. pos 0 ≤ℤ n) (sym (weight-distinct R o k z)) (elim (int_lt (pos 0) (weight k z)) as (λ b. pos 0 ≤ℤ cond b (pos 1) (pos 0)) [ true ↦ at_most_in (pos 0) (pos 1) (omega arith) | false ↦ at_most_in (pos 0) (pos 0) (omega arith) ])

  module _ (identical : IsAntisymmetric R) where
    pub nonnegative-keep : (p : K → Bool) (z : ZSet K R) → IsNonNegative z → IsNonNegative (keep p z)
    nonnegative-keep p z proper k = subst (λ n. pos 0 ≤ℤ n) (sym (weight-keep R o identical p k z)) (elim (p k) as (λ b. pos 0 ≤ℤ cond b (weight k z) (pos 0)) [ true ↦ proper k | false ↦ at_most_in (pos 0) (pos 0) (omega arith) ])

    -- the total counts the members of the list
    pub total-repeated : (z : ZSet K R) → IsNonNegative z → total z ≡ pos (length (repeated z))
    total-repeated z proper = ap total (sym (of_list-repeated identical z proper)) ∙ total-of_list R o (repeated z)

    -- all its members pass a test exactly if all keys do
    pub list_all-repeated : (p : K → Bool) (z : ZSet K R) → IsNonNegative z → list_all p (repeated z) ≡ all_pass p z
    list_all-repeated p z proper = sym (list_passes p R o identical (repeated z)) ∙ ap (all_pass p) (of_list-repeated identical z proper)

    -- no weight is above the total
    pub weight-le-total : (k : K) (z : ZSet K R) → IsNonNegative z → weight k z ≤ℤ total z
    weight-le-total k z proper =
        at_most (weight k z) (total z) (count R k (repeated z)) (length (repeated z)) (ap (weight k) (sym (of_list-repeated identical z proper)) ∙ weight-of_list R o k (repeated z)) (total-repeated z proper) (count_by-le-length (λ x. is_eq (R k x)) (repeated z))

    -- and no test raises the total
    pub total-keep-le : (p : K → Bool) (z : ZSet K R) → IsNonNegative z → total (keep p z) ≤ℤ total z
    total-keep-le p z proper =
        at_most (total (keep p z)) (total z) (length (filter p (repeated z))) (length (repeated z))
        (ap total (ap (keep p) (sym (of_list-repeated identical z proper)) ∙ keep-of_list R o identical p (repeated z)) ∙ total-of_list R o (filter p (repeated z)))
        (total-repeated z proper) (omega (arith, length-filter p (repeated z), count_by-le-length p (repeated z)))

module _ {K : Type 0} (R : K → K → Ordering) (o : IsTotalOrder R) (identical : IsAntisymmetric R) where
  pub nonnegative-image : {L : Type 0} (U : L → L → Ordering) (u : IsTotalOrder U) (one : IsAntisymmetric U) (f : K → List L) (z : ZSet K R) → IsNonNegative z → IsNonNegative (image U f z)
  nonnegative-image U u one f z proper =
      subst (λ y. IsNonNegative y) (sym (image-of_list U u one R o identical f (repeated z)) ∙ ap (image U f) (of_list-repeated R o identical z proper)) (nonnegative-of_list U u (flat_map f (repeated z)))

  pub nonnegative-product : {J : Type 0} (Q : J → J → Ordering) (q : IsTotalOrder Q) (alike : IsAntisymmetric Q) {L : Type 0} (U : L → L → Ordering) (u : IsTotalOrder U) (one : IsAntisymmetric U) (f : J → K → List L) (y : ZSet J Q) (z : ZSet K R) → IsNonNegative y → IsNonNegative z → IsNonNegative (product U f y z)
  nonnegative-product Q q alike U u one f y z left right =
      subst (λ x. IsNonNegative x)
      (sym (product-of_list U u one Q q alike R o identical f (repeated y) (repeated z)) ∙ ap₂ (product U f) (of_list-repeated Q q alike y left) (of_list-repeated R o identical z right))
      (nonnegative-of_list U u (flat_map (λ x. flat_map (f x) (repeated z)) (repeated y)))
