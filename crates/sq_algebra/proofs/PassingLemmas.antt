-- All keys of a sum, a difference, a part, an image or a product pass a test, if all keys of its parts do.
use Rattle.std.proofs.Common.{◌≡◌, List, [], ◌∷◌, get_or, Bool, true, false, ◌&&◌, cond, T, ℤ, pos, Ordering, Less, Equal, Greater, refl, sym, ap, subst, ◌∙◌}
use Rattle.std.specs.Cmp.{IsTotalOrder}
use mathlib.Core.Logic.{◌⊎◌, inl, inr}
use Rattle.std.specs.FinMap.{IsAntisymmetric}
use Rattle.std.specs.List.{AllByRecursion, filter, list_all}
use Rattle.std.specs.Ordering.{match_ordering}
use Rattle.std.proofs.lemmas.List.Folds.{list_all-map}
use Rattle.sq_algebra.specs.Keyed.{at_key}
use Rattle.sq_algebra.specs.Listed.{count, in_order, place}
use Rattle.sq_algebra.specs.Operators.{distinct, image, keep, product}
use Rattle.sq_algebra.specs.Passing.{all_pass}
use Rattle.sq_algebra.specs.ZSet.{ZSet, entries, minus, negate, of_list, plus, weight, weight_in}
use Rattle.sq_algebra.proofs.EachLemmas.{EachKey, each_key, each_pair, each-at_key, each-distinct, each-image, each-keep, each-minus, each-negate, each-plus, each-product}
use Rattle.sq_algebra.proofs.EntryLemmas.{entries-keep}
use Rattle.sq_algebra.proofs.KeyedLemmas.{found}
use Rattle.sq_algebra.proofs.LinearLemmas.{entry_nonzero, entry_weight}
use Rattle.sq_algebra.proofs.MemberLemmas.{entries-of_list}
use Rattle.sq_algebra.proofs.Tests.{both, first, second}

-- ---- tests as predicates

module _ {X : Type 0} (p : X → Bool) where
  pub each_from : (xs : List X) → T (list_all p xs) → AllByRecursion (λ x. T (p x)) xs
  each_from [] h = tt
  each_from (x ∷ xs) h = (first (p x) (list_all p xs) h, each_from xs (second (p x) (list_all p xs) h))

  pub each_to : (xs : List X) → AllByRecursion (λ x. T (p x)) xs → T (list_all p xs)
  each_to [] h = tt
  each_to (x ∷ xs) h = both (p x) (list_all p xs) h.0 (each_to xs h.1)

filter_tested : {X : Type 0} (p : X → Bool) (xs : List X) → T (list_all p (filter p xs))
filter_tested p [] = tt
filter_tested p (x ∷ xs) =
    elim (p x) as (λ b. p x ≡ b → T (list_all p (cond b (x ∷ filter p xs) (filter p xs)))) [
      | true ↦ λ is. both (p x) (list_all p (filter p xs)) (subst T (sym is) tt) (filter_tested p xs)
      | false ↦ λ _. filter_tested p xs
    ] refl

module _ {K : Type 0} (p : K → Bool) where
  abbrev Passes : K → Type 0
  Passes k = T (p k)

  pub keys_pass : {R : K → K → Ordering} (z : ZSet K R) → T (all_pass p z) → EachKey Passes z
  keys_pass z h = each_key Passes z (each_from (λ (e : K × ℤ). p e.0) (entries z) h)

  pub all_keys_pass : {R : K → K → Ordering} (z : ZSet K R) → EachKey Passes z → T (all_pass p z)
  all_keys_pass z h = each_to (λ (e : K × ℤ). p e.0) (entries z) (each_pair Passes z h)

  module _ (R : K → K → Ordering) (o : IsTotalOrder R) where
    pub sum_passes : (y z : ZSet K R) → T (all_pass p y) → T (all_pass p z) → T (all_pass p (plus y z))
    sum_passes y z g h = all_keys_pass (plus y z) (each-plus Passes R o y z (keys_pass y g) (keys_pass z h))

    pub negation_passes : (z : ZSet K R) → T (all_pass p z) → T (all_pass p (negate z))
    negation_passes z h = all_keys_pass (negate z) (each-negate Passes R o z (keys_pass z h))

    pub difference_passes : (y z : ZSet K R) → T (all_pass p y) → T (all_pass p z) → T (all_pass p (minus y z))
    difference_passes y z g h = all_keys_pass (minus y z) (each-minus Passes R o y z (keys_pass y g) (keys_pass z h))

    pub kept_passes : (q : K → Bool) (z : ZSet K R) → T (all_pass p z) → T (all_pass p (keep q z))
    kept_passes q z h = all_keys_pass (keep q z) (each-keep Passes R o q z (keys_pass z h))

    pub tested_passes : (z : ZSet K R) → T (all_pass p (keep p z))
    tested_passes z = subst (λ es. T (list_all (λ (e : K × ℤ). p e.0) es)) (sym (entries-keep R o p z)) (filter_tested (λ (e : K × ℤ). p e.0) (entries z))

    pub part_passes : {C : Type 0} (Q : C → C → Ordering) (key : K → C) (c : C) (z : ZSet K R) → T (all_pass p z) → T (all_pass p (at_key Q key c z))
    part_passes Q key c z h = all_keys_pass (at_key Q key c z) (each-at_key Passes R o Q key c z (keys_pass z h))

    pub distinct_passes : (z : ZSet K R) → T (all_pass p z) → T (all_pass p (distinct z))
    distinct_passes z h = all_keys_pass (distinct z) (each-distinct Passes R o z (keys_pass z h))

    -- ---- weights
    -- all keys pass exactly if each key that fails has no weight
    pub pass_from_weights : (z : ZSet K R) → ((k : K) → p k ≡ false → weight k z ≡ pos 0) → T (all_pass p z)
    pass_from_weights z none = all_keys_pass z (λ i d low. passes (get_or (entries z) i d).0 (λ no. entry_nonzero R z i d low (sym (entry_weight R o z i d low) ∙ no)))
      where
        passes : (k : K) → (weight k z ≡ pos 0 → ⊥) → T (p k)
        passes k some = elim (p k) as (λ b. p k ≡ b → T b) [ true ↦ λ _. tt | false ↦ λ e. absurd (some (none k e)) ] refl

    pub weights_from_pass : (identical : IsAntisymmetric R) (z : ZSet K R) → T (all_pass p z) → (k : K) → p k ≡ false → weight k z ≡ pos 0
    unfolding weight
    weights_from_pass identical z h k e = step (found R o identical R o identical (λ k. k) k (T (p k)) (entries z) (λ i d low same. subst Passes (sym (identical k (get_or (entries z) i d).0 same)) (keys_pass z h i d low)))
      where
        step : (weight_in R k (entries z) ≡ pos 0) ⊎ T (p k) → weight_in R k (entries z) ≡ pos 0
        step (inl none) = none
        step (inr passes) = absurd (subst T e passes)

    -- ---- lists
    module _ (identical : IsAntisymmetric R) where
      twice : (a b : Bool) → (a && b) ≡ (a && (a && b))
      twice true b = refl
      twice false b = refl

      swapped : (a b c : Bool) → (a && (b && c)) ≡ (b && (a && c))
      swapped true b c = refl
      swapped false true c = refl
      swapped false false c = refl

      placed : (k : K) (xs : List K) → list_all p (place R k xs) ≡ (p k && list_all p xs)
      placed k [] = refl
      placed k (x ∷ xs) =
          elim (R k x) as (λ r. R k x ≡ r → list_all p (match_ordering r (k ∷ x ∷ xs) (x ∷ xs) (x ∷ place R k xs)) ≡ (p k && (p x && list_all p xs))) [
            | Less ↦ λ _. refl
            | Equal ↦ λ e. twice (p x) (list_all p xs) ∙ ap (λ j. p j && (p x && list_all p xs)) (sym (identical k x e))
            | Greater ↦ λ _. ap (λ b. p x && b) (placed k xs) ∙ swapped (p x) (p k) (list_all p xs)
          ] refl

      ordered : (xs : List K) → list_all p (in_order R xs) ≡ list_all p xs
      ordered [] = refl
      ordered (x ∷ xs) = placed x (in_order R xs) ∙ ap (λ b. p x && b) (ordered xs)

      pub list_passes : (xs : List K) → all_pass p (of_list R xs) ≡ list_all p xs
      list_passes xs =
          ap (list_all (λ e. p e.0)) (entries-of_list R o identical xs)
          ∙ list_all-map (λ (e : K × ℤ). p e.0) (λ k. (k, pos (count R k xs))) (in_order R xs)
          ∙ ordered xs

-- ---- images and products

module _ {K L : Type 0} (U : L → L → Ordering) (u : IsTotalOrder U) (p : K → Bool) (q : L → Bool) (f : K → List L) (kept : (k : K) → T (p k) → T (list_all q (f k))) where
  pub image_passes : {R : K → K → Ordering} (z : ZSet K R) → T (all_pass p z) → T (all_pass q (image U f z))
  image_passes z h =
      all_keys_pass q (image U f z)
      (each-image (λ k. T (p k)) (λ l. T (q l)) U u f z (λ i d low passes. each_from q (f (get_or (entries z) i d).0) (kept (get_or (entries z) i d).0 passes)) (keys_pass p z h))

module _ {J K L : Type 0} (U : L → L → Ordering) (u : IsTotalOrder U) (p : J → Bool) (r : K → Bool) (q : L → Bool) (f : J → K → List L) (kept : (j : J) (k : K) → T (p j) → T (r k) → T (list_all q (f j k))) where
  pub product_passes : {S : J → J → Ordering} {R : K → K → Ordering} (y : ZSet J S) (z : ZSet K R) → T (all_pass p y) → T (all_pass r z) → T (all_pass q (product U f y z))
  product_passes y z g h =
      all_keys_pass q (product U f y z)
      (each-product (λ j. T (p j)) (λ k. T (r k)) (λ l. T (q l)) U u f (λ j k a b. each_from q (f j k) (kept j k a b)) y z (keys_pass p y g) (keys_pass r z h))
