-- The difference of the Z-sets of two lists, written out.
use Rattle.std.proofs.Common.{◌≡◌, ℕ, ◌+◌, List, [], ◌∷◌, map, Bool, true, false, cond, not, T, ◌==◌, ℤ, pos, ◌+ℤ◌, ◌-ℤ◌, filter, refl, sym, ap, ap₂, subst, ◌∙◌, arith, eqb-true, Ordering, is_eq}
use Rattle.std.specs.List.{list_all}
use Rattle.std.specs.Cmp.{IsTotalOrder}
use Rattle.std.specs.FinMap.{IsAntisymmetric}
use Rattle.std.proofs.lemmas.Bool.Decides.{nat_tests}
use borrow.Author.Differences.{ints}
use Rattle.sq_algebra.specs.Listed.{count, is_ascending, changed}
use Rattle.sq_algebra.specs.ZSet.{keys, is_nonzero, weight_in, is_canonical, entries, from_entries, entries-from_entries, of_list, minus}
use Rattle.sq_algebra.proofs.Tests.{both, equal}
use Rattle.sq_algebra.proofs.Lists.{count-cons, is_ascending-changed, count-changed}
use Rattle.sq_algebra.proofs.Weights.{nonzero_T, canonical_from, weight-from_entries, weight-of_list, weight-minus, same_weights}

module _ {K : Type 0} (R : K → K → Ordering) where
  -- the pairs that give each key of a list the weight f of it
  abbrev pub weighed : (K → ℤ) → List K → List (K × ℤ)
  weighed f ks = map (λ k. (k, f k)) ks

  pub keys-weighed : (f : K → ℤ) (ks : List K) → keys (weighed f ks) ≡ ks
  keys-weighed f [] = refl
  keys-weighed f (k ∷ ks) = ap (λ rest. k ∷ rest) (keys-weighed f ks)

  module _ (identical : IsAntisymmetric R) (f : K → ℤ) where
    -- a key that stands in the list once has its weight, and one that does not stand there has none
    pub weight_in-weighed : (k : K) (ks : List K) → (count R k ks ≡ 0 → weight_in R k (weighed f ks) ≡ pos 0) × (count R k ks ≡ 1 → weight_in R k (weighed f ks) ≡ f k)
    weight_in-weighed k [] = (λ _. refl, λ e. absurd (omega arith))
    weight_in-weighed k (x ∷ ks) =
        let step = count-cons R k x ks in
        let (none, once) = weight_in-weighed k ks in
        elim (is_eq (R k x)) as (λ b. is_eq (R k x) ≡ b → count R k (x ∷ ks) ≡ cond b 1 0 + count R k ks → (count R k (x ∷ ks) ≡ 0 → cond b (f x) (pos 0) +ℤ weight_in R k (weighed f ks) ≡ pos 0) × (count R k (x ∷ ks) ≡ 1 → cond b (f x) (pos 0) +ℤ weight_in R k (weighed f ks) ≡ f k)) [
          | true ↦ λ t s. (
            λ e. absurd (omega arith),
            λ e. let rest = none (omega arith) in let same = ap f (identical k x (equal _ t)) in omega (arith, ints),
          )
          | false ↦ λ t s. (
            λ e. let rest = none (omega arith) in omega (arith, ints),
            λ e. let rest = once (omega arith) in omega (arith, ints),
          )
        ] refl step

  all_nonzero-weighed : (f : K → ℤ) (p : K → Bool) → ((k : K) → p k ≡ true → T (is_nonzero (f k))) → (ks : List K) → T (list_all (λ q. is_nonzero q.1) (weighed f (filter p ks)))
  all_nonzero-weighed f p each [] = tt
  all_nonzero-weighed f p each (k ∷ ks) =
      let rest = all_nonzero-weighed f p each ks in
      elim (p k) as (λ b. p k ≡ b → T (list_all (λ q. is_nonzero q.1) (weighed f (cond b (k ∷ filter p ks) (filter p ks))))) [
        | true ↦ λ e. both (is_nonzero (f k)) (list_all (λ q. is_nonzero q.1) (weighed f (filter p ks))) (each k e) rest
        | false ↦ λ e. rest
      ] refl

-- the difference of two counts
differ_nonzero : (a b : ℕ) → not (a == b) ≡ true → pos b -ℤ pos a ≡ pos 0 → ⊥
differ_nonzero a b e same = let equal_counts : a ≡ b = omega (arith, ints) in grind (arith, nat_tests)

differ_step : (a b n : ℕ) (w : ℤ) → n ≡ cond (a == b) 0 1 → (n ≡ 0 → w ≡ pos 0) × (n ≡ 1 → w ≡ pos b -ℤ pos a) → w ≡ pos b -ℤ pos a
differ_step a b n w e is =
    elim (a == b) as (λ t. (a == b) ≡ t → n ≡ cond t 0 1 → w ≡ pos b -ℤ pos a) [
      | true ↦ λ t c. let none = is.0 c in let equal_counts = eqb-true a b t in omega (arith, ints)
      | false ↦ λ t c. is.1 c
    ] refl e

module _ {K : Type 0} (R : K → K → Ordering) (o : IsTotalOrder R) (identical : IsAntisymmetric R) where
  -- by how much the count of a key rises
  abbrev pub rise : List K → List K → K → ℤ
  rise before now k = pos (count R k now) -ℤ pos (count R k before)

  canonical_change : (before now : List K) → T (is_canonical R (weighed R (rise before now) (changed R before now)))
  canonical_change before now =
      canonical_from R (weighed R (rise before now) (changed R before now))
      (subst (λ ks. T (is_ascending R ks)) (sym (keys-weighed R (rise before now) (changed R before now))) (is_ascending-changed R o before now))
      (all_nonzero-weighed R (rise before now) _ (λ k e. nonzero_T (rise before now k) (differ_nonzero (count R k before) (count R k now) e)) _)

  weight_change : (before now : List K) (k : K) → weight_in R k (weighed R (rise before now) (changed R before now)) ≡ rise before now k
  weight_change before now k =
      differ_step (count R k before) (count R k now) (count R k (changed R before now)) _ (count-changed R o k before now)
      (weight_in-weighed R identical (rise before now) k (changed R before now))

  -- the entries of the difference are the keys whose counts differ, ascending, each with the rise of its count
  pub entries_change : (before now : List K) → entries (minus (of_list R now) (of_list R before)) ≡ map (λ k. (k, pos (count R k now) -ℤ pos (count R k before))) (changed R before now)
  entries_change before now =
      ap entries (same_weights R o identical _ (from_entries R (weighed R (rise before now) (changed R before now)))
      (λ k. weight-minus R o k (of_list R now) (of_list R before)
      ∙ ap₂ ◌-ℤ◌ (weight-of_list R o k now) (weight-of_list R o k before)
      ∙ sym (weight-from_entries R k _ (canonical_change before now) ∙ weight_change before now k)))
      ∙ entries-from_entries R _ (canonical_change before now)
