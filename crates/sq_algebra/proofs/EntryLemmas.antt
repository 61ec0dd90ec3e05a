-- The entries of what the operators give, as code writes them out.
use Rattle.std.proofs.Common.{◌≡◌, ℕ, List, [], ◌∷◌, map, Bool, true, false, cond, ◌==◌, T, ℤ, pos, ◌+ℤ◌, filter, refl, sym, ap, subst, ◌∙◌, arith, Ordering, is_eq, is_lt}
use Rattle.std.specs.Prelude.{int_lt}
use Rattle.std.specs.List.{list_all, flat_map}
use Rattle.std.specs.Ordering.{nat_cmp}
use Rattle.std.specs.Cmp.{IsTotalOrder}
use Rattle.std.specs.FinMap.{IsAntisymmetric}
use borrow.Author.Differences.{ints}
use Rattle.sq_algebra.specs.Listed.{is_below_all, is_ascending}
use Rattle.sq_algebra.specs.ZSet.{keys, is_nonzero, weight_in, is_canonical, negated, ZSet, entries, entries_canonical, entries-from_entries, from_entries, from_pairs, negate as negate_keys}
use Rattle.sq_algebra.specs.Groups.{z_sets, sum_over}
use Rattle.sq_algebra.specs.Operators.{keep, distinct}
use Rattle.sq_algebra.specs.Keyed.{at_key, Shards, cut}
use Rattle.sq_algebra.proofs.Tests.{both, first, second}
use Rattle.sq_algebra.proofs.Weights.{canonical_from, ascending_from, nonzero_weights_from, entries-from_pairs, from_entries-entries, weight-from_entries, same_weights}
use Rattle.sq_algebra.proofs.Merges.{collect_canonical, is_canonical-negated}
use Rattle.sq_algebra.proofs.GroupLemmas.{sum_over_agree}
use Rattle.sq_algebra.proofs.OperatorLemmas.{from_pairs-flat_map}
use Rattle.sq_algebra.proofs.ListLemmas.{sign_up, weight-distinct, weight_in-signs}
use Rattle.sq_algebra.proofs.ShardLemmas.{same_number}

module _ {K : Type 0} (R : K → K → Ordering) where
  is_below_all-part : (k : K) (t : K × ℤ → Bool) (ps : List (K × ℤ)) → T (is_below_all R k (keys ps)) → T (is_below_all R k (keys (filter t ps)))
  is_below_all-part k t [] h = tt
  is_below_all-part k t (p ∷ ps) h =
      let rest = is_below_all-part k t ps (second (is_lt (R k p.0)) (is_below_all R k (keys ps)) h) in
      elim (t p) as (λ b. T (is_below_all R k (keys (cond b (p ∷ filter t ps) (filter t ps))))) [
        | true ↦ both (is_lt (R k p.0)) (is_below_all R k (keys (filter t ps))) (first (is_lt (R k p.0)) (is_below_all R k (keys ps)) h) rest
        | false ↦ rest
      ]

  is_ascending-part : (t : K × ℤ → Bool) (ps : List (K × ℤ)) → T (is_ascending R (keys ps)) → T (is_ascending R (keys (filter t ps)))
  is_ascending-part t [] h = tt
  is_ascending-part t (p ∷ ps) h =
      let rest = is_ascending-part t ps (second (is_below_all R p.0 (keys ps)) (is_ascending R (keys ps)) h) in
      elim (t p) as (λ b. T (is_ascending R (keys (cond b (p ∷ filter t ps) (filter t ps))))) [
        | true ↦ both (is_below_all R p.0 (keys (filter t ps))) (is_ascending R (keys (filter t ps))) (is_below_all-part p.0 t ps (first (is_below_all R p.0 (keys ps)) (is_ascending R (keys ps)) h)) rest
        | false ↦ rest
      ]

all_nonzero-part : {K : Type 0} (t : K × ℤ → Bool) (ps : List (K × ℤ)) → T (list_all (λ p. is_nonzero p.1) ps) → T (list_all (λ p. is_nonzero p.1) (filter t ps))
all_nonzero-part t [] h = tt
all_nonzero-part t (p ∷ ps) h =
    let rest = all_nonzero-part t ps (second (is_nonzero p.1) (list_all (λ q. is_nonzero q.1) ps) h) in
    elim (t p) as (λ b. T (list_all (λ q. is_nonzero q.1) (cond b (p ∷ filter t ps) (filter t ps)))) [
      | true ↦ both (is_nonzero p.1) (list_all (λ q. is_nonzero q.1) (filter t ps)) (first (is_nonzero p.1) (list_all (λ q. is_nonzero q.1) ps) h) rest
      | false ↦ rest
    ]

-- each pair with the weight 1
abbrev pub ones_of : {K : Type 0} → List (K × ℤ) → List (K × ℤ)
ones_of ps = map (λ p. (p.0, pos 1)) ps

keys-ones_of : {K : Type 0} (ps : List (K × ℤ)) → keys (ones_of ps) ≡ keys ps
keys-ones_of [] = refl
keys-ones_of (p ∷ ps) = ap (λ ks. p.0 ∷ ks) (keys-ones_of ps)

all_nonzero-ones_of : {K : Type 0} (ps : List (K × ℤ)) → T (list_all (λ p. is_nonzero p.1) (ones_of ps))
all_nonzero-ones_of [] = tt
all_nonzero-ones_of (p ∷ ps) = both (is_nonzero (pos 1)) (list_all (λ q. is_nonzero q.1) (ones_of ps)) tt (all_nonzero-ones_of ps)

module _ {K : Type 0} (R : K → K → Ordering) (o : IsTotalOrder R) where
  -- the entries of the Z-set of a canonical list are the list
  entries-canonical : (ps : List (K × ℤ)) → T (is_canonical R ps) → entries (from_pairs R ps) ≡ ps
  entries-canonical ps h = entries-from_pairs R o ps ∙ collect_canonical R ps h

  pub entries-keep : (p : K → Bool) (z : ZSet K R) → entries (keep p z) ≡ filter (λ e. p e.0) (entries z)
  unfolding keep
  entries-keep p z =
      entries-canonical (filter (λ e. p e.0) (entries z))
      (canonical_from R (filter (λ e. p e.0) (entries z))
      (is_ascending-part R (λ e. p e.0) (entries z) (ascending_from R (entries z) (entries_canonical z)))
      (all_nonzero-part (λ e. p e.0) (entries z) (nonzero_weights_from R (entries z) (entries_canonical z))))

  pub entries-at_key : {C : Type 0} (Q : C → C → Ordering) (key : K → C) (c : C) (z : ZSet K R) → entries (at_key Q key c z) ≡ filter (λ e. is_eq (Q c (key e.0))) (entries z)
  unfolding at_key
  entries-at_key Q key c z = entries-keep (λ k. is_eq (Q c (key k))) z

  pub entries-negate : (z : ZSet K R) → entries (negate_keys z) ≡ negated (entries z)
  unfolding negate_keys
  entries-negate z = entries-canonical (negated (entries z)) (is_canonical-negated R (entries z) (entries_canonical z))

  pub from_pairs-entries : (z : ZSet K R) → from_pairs R (entries z) ≡ z
  unfolding from_pairs
  from_pairs-entries z = ap (from_entries R) (collect_canonical R (entries z) (entries_canonical z)) ∙ from_entries-entries R z

  module _ (identical : IsAntisymmetric R) where
    -- the keys with a weight above 0
    abbrev pub above : ZSet K R → List (K × ℤ)
    above z = ones_of (filter (λ e. int_lt (pos 0) e.1) (entries z))

    canonical-above : (z : ZSet K R) → T (is_canonical R (above z))
    canonical-above z =
        canonical_from R (above z)
        (subst (λ ks. T (is_ascending R ks)) (sym (keys-ones_of (filter (λ e. int_lt (pos 0) e.1) (entries z)))) (is_ascending-part R (λ e. int_lt (pos 0) e.1) (entries z) (ascending_from R (entries z) (entries_canonical z))))
        (all_nonzero-ones_of (filter (λ e. int_lt (pos 0) e.1) (entries z)))

    weight_in-above : (k : K) (ps : List (K × ℤ)) → weight_in R k (ones_of (filter (λ e. int_lt (pos 0) e.1) ps)) ≡ weight_in R k (map (λ e. (e.0, sign_up e.1)) ps)
    weight_in-above k [] = refl
    weight_in-above k (p ∷ ps) =
        elim (int_lt (pos 0) p.1) as (λ b. weight_in R k (ones_of (cond b (p ∷ filter (λ e. int_lt (pos 0) e.1) ps) (filter (λ e. int_lt (pos 0) e.1) ps))) ≡ cond (is_eq (R k p.0)) (cond b (pos 1) (pos 0)) (pos 0) +ℤ weight_in R k (map (λ e. (e.0, sign_up e.1)) ps)) [
          | true ↦ ap (λ n. cond (is_eq (R k p.0)) (pos 1) (pos 0) +ℤ n) (weight_in-above k ps)
          | false ↦ weight_in-above k ps ∙ nothing (is_eq (R k p.0)) (weight_in R k (map (λ e. (e.0, sign_up e.1)) ps))
        ]
      where
        nothing : (b : Bool) (n : ℤ) → n ≡ cond b (pos 0) (pos 0) +ℤ n
        nothing true n = omega (arith, ints)
        nothing false n = omega (arith, ints)

    pub entries-distinct : (z : ZSet K R) → entries (distinct z) ≡ map (λ e. (e.0, pos 1)) (filter (λ e. int_lt (pos 0) e.1) (entries z))
    entries-distinct z =
        ap entries (same_weights R o identical (distinct z) (from_entries R (above z)) (λ k.
        weight-distinct R o k z ∙ sym (weight-from_entries R k (above z) (canonical-above z) ∙ weight_in-above k (entries z) ∙ weight_in-signs R o k z)))
        ∙ entries-from_entries R (above z) (canonical-above z)

    -- a sum of Z-sets collects the entries of all
    pub sum_is_from_pairs : {X : Type 0} (f : X → ZSet K R) (xs : List X) → sum_over (z_sets R) f xs ≡ from_pairs R (flat_map (λ x. entries (f x)) xs)
    sum_is_from_pairs f xs =
        sum_over_agree (z_sets R) f (λ x. from_pairs R (entries (f x))) (λ x. sym (from_pairs-entries (f x))) xs
        ∙ sym (from_pairs-flat_map R o identical (λ x. entries (f x)) xs)

  pub entries-cut : {D : Type 0} (S : Shards D) (key : K → D) (s : ℕ) (z : ZSet K R) → entries (cut S key s z) ≡ filter (λ e. s == S.shard (key e.0)) (entries z)
  entries-cut S key s z = entries-at_key nat_cmp (λ k. S.shard (key k)) s z ∙ ap (λ t. filter t (entries z)) (λ i e. same_number s (S.shard (key e.0)) i)
