-- The linear extension of a function on keys to Z-sets: its laws, all from one induction over adding at a place.
use Rattle.std.proofs.Common.{◌≡◌, ℕ, zero, suc, ◌<◌, List, [], ◌∷◌, ◌++◌, map, cond, T, ℤ, pos, neg_ℤ, length, get_or, refl, sym, ap, ◌∙◌, arith, Ordering, is_eq}
use Rattle.std.specs.List.{All, list_all}
use Rattle.std.specs.Cmp.{IsTotalOrder}
use Rattle.std.specs.FinMap.{IsAntisymmetric}
use Rattle.std.proofs.lemmas.Cmp.{tied_itself}
use Rattle.sq_algebra.specs.ZSet.{is_nonzero, negated, ZSet, entries, entries_canonical, entries-zero, zero as no_keys, single, of_list, from_pairs, weight, total, plus as plus_keys, negate as negate_keys, minus as minus_keys}
use Rattle.sq_algebra.specs.Groups.{AbelianGroup, IsAbelian, integers, z_sets, minus, times, sum_over, IsAdditive}
use Rattle.sq_algebra.specs.Operators.{lin}
use Rattle.sq_algebra.proofs.Tests.{first, second}
use Rattle.sq_algebra.proofs.Weights.{nonzero_from, nonzero_weights_from, ascending_from, entries-from_pairs, weight-single, weight-plus, weight-minus, total-plus, same_weights}
use Rattle.sq_algebra.proofs.PairLemmas.{weight_in_is, total_in_is, lin_of-collect}
pub use Rattle.sq_algebra.proofs.PairLemmas.{lin_of, times_whole, times_mark}
use Rattle.sq_algebra.proofs.Places.{weight_in_at}
use Rattle.sq_algebra.proofs.GroupLemmas.{integers-IsAbelian, z_sets-IsAbelian, minus-self, times-sum, times-negation, times-plus, times-one, times_of_zero, negate-IsAdditive, times-IsAdditive, additive-times, additive-sum_over, sum_over_agree, sum_over_agree_at, sum_over-map, sum_over-append, sum_over-zero, sum_over_zero_at, sum_over-plus, sum_over-negate, same_from_minus}

-- the linear extension is that sum over the entries
pub lin-entries : {K A : Type 0} {R : K → K → Ordering} (G : AbelianGroup A) (h : K → A) (z : ZSet K R) → lin G h z ≡ lin_of G h (entries z)
unfolding lin
lin-entries G h z = refl

module _ {K : Type 0} (R : K → K → Ordering) (o : IsTotalOrder R) (identical : IsAntisymmetric R) {A : Type 0} (G : AbelianGroup A) (laws : IsAbelian G) where
  -- over the Z-set of a list of pairs it is the sum over the list
  pub lin-from_pairs : (h : K → A) (ps : List (K × ℤ)) → lin G h (from_pairs R ps) ≡ lin_of G h ps
  unfolding lin
  lin-from_pairs h ps = ap (lin_of G h) (entries-from_pairs R o ps) ∙ lin_of-collect R G laws h (λ j k e. ap h (identical j k e)) ps

  pub lin-zero : (h : K → A) → lin G h (no_keys R) ≡ G.zero
  unfolding lin
  lin-zero h = ap (lin_of G h) (entries-zero R)

  pub lin-single : (h : K → A) (k : K) → lin G h (single R k) ≡ h k
  unfolding single
  lin-single h k = lin-from_pairs h ((k, pos 1) ∷ []) ∙ ap (λ a. G.plus a G.zero) (times-one G laws (h k)) ∙ (laws.commutative (h k) G.zero ∙ laws.neutral (h k))

  pub lin-plus : (h : K → A) (y z : ZSet K R) → lin G h (plus_keys y z) ≡ G.plus (lin G h y) (lin G h z)
  unfolding lin plus_keys
  lin-plus h y z = lin-from_pairs h (entries y ++ entries z) ∙ sum_over-append G laws (λ p. times G p.1 (h p.0)) (entries y) (entries z)

  -- the linear extension of any function is additive
  pub lin-IsAdditive : (h : K → A) → IsAdditive (z_sets R) G (lin G h)
  lin-IsAdditive h = record { of_plus = lin-plus h }

  pub lin-negate : (h : K → A) (z : ZSet K R) → lin G h (negate_keys z) ≡ G.negate (lin G h z)
  unfolding lin negate_keys
  lin-negate h z =
      lin-from_pairs h (negated (entries z))
      ∙ sum_over-map G (λ p. times G p.1 (h p.0)) (λ e. (e.0, neg_ℤ e.1)) (entries z)
      ∙ sum_over_agree G (λ e. times G (neg_ℤ e.1) (h e.0)) (λ e. G.negate (times G e.1 (h e.0))) (λ e. times-negation G laws e.1 (h e.0)) (entries z)
      ∙ sum_over-negate G laws (λ e. times G e.1 (h e.0)) (entries z)

  pub lin-minus : (h : K → A) (y z : ZSet K R) → lin G h (minus_keys y z) ≡ minus G (lin G h y) (lin G h z)
  lin-minus h y z = lin-plus h y (negate_keys z) ∙ ap (G.plus (lin G h y)) (lin-negate h z)

  -- over the Z-set of a list it is the sum over the list
  pub lin-of_list : (h : K → A) (xs : List K) → lin G h (of_list R xs) ≡ sum_over G h xs
  unfolding of_list
  lin-of_list h xs =
      lin-from_pairs h (map (λ x. (x, pos 1)) xs)
      ∙ sum_over-map G (λ p. times G p.1 (h p.0)) (λ x. (x, pos 1)) xs
      ∙ sum_over_agree G (λ x. times G (pos 1) (h x)) h (λ x. times-one G laws (h x)) xs

  -- functions that agree have the same linear extension
  pub lin_agree : (g h : K → A) → ((k : K) → g k ≡ h k) → (z : ZSet K R) → lin G g z ≡ lin G h z
  unfolding lin
  lin_agree g h same z = sum_over_agree G (λ e. times G e.1 (g e.0)) (λ e. times G e.1 (h e.0)) (λ e. ap (times G e.1) (same e.0)) (entries z)

  -- and so have functions that agree at the keys of the Z-set
  pub lin_agree_at : (g h : K → A) (z : ZSet K R) → All (λ e. g e.0 ≡ h e.0) (entries z) → lin G g z ≡ lin G h z
  unfolding lin
  lin_agree_at g h z same = sum_over_agree_at G (λ e. times G e.1 (g e.0)) (λ e. times G e.1 (h e.0)) (entries z) (λ k d l. ap (times G (get_or (entries z) k d).1) (same k d l))

  pub lin_of_zero : (z : ZSet K R) → lin G (λ _. G.zero) z ≡ G.zero
  unfolding lin
  lin_of_zero z = sum_over_agree G (λ e. times G e.1 G.zero) (λ _. G.zero) (λ e. times_of_zero G laws e.1) (entries z) ∙ sum_over-zero G laws (entries z)

  pub lin_of_plus : (g h : K → A) (z : ZSet K R) → lin G (λ k. G.plus (g k) (h k)) z ≡ G.plus (lin G g z) (lin G h z)
  unfolding lin
  lin_of_plus g h z =
      sum_over_agree G (λ e. times G e.1 (G.plus (g e.0) (h e.0))) (λ e. G.plus (times G e.1 (g e.0)) (times G e.1 (h e.0))) (λ e. times-plus G laws e.1 (g e.0) (h e.0)) (entries z)
      ∙ sum_over-plus G laws (λ e. times G e.1 (g e.0)) (λ e. times G e.1 (h e.0)) (entries z)

  -- an additive map goes inside
  pub lin_inside : {B : Type 0} (H : AbelianGroup B) (others : IsAbelian H) (f : A → B) → IsAdditive G H f → (h : K → A) (z : ZSet K R) → f (lin G h z) ≡ lin H (λ k. f (h k)) z
  unfolding lin
  lin_inside H others f additive h z =
      additive-sum_over G H laws others f additive (λ e. times G e.1 (h e.0)) (entries z)
      ∙ sum_over_agree H (λ e. f (times G e.1 (h e.0))) (λ e. times H e.1 (f (h e.0))) (λ e. additive-times G H laws others f additive e.1 (h e.0)) (entries z)

  pub lin_of_negate : (h : K → A) (z : ZSet K R) → lin G (λ k. G.negate (h k)) z ≡ G.negate (lin G h z)
  lin_of_negate h z = sym (lin_inside G laws G.negate (negate-IsAdditive G laws) h z)

  pub lin_of_times : (n : ℤ) (h : K → A) (z : ZSet K R) → lin G (λ k. times G n (h k)) z ≡ times G n (lin G h z)
  lin_of_times n h z = sym (lin_inside G laws (times G n) (times-IsAdditive G laws n) h z)

  -- a sum of linear extensions
  pub lin_of_sum : {X : Type 0} (h : X → K → A) (xs : List X) (z : ZSet K R) → lin G (λ k. sum_over G (λ x. h x k) xs) z ≡ sum_over G (λ x. lin G (h x) z) xs
  lin_of_sum h [] z = lin_of_zero z
  lin_of_sum h (x ∷ xs) z = lin_of_plus (h x) (λ k. sum_over G (λ x. h x k) xs) z ∙ ap (G.plus (lin G (h x) z)) (lin_of_sum h xs z)

-- ---- whole numbers and Z-sets
nonzero_at : {K : Type 0} (ps : List (K × ℤ)) (i : ℕ) (d : K × ℤ) → T (list_all (λ p. is_nonzero p.1) ps) → i < length ps → (get_or ps i d).1 ≡ pos 0 → ⊥
nonzero_at [] i d h l = absurd (omega arith)
nonzero_at (p ∷ ps) zero d h l = nonzero_from p.1 (first (is_nonzero p.1) (list_all (λ p. is_nonzero p.1) ps) h)
nonzero_at (p ∷ ps) (suc i) d h l = nonzero_at ps i d (second (is_nonzero p.1) (list_all (λ p. is_nonzero p.1) ps) h) (omega arith)

module _ {K : Type 0} (R : K → K → Ordering) where
  pub weight_is : (k : K) (z : ZSet K R) → weight k z ≡ lin integers (λ j. cond (is_eq (R k j)) (pos 1) (pos 0)) z
  unfolding lin weight
  weight_is k z = weight_in_is R k (entries z)

  pub total_is : (z : ZSet K R) → total z ≡ lin integers (λ _. pos 1) z
  unfolding lin total
  total_is z = total_in_is (entries z)

  -- an entry holds another weight than 0
  pub entry_nonzero : (z : ZSet K R) (i : ℕ) (d : K × ℤ) → i < length (entries z) → (get_or (entries z) i d).1 ≡ pos 0 → ⊥
  entry_nonzero z i d l = nonzero_at (entries z) i d (nonzero_weights_from R (entries z) (entries_canonical z)) l

  module _ (o : IsTotalOrder R) where
    pub weight-IsAdditive : (k : K) → IsAdditive (z_sets R) integers (weight k)
    weight-IsAdditive k = record { of_plus = weight-plus R o k }

    pub total-IsAdditive : IsAdditive (z_sets R) integers total
    total-IsAdditive = record { of_plus = total-plus R o }

    -- an entry holds the weight of its key
    pub entry_weight : (z : ZSet K R) (i : ℕ) (d : K × ℤ) → i < length (entries z) → weight (get_or (entries z) i d).0 z ≡ (get_or (entries z) i d).1
    unfolding weight
    entry_weight z i d l = weight_in_at R o (get_or (entries z) i d).0 (entries z) i d (ascending_from R (entries z) (entries_canonical z)) l (tied_itself o (get_or (entries z) i d).0)

    module _ (identical : IsAntisymmetric R) where
      abbrev group : IsAbelian (z_sets R)
      group = z_sets-IsAbelian R o identical

      -- a Z-set is the linear extension of its single keys
      pub lin_of_singles : (z : ZSet K R) → lin (z_sets R) (single R) z ≡ z
      lin_of_singles z = same_weights R o identical (lin (z_sets R) (single R) z) z (λ k.
          lin_inside R o identical (z_sets R) group integers integers-IsAbelian (weight k) (weight-IsAdditive k) (single R) z
          ∙ lin_agree R o identical integers integers-IsAbelian (λ j. weight k (single R j)) (λ j. cond (is_eq (R k j)) (pos 1) (pos 0)) (λ j. weight-single R o k j) z
          ∙ sym (weight_is k z))

      pub from_pairs_is : (ps : List (K × ℤ)) → from_pairs R ps ≡ lin_of (z_sets R) (single R) ps
      from_pairs_is ps = sym (lin_of_singles (from_pairs R ps)) ∙ lin-from_pairs R o identical (z_sets R) group (single R) ps

      pub of_list_is : (xs : List K) → of_list R xs ≡ sum_over (z_sets R) (single R) xs
      of_list_is xs = sym (lin_of_singles (of_list R xs)) ∙ lin-of_list R o identical (z_sets R) group (single R) xs

      module _ {A : Type 0} (G : AbelianGroup A) (laws : IsAbelian G) (h : K → A) where
        -- nothing is added up where each multiple is zero
        pub lin_none : (z : ZSet K R) → ((k : K) → times G (weight k z) (h k) ≡ G.zero) → lin G h z ≡ G.zero
        unfolding lin
        lin_none z none =
            sum_over_zero_at G laws (λ e. times G e.1 (h e.0)) (entries z)
            (λ i d l. ap (λ n. times G n (h (get_or (entries z) i d).0)) (sym (entry_weight z i d l)) ∙ none (get_or (entries z) i d).0)

        -- Z-sets with the same multiples have the same linear extension
        pub lin_same : (y z : ZSet K R) → ((k : K) → times G (weight k y) (h k) ≡ times G (weight k z) (h k)) → lin G h y ≡ lin G h z
        lin_same y z same =
            same_from_minus G laws (lin G h y) (lin G h z)
            (sym (lin-minus R o identical G laws h y z)
            ∙ lin_none (minus_keys y z) (λ k.
            ap (λ n. times G n (h k)) (weight-minus R o k y z)
            ∙ times-sum G laws (weight k y) (neg_ℤ (weight k z)) (h k)
            ∙ ap (G.plus (times G (weight k y) (h k))) (times-negation G laws (weight k z) (h k))
            ∙ ap (λ a. minus G a (times G (weight k z) (h k))) (same k)
            ∙ minus-self G laws (times G (weight k z) (h k))))

      -- an additive map is the linear extension of what it gives for single keys
      pub additive_is_lin : {A : Type 0} (G : AbelianGroup A) (laws : IsAbelian G) (f : ZSet K R → A) → IsAdditive (z_sets R) G f → (z : ZSet K R) → f z ≡ lin G (λ k. f (single R k)) z
      additive_is_lin G laws f additive z = ap f (sym (lin_of_singles z)) ∙ lin_inside R o identical (z_sets R) group G laws f additive (single R) z

module _ {J K : Type 0} (Q : J → J → Ordering) (p : IsTotalOrder Q) (same : IsAntisymmetric Q) (R : K → K → Ordering) (o : IsTotalOrder R) (identical : IsAntisymmetric R) {A : Type 0} (G : AbelianGroup A) (laws : IsAbelian G) where
  -- the two sides of a double sum change places
  pub lin-swap : (f : J → K → A) (y : ZSet J Q) (z : ZSet K R) → lin G (λ j. lin G (f j) z) y ≡ lin G (λ k. lin G (λ j. f j k) y) z
  lin-swap f y z =
      lin-entries G (λ j. lin G (f j) z) y
      ∙ sum_over_agree G (λ e. times G e.1 (lin G (f e.0) z)) (λ e. lin G (λ k. times G e.1 (f e.0 k)) z) (λ e. sym (lin_of_times R o identical G laws e.1 (f e.0) z)) (entries y)
      ∙ sym (lin_of_sum R o identical G laws (λ e k. times G e.1 (f e.0 k)) (entries y) z)
      ∙ lin_agree R o identical G laws (λ k. sum_over G (λ e. times G e.1 (f e.0 k)) (entries y)) (λ k. lin G (λ j. f j k) y) (λ k. sym (lin-entries G (λ j. f j k) y)) z

  -- a linear extension of a linear extension
  pub lin-lin : (h : K → A) (g : J → ZSet K R) (y : ZSet J Q) → lin G h (lin (z_sets R) g y) ≡ lin G (λ j. lin G h (g j)) y
  lin-lin h g y = lin_inside Q p same (z_sets R) (z_sets-IsAbelian R o identical) G laws (lin G h) (lin-IsAdditive R o identical G laws h) g y
