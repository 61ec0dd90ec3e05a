-- Laws of Z-sets: what each operation does to the weight of a key and to the total, and that the weights decide a Z-set.
use Rattle.std.proofs.Common.{◌≡◌, ◌+◌, List, [], ◌∷◌, ◌++◌, map, Bool, true, false, cond, not, T, ℤ, pos, ◌+ℤ◌, ◌-ℤ◌, neg_ℤ, length, IsPermutation, refl, sym, ap, ap₂, subst, ◌∙◌, arith, int_eq, Ordering, Less, Equal, Greater, is_lt, is_eq}
use Rattle.std.specs.Ordering.{match_ordering, ordering_reverse}
use Rattle.std.specs.List.{list_all}
use Rattle.std.specs.Cmp.{IsTotalOrder}
use Rattle.std.specs.FinMap.{IsAntisymmetric}
use Rattle.std.proofs.lemmas.Cmp.{tied_itself, alike_right}
use borrow.Author.Differences.{ints}
use Rattle.sq_algebra.specs.Listed.{count, is_below_all, is_ascending}
use Rattle.sq_algebra.specs.ZSet.{int_sum_by, keys, is_nonzero, weight_in, is_canonical, in_front, add, collect, ZSet, entries, entries_canonical, same_entries, zero, from_entries, entries-from_entries, entries-zero, from_pairs, single, of_list, weight, total, plus, negate, minus}
use Rattle.sq_algebra.specs.Groups.{integers}
use Rattle.sq_algebra.proofs.Tests.{both, first, second, less}
use Rattle.sq_algebra.proofs.Sums.{int_sum_by-append, int_sum_by-map, int_sum_by_agree, int_sum_by-negate, int_sum_by_one, int_sum_by-IsPermutation}
use Rattle.sq_algebra.proofs.Lists.{count-cons, count-append, below_less}
use Rattle.sq_algebra.proofs.AbelianLemmas.{integers-IsAbelian}
use Rattle.sq_algebra.proofs.PairLemmas.{lin_of-collect, weight_in_is, total_in_is}
pub use Rattle.sq_algebra.proofs.PairLemmas.{zero_from, nonzero_from, nonzero_T}

negated : (b : Bool) (n : ℤ) → cond b (neg_ℤ n) (pos 0) ≡ neg_ℤ (cond b n (pos 0))
negated true n = refl
negated false n = refl

-- what it says of a list of pairs with p in front that it is canonical
pub record FrontOf {K : Type 0} (R : K → K → Ordering) (p : K × ℤ) (ps : List (K × ℤ)) : Type 0 where
  pub below : T (is_below_all R p.0 (keys ps))
  pub nonzero : T (is_nonzero p.1)
  pub rest : T (is_canonical R ps)

-- ---- lists of pairs
module _ {K : Type 0} (R : K → K → Ordering) where
  pub is_below_all-add : (j k : K) (n : ℤ) (ps : List (K × ℤ)) → T (is_lt (R j k)) → T (is_below_all R j (keys ps)) → T (is_below_all R j (keys (add R k n ps)))
  is_below_all-add j k n [] p h = elim (int_eq n (pos 0)) as (λ b. T (is_below_all R j (keys (cond b [] ((k, n) ∷ []))))) [ true ↦ tt | false ↦ both _ _ p tt ]
  is_below_all-add j k n (e ∷ es) p h =
      elim (R k e.0) as (λ r. T (is_below_all R j (keys (match_ordering r (in_front k n (e ∷ es)) (in_front e.0 (n +ℤ e.1) es) (e ∷ add R k n es))))) [
        | Less ↦ elim (int_eq n (pos 0)) as (λ b. T (is_below_all R j (keys (cond b (e ∷ es) ((k, n) ∷ e ∷ es))))) [ true ↦ h | false ↦ both _ _ p h ]
        | Equal ↦ elim (int_eq (n +ℤ e.1) (pos 0)) as (λ b. T (is_below_all R j (keys (cond b es ((e.0, n +ℤ e.1) ∷ es))))) [ true ↦ second _ _ h | false ↦ h ]
        | Greater ↦ both _ _ (first _ _ h) (is_below_all-add j k n es p (second _ _ h))
      ]

  all_nonzero-in_front : (k : K) (n : ℤ) (ps : List (K × ℤ)) → T (list_all (λ p. is_nonzero p.1) ps) → T (list_all (λ p. is_nonzero p.1) (in_front k n ps))
  all_nonzero-in_front k n ps h =
      elim (int_eq n (pos 0)) as (λ b. int_eq n (pos 0) ≡ b → T (list_all (λ p. is_nonzero p.1) (cond b ps ((k, n) ∷ ps)))) [
        | true ↦ λ e. h
        | false ↦ λ e. both _ _ (subst (λ b. T (not b)) (sym e) tt) h
      ] refl

  all_nonzero-add : (k : K) (n : ℤ) (ps : List (K × ℤ)) → T (list_all (λ p. is_nonzero p.1) ps) → T (list_all (λ p. is_nonzero p.1) (add R k n ps))
  all_nonzero-add k n [] h = all_nonzero-in_front k n [] h
  all_nonzero-add k n (p ∷ ps) h =
      elim (R k p.0) as (λ r. T (list_all (λ p. is_nonzero p.1) (match_ordering r (in_front k n (p ∷ ps)) (in_front p.0 (n +ℤ p.1) ps) (p ∷ add R k n ps)))) [
        | Less ↦ all_nonzero-in_front k n (p ∷ ps) h
        | Equal ↦ all_nonzero-in_front p.0 (n +ℤ p.1) ps (second _ _ h)
        | Greater ↦ both _ _ (first _ _ h) (all_nonzero-add k n ps (second _ _ h))
      ]

  pub front_of : (p : K × ℤ) (ps : List (K × ℤ)) → T (is_canonical R (p ∷ ps)) → FrontOf R p ps
  front_of p ps h =
      let ascends : T (is_ascending R (keys (p ∷ ps))) = first (is_ascending R (keys (p ∷ ps))) (list_all (λ q. is_nonzero q.1) (p ∷ ps)) h in
      let weights : T (list_all (λ q. is_nonzero q.1) (p ∷ ps)) = second (is_ascending R (keys (p ∷ ps))) (list_all (λ q. is_nonzero q.1) (p ∷ ps)) h in
      record {
        below = first (is_below_all R p.0 (keys ps)) (is_ascending R (keys ps)) ascends;
        nonzero = first (is_nonzero p.1) (list_all (λ q. is_nonzero q.1) ps) weights;
        rest = both (is_ascending R (keys ps)) (list_all (λ q. is_nonzero q.1) ps)
            (second (is_below_all R p.0 (keys ps)) (is_ascending R (keys ps)) ascends)
            (second (is_nonzero p.1) (list_all (λ q. is_nonzero q.1) ps) weights);
      }

  pub ascending_from : (ps : List (K × ℤ)) → T (is_canonical R ps) → T (is_ascending R (keys ps))
  ascending_from ps h = first (is_ascending R (keys ps)) (list_all (λ q. is_nonzero q.1) ps) h

  pub nonzero_weights_from : (ps : List (K × ℤ)) → T (is_canonical R ps) → T (list_all (λ q. is_nonzero q.1) ps)
  nonzero_weights_from ps h = second (is_ascending R (keys ps)) (list_all (λ q. is_nonzero q.1) ps) h

  pub canonical_from : (ps : List (K × ℤ)) → T (is_ascending R (keys ps)) → T (list_all (λ q. is_nonzero q.1) ps) → T (is_canonical R ps)
  canonical_from ps g h = both (is_ascending R (keys ps)) (list_all (λ q. is_nonzero q.1) ps) g h

  module _ (o : IsTotalOrder R) where
    is_ascending-add : (k : K) (n : ℤ) (ps : List (K × ℤ)) → T (is_ascending R (keys ps)) → T (is_ascending R (keys (add R k n ps)))
    is_ascending-add k n [] h = elim (int_eq n (pos 0)) as (λ b. T (is_ascending R (keys (cond b [] ((k, n) ∷ []))))) [ true ↦ tt | false ↦ tt ]
    is_ascending-add k n (p ∷ ps) h =
        elim (R k p.0) as (λ r. R k p.0 ≡ r → T (is_ascending R (keys (match_ordering r (in_front k n (p ∷ ps)) (in_front p.0 (n +ℤ p.1) ps) (p ∷ add R k n ps))))) [
          | Less ↦ λ e. elim (int_eq n (pos 0)) as (λ b. T (is_ascending R (keys (cond b (p ∷ ps) ((k, n) ∷ p ∷ ps))))) [
            | true ↦ h
            | false ↦ both _ _ (both _ _ (subst (λ r. T (is_lt r)) (sym e) tt) (below_less R o k p.0 (keys ps) e (first _ _ h))) h
          ]
          | Equal ↦ λ e. elim (int_eq (n +ℤ p.1) (pos 0)) as (λ b. T (is_ascending R (keys (cond b ps ((p.0, n +ℤ p.1) ∷ ps))))) [ true ↦ second _ _ h | false ↦ h ]
          | Greater ↦ λ e. both _ _ (is_below_all-add p.0 k n ps (subst (λ r. T (is_lt r)) (sym (o.antisymm p.0 k ∙ ap ordering_reverse e)) tt) (first _ _ h)) (is_ascending-add k n ps (second _ _ h))
        ] refl

    pub is_canonical-add : (k : K) (n : ℤ) (ps : List (K × ℤ)) → T (is_canonical R ps) → T (is_canonical R (add R k n ps))
    is_canonical-add k n ps h = canonical_from (add R k n ps) (is_ascending-add k n ps (ascending_from ps h)) (all_nonzero-add k n ps (nonzero_weights_from ps h))

    pub is_canonical-collect : (ps : List (K × ℤ)) → T (is_canonical R (collect R ps))
    is_canonical-collect [] = tt
    is_canonical-collect (p ∷ ps) = is_canonical-add p.0 p.1 (collect R ps) (is_canonical-collect ps)

    pub weight_in-collect : (k : K) (ps : List (K × ℤ)) → weight_in R k (collect R ps) ≡ weight_in R k ps
    weight_in-collect k ps =
        weight_in_is R k (collect R ps)
        ∙ lin_of-collect R integers integers-IsAbelian (λ j. cond (is_eq (R k j)) (pos 1) (pos 0)) (λ i j e. ap (λ r. cond (is_eq r) (pos 1) (pos 0)) (alike_right o i j k e)) ps
        ∙ sym (weight_in_is R k ps)

    -- a key below all keys of a list has no weight in it
    pub weight_in_none : (k : K) (ps : List (K × ℤ)) → T (is_below_all R k (keys ps)) → weight_in R k ps ≡ pos 0
    weight_in_none k [] h = refl
    weight_in_none k (p ∷ ps) h =
        let apart : R k p.0 ≡ Less = less _ (first (is_lt (R k p.0)) (is_below_all R k (keys ps)) h) in
        let rest : weight_in R k ps ≡ pos 0 = weight_in_none k ps (second (is_lt (R k p.0)) (is_below_all R k (keys ps)) h) in
        λ i. cond (is_eq (apart i)) p.1 (pos 0) +ℤ rest i

    -- the weight of the first key
    weight_in_head : (p : K × ℤ) (ps : List (K × ℤ)) → T (is_below_all R p.0 (keys ps)) → weight_in R p.0 (p ∷ ps) ≡ p.1
    weight_in_head p ps h =
        let head = ap (λ r. cond (is_eq r) p.1 (pos 0)) (tied_itself o p.0) in
        let rest = weight_in_none p.0 ps h in
        omega (arith, ints)

    pub below_from : (k : K) (p : K × ℤ) (ps : List (K × ℤ)) → R k p.0 ≡ Less → FrontOf R p ps → T (is_below_all R k (keys (p ∷ ps)))
    below_from k p ps e h = both (is_lt (R k p.0)) (is_below_all R k (keys ps)) (subst (λ r. T (is_lt r)) (sym e) tt) (below_less R o k p.0 (keys ps) e h.below)

    missed : (p q : K × ℤ) (ps qs : List (K × ℤ)) → FrontOf R p ps → FrontOf R q qs → R p.0 q.0 ≡ Less → weight_in R p.0 (p ∷ ps) ≡ weight_in R p.0 (q ∷ qs) → ⊥
    missed p q ps qs g h e same =
        nonzero_from p.1 g.nonzero (sym (weight_in_head p ps g.below) ∙ same ∙ weight_in_none p.0 (q ∷ qs) (below_from p.0 q qs e h))

    same_rest : (k : K) (p q : K × ℤ) (ps qs : List (K × ℤ)) → p.0 ≡ q.0 → p.1 ≡ q.1 → weight_in R k (p ∷ ps) ≡ weight_in R k (q ∷ qs) → weight_in R k ps ≡ weight_in R k qs
    same_rest k p q ps qs one_key one_weight same =
        let heads : cond (is_eq (R k p.0)) p.1 (pos 0) ≡ cond (is_eq (R k q.0)) q.1 (pos 0) = λ i. cond (is_eq (R k (one_key i))) (one_weight i) (pos 0) in
        omega (arith, ints)

    -- two canonical lists that give each key the same weight are the same list
    pub same_lists : IsAntisymmetric R → (ps qs : List (K × ℤ)) → T (is_canonical R ps) → T (is_canonical R qs) → ((k : K) → weight_in R k ps ≡ weight_in R k qs) → ps ≡ qs
    same_lists identical [] [] g h same = refl
    same_lists identical [] (q ∷ qs) g h same = let front = front_of q qs h in absurd (nonzero_from q.1 front.nonzero (sym (weight_in_head q qs front.below) ∙ sym (same q.0)))
    same_lists identical (p ∷ ps) [] g h same = let front = front_of p ps g in absurd (nonzero_from p.1 front.nonzero (sym (weight_in_head p ps front.below) ∙ same p.0))
    same_lists identical (p ∷ ps) (q ∷ qs) g h same =
        let left = front_of p ps g in
        let right = front_of q qs h in
        elim (R p.0 q.0) as (λ r. R p.0 q.0 ≡ r → p ∷ ps ≡ q ∷ qs) [
          | Less ↦ λ e. absurd (missed p q ps qs left right e (same p.0))
          | Greater ↦ λ e. absurd (missed q p qs ps right left (o.antisymm q.0 p.0 ∙ ap ordering_reverse e) (sym (same q.0)))
          | Equal ↦ λ e.
              let one_key : p.0 ≡ q.0 = identical p.0 q.0 e in
              let one_weight : p.1 ≡ q.1 = sym (weight_in_head p ps left.below) ∙ same p.0 ∙ ap (λ k. weight_in R k (q ∷ qs)) one_key ∙ weight_in_head q qs right.below in
              let rest : ps ≡ qs = same_lists identical ps qs left.rest right.rest (λ k. same_rest k p q ps qs one_key one_weight (same k)) in
              λ i. (one_key i, one_weight i) ∷ rest i
        ] refl

-- ---- Z-sets
module _ {K : Type 0} (R : K → K → Ordering) where
  pub weight-zero : (k : K) → weight k (zero R) ≡ pos 0
  unfolding weight
  weight-zero k = ap (weight_in R k) (entries-zero R)

  pub total-zero : total (zero R) ≡ pos 0
  unfolding total
  total-zero = ap (λ es. int_sum_by (λ e. e.1) es) (entries-zero R)

  -- a canonical list is the entries of its Z-set, and the entries of a Z-set give it back
  pub weight-from_entries : (k : K) (es : List (K × ℤ)) → T (is_canonical R es) → weight k (from_entries R es) ≡ weight_in R k es
  unfolding weight
  weight-from_entries k es h = ap (weight_in R k) (entries-from_entries R es h)

  pub total-from_entries : (es : List (K × ℤ)) → T (is_canonical R es) → total (from_entries R es) ≡ int_sum_by (λ e. e.1) es
  unfolding total
  total-from_entries es h = ap (λ es. int_sum_by (λ e. e.1) es) (entries-from_entries R es h)

  pub from_entries-entries : (z : ZSet K R) → from_entries R (entries z) ≡ z
  from_entries-entries z = same_entries (from_entries R (entries z)) z (entries-from_entries R (entries z) (entries_canonical z))

  pub weight-entries : (k : K) (z : ZSet K R) → weight k z ≡ weight_in R k (entries z)
  unfolding weight
  weight-entries k z = refl

  pub total-entries : (z : ZSet K R) → total z ≡ int_sum_by (λ e. e.1) (entries z)
  unfolding total
  total-entries z = refl

  module _ (o : IsTotalOrder R) where
    pub entries-from_pairs : (ps : List (K × ℤ)) → entries (from_pairs R ps) ≡ collect R ps
    unfolding from_pairs
    entries-from_pairs ps = entries-from_entries R (collect R ps) (is_canonical-collect R o ps)

    -- a key has the sum of the weights of its pairs
    pub weight-from_pairs : (k : K) (ps : List (K × ℤ)) → weight k (from_pairs R ps) ≡ weight_in R k ps
    unfolding weight
    weight-from_pairs k ps = ap (weight_in R k) (entries-from_pairs ps) ∙ weight_in-collect R o k ps

    pub total-from_pairs : (ps : List (K × ℤ)) → total (from_pairs R ps) ≡ int_sum_by (λ p. p.1) ps
    unfolding total
    total-from_pairs ps =
        ap (λ es. int_sum_by (λ e. e.1) es) (entries-from_pairs ps)
        ∙ total_in_is (collect R ps)
        ∙ lin_of-collect R integers integers-IsAbelian (λ _. pos 1) (λ _ _ _. refl) ps
        ∙ sym (total_in_is ps)

    pub weight-single : (k j : K) → weight k (single R j) ≡ cond (is_eq (R k j)) (pos 1) (pos 0)
    unfolding single
    weight-single k j = weight-from_pairs k ((j, pos 1) ∷ []) ∙ omega (arith, ints)

    -- a key has its count
    pub weight-of_list : (k : K) (xs : List K) → weight k (of_list R xs) ≡ pos (count R k xs)
    unfolding of_list
    weight-of_list k xs = weight-from_pairs k (map (λ x. (x, pos 1)) xs) ∙ counted xs
      where
        counted : (xs : List K) → weight_in R k (map (λ x. (x, pos 1)) xs) ≡ pos (count R k xs)
        counted [] = refl
        counted (x ∷ xs) =
            ap (λ n. cond (is_eq (R k x)) (pos 1) (pos 0) +ℤ n) (counted xs)
            ∙ elim (is_eq (R k x)) as (λ b. cond b (pos 1) (pos 0) +ℤ pos (count R k xs) ≡ pos (cond b 1 0 + count R k xs)) [ true ↦ refl | false ↦ refl ]
            ∙ ap pos (sym (count-cons R k x xs))

    pub total-of_list : (xs : List K) → total (of_list R xs) ≡ pos (length xs)
    unfolding of_list
    total-of_list xs = total-from_pairs (map (λ x. (x, pos 1)) xs) ∙ int_sum_by-map (λ p. p.1) (λ x. (x, pos 1)) xs ∙ int_sum_by_one xs

    pub weight-plus : (k : K) (y z : ZSet K R) → weight k (plus y z) ≡ weight k y +ℤ weight k z
    unfolding plus weight
    weight-plus k y z = weight-from_pairs k (entries y ++ entries z) ∙ int_sum_by-append (λ p. cond (is_eq (R k p.0)) p.1 (pos 0)) (entries y) (entries z)

    pub total-plus : (y z : ZSet K R) → total (plus y z) ≡ total y +ℤ total z
    unfolding plus total
    total-plus y z = total-from_pairs (entries y ++ entries z) ∙ int_sum_by-append (λ p. p.1) (entries y) (entries z)

    pub weight-negate : (k : K) (z : ZSet K R) → weight k (negate z) ≡ neg_ℤ (weight k z)
    unfolding negate weight
    weight-negate k z =
        weight-from_pairs k (map (λ e. (e.0, neg_ℤ e.1)) (entries z))
        ∙ int_sum_by-map (λ p. cond (is_eq (R k p.0)) p.1 (pos 0)) (λ e. (e.0, neg_ℤ e.1)) (entries z)
        ∙ int_sum_by_agree (λ (e : K × ℤ). cond (is_eq (R k e.0)) (neg_ℤ e.1) (pos 0)) (λ (e : K × ℤ). neg_ℤ (cond (is_eq (R k e.0)) e.1 (pos 0))) (λ e. negated (is_eq (R k e.0)) e.1) (entries z)
        ∙ int_sum_by-negate (λ p. cond (is_eq (R k p.0)) p.1 (pos 0)) (entries z)

    pub total-negate : (z : ZSet K R) → total (negate z) ≡ neg_ℤ (total z)
    unfolding negate total
    total-negate z =
        total-from_pairs (map (λ e. (e.0, neg_ℤ e.1)) (entries z))
        ∙ int_sum_by-map (λ p. p.1) (λ e. (e.0, neg_ℤ e.1)) (entries z)
        ∙ int_sum_by-negate (λ p. p.1) (entries z)

    pub weight-minus : (k : K) (y z : ZSet K R) → weight k (minus y z) ≡ weight k y -ℤ weight k z
    weight-minus k y z = weight-plus k y (negate z) ∙ ap (λ n. weight k y +ℤ n) (weight-negate k z)

    pub total-minus : (y z : ZSet K R) → total (minus y z) ≡ total y -ℤ total z
    total-minus y z = total-plus y (negate z) ∙ ap (λ n. total y +ℤ n) (total-negate z)

    module _ (identical : IsAntisymmetric R) where
      -- the weights decide a Z-set
      pub same_weights : (y z : ZSet K R) → ((k : K) → weight k y ≡ weight k z) → y ≡ z
      unfolding weight
      same_weights y z same = same_entries y z (same_lists R o identical (entries y) (entries z) (entries_canonical y) (entries_canonical z) same)

      pub from_pairs-append : (ps qs : List (K × ℤ)) → from_pairs R (ps ++ qs) ≡ plus (from_pairs R ps) (from_pairs R qs)
      from_pairs-append ps qs =
          same_weights _ _ (λ k. weight-from_pairs k (ps ++ qs)
          ∙ int_sum_by-append (λ p. cond (is_eq (R k p.0)) p.1 (pos 0)) ps qs
          ∙ sym (weight-plus k (from_pairs R ps) (from_pairs R qs) ∙ ap₂ ◌+ℤ◌ (weight-from_pairs k ps) (weight-from_pairs k qs)))

      -- the order of the pairs does not matter
      pub from_pairs-IsPermutation : (ps qs : List (K × ℤ)) → IsPermutation ps qs → from_pairs R qs ≡ from_pairs R ps
      from_pairs-IsPermutation ps qs moved =
          same_weights _ _ (λ k. weight-from_pairs k qs
          ∙ int_sum_by-IsPermutation (λ p. cond (is_eq (R k p.0)) p.1 (pos 0)) ps qs moved
          ∙ sym (weight-from_pairs k ps))

      pub of_list-append : (xs ys : List K) → of_list R (xs ++ ys) ≡ plus (of_list R xs) (of_list R ys)
      of_list-append xs ys =
          same_weights _ _ (λ k. weight-of_list k (xs ++ ys)
          ∙ ap pos (count-append R k xs ys)
          ∙ sym (weight-plus k (of_list R xs) (of_list R ys) ∙ ap₂ ◌+ℤ◌ (weight-of_list k xs) (weight-of_list k ys)))
