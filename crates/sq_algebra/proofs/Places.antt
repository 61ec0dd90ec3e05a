-- What the entries of a Z-set, and lists in order, say place by place.
use Rattle.std.proofs.Common.{◌≡◌, ℕ, zero, suc, ◌+◌, ◌<◌, List, [], ◌∷◌, length, get_or, slice_get, false, cond, T, ℤ, pos, ◌+ℤ◌, IsSortedBy, refl, sym, ap, ◌∙◌, arith, Some, Ordering, Less, Equal, Greater, is_lt, is_eq}
use Rattle.std.specs.Ordering.{ordering_reverse}
use Rattle.std.specs.Cmp.{IsTotalOrder}
use Rattle.std.proofs.lemmas.Option.{get_or_from_slice_get, slice_get_within}
use borrow.Author.Differences.{ints}
use Rattle.sq_algebra.specs.Listed.{is_below_all, is_ascending}
use Rattle.sq_algebra.specs.ZSet.{keys, weight_in}
use Rattle.sq_algebra.proofs.Tests.{first, second, less}
use Rattle.sq_algebra.proofs.Lists.{below_tied}
use Rattle.sq_algebra.proofs.Weights.{weight_in_none}

module _ {K : Type 0} (R : K → K → Ordering) where
  -- a key below all others is below that at each place
  pub below_at : (k : K) (ps : List (K × ℤ)) (i : ℕ) (d : K × ℤ) → T (is_below_all R k (keys ps)) → i < length ps → R k (get_or ps i d).0 ≡ Less
  below_at k [] i d h l = absurd (omega arith)
  below_at k (p ∷ ps) zero d h l = less _ (first (is_lt (R k p.0)) (is_below_all R k (keys ps)) h)
  below_at k (p ∷ ps) (suc i) d h l = below_at k ps i d (second (is_lt (R k p.0)) (is_below_all R k (keys ps)) h) (omega arith)

  -- the keys ascend from place to place
  pub ascending_at : (ps : List (K × ℤ)) (i j : ℕ) (d : K × ℤ) → T (is_ascending R (keys ps)) → i < j → j < length ps → R (get_or ps i d).0 (get_or ps j d).0 ≡ Less
  ascending_at [] i j d h l m = absurd (omega arith)
  ascending_at (p ∷ ps) i zero d h l m = absurd (omega arith)
  ascending_at (p ∷ ps) zero (suc j) d h l m = below_at p.0 ps j d (first (is_below_all R p.0 (keys ps)) (is_ascending R (keys ps)) h) (omega arith)
  ascending_at (p ∷ ps) (suc i) (suc j) d h l m = ascending_at ps i j d (second (is_below_all R p.0 (keys ps)) (is_ascending R (keys ps)) h) (omega arith) (omega arith)

  -- the same, of entries that are looked up
  pub ascending_got : (ps : List (K × ℤ)) (i j : ℕ) (p q : K × ℤ) → T (is_ascending R (keys ps)) → i < j → slice_get ps i ≡ Some p → slice_get ps j ≡ Some q → R p.0 q.0 ≡ Less
  ascending_got ps i j p q h l e f =
      (λ n. R (sym (get_or_from_slice_get ps i p p e) n).0 (sym (get_or_from_slice_get ps j q p f) n).0)
      ∙ ascending_at ps i j p h l (slice_get_within ps j q f)

  -- a key that ties with no other has no weight
  pub weight_in_apart : (k : K) (ps : List (K × ℤ)) → ((i : ℕ) (d : K × ℤ) → i < length ps → is_eq (R k (get_or ps i d).0) ≡ false) → weight_in R k ps ≡ pos 0
  weight_in_apart k [] h = refl
  weight_in_apart k (p ∷ ps) h =
      let rest : weight_in R k ps ≡ pos 0 = weight_in_apart k ps (λ i d l. h (suc i) d (omega arith)) in
      let apart : is_eq (R k p.0) ≡ false = h 0 p (omega arith) in
      λ i. cond (apart i) p.1 (pos 0) +ℤ rest i

  module _ (o : IsTotalOrder R) where
    -- the weight of a key that ties with that at some place is the one at this place
    pub weight_in_at : (k : K) (ps : List (K × ℤ)) (i : ℕ) (d : K × ℤ) → T (is_ascending R (keys ps)) → i < length ps → R k (get_or ps i d).0 ≡ Equal → weight_in R k ps ≡ (get_or ps i d).1
    weight_in_at k [] i d h l e = absurd (omega arith)
    weight_in_at k (p ∷ ps) zero d h l e =
        let rest : weight_in R k ps ≡ pos 0 = weight_in_none R o k ps (below_tied R o k p.0 (keys ps) e (first (is_below_all R p.0 (keys ps)) (is_ascending R (keys ps)) h)) in
        let head : cond (is_eq (R k p.0)) p.1 (pos 0) ≡ p.1 = ap (λ r. cond (is_eq r) p.1 (pos 0)) e in
        omega (arith, ints)
    weight_in_at k (p ∷ ps) (suc i) d h l e =
        let below : R p.0 (get_or ps i d).0 ≡ Less = below_at p.0 ps i d (first (is_below_all R p.0 (keys ps)) (is_ascending R (keys ps)) h) (omega arith) in
        let above : R k p.0 ≡ Greater = o.congr k (get_or ps i d).0 p.0 e ∙ o.antisymm (get_or ps i d).0 p.0 ∙ ap ordering_reverse below in
        let rest : weight_in R k ps ≡ (get_or ps i d).1 = weight_in_at k ps i d (second (is_below_all R p.0 (keys ps)) (is_ascending R (keys ps)) h) (omega arith) e in
        let head : cond (is_eq (R k p.0)) p.1 (pos 0) ≡ pos 0 = ap (λ r. cond (is_eq r) p.1 (pos 0)) above in
        omega (arith, ints)

    -- ascending entries are sorted by their keys
    pub sorted_from_ascending : (ps : List (K × ℤ)) → T (is_ascending R (keys ps)) → IsSortedBy (λ a b. is_lt (R a.0 b.0)) ps
    sorted_from_ascending ps h k d low high =
        ap is_lt (o.antisymm (get_or ps (k + 1) d).0 (get_or ps k d).0 ∙ ap ordering_reverse (ascending_at ps k (k + 1) d h (omega arith) high))
