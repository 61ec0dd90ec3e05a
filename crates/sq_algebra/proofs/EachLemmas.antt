-- What holds of each key of a sum, a difference, a part, an image or a product, if it holds of each key of what that is made of; and of
-- each member of a list in order, and of the list of a Z-set. For any predicate: for tests, see PassingLemmas.
use Rattle.std.proofs.Common.{ℕ, zero, suc, List, [], ◌∷◌, ◌++◌, map, Bool, true, false, cond, ℤ, pos, nat_abs, replicate, ◌+ℤ◌, ◌*ℤ◌, get_or, Ordering, Less, Equal, Greater, is_eq, sym, subst}
use Rattle.std.specs.Cmp.{IsTotalOrder}
use Rattle.std.specs.List.{All, AllByRecursion, filter, flat_map}
use Rattle.std.specs.Ordering.{int_eq, match_ordering}
use Rattle.std.proofs.lemmas.List.Elements.{All-from_recursion, recursion_from_All}
use Rattle.sq_algebra.specs.Keyed.{at_key}
use Rattle.sq_algebra.specs.Listed.{in_order, place}
use Rattle.sq_algebra.specs.Operators.{distinct, image, keep, product, repeated, weighing}
use Rattle.sq_algebra.specs.ZSet.{ZSet, add, collect, entries, from_pairs, in_front, minus, negate, negated, of_list, plus}
use Rattle.sq_algebra.proofs.Weights.{entries-from_pairs}

-- ---- lists

each-append : {X : Type 0} (P : X → Type 0) (xs ys : List X) → AllByRecursion P xs → AllByRecursion P ys → AllByRecursion P (xs ++ ys)
each-append P [] ys g h = h
each-append P (x ∷ xs) ys g h = (g.0, each-append P xs ys g.1 h)

each-flat_map : {X Y : Type 0} (P : Y → Type 0) (f : X → List Y) (xs : List X) → AllByRecursion (λ x. AllByRecursion P (f x)) xs → AllByRecursion P (flat_map f xs)
each-flat_map P f [] h = tt
each-flat_map P f (x ∷ xs) h = each-append P (f x) (flat_map f xs) h.0 (each-flat_map P f xs h.1)

each_weaker : {X : Type 0} (P Q : X → Type 0) → ((x : X) → P x → Q x) → (xs : List X) → AllByRecursion P xs → AllByRecursion Q xs
each_weaker P Q f [] h = tt
each_weaker P Q f (x ∷ xs) h = (f x h.0, each_weaker P Q f xs h.1)

module _ {K : Type 0} (P : K → Type 0) where
  -- it holds of each key
  abbrev pub EachKey : {R : K → K → Ordering} → ZSet K R → Type 0
  EachKey z = All (λ e. P e.0) (entries z)

  abbrev EachPair : List (K × ℤ) → Type 0
  EachPair ps = AllByRecursion (λ e. P e.0) ps

  pub each_pair : {R : K → K → Ordering} (z : ZSet K R) → EachKey z → EachPair (entries z)
  each_pair z h = recursion_from_All (λ (e : K × ℤ). P e.0) (entries z) h

  pub each_key : {R : K → K → Ordering} (z : ZSet K R) → EachPair (entries z) → EachKey z
  each_key z h = All-from_recursion (λ (e : K × ℤ). P e.0) (entries z) h

  each-negated : (ps : List (K × ℤ)) → EachPair ps → EachPair (negated ps)
  each-negated [] h = tt
  each-negated (e ∷ ps) h = (h.0, each-negated ps h.1)

  each-filter : (q : K → Bool) (ps : List (K × ℤ)) → EachPair ps → EachPair (filter (λ e. q e.0) ps)
  each-filter q [] h = tt
  each-filter q (e ∷ ps) h =
      let rest = each-filter q ps h.1 in
      elim (q e.0) as (λ b. EachPair (cond b (e ∷ filter (λ d. q d.0) ps) (filter (λ d. q d.0) ps))) [ true ↦ (h.0, rest) | false ↦ rest ]

  each-weighed : (f : K × ℤ → ℤ) (ps : List (K × ℤ)) → EachPair ps → EachPair (map (λ e. (e.0, f e)) ps)
  each-weighed f [] h = tt
  each-weighed f (e ∷ ps) h = (h.0, each-weighed f ps h.1)

  each-weighing : (n : ℤ) (xs : List K) → AllByRecursion P xs → EachPair (weighing n xs)
  each-weighing n [] h = tt
  each-weighing n (x ∷ xs) h = (h.0, each-weighing n xs h.1)

  each-replicate : (n : ℕ) (k : K) → P k → AllByRecursion P (replicate n k)
  each-replicate zero k h = tt
  each-replicate (suc n) k h = (h, each-replicate n k h)

  repeated_pairs : (es : List (K × ℤ)) → EachPair es → AllByRecursion P (flat_map (λ e. replicate (nat_abs e.1) e.0) es)
  repeated_pairs [] h = tt
  repeated_pairs (e ∷ es) h = each-append P (replicate (nat_abs e.1) e.0) (flat_map (λ e. replicate (nat_abs e.1) e.0) es) (each-replicate (nat_abs e.1) e.0 h.0) (repeated_pairs es h.1)

  -- the members of the list of a Z-set without weights below 0
  pub each-repeated : {R : K → K → Ordering} (z : ZSet K R) → EachKey z → AllByRecursion P (repeated z)
  each-repeated z h = repeated_pairs (entries z) (each_pair z h)

  module _ (R : K → K → Ordering) where
    each-place : (x : K) (xs : List K) → P x → AllByRecursion P xs → AllByRecursion P (place R x xs)
    each-place x [] h l = (h, tt)
    each-place x (y ∷ ys) h l =
        let later : AllByRecursion P (place R x ys) = each-place x ys h l.1 in
        elim (R x y) as (λ r. AllByRecursion P (match_ordering r (x ∷ y ∷ ys) (y ∷ ys) (y ∷ place R x ys))) [ Less ↦ (h, l) | Equal ↦ l | Greater ↦ (l.0, later) ]

    pub each-in_order : (xs : List K) → AllByRecursion P xs → AllByRecursion P (in_order R xs)
    each-in_order [] h = tt
    each-in_order (x ∷ xs) h = each-place x (in_order R xs) h.0 (each-in_order xs h.1)

    each-front : (k : K) (n : ℤ) (ps : List (K × ℤ)) → P k → EachPair ps → EachPair (in_front k n ps)
    each-front k n ps g h = elim (int_eq n (pos 0)) as (λ b. EachPair (cond b ps ((k, n) ∷ ps))) [ true ↦ h | false ↦ (g, h) ]

    each-add : (k : K) (n : ℤ) (ps : List (K × ℤ)) → P k → EachPair ps → EachPair (add R k n ps)
    each-add k n [] g h = each-front k n [] g h
    each-add k n (e ∷ ps) g h =
        let rest : EachPair (add R k n ps) = each-add k n ps g h.1 in
        elim (R k e.0) as (λ r. EachPair (match_ordering r (in_front k n (e ∷ ps)) (in_front e.0 (n +ℤ e.1) ps) (e ∷ add R k n ps))) [
          | Less ↦ each-front k n (e ∷ ps) g h
          | Equal ↦ each-front e.0 (n +ℤ e.1) ps h.0 h.1
          | Greater ↦ (h.0, rest)
        ]

    each-collect : (ps : List (K × ℤ)) → EachPair ps → EachPair (collect R ps)
    each-collect [] h = tt
    each-collect (e ∷ ps) h = each-add e.0 e.1 (collect R ps) h.0 (each-collect ps h.1)

    module _ (o : IsTotalOrder R) where
      each-from_pairs : (ps : List (K × ℤ)) → EachPair ps → EachKey (from_pairs R ps)
      each-from_pairs ps h = each_key (from_pairs R ps) (subst EachPair (sym (entries-from_pairs R o ps)) (each-collect ps h))

      pub each-of_list : (xs : List K) → AllByRecursion P xs → EachKey (of_list R xs)
      unfolding of_list
      each-of_list xs h = each-from_pairs (map (λ x. (x, pos 1)) xs) (each-weighing (pos 1) xs h)

      pub each-plus : (y z : ZSet K R) → EachKey y → EachKey z → EachKey (plus y z)
      unfolding plus
      each-plus y z g h = each-from_pairs (entries y ++ entries z) (each-append (λ e. P e.0) (entries y) (entries z) (each_pair y g) (each_pair z h))

      pub each-negate : (z : ZSet K R) → EachKey z → EachKey (negate z)
      unfolding negate
      each-negate z h = each-from_pairs (negated (entries z)) (each-negated (entries z) (each_pair z h))

      pub each-minus : (y z : ZSet K R) → EachKey y → EachKey z → EachKey (minus y z)
      each-minus y z g h = each-plus y (negate z) g (each-negate z h)

      pub each-keep : (q : K → Bool) (z : ZSet K R) → EachKey z → EachKey (keep q z)
      unfolding keep
      each-keep q z h = each-from_pairs (filter (λ e. q e.0) (entries z)) (each-filter q (entries z) (each_pair z h))

      pub each-at_key : {C : Type 0} (Q : C → C → Ordering) (key : K → C) (c : C) (z : ZSet K R) → EachKey z → EachKey (at_key Q key c z)
      unfolding at_key
      each-at_key Q key c z h = each-keep (λ k. is_eq (Q c (key k))) z h

      pub each-distinct : (z : ZSet K R) → EachKey z → EachKey (distinct z)
      unfolding distinct
      each-distinct z h = each-from_pairs _ (each-weighed _ (entries z) (each_pair z h))

module _ {K L : Type 0} (P : K → Type 0) (Q : L → Type 0) (U : L → L → Ordering) (u : IsTotalOrder U) where
  -- an image, where it holds of each image of each key
  pub each-image : {R : K → K → Ordering} (f : K → List L) (z : ZSet K R) → EachKey (λ k. P k → AllByRecursion Q (f k)) z → EachKey P z → EachKey Q (image U f z)
  unfolding image
  each-image f z step h =
      each-from_pairs Q U u (flat_map (λ e. weighing e.1 (f e.0)) (entries z))
      (each-flat_map (λ e. Q e.0) (λ e. weighing e.1 (f e.0)) (entries z)
      (recursion_from_All (λ (e : K × ℤ). AllByRecursion (λ d. Q d.0) (weighing e.1 (f e.0))) (entries z)
      (λ i d low. each-weighing Q (get_or (entries z) i d).1 (f (get_or (entries z) i d).0) (step i d low (h i d low)))))

module _ {J K L : Type 0} (P : J → Type 0) (P' : K → Type 0) (Q : L → Type 0) (U : L → L → Ordering) (u : IsTotalOrder U)
    (f : J → K → List L) (step : (j : J) (k : K) → P j → P' k → AllByRecursion Q (f j k)) where
  -- a product, where it holds of each image of each pair of keys
  pub each-product : {S : J → J → Ordering} {R : K → K → Ordering} (y : ZSet J S) (z : ZSet K R) → EachKey P y → EachKey P' z → EachKey Q (product U f y z)
  unfolding product
  each-product y z g h =
      each-from_pairs Q U u (flat_map (λ d. flat_map (λ e. weighing (d.1 *ℤ e.1) (f d.0 e.0)) (entries z)) (entries y))
      (each-flat_map (λ e. Q e.0) (λ d. flat_map (λ e. weighing (d.1 *ℤ e.1) (f d.0 e.0)) (entries z)) (entries y)
      (each_weaker (λ d. P d.0) (λ d. AllByRecursion (λ e. Q e.0) (flat_map (λ e. weighing (d.1 *ℤ e.1) (f d.0 e.0)) (entries z)))
      (λ d p. each-flat_map (λ e. Q e.0) (λ e. weighing (d.1 *ℤ e.1) (f d.0 e.0)) (entries z)
      (each_weaker (λ e. P' e.0) (λ e. AllByRecursion (λ x. Q x.0) (weighing (d.1 *ℤ e.1) (f d.0 e.0)))
      (λ e r. each-weighing Q (d.1 *ℤ e.1) (f d.0 e.0) (step d.0 e.0 p r)) (entries z) (each_pair P' z h)))
      (entries y) (each_pair P y g)))
