-- The operators on Z-sets as linear extensions, and what they do to weights, sums, and one another.
use Rattle.std.proofs.Common.{◌≡◌, ◌+◌, List, [], ◌∷◌, map, Bool, true, false, cond, not, ◌&&◌, ℤ, pos, ◌+ℤ◌, ◌*ℤ◌, filter, refl, sym, ap, ap₂, ◌∙◌, arith, Ordering, is_eq}
use Rattle.std.specs.List.{flat_map}
use Rattle.std.specs.Cmp.{IsTotalOrder}
use Rattle.std.specs.FinMap.{IsAntisymmetric}
use Rattle.std.proofs.lemmas.List.Concat.{flat_map_single}
use borrow.Author.Differences.{ints}
use Rattle.std.proofs.lemmas.Cmp.{tied_itself}
use Rattle.sq_algebra.specs.Listed.{count}
use Rattle.sq_algebra.specs.ZSet.{ZSet, entries, zero as no_keys, single, of_list, from_pairs, weight, plus as plus_keys, minus as minus_keys}
use Rattle.sq_algebra.specs.Groups.{AbelianGroup, IsAbelian, integers, z_sets, times, sum_over, IsAdditive}
use Rattle.sq_algebra.specs.Operators.{lin, weighing, keep, image, product}
use Rattle.sq_algebra.proofs.Tests.{equal}
use Rattle.sq_algebra.proofs.Lists.{count-cons}
use Rattle.sq_algebra.proofs.Weights.{weight-zero, weight-single, weight-plus, weight-of_list, same_weights}
use Rattle.sq_algebra.proofs.GroupLemmas.{bilinear_change, integers-IsAbelian, z_sets-IsAbelian, times-times, times_of_zero, IsAdditive_same, additive-zero, sum_over_agree, sum_over-map, sum_over-flat_map, sum_over-filter, sum_over-times}
use Rattle.sq_algebra.proofs.LinearLemmas.{lin_of, lin-zero, lin-single, lin-IsAdditive, lin-of_list, lin_agree, lin_of_zero, lin_inside, weight_is, weight-IsAdditive, from_pairs_is, of_list_is, lin-swap, lin-lin}

-- ---- the Z-sets of lists of pairs
pub of_list-one : {L : Type 0} (U : L → L → Ordering) (x : L) → of_list U (x ∷ []) ≡ single U x
unfolding of_list single
of_list-one U x = refl

module _ {L : Type 0} (U : L → L → Ordering) (o : IsTotalOrder U) (identical : IsAntisymmetric U) where
  abbrev sums : IsAbelian (z_sets U)
  sums = z_sets-IsAbelian U o identical

  pub of_list-nil : of_list U [] ≡ no_keys U
  of_list-nil = of_list_is U o identical []

  pub of_list-flat_map : {X : Type 0} (f : X → List L) (xs : List X) → of_list U (flat_map f xs) ≡ sum_over (z_sets U) (λ x. of_list U (f x)) xs
  of_list-flat_map f xs =
      of_list_is U o identical (flat_map f xs)
      ∙ sum_over-flat_map (z_sets U) sums (single U) f xs
      ∙ sum_over_agree (z_sets U) (λ x. sum_over (z_sets U) (single U) (f x)) (λ x. of_list U (f x)) (λ x. sym (of_list_is U o identical (f x))) xs

  from_pairs-weighing : (n : ℤ) (xs : List L) → from_pairs U (weighing n xs) ≡ times (z_sets U) n (of_list U xs)
  from_pairs-weighing n xs =
      from_pairs_is U o identical (weighing n xs)
      ∙ sum_over-map (z_sets U) (λ p. times (z_sets U) p.1 (single U p.0)) (λ x. (x, n)) xs
      ∙ sum_over-times (z_sets U) sums n (single U) xs
      ∙ ap (times (z_sets U) n) (sym (of_list_is U o identical xs))

  pub from_pairs-flat_map : {X : Type 0} (g : X → List (L × ℤ)) (xs : List X) → from_pairs U (flat_map g xs) ≡ sum_over (z_sets U) (λ x. from_pairs U (g x)) xs
  from_pairs-flat_map g xs =
      from_pairs_is U o identical (flat_map g xs)
      ∙ sum_over-flat_map (z_sets U) sums (λ p. times (z_sets U) p.1 (single U p.0)) g xs
      ∙ sum_over_agree (z_sets U) (λ x. lin_of (z_sets U) (single U) (g x)) (λ x. from_pairs U (g x)) (λ x. sym (from_pairs_is U o identical (g x))) xs

  -- ---- images
  module _ {K : Type 0} (R : K → K → Ordering) (p : IsTotalOrder R) (same : IsAntisymmetric R) (f : K → List L) where
    pub image_is : (z : ZSet K R) → image U f z ≡ lin (z_sets U) (λ k. of_list U (f k)) z
    unfolding image lin
    image_is z =
        from_pairs-flat_map (λ (e : K × ℤ). weighing e.1 (f e.0)) (entries z)
        ∙ sum_over_agree (z_sets U) (λ (e : K × ℤ). from_pairs U (weighing e.1 (f e.0))) (λ (e : K × ℤ). times (z_sets U) e.1 (of_list U (f e.0))) (λ e. from_pairs-weighing e.1 (f e.0)) (entries z)

    pub image-IsAdditive : IsAdditive (z_sets R) (z_sets U) (image U f)
    image-IsAdditive = IsAdditive_same (z_sets R) (z_sets U) (image U f) (lin (z_sets U) (λ k. of_list U (f k))) image_is (lin-IsAdditive R p same (z_sets U) sums (λ k. of_list U (f k)))

    pub image-zero : image U f (no_keys R) ≡ no_keys U
    image-zero = image_is (no_keys R) ∙ lin-zero R p same (z_sets U) sums (λ k. of_list U (f k))

    pub image-single : (k : K) → image U f (single R k) ≡ of_list U (f k)
    image-single k = image_is (single R k) ∙ lin-single R p same (z_sets U) sums (λ k. of_list U (f k)) k

    -- the image of a list's Z-set is the Z-set of the list's images
    pub image-of_list : (xs : List K) → image U f (of_list R xs) ≡ of_list U (flat_map f xs)
    image-of_list xs = image_is (of_list R xs) ∙ lin-of_list R p same (z_sets U) sums (λ k. of_list U (f k)) xs ∙ sym (of_list-flat_map f xs)

    pub lin-image : {A : Type 0} (G : AbelianGroup A) (laws : IsAbelian G) (h : L → A) (z : ZSet K R) → lin G h (image U f z) ≡ lin G (λ k. sum_over G h (f k)) z
    lin-image G laws h z =
        ap (lin G h) (image_is z)
        ∙ lin-lin R p same U o identical G laws h (λ k. of_list U (f k)) z
        ∙ lin_agree R p same G laws (λ k. lin G h (of_list U (f k))) (λ k. sum_over G h (f k)) (λ k. lin-of_list U o identical G laws h (f k)) z

    -- a key has the weight of each key that it is an image of, as often as it is one
    pub weight-image : (l : L) (z : ZSet K R) → weight l (image U f z) ≡ lin integers (λ k. pos (count U l (f k))) z
    weight-image l z =
        ap (weight l) (image_is z)
        ∙ lin_inside R p same (z_sets U) sums integers integers-IsAbelian (weight l) (weight-IsAdditive U o l) (λ k. of_list U (f k)) z
        ∙ lin_agree R p same integers integers-IsAbelian (λ k. weight l (of_list U (f k))) (λ k. pos (count U l (f k))) (λ k. weight-of_list U o l (f k)) z

  -- and if each key has one image, and no two the same, the weight stays
  module _ {K : Type 0} (R : K → K → Ordering) (p : IsTotalOrder R) (same : IsAntisymmetric R) (g : K → L) (apart : (j k : K) → g j ≡ g k → j ≡ k) where
    same_mark : (k j : K) → is_eq (U (g k) (g j)) ≡ is_eq (R k j)
    same_mark k j = step (is_eq (R k j)) refl
      where
        step : (b : Bool) → is_eq (R k j) ≡ b → is_eq (U (g k) (g j)) ≡ b
        step true e = ap (λ i. is_eq (U (g k) (g i))) (sym (same k j (equal (R k j) e))) ∙ ap is_eq (tied_itself o (g k))
        step false e = differs (is_eq (U (g k) (g j))) refl
          where
            differs : (b : Bool) → is_eq (U (g k) (g j)) ≡ b → is_eq (U (g k) (g j)) ≡ false
            differs true t =
                let tied : is_eq (R k j) ≡ true = ap (λ i. is_eq (R k i)) (sym (apart k j (identical (g k) (g j) (equal (U (g k) (g j)) t)))) ∙ ap is_eq (tied_itself p k) in
                absurd (cc (tied, e))
            differs false t = t

    pub weight-injective : (k : K) (z : ZSet K R) → weight (g k) (image U (λ j. g j ∷ []) z) ≡ weight k z
    weight-injective k z =
        weight-image R p same (λ j. g j ∷ []) (g k) z
        ∙ lin_agree R p same integers integers-IsAbelian (λ j. pos (count U (g k) (g j ∷ []))) (λ j. cond (is_eq (R k j)) (pos 1) (pos 0)) marked z
        ∙ sym (weight_is R k z)
      where
        marked : (j : K) → pos (count U (g k) (g j ∷ [])) ≡ cond (is_eq (R k j)) (pos 1) (pos 0)
        marked j =
            ap pos (count-cons U (g k) (g j) [])
            ∙ ap (λ b. pos (cond b 1 0 + 0)) (same_mark k j)
            ∙ elim (is_eq (R k j)) as (λ b. ◌≡◌ {A = ℤ} (pos (cond b 1 0 + 0)) (cond b (pos 1) (pos 0))) [ true ↦ refl | false ↦ refl ]

  -- a key that is replaced by one other
  pub image-of_list-map : {K : Type 0} (R : K → K → Ordering) (p : IsTotalOrder R) (same : IsAntisymmetric R) (g : K → L) (xs : List K) → image U (λ k. g k ∷ []) (of_list R xs) ≡ of_list U (map g xs)
  image-of_list-map R p same g xs = image-of_list R p same (λ k. g k ∷ []) xs ∙ ap (of_list U) (flat_map_single g xs)

  -- ---- products
  module _ {J : Type 0} (Q : J → J → Ordering) (q : IsTotalOrder Q) (alike : IsAntisymmetric Q) {K : Type 0} (R : K → K → Ordering) (p : IsTotalOrder R) (same : IsAntisymmetric R) (f : J → K → List L) where
    pub product_is : (y : ZSet J Q) (z : ZSet K R) → product U f y z ≡ lin (z_sets U) (λ j. lin (z_sets U) (λ k. of_list U (f j k)) z) y
    unfolding product lin
    product_is y z =
        from_pairs-flat_map (λ (d : J × ℤ). flat_map (λ (e : K × ℤ). weighing (d.1 *ℤ e.1) (f d.0 e.0)) (entries z)) (entries y)
        ∙ sum_over_agree (z_sets U)
        (λ (d : J × ℤ). from_pairs U (flat_map (λ (e : K × ℤ). weighing (d.1 *ℤ e.1) (f d.0 e.0)) (entries z)))
        (λ (d : J × ℤ). times (z_sets U) d.1 (lin_of (z_sets U) (λ k. of_list U (f d.0 k)) (entries z)))
        row (entries y)
      where
        row : (d : J × ℤ) → from_pairs U (flat_map (λ (e : K × ℤ). weighing (d.1 *ℤ e.1) (f d.0 e.0)) (entries z)) ≡ times (z_sets U) d.1 (lin_of (z_sets U) (λ k. of_list U (f d.0 k)) (entries z))
        row d =
            from_pairs-flat_map (λ (e : K × ℤ). weighing (d.1 *ℤ e.1) (f d.0 e.0)) (entries z)
            ∙ sum_over_agree (z_sets U) (λ (e : K × ℤ). from_pairs U (weighing (d.1 *ℤ e.1) (f d.0 e.0))) (λ (e : K × ℤ). times (z_sets U) d.1 (times (z_sets U) e.1 (of_list U (f d.0 e.0))))
            (λ e. from_pairs-weighing (d.1 *ℤ e.1) (f d.0 e.0) ∙ sym (times-times (z_sets U) sums d.1 e.1 (of_list U (f d.0 e.0)))) (entries z)
            ∙ sum_over-times (z_sets U) sums d.1 (λ (e : K × ℤ). times (z_sets U) e.1 (of_list U (f d.0 e.0))) (entries z)

    -- with the right side outside
    pub product_is_right : (y : ZSet J Q) (z : ZSet K R) → product U f y z ≡ lin (z_sets U) (λ k. lin (z_sets U) (λ j. of_list U (f j k)) y) z
    product_is_right y z = product_is y z ∙ lin-swap Q q alike R p same (z_sets U) sums (λ j k. of_list U (f j k)) y z

    pub product-left : (z : ZSet K R) → IsAdditive (z_sets Q) (z_sets U) (λ y. product U f y z)
    product-left z =
        IsAdditive_same (z_sets Q) (z_sets U) (λ y. product U f y z) (lin (z_sets U) (λ j. lin (z_sets U) (λ k. of_list U (f j k)) z)) (λ y. product_is y z)
        (lin-IsAdditive Q q alike (z_sets U) sums (λ j. lin (z_sets U) (λ k. of_list U (f j k)) z))

    pub product-right : (y : ZSet J Q) → IsAdditive (z_sets R) (z_sets U) (product U f y)
    product-right y =
        IsAdditive_same (z_sets R) (z_sets U) (product U f y) (lin (z_sets U) (λ k. lin (z_sets U) (λ j. of_list U (f j k)) y)) (λ z. product_is_right y z)
        (lin-IsAdditive R p same (z_sets U) sums (λ k. lin (z_sets U) (λ j. of_list U (f j k)) y))

    pub product-zero_left : (z : ZSet K R) → product U f (no_keys Q) z ≡ no_keys U
    product-zero_left z = additive-zero (z_sets Q) (z_sets U) (z_sets-IsAbelian Q q alike) sums (λ y. product U f y z) (product-left z)

    pub product-zero_right : (y : ZSet J Q) → product U f y (no_keys R) ≡ no_keys U
    product-zero_right y = additive-zero (z_sets R) (z_sets U) (z_sets-IsAbelian R p same) sums (product U f y) (product-right y)

    -- the product of the Z-sets of two lists is the Z-set of nested loops over them
    pub product-of_list : (xs : List J) (ys : List K) → product U f (of_list Q xs) (of_list R ys) ≡ of_list U (flat_map (λ x. flat_map (f x) ys) xs)
    product-of_list xs ys =
        product_is (of_list Q xs) (of_list R ys)
        ∙ lin-of_list Q q alike (z_sets U) sums (λ j. lin (z_sets U) (λ k. of_list U (f j k)) (of_list R ys)) xs
        ∙ sum_over_agree (z_sets U) (λ j. lin (z_sets U) (λ k. of_list U (f j k)) (of_list R ys)) (λ j. of_list U (flat_map (f j) ys))
        (λ j. lin-of_list R p same (z_sets U) sums (λ k. of_list U (f j k)) ys ∙ sym (of_list-flat_map (f j) ys)) xs
        ∙ sym (of_list-flat_map (λ x. flat_map (f x) ys) xs)

    -- the change of a product by the changes of its sides
    pub product-change : (y dy : ZSet J Q) (z dz : ZSet K R) → minus_keys (product U f (plus_keys y dy) (plus_keys z dz)) (product U f y z) ≡ plus_keys (plus_keys (product U f y dz) (product U f dy z)) (product U f dy dz)
    product-change y dy z dz = bilinear_change (z_sets Q) (z_sets R) (z_sets U) sums (λ a b. product U f a b) (λ b. product-left b) (λ a. product-right a) y dy z dz

-- ---- restriction to a test
mark_step : (t a b : Bool) → (t ≡ true → a ≡ b) → cond a (cond t (pos 1) (pos 0)) (pos 0) ≡ cond b (cond t (pos 1) (pos 0)) (pos 0)
mark_step true a b same = ap (λ c. cond c (pos 1) (pos 0)) (same refl)
mark_step false true true same = refl
mark_step false true false same = refl
mark_step false false true same = refl
mark_step false false false same = refl

both_kept : (a b : Bool) (n : ℤ) → cond a (cond b n (pos 0)) (pos 0) ≡ cond (a && b) n (pos 0)
both_kept true b n = refl
both_kept false b n = refl

parts_kept : (a : Bool) (n : ℤ) → cond a n (pos 0) +ℤ cond (not a) n (pos 0) ≡ n
parts_kept true n = omega (arith, ints)
parts_kept false n = omega (arith, ints)

module _ {K : Type 0} (R : K → K → Ordering) (o : IsTotalOrder R) (identical : IsAntisymmetric R) where
  abbrev adds : IsAbelian (z_sets R)
  adds = z_sets-IsAbelian R o identical

  module _ (p : K → Bool) where
    -- a key that passes as its Z-set, and the empty Z-set of another
    abbrev pub kept : K → ZSet K R
    kept k = cond (p k) (single R k) (no_keys R)

    pub keep_is : (z : ZSet K R) → keep p z ≡ lin (z_sets R) (λ k. kept k) z
    unfolding keep lin
    keep_is z =
        from_pairs_is R o identical (filter (λ e. p e.0) (entries z))
        ∙ sum_over-filter (z_sets R) adds (λ e. times (z_sets R) e.1 (single R e.0)) (λ e. p e.0) (entries z)
        ∙ sum_over_agree (z_sets R) (λ e. cond (p e.0) (times (z_sets R) e.1 (single R e.0)) (no_keys R)) (λ e. times (z_sets R) e.1 (kept e.0)) step (entries z)
      where
        step : (e : K × ℤ) → cond (p e.0) (times (z_sets R) e.1 (single R e.0)) (no_keys R) ≡ times (z_sets R) e.1 (cond (p e.0) (single R e.0) (no_keys R))
        step e = elim (p e.0) as (λ b. cond b (times (z_sets R) e.1 (single R e.0)) (no_keys R) ≡ times (z_sets R) e.1 (cond b (single R e.0) (no_keys R))) [
          | true ↦ refl
          | false ↦ sym (times_of_zero (z_sets R) adds e.1)
        ]

    pub keep-IsAdditive : IsAdditive (z_sets R) (z_sets R) (keep p)
    keep-IsAdditive = IsAdditive_same (z_sets R) (z_sets R) (keep p) (lin (z_sets R) (λ k. kept k)) keep_is (lin-IsAdditive R o identical (z_sets R) adds (λ k. kept k))

    pub keep-zero : keep p (no_keys R) ≡ no_keys R
    keep-zero = additive-zero (z_sets R) (z_sets R) adds adds (keep p) keep-IsAdditive

    weight-kept : (k j : K) → weight k (kept j) ≡ cond (p k) (cond (is_eq (R k j)) (pos 1) (pos 0)) (pos 0)
    weight-kept k j =
        elim (p j) as (λ b. weight k (cond b (single R j) (no_keys R)) ≡ cond b (cond (is_eq (R k j)) (pos 1) (pos 0)) (pos 0)) [
          | true ↦ weight-single R o k j
          | false ↦ weight-zero R k
        ]
        ∙ mark_step (is_eq (R k j)) (p j) (p k) (λ t. ap p (sym (identical k j (equal (R k j) t))))

    -- a key that passes has the weight that it had, and another none
    pub weight-keep : (k : K) (z : ZSet K R) → weight k (keep p z) ≡ cond (p k) (weight k z) (pos 0)
    weight-keep k z =
        ap (weight k) (keep_is z)
        ∙ lin_inside R o identical (z_sets R) adds integers integers-IsAbelian (weight k) (weight-IsAdditive R o k) (λ j. kept j) z
        ∙ lin_agree R o identical integers integers-IsAbelian (λ j. weight k (kept j)) (λ j. cond (p k) (cond (is_eq (R k j)) (pos 1) (pos 0)) (pos 0)) (weight-kept k) z
        ∙ elim (p k) as (λ b. lin integers (λ j. cond b (cond (is_eq (R k j)) (pos 1) (pos 0)) (pos 0)) z ≡ cond b (weight k z) (pos 0)) [
          | true ↦ sym (weight_is R k z)
          | false ↦ lin_of_zero R o identical integers integers-IsAbelian z
        ]

  pub keep_agree : (p q : K → Bool) → ((k : K) → p k ≡ q k) → (z : ZSet K R) → keep p z ≡ keep q z
  keep_agree p q same z = same_weights R o identical (keep p z) (keep q z) (λ k.
      weight-keep p k z ∙ ap (λ b. cond b (weight k z) (pos 0)) (same k) ∙ sym (weight-keep q k z))

  pub keep-keep : (p q : K → Bool) (z : ZSet K R) → keep p (keep q z) ≡ keep (λ k. p k && q k) z
  keep-keep p q z = same_weights R o identical (keep p (keep q z)) (keep (λ k. p k && q k) z) (λ k.
      weight-keep p k (keep q z) ∙ ap (λ n. cond (p k) n (pos 0)) (weight-keep q k z) ∙ both_kept (p k) (q k) (weight k z) ∙ sym (weight-keep (λ k. p k && q k) k z))

  pub keep_all : (z : ZSet K R) → keep (λ _. true) z ≡ z
  keep_all z = same_weights R o identical (keep (λ _. true) z) z (λ k. weight-keep (λ _. true) k z)

  pub keep_none : (z : ZSet K R) → keep (λ _. false) z ≡ no_keys R
  keep_none z = same_weights R o identical (keep (λ _. false) z) (no_keys R) (λ k. weight-keep (λ _. false) k z ∙ sym (weight-zero R k))

  -- what passes and what does not add up to the whole
  pub keep_parts : (p : K → Bool) (z : ZSet K R) → plus_keys (keep p z) (keep (λ k. not (p k)) z) ≡ z
  keep_parts p z = same_weights R o identical (plus_keys (keep p z) (keep (λ k. not (p k)) z)) z (λ k.
      weight-plus R o k (keep p z) (keep (λ k. not (p k)) z) ∙ ap₂ ◌+ℤ◌ (weight-keep p k z) (weight-keep (λ k. not (p k)) k z) ∙ parts_kept (p k) (weight k z))

  pub keep-of_list : (p : K → Bool) (xs : List K) → keep p (of_list R xs) ≡ of_list R (filter p xs)
  keep-of_list p xs =
      keep_is p (of_list R xs)
      ∙ lin-of_list R o identical (z_sets R) adds (kept p) xs
      ∙ sym (sum_over-filter (z_sets R) adds (single R) p xs)
      ∙ sym (of_list_is R o identical (filter p xs))

  pub lin-keep : {A : Type 0} (G : AbelianGroup A) (laws : IsAbelian G) (h : K → A) (p : K → Bool) (z : ZSet K R) → lin G h (keep p z) ≡ lin G (λ k. cond (p k) (h k) G.zero) z
  lin-keep G laws h p z =
      ap (lin G h) (keep_is p z)
      ∙ lin-lin R o identical R o identical G laws h (kept p) z
      ∙ lin_agree R o identical G laws (λ k. lin G h (kept p k)) (λ k. cond (p k) (h k) G.zero) step z
    where
      step : (k : K) → lin G h (cond (p k) (single R k) (no_keys R)) ≡ cond (p k) (h k) G.zero
      step k = elim (p k) as (λ b. lin G h (cond b (single R k) (no_keys R)) ≡ cond b (h k) G.zero) [
        | true ↦ lin-single R o identical G laws h k
        | false ↦ lin-zero R o identical G laws h
      ]
