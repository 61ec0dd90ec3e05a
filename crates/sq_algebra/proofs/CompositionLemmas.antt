-- One operator on Z-sets after another.
use Rattle.std.proofs.Common.{◌≡◌, ℕ, ◌++◌, suc, List, [], ◌∷◌, Bool, true, false, cond, ◌==◌, pos, ◌+ℤ◌, ◌-ℤ◌, ◌*ℤ◌, length, filter, refl, sym, ap, ap₂, ◌∙◌, arith, mul-zero, Ordering, Less, Equal, Greater, is_eq}
use Rattle.std.specs.List.{flat_map}
use Rattle.std.specs.Cmp.{IsTotalOrder}
use Rattle.std.specs.FinMap.{IsAntisymmetric}
use borrow.Author.Differences.{ints}
use Rattle.sq_algebra.specs.Listed.{count, first_of_each, among, without}
use Rattle.sq_algebra.specs.ZSet.{ZSet, zero as no_keys, single, of_list, weight, total, plus as plus_keys, minus as minus_keys}
use Rattle.sq_algebra.specs.Groups.{AbelianGroup, IsAbelian, integers, z_sets, times, sum_over}
use Rattle.sq_algebra.specs.Operators.{lin, keep, distinct, image, product, meet}
use Rattle.sq_algebra.proofs.Weights.{of_list-append, weight-single, weight-minus, weight-of_list, same_weights}
use Rattle.sq_algebra.proofs.GroupLemmas.{integers-IsAbelian, z_sets-IsAbelian, times-unit, times-sum, additive-times}
use Rattle.sq_algebra.proofs.LinearLemmas.{times_whole, times_mark, lin-of_list, lin_agree, lin_of_zero, lin_inside, lin-lin, weight_is, total_is, weight-IsAdditive}
use Rattle.sq_algebra.proofs.OperatorLemmas.{of_list-nil, of_list-one, of_list-flat_map, image_is, lin-image, product_is, product_is_right, lin-keep, keep-IsAdditive, keep-of_list}
use Rattle.sq_algebra.proofs.ListLemmas.{distinct-of_list, sign_up, sign_up_count, weight-distinct, count-among, count-without}

-- an image or none, as a Z-set
of_list-cond : {L : Type 0} (U : L → L → Ordering) → IsTotalOrder U → IsAntisymmetric U → (b : Bool) (xs : List L) → of_list U (cond b xs []) ≡ cond b (of_list U xs) (no_keys U)
of_list-cond U u one true xs = refl
of_list-cond U u one false xs = of_list-nil U u one

module _ {L : Type 0} (U : L → L → Ordering) (u : IsTotalOrder U) (one : IsAntisymmetric U) where
  abbrev sums : IsAbelian (z_sets U)
  sums = z_sets-IsAbelian U u one

  module _ {K : Type 0} (R : K → K → Ordering) (o : IsTotalOrder R) (identical : IsAntisymmetric R) where
    pub image_agree : (f g : K → List L) → ((k : K) → f k ≡ g k) → (z : ZSet K R) → image U f z ≡ image U g z
    image_agree f g same z =
        image_is U u one R o identical f z
        ∙ lin_agree R o identical (z_sets U) sums (λ k. of_list U (f k)) (λ k. of_list U (g k)) (λ k. ap (of_list U) (same k)) z
        ∙ sym (image_is U u one R o identical g z)

    pub image-keep : (f : K → List L) (p : K → Bool) (z : ZSet K R) → image U f (keep p z) ≡ image U (λ k. cond (p k) (f k) []) z
    image-keep f p z =
        image_is U u one R o identical f (keep p z)
        ∙ lin-keep R o identical (z_sets U) sums (λ k. of_list U (f k)) p z
        ∙ lin_agree R o identical (z_sets U) sums (λ k. cond (p k) (of_list U (f k)) (no_keys U)) (λ k. of_list U (cond (p k) (f k) [])) (λ k. sym (of_list-cond U u one (p k) (f k))) z
        ∙ sym (image_is U u one R o identical (λ k. cond (p k) (f k) []) z)

    pub keep-image : (p : L → Bool) (f : K → List L) (z : ZSet K R) → keep p (image U f z) ≡ image U (λ k. filter p (f k)) z
    keep-image p f z =
        ap (keep p) (image_is U u one R o identical f z)
        ∙ lin_inside R o identical (z_sets U) sums (z_sets U) sums (keep p) (keep-IsAdditive U u one p) (λ k. of_list U (f k)) z
        ∙ lin_agree R o identical (z_sets U) sums (λ k. keep p (of_list U (f k))) (λ k. of_list U (filter p (f k))) (λ k. keep-of_list U u one p (f k)) z
        ∙ sym (image_is U u one R o identical (λ k. filter p (f k)) z)

    pub image-image : {M : Type 0} (V : M → M → Ordering) (v : IsTotalOrder V) (only : IsAntisymmetric V) (g : L → List M) (f : K → List L) (z : ZSet K R) → image V g (image U f z) ≡ image V (λ k. flat_map g (f k)) z
    image-image V v only g f z =
        image_is V v only U u one g (image U f z)
        ∙ lin-image U u one R o identical f (z_sets V) (z_sets-IsAbelian V v only) (λ x. of_list V (g x)) z
        ∙ lin_agree R o identical (z_sets V) (z_sets-IsAbelian V v only) (λ k. sum_over (z_sets V) (λ x. of_list V (g x)) (f k)) (λ k. of_list V (flat_map g (f k))) (λ k. sym (of_list-flat_map V v only g (f k))) z
        ∙ sym (image_is V v only R o identical (λ k. flat_map g (f k)) z)

  module _ {J : Type 0} (Q : J → J → Ordering) (q : IsTotalOrder Q) (alike : IsAntisymmetric Q) {K : Type 0} (R : K → K → Ordering) (o : IsTotalOrder R) (identical : IsAntisymmetric R) where
    pub product_agree : (f g : J → K → List L) → ((j : J) (k : K) → f j k ≡ g j k) → (y : ZSet J Q) (z : ZSet K R) → product U f y z ≡ product U g y z
    product_agree f g same y z =
        product_is U u one Q q alike R o identical f y z
        ∙ lin_agree Q q alike (z_sets U) sums (λ j. lin (z_sets U) (λ k. of_list U (f j k)) z) (λ j. lin (z_sets U) (λ k. of_list U (g j k)) z)
        (λ j. lin_agree R o identical (z_sets U) sums (λ k. of_list U (f j k)) (λ k. of_list U (g j k)) (λ k. ap (of_list U) (same j k)) z) y
        ∙ sym (product_is U u one Q q alike R o identical g y z)

    pub lin-product : {A : Type 0} (G : AbelianGroup A) (laws : IsAbelian G) (h : L → A) (f : J → K → List L) (y : ZSet J Q) (z : ZSet K R) → lin G h (product U f y z) ≡ lin G (λ j. lin G (λ k. sum_over G h (f j k)) z) y
    lin-product G laws h f y z =
        ap (lin G h) (product_is U u one Q q alike R o identical f y z)
        ∙ lin-lin Q q alike U u one G laws h (λ j. lin (z_sets U) (λ k. of_list U (f j k)) z) y
        ∙ lin_agree Q q alike G laws (λ j. lin G h (lin (z_sets U) (λ k. of_list U (f j k)) z)) (λ j. lin G (λ k. sum_over G h (f j k)) z)
        (λ j. lin-lin R o identical U u one G laws h (λ k. of_list U (f j k)) z
        ∙ lin_agree R o identical G laws (λ k. lin G h (of_list U (f j k))) (λ k. sum_over G h (f j k)) (λ k. lin-of_list U u one G laws h (f j k)) z) y

    pub image-product : {M : Type 0} (V : M → M → Ordering) (v : IsTotalOrder V) (only : IsAntisymmetric V) (g : L → List M) (f : J → K → List L) (y : ZSet J Q) (z : ZSet K R) → image V g (product U f y z) ≡ product V (λ j k. flat_map g (f j k)) y z
    image-product V v only g f y z =
        image_is V v only U u one g (product U f y z)
        ∙ lin-product (z_sets V) (z_sets-IsAbelian V v only) (λ x. of_list V (g x)) f y z
        ∙ lin_agree Q q alike (z_sets V) (z_sets-IsAbelian V v only) (λ j. lin (z_sets V) (λ k. sum_over (z_sets V) (λ x. of_list V (g x)) (f j k)) z) (λ j. lin (z_sets V) (λ k. of_list V (flat_map g (f j k))) z)
        (λ j. lin_agree R o identical (z_sets V) (z_sets-IsAbelian V v only) (λ k. sum_over (z_sets V) (λ x. of_list V (g x)) (f j k)) (λ k. of_list V (flat_map g (f j k))) (λ k. sym (of_list-flat_map V v only g (f j k))) z) y
        ∙ sym (product_is V v only Q q alike R o identical (λ j k. flat_map g (f j k)) y z)

    pub product-keep_left : (f : J → K → List L) (p : J → Bool) (y : ZSet J Q) (z : ZSet K R) → product U f (keep p y) z ≡ product U (λ j k. cond (p j) (f j k) []) y z
    product-keep_left f p y z =
        product_is U u one Q q alike R o identical f (keep p y) z
        ∙ lin-keep Q q alike (z_sets U) sums (λ j. lin (z_sets U) (λ k. of_list U (f j k)) z) p y
        ∙ lin_agree Q q alike (z_sets U) sums (λ j. cond (p j) (lin (z_sets U) (λ k. of_list U (f j k)) z) (no_keys U)) (λ j. lin (z_sets U) (λ k. of_list U (cond (p j) (f j k) [])) z) step y
        ∙ sym (product_is U u one Q q alike R o identical (λ j k. cond (p j) (f j k) []) y z)
      where
        step : (j : J) → cond (p j) (lin (z_sets U) (λ k. of_list U (f j k)) z) (no_keys U) ≡ lin (z_sets U) (λ k. of_list U (cond (p j) (f j k) [])) z
        step j = elim (p j) as (λ b. cond b (lin (z_sets U) (λ k. of_list U (f j k)) z) (no_keys U) ≡ lin (z_sets U) (λ k. of_list U (cond b (f j k) [])) z) [
          | true ↦ refl
          | false ↦ sym (lin_agree R o identical (z_sets U) sums (λ _. of_list U []) (λ _. no_keys U) (λ _. of_list-nil U u one) z ∙ lin_of_zero R o identical (z_sets U) sums z)
        ]

    -- a test on each side of a product
    pub product-keep_right : (f : J → K → List L) (p : K → Bool) (y : ZSet J Q) (z : ZSet K R) → product U f y (keep p z) ≡ product U (λ j k. cond (p k) (f j k) []) y z
    product-keep_right f p y z =
        product_is U u one Q q alike R o identical f y (keep p z)
        ∙ lin_agree Q q alike (z_sets U) sums (λ j. lin (z_sets U) (λ k. of_list U (f j k)) (keep p z)) (λ j. lin (z_sets U) (λ k. of_list U (cond (p k) (f j k) [])) z)
        (λ j. lin-keep R o identical (z_sets U) sums (λ k. of_list U (f j k)) p z
        ∙ lin_agree R o identical (z_sets U) sums (λ k. cond (p k) (of_list U (f j k)) (no_keys U)) (λ k. of_list U (cond (p k) (f j k) [])) (λ k. sym (of_list-cond U u one (p k) (f j k))) z) y
        ∙ sym (product_is U u one Q q alike R o identical (λ j k. cond (p k) (f j k) []) y z)

    pub keep-product : (p : L → Bool) (f : J → K → List L) (y : ZSet J Q) (z : ZSet K R) → keep p (product U f y z) ≡ product U (λ j k. filter p (f j k)) y z
    keep-product p f y z =
        ap (keep p) (product_is U u one Q q alike R o identical f y z)
        ∙ lin_inside Q q alike (z_sets U) sums (z_sets U) sums (keep p) (keep-IsAdditive U u one p) (λ j. lin (z_sets U) (λ k. of_list U (f j k)) z) y
        ∙ lin_agree Q q alike (z_sets U) sums (λ j. keep p (lin (z_sets U) (λ k. of_list U (f j k)) z)) (λ j. lin (z_sets U) (λ k. of_list U (filter p (f j k))) z)
        (λ j. lin_inside R o identical (z_sets U) sums (z_sets U) sums (keep p) (keep-IsAdditive U u one p) (λ k. of_list U (f j k)) z
        ∙ lin_agree R o identical (z_sets U) sums (λ k. keep p (of_list U (f j k))) (λ k. of_list U (filter p (f j k))) (λ k. keep-of_list U u one p (f j k)) z) y
        ∙ sym (product_is U u one Q q alike R o identical (λ j k. filter p (f j k)) y z)

    -- the sides change places
    pub product-flip : (f : J → K → List L) (y : ZSet J Q) (z : ZSet K R) → product U f y z ≡ product U (λ k j. f j k) z y
    product-flip f y z = product_is_right U u one Q q alike R o identical f y z ∙ sym (product_is U u one R o identical Q q alike (λ k j. f j k) z y)

    pub product-image_left : {I : Type 0} (P : I → I → Ordering) (p : IsTotalOrder P) (sole : IsAntisymmetric P) (f : J → K → List L) (g : I → List J) (x : ZSet I P) (z : ZSet K R) → product U f (image Q g x) z ≡ product U (λ i k. flat_map (λ j. f j k) (g i)) x z
    product-image_left P p sole f g x z =
        product_is_right U u one Q q alike R o identical f (image Q g x) z
        ∙ lin_agree R o identical (z_sets U) sums (λ k. lin (z_sets U) (λ j. of_list U (f j k)) (image Q g x)) (λ k. lin (z_sets U) (λ i. of_list U (flat_map (λ j. f j k) (g i))) x)
        (λ k. lin-image Q q alike P p sole g (z_sets U) sums (λ j. of_list U (f j k)) x
        ∙ lin_agree P p sole (z_sets U) sums (λ i. sum_over (z_sets U) (λ j. of_list U (f j k)) (g i)) (λ i. of_list U (flat_map (λ j. f j k) (g i))) (λ i. sym (of_list-flat_map U u one (λ j. f j k) (g i))) x) z
        ∙ sym (product_is_right U u one P p sole R o identical (λ i k. flat_map (λ j. f j k) (g i)) x z)

    pub product-image_right : {I : Type 0} (P : I → I → Ordering) (p : IsTotalOrder P) (sole : IsAntisymmetric P) (f : J → K → List L) (g : I → List K) (y : ZSet J Q) (x : ZSet I P) → product U f y (image R g x) ≡ product U (λ j i. flat_map (f j) (g i)) y x
    product-image_right P p sole f g y x =
        product_is U u one Q q alike R o identical f y (image R g x)
        ∙ lin_agree Q q alike (z_sets U) sums (λ j. lin (z_sets U) (λ k. of_list U (f j k)) (image R g x)) (λ j. lin (z_sets U) (λ i. of_list U (flat_map (f j) (g i))) x)
        (λ j. lin-image R o identical P p sole g (z_sets U) sums (λ k. of_list U (f j k)) x
        ∙ lin_agree P p sole (z_sets U) sums (λ i. sum_over (z_sets U) (λ k. of_list U (f j k)) (g i)) (λ i. of_list U (flat_map (f j) (g i))) (λ i. sym (of_list-flat_map U u one (f j) (g i))) x) y
        ∙ sym (product_is U u one Q q alike P p sole (λ j i. flat_map (f j) (g i)) y x)

ones : {X : Type 0} (xs : List X) → sum_over integers (λ _. pos 1) xs ≡ pos (length xs)
ones [] = refl
ones (x ∷ xs) = ap (λ n. pos 1 +ℤ n) (ones xs) ∙ one_more (length xs)
  where
    one_more : (n : ℕ) → pos 1 +ℤ pos n ≡ pos (suc n)
    one_more n = omega (arith, ints)

-- ---- the keys of both of two Z-sets
module _ {K : Type 0} (R : K → K → Ordering) (o : IsTotalOrder R) (identical : IsAntisymmetric R) where
  -- of a linear extension only one key is left
  pub lin_at : {A : Type 0} (G : AbelianGroup A) (laws : IsAbelian G) (j : K) (a : A) (z : ZSet K R) → lin G (λ k. cond (is_eq (R j k)) a G.zero) z ≡ times G (weight j z) a
  lin_at {A} G laws j a z =
      sym (ap (λ n. times G n a) (weight_is R j z)
      ∙ lin_inside R o identical integers integers-IsAbelian G laws (λ n. times G n a) (record { of_plus = λ m n. times-sum G laws m n a }) (λ k. cond (is_eq (R j k)) (pos 1) (pos 0)) z
      ∙ lin_agree R o identical G laws (λ k. times G (cond (is_eq (R j k)) (pos 1) (pos 0)) a) (λ k. cond (is_eq (R j k)) a G.zero) (λ k. mark (is_eq (R j k))) z)
    where
      mark : (b : Bool) → times G (cond b (pos 1) (pos 0)) a ≡ cond b a G.zero
      mark true = laws.commutative a G.zero ∙ laws.neutral a
      mark false = refl

  pub weight-meet : (k : K) (y z : ZSet K R) → weight k (meet y z) ≡ weight k y *ℤ weight k z
  weight-meet k y z =
      ap (weight k) (product_is R o identical R o identical R o identical (λ j k. cond (is_eq (R j k)) (j ∷ []) []) y z)
      ∙ lin_inside R o identical (z_sets R) group integers integers-IsAbelian (weight k) (weight-IsAdditive R o k) (λ j. row j) y
      ∙ lin_agree R o identical integers integers-IsAbelian (λ j. weight k (row j)) (λ j. cond (is_eq (R k j)) (weight k z) (pos 0)) at y
      ∙ lin_at integers integers-IsAbelian k (weight k z) y
      ∙ times_whole (weight k y) (weight k z)
    where
      group : IsAbelian (z_sets R)
      group = z_sets-IsAbelian R o identical

      row : K → ZSet K R
      row j = lin (z_sets R) (λ k. of_list R (cond (is_eq (R j k)) (j ∷ []) [])) z

      marked : (j : K) → cond (is_eq (R k j)) (weight j z) (pos 0) ≡ cond (is_eq (R k j)) (weight k z) (pos 0)
      marked j = elim (R k j) as (λ r. R k j ≡ r → cond (is_eq r) (weight j z) (pos 0) ≡ cond (is_eq r) (weight k z) (pos 0)) [
        | Less ↦ λ _. refl
        | Equal ↦ λ e. ap (λ i. weight i z) (sym (identical k j e))
        | Greater ↦ λ _. refl
      ] refl

      at : (j : K) → weight k (row j) ≡ cond (is_eq (R k j)) (weight k z) (pos 0)
      at j =
          ap (weight k)
          (lin_agree R o identical (z_sets R) group (λ k. of_list R (cond (is_eq (R j k)) (j ∷ []) [])) (λ k. cond (is_eq (R j k)) (single R j) (no_keys R)) (λ k. of_list-cond R o identical (is_eq (R j k)) (j ∷ []) ∙ ap (λ x. cond (is_eq (R j k)) x (no_keys R)) (of_list-one R j)) z
          ∙ lin_at (z_sets R) group j (single R j) z)
          ∙ additive-times (z_sets R) integers group integers-IsAbelian (weight k) (weight-IsAdditive R o k) (weight j z) (single R j)
          ∙ ap (times integers (weight j z)) (weight-single R o k j)
          ∙ times_mark (is_eq (R k j)) (weight j z)
          ∙ marked j

  -- the members that another list has, and those that it has not
  pub of_list-among : (xs ys : List K) → of_list R (among R xs ys) ≡ meet (of_list R xs) (distinct (of_list R ys))
  of_list-among xs ys = same_weights R o identical (of_list R (among R xs ys)) (meet (of_list R xs) (distinct (of_list R ys))) (λ k.
      weight-of_list R o k (among R xs ys)
      ∙ ap pos (count-among R o k xs ys)
      ∙ among_step (count R k xs) (count R k ys)
      ∙ sym (weight-meet k (of_list R xs) (distinct (of_list R ys)) ∙ ap₂ ◌*ℤ◌ (weight-of_list R o k xs) (weight-distinct R o k (of_list R ys) ∙ ap sign_up (weight-of_list R o k ys) ∙ sign_up_count (count R k ys))))
    where
      among_step : (m n : ℕ) → pos (cond (n == 0) 0 m) ≡ pos m *ℤ pos (cond (n == 0) 0 1)
      among_step m n = elim (n == 0) as (λ b. pos (cond b 0 m) ≡ pos m *ℤ pos (cond b 0 1)) [
        | true ↦ ap pos (sym (mul-zero m))
        | false ↦ sym (times-unit (pos m))
      ]

  pub of_list-without : (xs ys : List K) → of_list R (without R xs ys) ≡ minus_keys (of_list R xs) (meet (of_list R xs) (distinct (of_list R ys)))
  of_list-without xs ys = same_weights R o identical (of_list R (without R xs ys)) (minus_keys (of_list R xs) (meet (of_list R xs) (distinct (of_list R ys)))) (λ k.
      weight-of_list R o k (without R xs ys)
      ∙ ap pos (count-without R o k xs ys)
      ∙ without_step (count R k ys == 0) (count R k xs)
      ∙ sym (weight-minus R o k (of_list R xs) (meet (of_list R xs) (distinct (of_list R ys)))
      ∙ ap₂ ◌-ℤ◌ (weight-of_list R o k xs) (ap (weight k) (sym (of_list-among xs ys)) ∙ weight-of_list R o k (among R xs ys) ∙ ap pos (count-among R o k xs ys))))
    where
      without_step : (b : Bool) (m : ℕ) → pos (cond b m 0) ≡ pos m -ℤ pos (cond b 0 m)
      without_step true m = omega (arith, ints)
      without_step false m = omega (arith, ints)

  -- the set operations on lists
  pub of_list-union : (xs ys : List K) → of_list R (first_of_each R (xs ++ ys)) ≡ distinct (plus_keys (of_list R xs) (of_list R ys))
  of_list-union xs ys = sym (ap distinct (sym (of_list-append R o identical xs ys)) ∙ distinct-of_list R o identical (xs ++ ys))

  pub of_list-intersection : (xs ys : List K) → of_list R (among R (first_of_each R xs) ys) ≡ meet (distinct (of_list R xs)) (distinct (of_list R ys))
  of_list-intersection xs ys = of_list-among (first_of_each R xs) ys ∙ ap (λ y. meet y (distinct (of_list R ys))) (sym (distinct-of_list R o identical xs))

  pub of_list-difference : (xs ys : List K) → of_list R (without R (first_of_each R xs) ys) ≡ minus_keys (distinct (of_list R xs)) (meet (distinct (of_list R xs)) (distinct (of_list R ys)))
  of_list-difference xs ys = of_list-without (first_of_each R xs) ys ∙ ap (λ y. minus_keys y (meet y (distinct (of_list R ys)))) (sym (distinct-of_list R o identical xs))

  -- a key that is replaced by one other keeps the total
  pub total-image : {L : Type 0} (U : L → L → Ordering) (u : IsTotalOrder U) (one : IsAntisymmetric U) (f : K → List L) (z : ZSet K R) → total (image U f z) ≡ lin integers (λ k. pos (length (f k))) z
  total-image U u one f z =
      total_is U (image U f z)
      ∙ lin-image U u one R o identical f integers integers-IsAbelian (λ _. pos 1) z
      ∙ lin_agree R o identical integers integers-IsAbelian (λ k. sum_over integers (λ _. pos 1) (f k)) (λ k. pos (length (f k))) (λ k. ones (f k)) z

  pub total-keep : (p : K → Bool) (z : ZSet K R) → total (keep p z) ≡ lin integers (λ k. cond (p k) (pos 1) (pos 0)) z
  total-keep p z = total_is R (keep p z) ∙ lin-keep R o identical integers integers-IsAbelian (λ _. pos 1) p z

  pub total-product : {J : Type 0} (Q : J → J → Ordering) (q : IsTotalOrder Q) (alike : IsAntisymmetric Q) {L : Type 0} (U : L → L → Ordering) (u : IsTotalOrder U) (one : IsAntisymmetric U) (f : J → K → List L) (y : ZSet J Q) (z : ZSet K R) →
      total (product U f y z) ≡ lin integers (λ j. lin integers (λ k. pos (length (f j k))) z) y
  total-product Q q alike U u one f y z =
      total_is U (product U f y z)
      ∙ lin-product U u one Q q alike R o identical integers integers-IsAbelian (λ _. pos 1) f y z
      ∙ lin_agree Q q alike integers integers-IsAbelian (λ j. lin integers (λ k. sum_over integers (λ _. pos 1) (f j k)) z) (λ j. lin integers (λ k. pos (length (f j k))) z)
      (λ j. lin_agree R o identical integers integers-IsAbelian (λ k. sum_over integers (λ _. pos 1) (f j k)) (λ k. pos (length (f j k))) (λ k. ones (f j k)) z) y
