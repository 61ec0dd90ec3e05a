-- The least and the greatest value of a column of a Z-set are those of any list that counts to it.
use Rattle.std.proofs.Common.{◌≡◌, ℕ, List, [], ◌∷◌, map, true, false, cond, not, ◌||◌, filter, refl, sym, ap, ◌∙◌, Ordering, Less, Equal, Greater, is_lt}
use Rattle.std.specs.Cmp.{IsTotalOrder, back_total, nat_cmp_total, on_total, then_total}
use Rattle.std.specs.FinMap.{IsAntisymmetric}
use Rattle.std.specs.List.{fold}
use Rattle.std.specs.Ordering.{flip_args, nat_cmp, on, ordering_reverse, ordering_then, then_cmp}
use Rattle.std.proofs.lemmas.List.Folds.{fold-map}
use Rattle.sq_value.specs.declared.value.Value.{Value}
use Rattle.sq_value.specs.declared.value.Value.TheVariants.{Null, Int, Text}
use Rattle.sq_value.specs.Order.{row_cmp, value_cmp}
use Rattle.sq_value.specs.OrderLaws.{row_cmp-antisymmetric, value_cmp-total, value_cmp-antisymmetric}
use Rattle.sq_algebra.specs.Listed.{in_order}
use Rattle.sq_algebra.proofs.GroupingLemmas.{fold-in_order}
use Rattle.sq_expr.specs.Meaning.{is_null}
use Rattle.sq_ops.specs.Aggregates.{greater, lesser}
use Rattle.sq_expr.specs.Extremes.{greatest_or_null, least_or_null}

-- ---- the lesser of two keys forgets order and repeats
abbrev pub pick : {K : Type 0} → (K → K → Ordering) → K → K → K
pick R a b = cond (is_lt (R b a)) b a

module _ {K : Type 0} (R : K → K → Ordering) (o : IsTotalOrder R) (identical : IsAntisymmetric R) where
  turned : (x y : K) (r : Ordering) → R y x ≡ r → R x y ≡ ordering_reverse r
  turned x y r e = o.antisymm x y ∙ ap ordering_reverse e

  pick_swapped : (x y : K) → pick R x y ≡ pick R y x
  pick_swapped x y =
      elim (R y x) as (λ r. R y x ≡ r → cond (is_lt r) y x ≡ cond (is_lt (R x y)) x y) [
        | Less ↦ λ e. sym (ap (λ r. cond (is_lt r) x y) (turned x y Less e))
        | Equal ↦ λ e. sym (ap (λ r. cond (is_lt r) x y) (turned x y Equal e) ∙ identical y x e)
        | Greater ↦ λ e. sym (ap (λ r. cond (is_lt r) x y) (turned x y Greater e))
      ] refl

  -- what is below b is kept beside what is not
  pick_below : (b x y : K) → is_lt (R x b) ≡ true → is_lt (R y b) ≡ false → pick R x y ≡ x
  pick_below b x y low high =
      elim (R y x) as (λ r. R y x ≡ r → cond (is_lt r) y x ≡ x) [
        | Less ↦ λ e. absurd (never (ap is_lt (o.trans y x b e (below (R x b) low))))
        | Equal ↦ λ e. refl
        | Greater ↦ λ e. refl
      ] refl
    where
      below : (r : Ordering) → is_lt r ≡ true → r ≡ Less
      below Less e = refl
      below Equal e = absurd (cc e)
      below Greater e = absurd (cc e)

      never : is_lt (R y b) ≡ true → ⊥
      never e = absurd (cc (e, high))

  pick_swaps : (b x y : K) → pick R (pick R b x) y ≡ pick R (pick R b y) x
  pick_swaps b x y =
      elim (is_lt (R x b)) as (λ t. is_lt (R x b) ≡ t → pick R (cond t x b) y ≡ pick R (cond (is_lt (R y b)) y b) x) [
        | true ↦ λ d. elim (is_lt (R y b)) as (λ u. is_lt (R y b) ≡ u → pick R x y ≡ pick R (cond u y b) x) [
          | true ↦ λ e. pick_swapped x y
          | false ↦ λ e. pick_below b x y d e ∙ sym (ap (λ t. cond t x b) d)
        ] refl
        | false ↦ λ d. elim (is_lt (R y b)) as (λ u. is_lt (R y b) ≡ u → pick R b y ≡ pick R (cond u y b) x) [
          | true ↦ λ e. ap (λ t. cond t y b) e ∙ sym (pick_below b y x e d)
          | false ↦ λ e. ap (λ t. cond t y b) e ∙ sym (ap (λ t. cond t x b) d)
        ] refl
      ] refl

  pick_repeats : (b x : K) → pick R (pick R b x) x ≡ pick R b x
  pick_repeats b x =
      elim (is_lt (R x b)) as (λ t. is_lt (R x b) ≡ t → pick R (cond t x b) x ≡ cond t x b) [
        | true ↦ λ e. elim (is_lt (R x x)) as (λ t. cond t x x ≡ x) [ true ↦ refl | false ↦ refl ]
        | false ↦ λ e. ap (λ t. cond t x b) e
      ] refl

  -- so a fold with it goes over a list as over its keys, each once
  picked : {J : Type 0} (Q : J → J → Ordering) (same : IsAntisymmetric Q) (step : K → K → K) → ((a b : K) → step a b ≡ pick R a b) → (f : J → K) (a : K) (xs : List J) → fold step a (map f (in_order Q xs)) ≡ fold step a (map f xs)
  picked Q same step is f a xs =
      fold-map step f a (in_order Q xs)
      ∙ fold-in_order (λ b x. step b (f x)) (λ b x y. both b (f x) (f y)) (λ b x. twice b (f x)) Q same a xs
      ∙ sym (fold-map step f a xs)
    where
      both : (b x y : K) → step (step b x) y ≡ step (step b y) x
      both b x y = is (step b x) y ∙ ap (λ c. pick R c y) (is b x) ∙ pick_swaps b x y ∙ sym (is (step b y) x ∙ ap (λ c. pick R c x) (is b y))

      twice : (b x : K) → step (step b x) x ≡ step b x
      twice b x = is (step b x) x ∙ ap (λ c. pick R c x) (is b x) ∙ pick_repeats b x ∙ sym (is b x)

-- ---- values, with NULL behind all others
abbrev pub is_none : Value → ℕ
is_none Null = 1
is_none (Int n) = 0
is_none (Text t) = 0

abbrev pub nulls_last : Value → Value → Ordering
nulls_last = then_cmp (on is_none nat_cmp) value_cmp

pub nulls_last-total : IsTotalOrder nulls_last
nulls_last-total = then_total (on_total is_none nat_cmp_total) value_cmp-total

pub nulls_last-antisymmetric : IsAntisymmetric nulls_last
nulls_last-antisymmetric x y e = value_cmp-antisymmetric x y (second (on is_none nat_cmp x y) (value_cmp x y) e)
  where
    second : (r s : Ordering) → ordering_then r s ≡ Equal → s ≡ Equal
    second Less s e = absurd (cc e)
    second Equal s e = e
    second Greater s e = absurd (cc e)

pub lesser_is : (a b : Value) → lesser a b ≡ pick nulls_last a b
lesser_is Null Null = refl
lesser_is Null (Int n) = refl
lesser_is Null (Text t) = refl
lesser_is (Int m) Null = refl
lesser_is (Int m) (Int n) = refl
lesser_is (Int m) (Text t) = refl
lesser_is (Text s) Null = refl
lesser_is (Text s) (Int n) = refl
lesser_is (Text s) (Text t) = refl

pub flipped-antisymmetric : IsAntisymmetric (flip_args value_cmp)
flipped-antisymmetric x y e = sym (value_cmp-antisymmetric y x e)

pub greater_is : (a b : Value) → greater a b ≡ pick (flip_args value_cmp) a b
greater_is a b = refl

-- ---- the values that are not NULL
least_step : (a x : Value) (xs : List Value) → is_null a ≡ false → is_null x ≡ false → ((b : Value) → is_null b ≡ false → fold lesser b xs ≡ fold (λ c y. cond (is_lt (value_cmp y c)) y c) b (filter (λ y. not (is_null y)) xs)) →
    fold lesser (cond (is_null a || is_lt (value_cmp x a)) x a) xs ≡ fold (λ c y. cond (is_lt (value_cmp y c)) y c) (cond (is_lt (value_cmp x a)) x a) (filter (λ y. not (is_null y)) xs)
least_step a x xs h k rest =
    ap (λ b. fold lesser (cond (b || is_lt (value_cmp x a)) x a) xs) h
    ∙ rest (cond (is_lt (value_cmp x a)) x a) (elim (is_lt (value_cmp x a)) as (λ t. is_null (cond t x a) ≡ false) [ true ↦ k | false ↦ h ])

least_from : (a : Value) (xs : List Value) → is_null a ≡ false → fold lesser a xs ≡ fold (λ b x. cond (is_lt (value_cmp x b)) x b) a (filter (λ x. not (is_null x)) xs)
least_from a [] h = refl
least_from a (Null ∷ xs) h = least_from a xs h
least_from a (Int n ∷ xs) h = least_step a (Int n) xs h refl (λ b k. least_from b xs k)
least_from a (Text t ∷ xs) h = least_step a (Text t) xs h refl (λ b k. least_from b xs k)

least_is : (xs : List Value) → fold lesser Null xs ≡ least_or_null (filter (λ x. not (is_null x)) xs)
least_is [] = refl
least_is (Null ∷ xs) = least_is xs
least_is (Int n ∷ xs) = least_from (Int n) xs refl
least_is (Text t ∷ xs) = least_from (Text t) xs refl

kept : (a : Value) → greater a Null ≡ a
kept Null = refl
kept (Int n) = refl
kept (Text t) = refl

greatest_from : (a : Value) (xs : List Value) → fold greater a xs ≡ fold (λ b x. cond (is_lt (value_cmp b x)) x b) a (filter (λ x. not (is_null x)) xs)
greatest_from a [] = refl
greatest_from a (Null ∷ xs) = ap (λ b. fold greater b xs) (kept a) ∙ greatest_from a xs
greatest_from a (Int n ∷ xs) = greatest_from (greater a (Int n)) xs
greatest_from a (Text t ∷ xs) = greatest_from (greater a (Text t)) xs

greatest_is : (xs : List Value) → fold greater Null xs ≡ greatest_or_null (filter (λ x. not (is_null x)) xs)
greatest_is [] = refl
greatest_is (Null ∷ xs) = greatest_is xs
greatest_is (Int n ∷ xs) = greatest_from (Int n) xs
greatest_is (Text t ∷ xs) = greatest_from (Text t) xs

-- ---- over the rows of a list, each once, and over the list as it stands
module _ (f : List Value → Value) (rows : List (List Value)) where
  pub least_of_rows : fold lesser Null (map f (in_order row_cmp rows)) ≡ least_or_null (filter (λ x. not (is_null x)) (map f rows))
  least_of_rows = picked nulls_last nulls_last-total nulls_last-antisymmetric row_cmp row_cmp-antisymmetric lesser lesser_is f Null rows ∙ least_is (map f rows)

  pub greatest_of_rows : fold greater Null (map f (in_order row_cmp rows)) ≡ greatest_or_null (filter (λ x. not (is_null x)) (map f rows))
  greatest_of_rows = picked (flip_args value_cmp) (back_total value_cmp-total) flipped-antisymmetric row_cmp row_cmp-antisymmetric greater greater_is f Null rows ∙ greatest_is (map f rows)
