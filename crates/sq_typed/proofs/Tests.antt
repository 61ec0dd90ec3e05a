-- Laws of lists that are filtered, and of tests of numbers.
use Rattle.std.proofs.Common.{◌≡◌, ℕ, suc, List, [], ◌∷◌, ◌++◌, Bool, true, false, cond, ◌&&◌, ◌||◌, ◌==◌, filter, refl, sym, ap, ◌∙◌, arith}
use Rattle.std.specs.Prelude.{nat_lt, Option, Some, None, option_map}
use Rattle.std.proofs.lemmas.Option.{same_Some}
use Rattle.std.specs.List.{AllByRecursion, flat_map, list_all}
use Rattle.std.proofs.lemmas.List.Elements.{filter-append}
use Rattle.std.proofs.lemmas.Bool.Decides.{nat_tests}

-- ---- truth values

pub and_assoc : (a b c : Bool) → (a && (b && c)) ≡ ((a && b) && c)
and_assoc true b c = refl
and_assoc false b c = refl

pub and_swap : (a b c : Bool) → (a && (b && c)) ≡ (b && (a && c))
and_swap true true c = refl
and_swap true false c = refl
and_swap false true c = refl
and_swap false false c = refl

pub and_left : (a b : Bool) → (a && b) ≡ true → a ≡ true
and_left true b e = refl
and_left false b e = e

pub and_right : (a b : Bool) → (a && b) ≡ true → b ≡ true
and_right true b e = e
and_right false b e = cc

pub below_or_at : (n k : ℕ) → nat_lt n (suc k) ≡ (nat_lt n k || (n == k))
below_or_at n k = grind (arith, nat_tests)

pub not_below_and_at : (n k : ℕ) → (nat_lt n k && (n == k)) ≡ false
not_below_and_at n k = grind (arith, nat_tests)

-- ---- all members

pub every : {A : Type 0} (P : A → Type 0) (xs : List A) → ((x : A) → P x) → AllByRecursion P xs
every P [] h = tt
every P (x ∷ xs) h = (h x, every P xs h)

pub all_filter : {A : Type 0} (P : A → Type 0) (p : A → Bool) (xs : List A) → AllByRecursion P xs → AllByRecursion P (filter p xs)
all_filter P p [] h = tt
all_filter P p (x ∷ xs) h = elim (p x) as (λ b. AllByRecursion P (cond b (x ∷ filter p xs) (filter p xs))) [ true ↦ (h.0, all_filter P p xs h.1) | false ↦ all_filter P p xs h.1 ]

pub list_all-append : {A : Type 0} (p : A → Bool) (xs ys : List A) → list_all p (xs ++ ys) ≡ (list_all p xs && list_all p ys)
list_all-append p [] ys = refl
list_all-append p (x ∷ xs) ys = ap (λ b. p x && b) (list_all-append p xs ys) ∙ and_assoc (p x) (list_all p xs) (list_all p ys)

-- ---- filters

module _ {A : Type 0} where
  pub filter_same : (p q : A → Bool) (xs : List A) → AllByRecursion (λ x. p x ≡ q x) xs → filter p xs ≡ filter q xs
  filter_same p q [] h = refl
  filter_same p q (x ∷ xs) h = ap (λ b. cond b (x ∷ filter p xs) (filter p xs)) h.0 ∙ ap (λ rest. cond (q x) (x ∷ rest) rest) (filter_same p q xs h.1)

  pub filter_none : (p : A → Bool) (xs : List A) → AllByRecursion (λ x. p x ≡ false) xs → filter p xs ≡ []
  filter_none p [] h = refl
  filter_none p (x ∷ xs) h = ap (λ b. cond b (x ∷ filter p xs) (filter p xs)) h.0 ∙ filter_none p xs h.1

  pub filter_all : (p : A → Bool) (xs : List A) → AllByRecursion (λ x. p x ≡ true) xs → filter p xs ≡ xs
  filter_all p [] h = refl
  filter_all p (x ∷ xs) h = ap (λ b. cond b (x ∷ filter p xs) (filter p xs)) h.0 ∙ ap (λ rest. x ∷ rest) (filter_all p xs h.1)

  pub filter_both : (p q both : A → Bool) → ((x : A) → both x ≡ (p x && q x)) → (xs : List A) → filter both xs ≡ filter q (filter p xs)
  filter_both p q both is [] = refl
  filter_both p q both is (x ∷ xs) =
      ap (λ b. cond b (x ∷ filter both xs) (filter both xs)) (is x)
      ∙ ap (λ rest. cond (p x && q x) (x ∷ rest) rest) (filter_both p q both is xs)
      ∙ elim (p x) as (λ b. cond (b && q x) (x ∷ filter q (filter p xs)) (filter q (filter p xs)) ≡ filter q (cond b (x ∷ filter p xs) (filter p xs))) [ true ↦ refl | false ↦ refl ]

  -- a test that is another one, or none of them passes
  part_passes : (b : Bool) (m q : A → Bool) (xs : List A) → AllByRecursion (λ x. q x ≡ (b && m x)) xs → filter q xs ≡ cond b (filter m xs) []
  part_passes true m q xs h = filter_same q m xs h
  part_passes false m q xs h = filter_none q xs h

-- a filter behind a flat map is one before it and one behind it, where each row passes it exactly where it passes both
module _ {A B : Type 0} (f : A → List B) (p : A → Bool) (m q : B → Bool) where
  pub filtered_before : (xs : List A) → AllByRecursion (λ x. AllByRecursion (λ y. q y ≡ (p x && m y)) (f x)) xs → filter q (flat_map f xs) ≡ filter m (flat_map f (filter p xs))
  filtered_before [] h = refl
  filtered_before (x ∷ xs) h =
      filter-append q (f x) (flat_map f xs)
      ∙ ap (λ rest. filter q (f x) ++ rest) (filtered_before xs h.1)
      ∙ elim (p x) as (λ b. filter q (f x) ≡ cond b (filter m (f x)) [] → filter q (f x) ++ filter m (flat_map f (filter p xs)) ≡ filter m (flat_map f (cond b (x ∷ filter p xs) (filter p xs)))) [
        | true ↦ λ e. ap (λ front. front ++ filter m (flat_map f (filter p xs))) e ∙ sym (filter-append m (f x) (flat_map f (filter p xs)))
        | false ↦ λ e. ap (λ front. front ++ filter m (flat_map f (filter p xs))) e
      ] (part_passes (p x) m q (f x) h.0)

-- ---- options and results

pub mapped_none : {A B : Type 0} (f : A → B) (x : Option A) → option_map f x ≡ None → x ≡ None
mapped_none f None e = refl
mapped_none f (Some a) e = cc

-- what an option was before it was mapped
pub record Mapped {A B : Type 0} (f : A → B) (x : Option A) (b : B) : Type 0 where
  pub value : A
  pub was : x ≡ Some value
  pub is : f value ≡ b

pub mapped_some : {A B : Type 0} (f : A → B) (x : Option A) (b : B) → option_map f x ≡ Some b → Mapped f x b
mapped_some f None b e = absurd (cc)
mapped_some f (Some a) b e = record { value = a; was = refl; is = same_Some (f a) b e }
