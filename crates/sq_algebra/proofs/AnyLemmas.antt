-- Whether some member of a list passes a test: of lists made from others, of a list in order or without repeats, and of a list's Z-set.
use Rattle.std.proofs.Common.{◌≡◌, List, [], ◌∷◌, map, Bool, true, false, cond, not, ◌&&◌, ◌||◌, Some, ℤ, pos, filter, refl, sym, ap, ap₂, ◌∙◌, Ordering, Less, Equal, Greater, is_eq}
use Rattle.std.specs.Prelude.{is_some}
use Rattle.std.specs.Cmp.{IsTotalOrder}
use Rattle.std.specs.FinMap.{IsAntisymmetric}
use Rattle.std.specs.List.{AllByRecursion, find, flat_map, list_any}
use Rattle.std.specs.Ordering.{match_ordering}
use Rattle.std.proofs.lemmas.List.Folds.{list_any-append}
use Rattle.sq_algebra.specs.Listed.{count, first_of_each, in_order, place}
use Rattle.sq_algebra.specs.ZSet.{entries, of_list}
use Rattle.sq_algebra.proofs.MemberLemmas.{entries-of_list}
use Rattle.sq_algebra.proofs.Tests.{equal}

-- ---- truth values

pub or_assoc : (a b c : Bool) → ((a || b) || c) ≡ (a || (b || c))
or_assoc true b c = refl
or_assoc false b c = refl

pub or_swap : (a b c : Bool) → (a || (b || c)) ≡ (b || (a || c))
or_swap true true c = refl
or_swap true false c = refl
or_swap false true c = refl
or_swap false false c = refl

pub or_false : (a : Bool) → (a || false) ≡ a
or_false true = refl
or_false false = refl

or_twice : (a b : Bool) → (a || (a || b)) ≡ (a || b)
or_twice true b = refl
or_twice false b = refl

-- ---- lists

module _ {A : Type 0} where
  pub find_is : (p : A → Bool) (xs : List A) → is_some (find p xs) ≡ list_any p xs
  find_is p [] = refl
  find_is p (x ∷ xs) = elim (p x) as (λ b. is_some (cond b (Some x) (find p xs)) ≡ (b || list_any p xs)) [ true ↦ refl | false ↦ find_is p xs ]

  pub any_same : (p q : A → Bool) (xs : List A) → ((x : A) → p x ≡ q x) → list_any p xs ≡ list_any q xs
  any_same p q [] h = refl
  any_same p q (x ∷ xs) h = ap₂ (λ a b. a || b) (h x) (any_same p q xs h)

  pub any_flat : {B : Type 0} (p : B → Bool) (f : A → List B) (xs : List A) → list_any p (flat_map f xs) ≡ list_any (λ x. list_any p (f x)) xs
  any_flat p f [] = refl
  any_flat p f (x ∷ xs) = list_any-append p (f x) (flat_map f xs) ∙ ap (λ b. list_any p (f x) || b) (any_flat p f xs)

  pub any_mapped : {B : Type 0} (p : B → Bool) (f : A → B) (xs : List A) → list_any p (map f xs) ≡ list_any (λ x. p (f x)) xs
  any_mapped p f [] = refl
  any_mapped p f (x ∷ xs) = ap (λ b. p (f x) || b) (any_mapped p f xs)

  pub any_of_both : (p q : A → Bool) (xs : List A) → list_any (λ x. p x || q x) xs ≡ (list_any p xs || list_any q xs)
  any_of_both p q [] = refl
  any_of_both p q (x ∷ xs) =
      ap (λ b. (p x || q x) || b) (any_of_both p q xs)
      ∙ or_assoc (p x) (q x) (list_any p xs || list_any q xs)
      ∙ ap (λ b. p x || b) (or_swap (q x) (list_any p xs) (list_any q xs))
      ∙ sym (or_assoc (p x) (list_any p xs) (q x || list_any q xs))

  any_of_none : (xs : List A) → list_any (λ x. false) xs ≡ false
  any_of_none [] = refl
  any_of_none (x ∷ xs) = any_of_none xs

  pub none_of_all : (p : A → Bool) (xs : List A) → AllByRecursion (λ x. p x ≡ false) xs → list_any p xs ≡ false
  none_of_all p [] h = refl
  none_of_all p (x ∷ xs) h = ap₂ (λ a b. a || b) h.0 (none_of_all p xs h.1)

-- two loops change places
pub any_swapped : {A B : Type 0} (p : A → B → Bool) (xs : List A) (ys : List B) → list_any (λ x. list_any (p x) ys) xs ≡ list_any (λ y. list_any (λ x. p x y) xs) ys
any_swapped p [] ys = sym (any_of_none ys)
any_swapped p (x ∷ xs) ys = ap (λ b. list_any (p x) ys || b) (any_swapped p xs ys) ∙ sym (any_of_both (p x) (λ y. list_any (λ x. p x y) xs) ys)

-- those that pass another test, mapped
pub any_filtered : {A B : Type 0} (p : B → Bool) (f : A → B) (q : A → Bool) (xs : List A) → list_any p (map f (filter q xs)) ≡ list_any (λ x. q x && p (f x)) xs
any_filtered p f q [] = refl
any_filtered p f q (x ∷ xs) =
    elim (q x) as (λ b. list_any p (map f (cond b (x ∷ filter q xs) (filter q xs))) ≡ ((b && p (f x)) || list_any (λ x. q x && p (f x)) xs)) [
      | true ↦ ap (λ b. p (f x) || b) (any_filtered p f q xs)
      | false ↦ any_filtered p f q xs
    ]

-- ---- lists in order, without repeats, and as Z-sets

module _ {K : Type 0} (R : K → K → Ordering) (o : IsTotalOrder R) (identical : IsAntisymmetric R) (p : K → Bool) where
  any_placed : (x : K) (xs : List K) → list_any p (place R x xs) ≡ (p x || list_any p xs)
  any_placed x [] = refl
  any_placed x (y ∷ ys) =
      elim (R x y) as (λ r. R x y ≡ r → list_any p (match_ordering r (x ∷ y ∷ ys) (y ∷ ys) (y ∷ place R x ys)) ≡ (p x || (p y || list_any p ys))) [
        | Less ↦ λ e. refl
        | Equal ↦ λ e. sym (ap (λ b. b || (p y || list_any p ys)) (ap p (identical x y e)) ∙ or_twice (p y) (list_any p ys))
        | Greater ↦ λ e. ap (λ b. p y || b) (any_placed x ys) ∙ or_swap (p y) (p x) (list_any p ys)
      ] refl

  pub any_ordered : (xs : List K) → list_any p (in_order R xs) ≡ list_any p xs
  any_ordered [] = refl
  any_ordered (x ∷ xs) = any_placed x (in_order R xs) ∙ ap (λ b. p x || b) (any_ordered xs)

  any_others : (x : K) (xs : List K) → (p x || list_any p (filter (λ y. not (is_eq (R x y))) xs)) ≡ (p x || list_any p xs)
  any_others x [] = refl
  any_others x (y ∷ ys) =
      elim (is_eq (R x y)) as (λ b. is_eq (R x y) ≡ b → (p x || list_any p (cond (not b) (y ∷ filter (λ y. not (is_eq (R x y))) ys) (filter (λ y. not (is_eq (R x y))) ys))) ≡ (p x || (p y || list_any p ys))) [
        | true ↦ λ e. any_others x ys ∙ sym (ap (λ z. p x || (p z || list_any p ys)) (sym (identical x y (equal (R x y) e))) ∙ or_twice (p x) (list_any p ys))
        | false ↦ λ e. or_swap (p x) (p y) (list_any p (filter (λ y. not (is_eq (R x y))) ys)) ∙ ap (λ b. p y || b) (any_others x ys) ∙ or_swap (p y) (p x) (list_any p ys)
      ] refl

  pub any_firsts : (xs : List K) → list_any p (first_of_each R xs) ≡ list_any p xs
  any_firsts [] = refl
  any_firsts (x ∷ xs) = any_others x (first_of_each R xs) ∙ ap (λ b. p x || b) (any_firsts xs)

  -- some key of a list's Z-set
  pub any_entry : (xs : List K) → list_any (λ e. p e.0) (entries (of_list R xs)) ≡ list_any p xs
  any_entry xs =
      ap (list_any (λ e. p e.0)) (entries-of_list R o identical xs)
      ∙ any_mapped {B = K × ℤ} (λ e. p e.0) (λ k. (k, pos (count R k xs))) (in_order R xs)
      ∙ any_ordered xs
