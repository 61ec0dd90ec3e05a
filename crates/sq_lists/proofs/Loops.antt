-- A list up to a place and at it, as a loop reads it.
use Rattle.std.proofs.Common.{◌≡◌, ℕ, suc, ◌+◌, List, [], ◌∷◌, ◌++◌, take, drop, map, filter, Bool, true, false, ◌&&◌, ◌||◌, Some, refl, sym, ap, ◌∙◌, add-one, append-nil}
use Rattle.std.specs.Prelude.{slice_get, Result, Err}
use Rattle.std.specs.List.{flat_map, list_all, list_any}
use Rattle.std.proofs.Math.Seq.{take-suc, drop-cons}
use Rattle.std.proofs.lemmas.List.{take-append-drop}
use Rattle.std.proofs.lemmas.List.Elements.{filter-append}
use Rattle.std.proofs.lemmas.Grind.{flat_map-append}
use Rattle.std.proofs.lemmas.Option.{get_or_from_slice_get, slice_get_within}
use Rattle.sq_expr.proofs.Lists.{take_more}

pub list_all-append : {A : Type 0} (p : A → Bool) (xs ys : List A) → list_all p (xs ++ ys) ≡ (list_all p xs && list_all p ys)
list_all-append p [] ys = refl
list_all-append p (x ∷ xs) ys = ap (λ b. p x && b) (list_all-append p xs ys) ∙ and_assoc (p x) (list_all p xs) (list_all p ys)
  where
    and_assoc : (a b c : Bool) → (a && (b && c)) ≡ ((a && b) && c)
    and_assoc true b c = refl
    and_assoc false b c = refl

pub map-append : {A B : Type 0} (f : A → B) (xs ys : List A) → map f (xs ++ ys) ≡ map f xs ++ map f ys
map-append f [] ys = refl
map-append f (x ∷ xs) ys = ap (λ zs. f x ∷ zs) (map-append f xs ys)

and_true : (b : Bool) → (b && true) ≡ b
and_true true = refl
and_true false = refl

or_true : (b : Bool) → (b || true) ≡ true
or_true true = refl
or_true false = refl

pub list_any-append : {A : Type 0} (p : A → Bool) (xs ys : List A) → list_any p (xs ++ ys) ≡ (list_any p xs || list_any p ys)
list_any-append p [] ys = refl
list_any-append p (x ∷ xs) ys = ap (λ b. p x || b) (list_any-append p xs ys) ∙ or_assoc (p x) (list_any p xs) (list_any p ys)
  where
    or_assoc : (a b c : Bool) → (a || (b || c)) ≡ ((a || b) || c)
    or_assoc true b c = refl
    or_assoc false b c = refl

any_of_map : {A B : Type 0} (p : B → Bool) (f : A → B) (xs : List A) → list_any p (map f xs) ≡ list_any (λ x. p (f x)) xs
any_of_map p f [] = refl
any_of_map p f (x ∷ xs) = ap (λ b. p (f x) || b) (any_of_map p f xs)

or_false : (b : Bool) → (b || false) ≡ b
or_false true = refl
or_false false = refl

-- some value of some list passes a test
pub any_of_lists : {A B : Type 0} (p : B → Bool) (f : A → List B) (xs : List A) → list_any p (flat_map (λ ys. ys) (map f xs)) ≡ list_any (λ x. list_any p (f x)) xs
any_of_lists p f [] = refl
any_of_lists p f (x ∷ xs) = list_any-append p (f x) (flat_map (λ ys. ys) (map f xs)) ∙ ap (λ b. list_any p (f x) || b) (any_of_lists p f xs)

module _ {A : Type 0} (xs : List A) (i : ℕ) (x : A) (found : slice_get xs i ≡ Some x) where
  pub all_more : (p : A → Bool) → list_all p (take (i + 1) xs) ≡ (list_all p (take i xs) && p x)
  all_more p = ap (list_all p) (take_more xs i x found) ∙ list_all-append p (take i xs) (x ∷ []) ∙ ap (λ b. list_all p (take i xs) && b) (and_true (p x))

  pub filter_more : (p : A → Bool) → filter p (take (i + 1) xs) ≡ filter p (take i xs) ++ filter p (x ∷ [])
  filter_more p = ap (filter p) (take_more xs i x found) ∙ filter-append p (take i xs) (x ∷ [])

  pub map_more : {B : Type 0} (f : A → B) → map f (take (i + 1) xs) ≡ map f (take i xs) ++ f x ∷ []
  map_more f = ap (map f) (take_more xs i x found) ∙ map-append f (take i xs) (x ∷ [])

  pub flat_more : {B : Type 0} (f : A → List B) → flat_map f (take (i + 1) xs) ≡ flat_map f (take i xs) ++ f x
  flat_more f = ap (flat_map f) (take_more xs i x found) ∙ flat_map-append f (take i xs) (x ∷ []) ∙ ap (λ ys. flat_map f (take i xs) ++ ys) (append-nil (f x))

  pub any_more : (p : A → Bool) → list_any p (take (i + 1) xs) ≡ (list_any p (take i xs) || p x)
  any_more p = ap (list_any p) (take_more xs i x found) ∙ list_any-append p (take i xs) (x ∷ []) ∙ ap (λ b. list_any p (take i xs) || b) (or_false (p x))

  -- what two functions make of the members so far, and which of what one makes passes a test
  pub mapped_more : {B C : Type 0} (f : B → C) (g : A → B) → map f (map g (take (i + 1) xs)) ≡ map f (map g (take i xs)) ++ f (g x) ∷ []
  mapped_more f g = ap (map f) (map_more g) ∙ map-append f (map g (take i xs)) (g x ∷ [])

  pub none_mapped : {B : Type 0} (p : B → Bool) (g : A → B) → list_any p (map g (take i xs)) ≡ false → p (g x) ≡ false → list_any p (map g (take (i + 1) xs)) ≡ false
  none_mapped p g e h = ap (list_any p) (map_more g) ∙ list_any-append p (map g (take i xs)) (g x ∷ []) ∙ ap (λ b. b || (p (g x) || false)) e ∙ or_false (p (g x)) ∙ h

  -- no value so far passes a test, and none of the next list does
  pub none_flat : {B : Type 0} (p : B → Bool) (f : A → List B) → list_any p (flat_map (λ ys. ys) (map f (take i xs))) ≡ false → list_any p (f x) ≡ false → list_any p (flat_map (λ ys. ys) (map f (take (i + 1) xs))) ≡ false
  none_flat p f e h = any_of_lists p f (take (i + 1) xs) ∙ any_more (λ y. list_any p (f y)) ∙ ap (λ b. b || list_any p (f x)) (sym (any_of_lists p f (take i xs)) ∙ e) ∙ h

  -- a member that passes a test
  pub any_found : (p : A → Bool) → p x ≡ true → list_any p xs ≡ true
  any_found p e = ap (list_any p) (sym (take-append-drop i xs)) ∙ list_any-append p (take i xs) (drop i xs) ∙ ap (λ b. list_any p (take i xs) || b) (ap (list_any p) (drop-cons xs i x (slice_get_within xs i x found) ∙ ap (λ y. y ∷ drop (suc i) xs) (get_or_from_slice_get xs i x x found)) ∙ ap (λ b. b || list_any p (drop (suc i) xs)) e) ∙ or_true (list_any p (take i xs))

  pub any_mapped : {B : Type 0} (p : B → Bool) (f : A → B) → p (f x) ≡ true → list_any p (map f xs) ≡ true
  any_mapped p f e = any_of_map p f xs ∙ any_found (λ y. p (f y)) e

  pub any_flat : {B : Type 0} (p : B → Bool) (f : A → List B) → list_any p (f x) ≡ true → list_any p (flat_map (λ ys. ys) (map f xs)) ≡ true
  any_flat p f e = any_of_lists p f xs ∙ any_found (λ y. list_any p (f y)) e

-- the fault with which a call returns is the one of the call inside it
pub same_fault : {T U F : Type 0} (r : Result T F) (x y z : F) → r ≡ Err x → x ≡ y → r ≡ Err z → ◌≡◌ {A = Result U F} (Err y) (Err z)
same_fault {U = U} {F = F} r x y z given is e = let same : x ≡ z = cc (given, e) in ap (λ (f : F). Err f) (sym is ∙ same)
