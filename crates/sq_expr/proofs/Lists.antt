-- What holds of each member of a list, whether some member passes a test, and a list up to a place.
use Rattle.std.proofs.Common.{◌≡◌, ◌<◌, ◌+◌, length, get_or, ℕ, zero, suc, Bool, true, false, ◌&&◌, ◌||◌, List, [], ◌∷◌, ◌++◌, map, take, refl, ap, sym, ◌∙◌, subst, add-one}
use Rattle.std.proofs.Math.Seq.{take-suc}
use Rattle.std.proofs.lemmas.List.Folds.{list_any-append}
use Rattle.std.proofs.lemmas.Option.{get_or_from_slice_get, same_Some, slice_get_read, slice_get_within}
use Rattle.std.specs.Prelude.{slice_get, Some}
use mathlib.Core.Bool.{true≢false}
use Rattle.std.specs.List.{AllByRecursion, flat_map, list_all, list_any}

left_true : (a b : Bool) → (a && b) ≡ true → a ≡ true
left_true true b h = refl
left_true false b h = h

right_true : (a b : Bool) → (a && b) ≡ true → b ≡ true
right_true true b h = h
right_true false b h = absurd (true≢false (sym h))

pub all_front : {A : Type 0} (P : A → Type 0) (xs ys : List A) → AllByRecursion P (xs ++ ys) → AllByRecursion P xs
all_front P [] ys h = tt
all_front P (x ∷ xs) ys h = (h.0, all_front P xs ys h.1)

pub all_back : {A : Type 0} (P : A → Type 0) (xs ys : List A) → AllByRecursion P (xs ++ ys) → AllByRecursion P ys
all_back P [] ys h = h
all_back P (x ∷ xs) ys h = all_back P xs ys h.1

pub all_append : {A : Type 0} (P : A → Type 0) (xs ys : List A) → AllByRecursion P xs → AllByRecursion P ys → AllByRecursion P (xs ++ ys)
all_append P [] ys h k = k
all_append P (x ∷ xs) ys h k = (h.0, all_append P xs ys h.1 k)

pub all_flat : {A B : Type 0} (P : B → Type 0) (f : A → List B) (xs : List A) → AllByRecursion P (flat_map f xs) → AllByRecursion (λ x. AllByRecursion P (f x)) xs
all_flat P f [] h = tt
all_flat P f (x ∷ xs) h = (all_front P (f x) (flat_map f xs) h, all_flat P f xs (all_back P (f x) (flat_map f xs) h))

pub all_flattened : {A B : Type 0} (P : B → Type 0) (f : A → List B) (xs : List A) → AllByRecursion (λ x. AllByRecursion P (f x)) xs → AllByRecursion P (flat_map f xs)
all_flattened P f [] h = tt
all_flattened P f (x ∷ xs) h = all_append P (f x) (flat_map f xs) h.0 (all_flattened P f xs h.1)

pub all_at : {A : Type 0} (P : A → Type 0) (xs : List A) (i : ℕ) (x : A) → AllByRecursion P xs → slice_get xs i ≡ Some x → P x
all_at P [] i x h e = absurd (cc)
all_at P (y ∷ ys) zero x h e = subst P (same_Some y x e) h.0
all_at P (y ∷ ys) (suc i) x h e = all_at P ys i x h.1 e

-- the member that a loop reads
pub all_read : {A : Type 0} (P : A → Type 0) (xs : List A) (i : ℕ) (x : A) → AllByRecursion P xs → i < length xs → x ≡ get_or xs i x → P x
all_read P xs i x h below is = all_at P xs i x h (slice_get_read xs (length xs) i x refl below is)

-- what follows from two facts on each member
pub all_from : {A : Type 0} (P Q R : A → Type 0) (xs : List A) → ((x : A) → P x → Q x → R x) → AllByRecursion P xs → AllByRecursion Q xs → AllByRecursion R xs
all_from P Q R [] f h k = tt
all_from P Q R (x ∷ xs) f h k = (f x h.0 k.0, all_from P Q R xs f h.1 k.1)

pub all_weaker : {A : Type 0} (P Q : A → Type 0) (xs : List A) → ((x : A) → P x → Q x) → AllByRecursion P xs → AllByRecursion Q xs
all_weaker P Q [] f h = tt
all_weaker P Q (x ∷ xs) f h = (f x h.0, all_weaker P Q xs f h.1)

pub all_over : {A B : Type 0} (P : B → Type 0) (f : A → B) (xs : List A) → AllByRecursion (λ x. P (f x)) xs → AllByRecursion P (map f xs)
all_over P f [] h = tt
all_over P f (x ∷ xs) h = (h.0, all_over P f xs h.1)

-- each member passes a test that the mapped list passes
pub all_pass : {A B : Type 0} (p : B → Bool) (f : A → B) (xs : List A) → list_all p (map f xs) ≡ true → AllByRecursion (λ x. p (f x) ≡ true) xs
all_pass p f [] h = tt
all_pass p f (x ∷ xs) h = (left_true (p (f x)) (list_all p (map f xs)) h, all_pass p f xs (right_true (p (f x)) (list_all p (map f xs)) h))

pub all_passed : {A B : Type 0} (p : B → Bool) (f : A → B) (xs : List A) → AllByRecursion (λ x. p (f x) ≡ true) xs → list_all p (map f xs) ≡ true
all_passed p f [] h = refl
all_passed p f (x ∷ xs) h = ap (λ b. b && list_all p (map f xs)) h.0 ∙ all_passed p f xs h.1

-- two maps agree on a list where they agree on each member
pub map_same : {A B : Type 0} (f g : A → B) (xs : List A) → AllByRecursion (λ x. f x ≡ g x) xs → map f xs ≡ map g xs
map_same f g [] h = refl
map_same f g (x ∷ xs) h = cc (h.0, map_same f g xs h.1)

-- a test of some member of many lists
pub any_flat : {A B : Type 0} (p : B → Bool) (f : A → List B) (xs : List A) → list_any p (flat_map f xs) ≡ list_any (λ x. list_any p (f x)) xs
any_flat p f [] = refl
any_flat p f (x ∷ xs) = list_any-append p (f x) (flat_map f xs) ∙ ap (λ b. list_any p (f x) || b) (any_flat p f xs)

-- a list up to the place behind the one that a loop is at
pub take_more : {A : Type 0} (xs : List A) (i : ℕ) (x : A) → slice_get xs i ≡ Some x → take (i + 1) xs ≡ take i xs ++ x ∷ []
take_more xs i x found = ap (λ n. take n xs) (add-one i) ∙ take-suc xs i x (slice_get_within xs i x found) ∙ ap (λ y. take i xs ++ y ∷ []) (get_or_from_slice_get xs i x x found)
