-- Nested loops that agree, and loops as filters.
use Rattle.std.proofs.Common.{◌≡◌, List, [], ◌∷◌, ◌++◌, map, Bool, true, false, cond, filter, refl, ap, ap₂}
use Rattle.std.specs.List.{AllByRecursion, flat_map}

pub flat_map_agree : {A B : Type 0} (f g : A → List B) (xs : List A) → AllByRecursion (λ x. f x ≡ g x) xs → flat_map f xs ≡ flat_map g xs
flat_map_agree f g [] h = refl
flat_map_agree f g (x ∷ xs) h = ap₂ (λ ys zs. ys ++ zs) h.0 (flat_map_agree f g xs h.1)

-- a filter of what f makes, as a loop
pub loop_is : {A B : Type 0} (f : A → B) (p : B → Bool) (xs : List A) → flat_map (λ x. cond (p (f x)) (f x ∷ []) []) xs ≡ filter p (map f xs)
loop_is f p [] = refl
loop_is f p (x ∷ xs) =
    elim (p (f x)) as (λ b. cond b (f x ∷ []) [] ++ flat_map (λ x. cond (p (f x)) (f x ∷ []) []) xs ≡ cond b (f x ∷ filter p (map f xs)) (filter p (map f xs))) [
      | true ↦ ap (λ ys. f x ∷ ys) (loop_is f p xs)
      | false ↦ loop_is f p xs
    ]

pub filter_of_map : {A B : Type 0} (p : B → Bool) (f : A → B) (xs : List A) → filter p (map f xs) ≡ map f (filter (λ x. p (f x)) xs)
filter_of_map p f [] = refl
filter_of_map p f (x ∷ xs) =
    elim (p (f x)) as (λ b. cond b (f x ∷ filter p (map f xs)) (filter p (map f xs)) ≡ map f (cond b (x ∷ filter (λ x. p (f x)) xs) (filter (λ x. p (f x)) xs))) [
      | true ↦ ap (λ ys. f x ∷ ys) (filter_of_map p f xs)
      | false ↦ filter_of_map p f xs
    ]
