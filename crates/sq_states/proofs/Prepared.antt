-- A change that stays within its range is never refused, and a state with one entry set twice.
use Rattle.std.proofs.Common.{◌≡◌, ℕ, zero, suc, ℤ, List, [], ◌∷◌, get_or, None, Some, refl, ap, ap₂, ◌∙◌}
use Rattle.std.specs.Prelude.{Option, slice_get, slice_set}
use Rattle.std.proofs.lemmas.Option.{same_Some}
use Rattle.sq_trace.specs.Changes.{IsFirstOutside}
use Rattle.sq_trace.specs.Runs.{Place}

pub never_first : {A : Type 0} (outside : A → Option ℤ) (payload : Place → A) (number : ℤ) → ((p : Place) → outside (payload p) ≡ None) → IsFirstOutside outside payload number → ⊥
never_first outside payload number within first = let inside = within first.place in let out = first.is_outside in absurd (cc (inside, out))

set_twice : {X : Type 0} (xs : List X) (i : ℕ) (x y : X) → slice_set (slice_set xs i x) i y ≡ slice_set xs i y
set_twice [] i x y = refl
set_twice (z ∷ xs) zero x y = refl
set_twice (z ∷ xs) (suc i) x y = ap (λ zs. z ∷ zs) (set_twice xs i x y)

got : {X : Type 0} (xs : List X) (i : ℕ) (d x : X) → slice_get xs i ≡ Some x → get_or xs i d ≡ x
got [] i d x e = absurd (cc e)
got (z ∷ xs) zero d x e = same_Some z x e
got (z ∷ xs) (suc i) d x e = got xs i d x e

-- what stands at a place is taken out and put back changed
pub put_back : {X Y : Type 0} (f : X → Y → X) (xs now : List X) (i : ℕ) (d held hole made kept : X) (y : Y) → xs ≡ now → held ≡ get_or xs i d → made ≡ f held y → slice_get now i ≡ Some kept
    → slice_set (slice_set xs i hole) i made ≡ slice_set now i (f kept y)
put_back f xs now i d held hole made kept y same is after at =
    set_twice xs i hole made
    ∙ ap₂ (λ zs z. slice_set zs i z) same (after ∙ ap (λ z. f z y) (is ∙ got xs i d kept (ap (λ zs. slice_get zs i) same ∙ at)))
