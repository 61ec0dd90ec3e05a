-- The range of a weight in the program, from -2^62 to 2^62, and the first weight of a Z-set that lies outside.
use Rattle.std.specs.Prelude.{◌≡◌, ◌^◌, List, [], ◌∷◌, map, Bool, not, nat_le, ℤ, unsigned_abs, Option, None}
use Rattle.std.specs.List.{find}
use Rattle.std.specs.declared.cmp.Ordering.{Ordering}
use Rattle.sq_algebra.specs.ZSet.{ZSet, entries}

abbrev pub is_in_range : ℤ → Bool
is_in_range w = nat_le (unsigned_abs w) (2 ^ 62)

-- a number, if it lies outside the range
abbrev pub number_outside : ℤ → Option ℤ
number_outside n = find (λ w. not (is_in_range w)) (n ∷ [])

-- the weight of the first pair of a list that lies outside the range
abbrev pub first_outside_in : {K : Type 0} → List (K × ℤ) → Option ℤ
first_outside_in ps = find (λ w. not (is_in_range w)) (map (λ p. p.1) ps)

-- the weight of the first key, in the order of the keys, that lies outside the range
abbrev pub first_outside : {K : Type 0} {R : K → K → Ordering} → ZSet K R → Option ℤ
first_outside z = first_outside_in (entries z)

-- every weight lies in the range
abbrev pub IsInRange : {K : Type 0} {R : K → K → Ordering} → ZSet K R → Type 0
IsInRange z = first_outside z ≡ None
