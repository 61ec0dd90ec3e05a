-- Streams, here as finite lists, over an abelian group G (DBSP, PVLDB 16(7), 2023, where a stream is an infinite sequence).
--     delayed G s        zero first, and then each earlier member.   differences G s    s less s delayed, member by member
--     integral G s       at each place the sum of the members up to it
--     lifted f s         f of each member.                           pointwise_sum G s t   the sum, member by member
--     incremental G q    the incremental version of the operator q: differences after q after integral
use Rattle.std.specs.Prelude.{List, [], ◌∷◌, map, length, take}
use Rattle.std.specs.List.{zip}
use Rattle.sq_algebra.specs.Groups.{AbelianGroup, minus, sum_over}

-- the fronts of a list, without the empty one, the shortest first
abbrev pub fronts : {A : Type 0} → List A → List (List A)
fronts [] = []
fronts (x ∷ xs) = (x ∷ []) ∷ map (λ front. x ∷ front) (fronts xs)

abbrev pub lifted : {A B : Type 0} → (A → B) → List A → List B
lifted f s = map f s

module _ {A : Type 0} (G : AbelianGroup A) where
  abbrev pub delayed : List A → List A
  delayed s = take (length s) (G.zero ∷ s)

  abbrev pub differences : List A → List A
  differences s = map (λ p. minus G p.0 p.1) (zip s (delayed s))

  abbrev pub integral : List A → List A
  integral s = map (λ front. sum_over G (λ x. x) front) (fronts s)

  abbrev pub pointwise_sum : List A → List A → List A
  pointwise_sum s t = map (λ p. G.plus p.0 p.1) (zip s t)

  abbrev pub incremental : (List A → List A) → List A → List A
  incremental q s = differences (q (integral s))
