-- Numbers that are raised by totals, place by place.
use Rattle.std.proofs.Common.{◌≡◌, ℕ, zero, suc, ◌+◌, ◌<◌, ◌≤◌, ℤ, List, [], ◌∷◌, ◌++◌, length, map, option_map, take, take_all, Some, refl, sym, ap, ap₂, ◌∙◌, arith}
use Rattle.std.specs.Prelude.{slice_get, ◌+ℤ◌}
use Rattle.std.specs.Int.{int_wrap, w128}
use Rattle.std.proofs.lemmas.List.{length-map}
use Rattle.std.proofs.lemmas.Option.{same_Some, slice_get-map}
use Rattle.sq_algebra.specs.ZSet.{total}
use Rattle.sq_circuit.specs.Nodes.{Rows}
use Rattle.sq_sample.specs.Printed.{raised}
use Rattle.sq_sample.specs.Running.{wrapped}

there_is : {A : Type 0} (xs : List A) (i : ℕ) → i < length xs → (x : A) × (slice_get xs i ≡ Some x)
there_is [] i low = absurd (omega arith)
there_is (x ∷ xs) zero low = (x, refl)
there_is (x ∷ xs) (suc i) low = there_is xs i (omega arith)

taken : (xs : List ℤ) (i : ℕ) (x : ℤ) → slice_get xs i ≡ Some x → take (suc i) xs ≡ take i xs ++ x ∷ []
taken [] i x e = absurd (cc e)
taken (y ∷ xs) zero x e = ap (λ z. z ∷ []) (same_Some y x e)
taken (y ∷ xs) (suc i) x e = ap (λ zs. y ∷ zs) (taken xs i x e)

raised_at : (ns ms : List ℤ) (i : ℕ) (n m : ℤ) → slice_get ns i ≡ Some n → slice_get ms i ≡ Some m → slice_get (raised ns ms) i ≡ Some (n +ℤ m)
raised_at [] ms i n m e f = absurd (cc e)
raised_at (a ∷ ns) [] i n m e f = absurd (cc f)
raised_at (a ∷ ns) (b ∷ ms) zero n m e f = ap₂ (λ x y. Some (x +ℤ y)) (same_Some a n e) (same_Some b m f)
raised_at (a ∷ ns) (b ∷ ms) (suc i) n m e f = raised_at ns ms i n m e f

raised_few : (ns ms : List ℤ) → length (raised ns ms) ≤ length ns
raised_few [] ms = omega arith
raised_few (n ∷ ns) [] = omega arith
raised_few (n ∷ ns) (m ∷ ms) = let few = raised_few ns ms in omega (arith, few)

module _ (ns : List ℤ) (zs : List Rows) where
  pub all_raised : (i : ℕ) → length ns ≤ i → take i (wrapped ns zs) ≡ wrapped ns zs
  all_raised i past =
      let few = raised_few ns (map total zs) in
      let many = length-map (raised ns (map total zs)) (int_wrap w128) in
      take_all i (wrapped ns zs) (omega (arith, few, many, past))

  pub next_raised : (i : ℕ) (sums more : List ℤ) (bits sum : ℤ) → more ≡ sums ++ bits ∷ [] → bits ≡ sum → i < length ns → length zs ≡ length ns → sums ≡ take i (wrapped ns zs)
      → ((n : ℤ) (z : Rows) → slice_get ns i ≡ Some n → slice_get zs i ≡ Some z → sum ≡ int_wrap w128 (n +ℤ total z))
      → more ≡ take (i + 1) (wrapped ns zs)
  next_raised i sums more bits sum goes same_sum low same so_far is =
      let n = there_is ns i low in
      let z = there_is zs i (omega (arith, low, same)) in
      let total_at : slice_get (map total zs) i ≡ Some (total z.0) = slice_get-map total zs i ∙ ap (option_map total) z.1 in
      let sum_at : slice_get (wrapped ns zs) i ≡ Some (int_wrap w128 (n.0 +ℤ total z.0)) =
      slice_get-map (int_wrap w128) (raised ns (map total zs)) i ∙ ap (option_map (int_wrap w128)) (raised_at ns (map total zs) i n.0 (total z.0) n.1 total_at) in
      let one_more : i + 1 ≡ suc i = omega arith in
      goes ∙ ap₂ (λ (xs : List ℤ) x. xs ++ x ∷ []) so_far (same_sum ∙ is n.0 z.0 n.1 z.1) ∙ sym (taken (wrapped ns zs) i (int_wrap w128 (n.0 +ℤ total z.0)) sum_at)
      ∙ ap (λ k. take k (wrapped ns zs)) (sym one_more)
