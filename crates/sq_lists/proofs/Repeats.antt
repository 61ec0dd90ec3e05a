-- The first appearances in a list that grows at its end.
use Rattle.std.proofs.Common.{◌≡◌, ℕ, ◌+◌, List, [], ◌∷◌, ◌++◌, Bool, true, false, cond, not, ◌==◌, if◌then◌else◌, filter, refl, sym, ap, ◌∙◌, zero-add, Ordering, is_eq}
use Rattle.std.specs.Cmp.{IsTotalOrder}
use Rattle.std.proofs.lemmas.Cmp.{alike_right}
use Rattle.std.proofs.lemmas.List.Elements.{filter-append}
use Rattle.sq_algebra.specs.Listed.{count, first_of_each}
use Rattle.sq_algebra.proofs.Lists.{count-cons, count-filter}
use Rattle.sq_algebra.proofs.ListLemmas.{tie_back}

-- a list of one member, where there is none of it yet
abbrev pub one_of_none : {K : Type 0} → ℕ → K → List K
one_of_none n x = if n == 0 then x ∷ [] else []

neither : {K : Type 0} (none : List K) (b : Bool) → none ≡ cond b none none
neither none true = refl
neither none false = refl

filter_if : {K : Type 0} (p : K → Bool) (b : Bool) (x : K) → filter p (cond b (x ∷ []) []) ≡ cond (p x) (cond b (x ∷ []) []) []
filter_if p true x = refl
filter_if p false x = neither [] (p x)

same_one : {K : Type 0} (t u : Bool) (x : K) (n m : ℕ) → t ≡ u → m ≡ cond (not t) n 0 → cond (not t) (one_of_none n x) [] ≡ one_of_none (cond u 1 0 + m) x
same_one true true x n m e c = ap (λ k. one_of_none (1 + k) x) (sym c)
same_one false false x n m e c = ap (λ k. one_of_none k x) (sym c ∙ sym (zero-add m))
same_one true false x n m e c = cc
same_one false true x n m e c = cc

module _ {K : Type 0} (R : K → K → Ordering) (o : IsTotalOrder R) where
  pub first_grown : (x : K) (xs : List K) → first_of_each R (xs ++ x ∷ []) ≡ first_of_each R xs ++ one_of_none (count R x (first_of_each R xs)) x
  first_grown x [] = refl
  first_grown x (y ∷ xs) =
      let firsts : List K = first_of_each R xs in
      let differs : K → Bool = λ z. not (is_eq (R y z)) in
      ap (λ zs. y ∷ filter differs zs) (first_grown x xs)
      ∙ ap (λ zs. y ∷ zs) (filter-append differs firsts (one_of_none (count R x firsts) x)
      ∙ ap (λ zs. filter differs firsts ++ zs) (filter_if differs (count R x firsts == 0) x
      ∙ same_one (is_eq (R y x)) (is_eq (R x y)) x (count R x firsts) (count R x (filter differs firsts)) (tie_back R o y x) (count-filter R differs x (λ z e. ap (λ r. not (is_eq r)) (sym (alike_right o x z y e))) firsts)
      ∙ ap (λ n. one_of_none n x) (sym (count-cons R x y (filter differs firsts)))))
