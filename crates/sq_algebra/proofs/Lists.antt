-- Laws of counts, of ascending lists, and of the keys by which two lists differ.
use Rattle.std.proofs.Common.{◌≡◌, ℕ, ◌+◌, List, [], ◌∷◌, ◌++◌, Bool, true, false, cond, not, T, ◌==◌, filter, refl, sym, ap, subst, ◌∙◌, arith, Ordering, Less, Equal, Greater, is_lt, is_eq}
use Rattle.std.specs.Ordering.{match_ordering, ordering_reverse}
use Rattle.std.specs.Cmp.{IsTotalOrder}
use Rattle.std.proofs.lemmas.Cmp.{alike_right}
use Rattle.std.proofs.lemmas.List.Sums.{sum_by-cons, sum_by-append}
use Rattle.std.proofs.lemmas.Bool.Decides.{nat_tests}
use Rattle.sq_algebra.specs.Listed.{count, is_below_all, is_ascending, place, in_order, changed}
use Rattle.sq_algebra.proofs.Tests.{both, first, second, less, equal}

-- steps on truth values and numbers alone
none_kept : (b : Bool) → ◌≡◌ {A = ℕ} 0 (cond b 0 0)
none_kept true = refl
none_kept false = refl

filter_step : (t b q : Bool) (n f : ℕ) → f ≡ cond q n 0 → (t ≡ true → b ≡ q) → cond b (cond t 1 0) 0 + f ≡ cond q (cond t 1 0 + n) 0
filter_step true b q n f e same = step_same b q n f e (same refl)
  where
    step_same : (b q : Bool) (n f : ℕ) → f ≡ cond q n 0 → b ≡ q → cond b 1 0 + f ≡ cond q (1 + n) 0
    step_same true true n f e s = omega arith
    step_same false false n f e s = omega arith
    step_same true false n f e s = cc
    step_same false true n f e s = cc
filter_step false true true n f e same = omega arith
filter_step false true false n f e same = omega arith
filter_step false false true n f e same = omega arith
filter_step false false false n f e same = omega arith

place_new : (t : Bool) (n : ℕ) → (t ≡ true → n ≡ 0) → cond t 1 0 + n ≡ cond t 1 n
place_new true n none = omega (arith, none refl)
place_new false n none = omega arith

place_again : (t u : Bool) (n : ℕ) → t ≡ u → (u ≡ true → n ≡ 0) → cond u 1 0 + n ≡ cond t 1 (cond u 1 0 + n)
place_again true true n e none = omega (arith, none refl)
place_again true false n e none = cc
place_again false u n e none = refl

place_later : (t u : Bool) (n m : ℕ) → m ≡ cond t 1 n → (t ≡ true → u ≡ false) → cond u 1 0 + m ≡ cond t 1 (cond u 1 0 + n)
place_later true u n m e other = later u (other refl)
  where
    later : (u : Bool) → u ≡ false → cond u 1 0 + m ≡ 1
    later true f = cc
    later false f = omega arith
place_later false u n m e other = ap (λ (x : ℕ). cond u 1 0 + x) e

once_step : (t : Bool) (n m : ℕ) → m ≡ cond (n == 0) 0 1 → cond t 1 m ≡ cond (cond t 1 0 + n == 0) 0 1
once_step true n m e = grind (arith, nat_tests)
once_step false n m e = e ∙ ap (λ (x : ℕ). cond (x == 0) 0 1) (omega arith)

differ_step : (a b : ℕ) → ◌≡◌ {A = ℕ} (cond (not (a == b)) (cond (a + b == 0) 0 1) 0) (cond (a == b) 0 1)
differ_step a b = grind (arith, nat_tests)

module _ {K : Type 0} (R : K → K → Ordering) where
  pub count-cons : (k x : K) (xs : List K) → count R k (x ∷ xs) ≡ cond (is_eq (R k x)) 1 0 + count R k xs
  count-cons k x xs = sum_by-cons _ x xs

  pub count-append : (k : K) (xs ys : List K) → count R k (xs ++ ys) ≡ count R k xs + count R k ys
  count-append k xs ys = sum_by-append _ xs ys

  is_below_all-filter : (k : K) (p : K → Bool) (xs : List K) → T (is_below_all R k xs) → T (is_below_all R k (filter p xs))
  is_below_all-filter k p [] h = tt
  is_below_all-filter k p (x ∷ xs) h =
      let rest = is_below_all-filter k p xs (second _ _ h) in
      elim (p x) as (λ b. T (is_below_all R k (cond b (x ∷ filter p xs) (filter p xs)))) [ true ↦ both _ _ (first _ _ h) rest | false ↦ rest ]

  pub is_ascending-filter : (p : K → Bool) (xs : List K) → T (is_ascending R xs) → T (is_ascending R (filter p xs))
  is_ascending-filter p [] h = tt
  is_ascending-filter p (x ∷ xs) h =
      let rest = is_ascending-filter p xs (second _ _ h) in
      elim (p x) as (λ b. T (is_ascending R (cond b (x ∷ filter p xs) (filter p xs)))) [ true ↦ both _ _ (is_below_all-filter x p xs (first _ _ h)) rest | false ↦ rest ]

  counted : (b : Bool) (k x : K) (xs : List K) → count R k (cond b (x ∷ xs) xs) ≡ cond b (cond (is_eq (R k x)) 1 0) 0 + count R k xs
  counted true k x xs = count-cons k x xs
  counted false k x xs = omega arith

  -- p answers at each key that ties with k as it answers at k
  pub count-filter : (p : K → Bool) (k : K) → ((x : K) → R k x ≡ Equal → p x ≡ p k) → (xs : List K) → count R k (filter p xs) ≡ cond (p k) (count R k xs) 0
  count-filter p k alike [] = none_kept (p k)
  count-filter p k alike (x ∷ xs) =
      counted (p x) k x (filter p xs)
      ∙ filter_step (is_eq (R k x)) (p x) (p k) (count R k xs) _ (count-filter p k alike xs) (λ t. alike x (equal _ t))
      ∙ ap (λ (n : ℕ). cond (p k) n 0) (sym (count-cons k x xs))

  count_none : (k : K) (xs : List K) → T (is_below_all R k xs) → count R k xs ≡ 0
  count_none k [] h = refl
  count_none k (x ∷ xs) h =
      count-cons k x xs ∙ ap (λ r. cond (is_eq r) 1 0 + count R k xs) (less _ (first _ _ h)) ∙ omega (arith, count_none k xs (second _ _ h))

  is_below_all-place : (j k : K) (xs : List K) → T (is_lt (R j k)) → T (is_below_all R j xs) → T (is_below_all R j (place R k xs))
  is_below_all-place j k [] p h = both _ _ p tt
  is_below_all-place j k (x ∷ xs) p h =
      elim (R k x) as (λ r. T (is_below_all R j (match_ordering r (k ∷ x ∷ xs) (x ∷ xs) (x ∷ place R k xs)))) [
        | Less ↦ both _ _ p h
        | Equal ↦ h
        | Greater ↦ both _ _ (first _ _ h) (is_below_all-place j k xs p (second _ _ h))
      ]

  module _ (o : IsTotalOrder R) where
    pub below_less : (j k : K) (xs : List K) → R j k ≡ Less → T (is_below_all R k xs) → T (is_below_all R j xs)
    below_less j k [] p h = tt
    below_less j k (x ∷ xs) p h = both _ _ (subst (λ r. T (is_lt r)) (sym (o.trans j k x p (less _ (first _ _ h)))) tt) (below_less j k xs p (second _ _ h))

    pub below_tied : (j k : K) (xs : List K) → R j k ≡ Equal → T (is_below_all R k xs) → T (is_below_all R j xs)
    below_tied j k [] p h = tt
    below_tied j k (x ∷ xs) p h = both _ _ (subst (λ r. T (is_lt r)) (sym (o.congr j k x p)) (first _ _ h)) (below_tied j k xs p (second _ _ h))

    greater_is_less : (k x : K) → R k x ≡ Greater → T (is_lt (R x k))
    greater_is_less k x p = subst (λ r. T (is_lt r)) (sym (o.antisymm x k ∙ ap ordering_reverse p)) tt

    pub is_ascending-place : (k : K) (xs : List K) → T (is_ascending R xs) → T (is_ascending R (place R k xs))
    is_ascending-place k [] h = tt
    is_ascending-place k (x ∷ xs) h =
        elim (R k x) as (λ r. R k x ≡ r → T (is_ascending R (match_ordering r (k ∷ x ∷ xs) (x ∷ xs) (x ∷ place R k xs)))) [
          | Less ↦ λ p. both _ _ (both _ _ (subst (λ r. T (is_lt r)) (sym p) tt) (below_less k x xs p (first _ _ h))) h
          | Equal ↦ λ p. h
          | Greater ↦ λ p. both _ _ (is_below_all-place x k xs (greater_is_less k x p) (first _ _ h)) (is_ascending-place k xs (second _ _ h))
        ] refl

    -- the keys of a list in order ascend
    pub is_ascending-in_order : (xs : List K) → T (is_ascending R (in_order R xs))
    is_ascending-in_order [] = tt
    is_ascending-in_order (x ∷ xs) = is_ascending-place x (in_order R xs) (is_ascending-in_order xs)

    pub is_ascending-changed : (before now : List K) → T (is_ascending R (changed R before now))
    is_ascending-changed before now = is_ascending-filter _ _ (is_ascending-in_order (before ++ now))

    -- keys that tie stand at the same number of places
    pub count_tied : (j k : K) (xs : List K) → R j k ≡ Equal → count R j xs ≡ count R k xs
    count_tied j k [] e = refl
    count_tied j k (x ∷ xs) e =
        count-cons j x xs ∙ (λ i. cond (is_eq (o.congr j k x e i)) 1 0 + count_tied j k xs e i) ∙ sym (count-cons k x xs)

    apart : (k x y : K) → R x y ≡ Greater → R k x ≡ Equal → is_eq (R k y) ≡ false
    apart k x y p e = ap is_eq (o.congr k x y e ∙ p)

    -- one place more where k is new, and else as many as before
    pub count-place : (k x : K) (xs : List K) → T (is_ascending R xs) → count R k (place R x xs) ≡ cond (is_eq (R k x)) 1 (count R k xs)
    count-place k x [] h = count-cons k x [] ∙ place_new (is_eq (R k x)) 0 (λ _. refl)
    count-place k x (y ∷ ys) h =
        elim (R x y) as (λ r. R x y ≡ r → count R k (match_ordering r (x ∷ y ∷ ys) (y ∷ ys) (y ∷ place R x ys)) ≡ cond (is_eq (R k x)) 1 (count R k (y ∷ ys))) [
          | Less ↦ λ p. count-cons k x (y ∷ ys) ∙ place_new (is_eq (R k x)) _ (λ t. count_none k (y ∷ ys) (below_tied k x (y ∷ ys) (equal _ t) (both _ _ (subst (λ r. T (is_lt r)) (sym p) tt) (below_less x y ys p (first _ _ h)))))
          | Equal ↦ λ p. count-cons k y ys
              ∙ place_again (is_eq (R k x)) (is_eq (R k y)) (count R k ys) (ap is_eq (alike_right o x y k p)) (λ t. count_none k ys (below_tied k y ys (equal _ t) (first _ _ h)))
              ∙ ap (λ (n : ℕ). cond (is_eq (R k x)) 1 n) (sym (count-cons k y ys))
          | Greater ↦ λ p. count-cons k y (place R x ys)
              ∙ place_later (is_eq (R k x)) (is_eq (R k y)) (count R k ys) _ (count-place k x ys (second _ _ h)) (λ t. apart k x y p (equal _ t))
              ∙ ap (λ (n : ℕ). cond (is_eq (R k x)) 1 n) (sym (count-cons k y ys))
        ] refl

    -- each key of a list stands in it once when it is in order, and no other key does
    pub count-in_order : (k : K) (xs : List K) → count R k (in_order R xs) ≡ cond (count R k xs == 0) 0 1
    count-in_order k [] = refl
    count-in_order k (x ∷ xs) =
        count-place k x (in_order R xs) (is_ascending-in_order xs)
        ∙ once_step (is_eq (R k x)) (count R k xs) _ (count-in_order k xs)
        ∙ ap (λ (n : ℕ). cond (n == 0) 0 1) (sym (count-cons k x xs))

    -- the keys by which two lists differ are those whose counts differ, each once
    pub count-changed : (k : K) (before now : List K) → count R k (changed R before now) ≡ cond (count R k before == count R k now) 0 1
    count-changed k before now =
        count-filter _ k (λ x e. λ i. not (sym (count_tied k x before e) i == sym (count_tied k x now e) i)) (in_order R (before ++ now))
        ∙ ap (λ (n : ℕ). cond (not (count R k before == count R k now)) n 0) (count-in_order k (before ++ now) ∙ ap (λ (n : ℕ). cond (n == 0) 0 1) (count-append k before now))
        ∙ differ_step (count R k before) (count R k now)
