-- The work of one turn of a worker.
use Rattle.std.proofs.Common.{◌≡◌, ℕ, ◌+◌, ◌<◌, ◌≤◌, List, [], ◌∷◌, ◌++◌, refl, arith}
use Rattle.std.specs.List.{AllByRecursion, AllZip}
use Rattle.sq_claims.specs.Claims.{total}
use Rattle.sq_claims.proofs.Totals.{total_append}

-- the number after the last claim
abbrev pub next_free : List ℕ → ℕ
next_free [] = 0
next_free (x ∷ []) = x + 1
next_free (x ∷ y ∷ xs) = next_free (y ∷ xs)

-- a claim above all earlier ones is at least the number after the last
pub next_below : (xs : List ℕ) (i : ℕ) → AllByRecursion (λ c. c < i) xs → next_free xs ≤ i
next_below [] i all = omega arith
next_below (x ∷ []) i all = let a = all.0 in omega (arith, a)
next_below (x ∷ y ∷ xs) i all = next_below (y ∷ xs) i all.1

pub next_after : (xs : List ℕ) (i : ℕ) → next_free (xs ++ i ∷ []) ≡ i + 1
next_after [] i = refl
next_after (x ∷ []) i = refl
next_after (x ∷ y ∷ xs) i = next_after (y ∷ xs) i

pub zip_more : {A B : Type 0} (R : A → B → Type 0) (xs : List A) (ys : List B) (x : A) (y : B) → AllZip R xs ys → R x y → AllZip R (xs ++ x ∷ []) (ys ++ y ∷ [])
zip_more R [] [] x y all r = (r, tt)
zip_more R [] (z ∷ ys) x y all r = absurd all
zip_more R (z ∷ xs) [] x y all r = absurd all
zip_more R (z ∷ xs) (w ∷ ys) x y all r = (all.0, zip_more R xs ys x y all.1 r)

-- one more claim costs what its task does
pub cost_more : (cost : ℕ → ℕ) (xs : List ℕ) (i before now : ℕ) → before ≤ total cost xs → now ≤ before + cost i → now ≤ total cost (xs ++ i ∷ [])
cost_more cost xs i before now b n = let t = total_append cost xs (i ∷ []) in omega (arith, t, b, n)
