-- Workers that are let go, one after the other.
use Rattle.std.proofs.Common.{◌≡◌, ℕ, zero, suc, ◌+◌, ◌-◌, ◌^◌, ◌≤◌, min, List, [], ◌∷◌, ◌++◌, All, arith}
use Rattle.sq_claims.specs.Claims.{Turn, total}
use Rattle.sq_claims.proofs.Totals.{total_append}

pub all_front : {A : Type 0} (P : A → Type 0) (xs ys : List A) → All P (xs ++ ys) → All P xs
all_front P [] ys h k d lt = absurd (omega (arith, lt))
all_front P (x ∷ xs) ys h zero d lt = h zero d (omega arith)
all_front P (x ∷ xs) ys h (suc k) d lt = all_front P xs ys (λ j e l. h (suc j) e (omega (arith, l))) k d (omega (arith, lt))

pub all_last : {A : Type 0} (P : A → Type 0) (xs : List A) (y : A) → All P (xs ++ y ∷ []) → P y
all_last P [] y h = h zero y (omega arith)
all_last P (x ∷ xs) y h = all_last P xs y (λ k d l. h (suc k) d (omega (arith, l)))

pub all_more : {A : Type 0} (P : A → Type 0) (xs : List A) (y : A) → All P xs → P y → All P (xs ++ y ∷ [])
all_more P [] y h p zero d lt = p
all_more P [] y h p (suc k) d lt = absurd (omega (arith, lt))
all_more P (x ∷ xs) y h p zero d lt = h zero d (omega arith)
all_more P (x ∷ xs) y h p (suc k) d lt = all_more P xs y (λ j e l. h (suc j) e (omega (arith, l))) p k d (omega (arith, lt))

-- the steps of one more worker are within the cost of its claims
pub steps_more : (cost : ℕ → ℕ) (turns : List Turn) (t : Turn) (first before part now : ℕ) → before ≤ first + total (λ p. total cost p.claims) turns → part ≤ total cost t.claims
    → now ≡ min (before + part) (2 ^ 64 - 1) → now ≤ first + total (λ p. total cost p.claims) (turns ++ t ∷ [])
steps_more cost turns t first before part now b p n = let a = total_append (λ (q : Turn). total cost q.claims) turns (t ∷ []) in omega (arith, a, b, p, n)
