-- Tasks that are claimed once at most cost no more than all tasks.
use Rattle.std.proofs.Common.{◌≡◌, ℕ, Bool, zero, suc, ◌+◌, ◌<◌, ◌≤◌, ◌==◌, true, false, List, [], ◌∷◌, ◌++◌, if◌then◌else◌, map, refl, sym, ap, ◌∙◌, subst, arith, eq-eqb, lt_of_not-le}
use mathlib.Core.Logic.{dite}
use native.Mathlib.Decide.{ℕ_discrete, dec_lt, dec_le}
use Rattle.sq_claims.specs.Claims.{Claimed, Turn, total, times}
use Rattle.sq_claims.proofs.Totals.{total_append}
use Rattle.sq_workers.specs.Levels.{sum_below}
use Rattle.sq_workers.proofs.Slots.{IsBelow, here}

at_least : (x n : ℕ) → (x < n → ⊥) → n ≤ x
at_least x n not = dite (dec_le n x) (λ le. le) (λ no. absurd (not (lt_of_not-le no)))

sum_plus : (f g : ℕ → ℕ) (n : ℕ) → sum_below (λ x. f x + g x) n ≡ sum_below f n + sum_below g n
sum_plus f g zero = refl
sum_plus f g (suc n) = omega (arith, sum_plus f g n)

sum_le : (f g : ℕ → ℕ) (n : ℕ) → ((x : ℕ) → x < n → f x ≤ g x) → sum_below f n ≤ sum_below g n
sum_le f g zero le = omega arith
sum_le f g (suc n) le = let a = le n (omega arith) in omega (arith, a, sum_le f g n (λ x lt. le x (omega (arith, lt))))

sum_more : (f : ℕ → ℕ) (n m : ℕ) → n ≤ m → sum_below f n ≤ sum_below f m
sum_more f n zero le = let e : n ≡ 0 = omega (arith, le) in subst (λ (k : ℕ). sum_below f k ≤ 0) (sym e) (omega arith)
sum_more f n (suc m) le = dite (ℕ_discrete n (suc m))
    (λ e. subst (λ (k : ℕ). sum_below f k ≤ sum_below f (suc m)) (sym e) (omega arith))
    (λ no. omega (arith, sum_more f n m (below no)))
  where
    below : (n ≡ suc m → ⊥) → n ≤ m
    below not = dite (dec_lt m n) (λ lt. absurd (not (omega (arith, lt, le)))) (λ more. at_least m n more)

module _ (cost : ℕ → ℕ) where
  -- what y costs, if it is x
  abbrev share : ℕ → ℕ → ℕ
  share x y = if y == x then cost x else 0

  share_same : (y : ℕ) → share y y ≡ cost y
  share_same y = let e : (y == y) ≡ true = eq-eqb y y refl in ap (λ (b : Bool). if b then cost y else 0) e

  share_in : (y n : ℕ) → y < n → cost y ≤ sum_below (λ x. share x y) n
  share_in y zero lt = absurd (omega (arith, lt))
  share_in y (suc n) lt = dite (ℕ_discrete y n)
      (λ e. let s = share_same y in let t = ap (λ (k : ℕ). share k y) (sym e) in omega (arith, s, t))
      (λ no. omega (arith, share_in y n (other no)))
    where
      other : (y ≡ n → ⊥) → y < n
      other not = dite (dec_lt y n) (λ l. l) (λ l. absurd (not (let le = at_least y n l in omega (arith, le, lt))))

  shares : (ns : List ℕ) (n : ℕ) → IsBelow n ns → total cost ns ≤ sum_below (λ x. total (share x) ns) n
  shares [] n below = omega arith
  shares (y ∷ ns) n below =
      let plus = sum_plus (λ x. share x y) (λ x. total (share x) ns) n in
      let first = share_in y n (below y (here y ns)) in
      omega (arith, plus, first, shares ns n (λ x p. below x (omega (arith, p))))

  share_none : (x : ℕ) (ns : List ℕ) → times x ns ≡ 0 → total (share x) ns ≡ 0
  share_none x [] none = refl
  share_none x (y ∷ ns) none = by (y == x) refl (λ e. share_none x ns e)
    where
      by : (b : Bool) → (y == x) ≡ b → (times x ns ≡ 0 → total (share x) ns ≡ 0) → total (share x) (y ∷ ns) ≡ 0
      by true e rest = let t = ap {B = ℕ} (λ (c : Bool). if c then 1 else 0) e in absurd (omega (arith, t, none))
      by false e rest = let t = ap {B = ℕ} (λ (c : Bool). if c then cost x else 0) e in let r = rest (omega (arith, none)) in omega (arith, t, r)

  share_one : (x : ℕ) (ns : List ℕ) → times x ns ≤ 1 → total (share x) ns ≤ cost x
  share_one x [] one = omega arith
  share_one x (y ∷ ns) one = by (y == x) refl (λ le. share_one x ns le)
    where
      by : (b : Bool) → (y == x) ≡ b → (times x ns ≤ 1 → total (share x) ns ≤ cost x) → total (share x) (y ∷ ns) ≤ cost x
      by true e rest = let t = ap {B = ℕ} (λ (c : Bool). if c then cost x else 0) e in let o = ap {B = ℕ} (λ (c : Bool). if c then 1 else 0) e in let z = share_none x ns (omega (arith, o, one)) in omega (arith, t, z)
      by false e rest = let t = ap {B = ℕ} (λ (c : Bool). if c then cost x else 0) e in let r = rest (omega (arith, one)) in omega (arith, t, r)

  costs : (ns : List ℕ) (n : ℕ) → IsBelow n ns → ((x : ℕ) → x < n → times x ns ≤ 1) → total cost ns ≤ sum_below cost n
  costs ns n below once = let a = shares ns n below in let b = sum_le (λ x. total (share x) ns) cost n (λ x lt. share_one x ns (once x lt)) in omega (arith, a, b)

-- all claims in one list
abbrev all_claims : List Turn → List ℕ
all_claims [] = []
all_claims (t ∷ ts) = t.claims ++ all_claims ts

total_all : (f : ℕ → ℕ) (ts : List Turn) → total f (all_claims ts) ≡ total (λ t. total f t.claims) ts
total_all f [] = refl
total_all f (t ∷ ts) = total_append f t.claims (all_claims ts) ∙ ap (λ n. total f t.claims + n) (total_all f ts)

total_lists : (f : ℕ → ℕ) (ts : List Turn) → total (total f) (map (λ t. t.claims) ts) ≡ total (λ t. total f t.claims) ts
total_lists f [] = refl
total_lists f (t ∷ ts) = ap (λ n. total f t.claims + n) (total_lists f ts)

-- the turns of a pass that was closed cost no more than all tasks
pub turns_cost : (cost : ℕ → ℕ) (ts : List Turn) (n tasks first spent : ℕ) → Claimed n (map (λ t. t.claims) ts) → n ≤ tasks
    → spent ≤ first + total (λ t. total cost t.claims) ts → spent ≤ first + sum_below cost tasks
turns_cost cost ts n tasks first spent claimed le bound =
    let a = total_all cost ts in
    let b = costs cost (all_claims ts) n below once in
    let c = sum_more cost n tasks le in omega (arith, a, b, c, bound)
  where
    counts : (x : ℕ) → times x (all_claims ts) ≡ total (times x) (map (λ t. t.claims) ts)
    counts x = total_all (λ y. if y == x then 1 else 0) ts ∙ sym (total_lists (λ y. if y == x then 1 else 0) ts)

    once : (x : ℕ) → x < n → times x (all_claims ts) ≤ 1
    once x lt = let e = counts x in let o = claimed.once x lt in omega (arith, e, o)

    below : IsBelow n (all_claims ts)
    below x some = dite (dec_lt x n) (λ lt. lt)
        (λ no. let e = counts x in let z = claimed.no_other x (at_least x n no) in absurd (omega (arith, e, z, some)))
