-- The parsers one level of parentheses further in.
use Rattle.std.specs.Prelude.{◌≡◌, ℕ, zero, suc, ◌<◌, ◌-◌, None, refl}
use Rattle.std.proofs.Common.{ap, arith}
use Rattle.sq_ast.specs.Words.{Tokens}
use Rattle.sq_ast.specs.Reading as r

pub expr_end : (n : ℕ) (ts : Tokens) → n ≡ 0 → (r.level n).expr ts ≡ None
unfolding r.level
expr_end zero ts h = refl
expr_end (suc n) ts h = absurd (omega arith)

pub expr_deeper : (n : ℕ) (ts : Tokens) → 0 < n → (r.level n).expr ts ≡ r.sum (r.level (n - 1)) ts
unfolding r.level
expr_deeper zero ts h = absurd (omega arith)
expr_deeper (suc n) ts h = let same : n ≡ suc n - 1 = omega arith in ap (λ d. r.sum (r.level d) ts) same

pub cond_end : (n : ℕ) (ts : Tokens) → n ≡ 0 → (r.level n).cond ts ≡ None
unfolding r.level
cond_end zero ts h = refl
cond_end (suc n) ts h = absurd (omega arith)

pub cond_deeper : (n : ℕ) (ts : Tokens) → 0 < n → (r.level n).cond ts ≡ r.disj (r.level (n - 1)) ts
unfolding r.level
cond_deeper zero ts h = absurd (omega arith)
cond_deeper (suc n) ts h = let same : n ≡ suc n - 1 = omega arith in ap (λ d. r.disj (r.level d) ts) same
