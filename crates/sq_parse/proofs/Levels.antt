-- The parser of queries one level of parentheses further in.
use Rattle.std.specs.Prelude.{◌≡◌, ℕ, zero, suc, ◌<◌, ◌-◌, None, refl}
use Rattle.std.proofs.Common.{ap, arith}
use Rattle.sq_ast.specs.Words.{Tokens}
use Rattle.sq_ast.specs.Reading as r

pub query_end : (n : ℕ) (ts : Tokens) → n ≡ 0 → (r.level n).query ts ≡ None
unfolding r.level
query_end zero ts h = refl
query_end (suc n) ts h = absurd (omega arith)

pub query_deeper : (n : ℕ) (ts : Tokens) → 0 < n → (r.level n).query ts ≡ r.query_chain (r.level (n - 1)) ts
unfolding r.level
query_deeper zero ts h = absurd (omega arith)
query_deeper (suc n) ts h = let same : n ≡ suc n - 1 = omega arith in ap (λ d. r.query_chain (r.level d) ts) same
