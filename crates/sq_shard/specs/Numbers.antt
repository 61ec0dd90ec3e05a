-- The numbers of shards.
use Rattle.std.proofs.Common.{◌≡◌, ℕ, suc, ◌%◌, ◌<◌, cond, ltb, ◌∙◌, arith}
use Rattle.std.specs.Ordering.{nat_cmp}
use Rattle.std.proofs.lemmas.Nat.{mod_below}
use Rattle.std.proofs.lemmas.Bool.Decides.{nat_tests}
use Rattle.sq_algebra.specs.Keyed.{numbers_below}
use Rattle.sq_algebra.specs.Listed.{count}
use Rattle.sq_algebra.proofs.ShardLemmas.{count-numbers_below}

below : (a b : ℕ) → a < b → ◌≡◌ {A = ℕ} (cond (ltb a b) 1 0) 1
below a b h = grind (arith, nat_tests)

-- a remainder stands once among the numbers below the divisor
pub once_below : (m h : ℕ) → count nat_cmp (h % suc m) (numbers_below (suc m)) ≡ 1
once_below m h = count-numbers_below (h % suc m) (suc m) ∙ below (h % suc m) (suc m) (mod_below h (suc m) (omega arith))
