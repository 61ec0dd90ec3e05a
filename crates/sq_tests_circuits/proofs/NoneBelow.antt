-- A Z-set whose entries have no weight below 0 gives no row a weight below 0.
use Rattle.std.proofs.Common.{◌≤ℤ◌, ◌+ℤ◌, List, [], ◌∷◌, Bool, true, false, cond, ℤ, pos, is_eq, arith}
use Rattle.std.specs.List.{All, AllByRecursion}
use Rattle.std.proofs.lemmas.List.Elements.{recursion_from_All}
use borrow.Author.Differences.{ints}
use Rattle.sq_value.specs.declared.value.Value.{Value}
use Rattle.sq_value.specs.Order.{row_cmp}
use Rattle.sq_algebra.specs.Operators.{IsNonNegative}
use Rattle.sq_algebra.specs.ZSet.{ZSet, entries, weight, weight_in}

one_more : (b : Bool) (n m : ℤ) → pos 0 ≤ℤ n → pos 0 ≤ℤ m → pos 0 ≤ℤ (cond b n (pos 0) +ℤ m)
one_more true n m g h = let p = g in let q = h in omega (arith, ints)
one_more false n m g h = omega (arith, ints)

above : (row : List Value) (es : List (List Value × ℤ)) → AllByRecursion (λ e. pos 0 ≤ℤ e.1) es → pos 0 ≤ℤ weight_in row_cmp row es
above row [] h = omega (arith, ints)
above row (e ∷ es) h = one_more (is_eq (row_cmp row e.0)) e.1 (weight_in row_cmp row es) h.0 (above row es h.1)

pub none_below : (z : ZSet (List Value) row_cmp) → All (λ e. pos 0 ≤ℤ e.1) (entries z) → IsNonNegative z
unfolding weight
none_below z all row = above row (entries z) (recursion_from_All (λ (e : List Value × ℤ). pos 0 ≤ℤ e.1) (entries z) all)
