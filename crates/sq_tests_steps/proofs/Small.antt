-- A Z-set whose entries have no weight below 0 gives no row a weight below 0; and the joins of small sides fit.
use Rattle.std.proofs.Common.{◌≡◌, ◌*◌, ◌≤◌, ◌^◌, ◌≤ℤ◌, ◌+ℤ◌, List, [], ◌∷◌, Bool, true, false, cond, ℤ, pos, is_eq, arith}
use Rattle.std.specs.List.{All, AllByRecursion}
use Rattle.std.proofs.lemmas.List.Elements.{recursion_from_All}
use Rattle.std.proofs.lemmas.Nat.{mul-le}
use borrow.Author.Differences.{ints}
use Rattle.sq_value.specs.declared.value.Value.{Value}
use Rattle.sq_value.specs.Order.{row_cmp}
use Rattle.sq_algebra.specs.Operators.{IsNonNegative}
use Rattle.sq_algebra.specs.ZSet.{ZSet, entries, weight, weight_in}
use Rattle.sq_zset.specs.Collecting.{mass_of}
use Rattle.sq_zset.proofs.Masses.{mass-total}
use Rattle.sq_join.specs.Stepping.{IsSmall}

one_more : (b : Bool) (n m : ℤ) → pos 0 ≤ℤ n → pos 0 ≤ℤ m → pos 0 ≤ℤ (cond b n (pos 0) +ℤ m)
one_more true n m g h = let p = g in let q = h in omega (arith, ints)
one_more false n m g h = omega (arith, ints)

above : (row : List Value) (es : List (List Value × ℤ)) → AllByRecursion (λ e. pos 0 ≤ℤ e.1) es → pos 0 ≤ℤ weight_in row_cmp row es
above row [] h = omega (arith, ints)
above row (e ∷ es) h = one_more (is_eq (row_cmp row e.0)) e.1 (weight_in row_cmp row es) h.0 (above row es h.1)

pub none_below : (z : ZSet (List Value) row_cmp) → All (λ e. pos 0 ≤ℤ e.1) (entries z) → IsNonNegative z
unfolding weight
none_below z all row = above row (entries z) (recursion_from_All (λ (e : List Value × ℤ). pos 0 ≤ℤ e.1) (entries z) all)

small_weighs : (z : ZSet (List Value) row_cmp) → IsSmall z → mass_of (entries z) ≤ 2 ^ 61
small_weighs z small = let is = mass-total z small.not_negative in let bound = small.bounded in omega (arith, ints)

pub small_sides : (y z : ZSet (List Value) row_cmp) → IsSmall y → IsSmall z → mass_of (entries y) * mass_of (entries z) ≤ 2 ^ 126
small_sides y z left right =
    let product = mul-le (mass_of (entries y)) (mass_of (entries z)) (2 ^ 61) (2 ^ 61) (small_weighs y left) (small_weighs z right) in
    omega arith
