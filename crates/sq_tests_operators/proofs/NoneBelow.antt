-- A Z-set whose entries have no weight below 0 gives no row a weight below 0.
use Rattle.std.proofs.Common.{◌≡◌, ◌≤◌, ◌^◌, ◌≤ℤ◌, ◌+ℤ◌, List, [], ◌∷◌, length, Bool, true, false, cond, not, ℤ, pos, Some, None, unsigned_abs, is_eq, refl, arith}
use Rattle.std.specs.List.{All, AllByRecursion}
use Rattle.std.proofs.lemmas.List.Elements.{recursion_from_All}
use Rattle.std.proofs.lemmas.Bool.{leb-true}
use Rattle.std.proofs.lemmas.List.Sums.{sum_by-cons}
use borrow.Author.Differences.{ints}
use Rattle.sq_value.specs.declared.value.Value.{Value}
use Rattle.sq_value.specs.Order.{row_cmp}
use Rattle.sq_algebra.specs.Operators.{IsNonNegative}
use Rattle.sq_algebra.specs.ZSet.{ZSet, entries, weight, weight_in}
use Rattle.sq_zset.specs.Collecting.{mass_of}
use Rattle.sq_zset.specs.Range.{first_outside_in, is_in_range}

one_more : (b : Bool) (n m : ℤ) → pos 0 ≤ℤ n → pos 0 ≤ℤ m → pos 0 ≤ℤ (cond b n (pos 0) +ℤ m)
one_more true n m g h = let p = g in let q = h in omega (arith, ints)
one_more false n m g h = omega (arith, ints)

above : (row : List Value) (es : List (List Value × ℤ)) → AllByRecursion (λ e. pos 0 ≤ℤ e.1) es → pos 0 ≤ℤ weight_in row_cmp row es
above row [] h = omega (arith, ints)
above row (e ∷ es) h = one_more (is_eq (row_cmp row e.0)) e.1 (weight_in row_cmp row es) h.0 (above row es h.1)

pub none_below : (z : ZSet (List Value) row_cmp) → All (λ e. pos 0 ≤ℤ e.1) (entries z) → IsNonNegative z
unfolding weight
none_below z all row = above row (entries z) (recursion_from_All (λ (e : List Value × ℤ). pos 0 ≤ℤ e.1) (entries z) all)

-- a Z-set of at most one row has few rows
pub few_rows : (es : List (List Value × ℤ)) → length es ≤ 1 → first_outside_in es ≡ None → mass_of es ≤ 2 ^ 62
few_rows [] h inside = omega arith
few_rows (e ∷ f ∷ es) h inside = absurd (omega arith)
few_rows (e ∷ []) h inside = let whole = sum_by-cons (λ (d : List Value × ℤ). unsigned_abs d.1) e [] in let bound = one (is_in_range e.1) refl inside in omega arith
  where
    one : (b : Bool) → is_in_range e.1 ≡ b → cond (not b) (Some e.1) None ≡ None → unsigned_abs e.1 ≤ 2 ^ 62
    one true is h = leb-true _ _ is
    one false is h = absurd (cc h)
