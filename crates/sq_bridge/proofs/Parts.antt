-- The rows of a Z-set that another has, and those that it has not, are parts of it.
use Rattle.std.proofs.Common.{◌≡◌, ℕ, zero, suc, List, [], ◌∷◌, length, Bool, true, false, cond, not, ℤ, pos, ◌-ℤ◌, ◌*ℤ◌, refl, sym, ap, subst, ◌∙◌, arith}
use borrow.Author.Differences.{ints}
use Rattle.std.specs.Prelude.{int_lt, ⊤}
use Rattle.std.specs.List.{All, AllByRecursion, flat_map}
use Rattle.std.proofs.lemmas.List.{length-append, length-map}
use Rattle.std.proofs.lemmas.List.Elements.{All-from_recursion, recursion_from_All}
use Rattle.sq_value.specs.Order.{row_cmp}
use Rattle.sq_value.specs.OrderLaws.{row_cmp-total, row_cmp-antisymmetric}
use Rattle.sq_algebra.specs.Keyed.{numbers_below}
use Rattle.sq_algebra.specs.Operators.{IsNonNegative, distinct, keep, meet, product, weighing}
use Rattle.sq_algebra.specs.ZSet.{entries, from_pairs, minus, weight}
use Rattle.sq_algebra.proofs.EachLemmas.{each-distinct, each-image}
use Rattle.sq_algebra.proofs.NonNegativeLemmas.{nonnegative-distinct, nonnegative-keep, total-keep-le}
use Rattle.sq_zset.proofs.RowOperators.{weight-distinct, weight-keep, weight-meet}
use Rattle.sq_zset.proofs.Rows.{same_weights, weight-minus}
use Rattle.sq_expr.specs.declared.expr.Expr.TheVariants as expr
use Rattle.sq_expr.specs.declared.expr.Kind.{Kind}
use Rattle.sq_expr.specs.Kinds.{AreOfKinds}
use Rattle.sq_expr.specs.Meaning.{num}
use Rattle.sq_expr.proofs.Lists.{all_weaker}
use Rattle.sq_expr.proofs.Rows.{length_of_kinds}
use Rattle.sq_ops.specs.Rows.{Row, items_of}
use Rattle.sq_ast.specs.declared.query.SetOp.TheVariants.{Except}
use Rattle.sq_typed.proofs.Tests.{every}
use Rattle.sq_circuit.specs.Nodes.{paired}
use Rattle.sq_bridge.specs.Joins.{first_columns, same_rows, unpaired}
use Rattle.sq_bridge.specs.Parts.{IsNoMoreThan, IsOfWidth}
use Rattle.sq_bridge.specs.Queries.{both_of, set_result}
use Rattle.sq_bridge.specs.Rows.{Rows, projected}
use Rattle.sq_bridge.proofs.Joining.{joins}
use Rattle.sq_bridge.proofs.LeftJoining.{if_same, same_pair}
use Rattle.sq_bridge.proofs.Lists.{flat_map_agree}

-- whether a row has a weight above 0
abbrev has : Rows → Row → Bool
has z row = int_lt (pos 0) (weight row z)

abbrev has_not : Rows → Row → Bool
has_not z row = not (has z row)

-- ---- widths

pub kinds_are_wide : (kinds : List Kind) (z : Rows) → All (λ e. AreOfKinds e.0 kinds) (entries z) → IsOfWidth (length kinds) z
kinds_are_wide kinds z h = All-from_recursion (λ (e : Row × ℤ). length e.0 ≡ length kinds) (entries z)
    (all_weaker (λ (e : Row × ℤ). AreOfKinds e.0 kinds) (λ e. length e.0 ≡ length kinds) (entries z) (λ e are. length_of_kinds e.0 kinds are)
    (recursion_from_All (λ (e : Row × ℤ). AreOfKinds e.0 kinds) (entries z) h))

once_wide : (w : ℕ) (z : Rows) → IsOfWidth w z → IsOfWidth w (distinct z)
once_wide w z h = each-distinct (λ row. length row ≡ w) row_cmp row_cmp-total z h

numbers_many : (w : ℕ) → length (numbers_below w) ≡ w
numbers_many zero = refl
numbers_many (suc w) = omega (arith, length-append (numbers_below w) (w ∷ []), numbers_many w)

-- the first columns are as many as they should be, whatever the row
fronts_wide : (w : ℕ) (pairs : Rows) → IsOfWidth w (projected (first_columns w) pairs)
fronts_wide w pairs =
    each-image (λ row. ⊤) (λ row. length row ≡ w) row_cmp row_cmp-total (λ row. items_of (first_columns w) row ∷ []) pairs
    (All-from_recursion (λ (e : Row × ℤ). ⊤ → AllByRecursion (λ row. length row ≡ w) (items_of (first_columns w) e.0 ∷ [])) (entries pairs)
    (every (λ (e : Row × ℤ). ⊤ → AllByRecursion (λ row. length row ≡ w) (items_of (first_columns w) e.0 ∷ [])) (entries pairs) (λ e _. (one_wide e.0, tt))))
    (All-from_recursion (λ (e : Row × ℤ). ⊤) (entries pairs) (every (λ (e : Row × ℤ). ⊤) (entries pairs) (λ e. tt)))
  where
    one_wide : (row : Row) → length (items_of (first_columns w) row) ≡ w
    one_wide row = length-map (first_columns w) (λ e. num e row) ∙ length-map (numbers_below w) expr.Column ∙ numbers_many w

-- ---- what both have

module _ (w : ℕ) (y z : Rows) (hy : IsOfWidth w y) (hz : IsOfWidth w z) where
  same_loop : (d : Row × ℤ) → length d.0 ≡ w → flat_map (λ e. weighing (d.1 *ℤ e.1) (joins (same_rows w) d.0 e.0)) (entries z) ≡ flat_map (λ e. weighing (d.1 *ℤ e.1) (if_same d.0 e.0)) (entries z)
  same_loop d wide =
      flat_map_agree (λ e. weighing (d.1 *ℤ e.1) (joins (same_rows w) d.0 e.0)) (λ e. weighing (d.1 *ℤ e.1) (if_same d.0 e.0)) (entries z)
      (all_weaker (λ (e : Row × ℤ). length e.0 ≡ w) (λ e. weighing (d.1 *ℤ e.1) (joins (same_rows w) d.0 e.0) ≡ weighing (d.1 *ℤ e.1) (if_same d.0 e.0)) (entries z)
      (λ e other. ap (weighing (d.1 *ℤ e.1)) (same_pair w d.0 e.0 wide other)) (recursion_from_All (λ (e : Row × ℤ). length e.0 ≡ w) (entries z) hz))

  pub both_have : paired (same_rows w) y z ≡ meet y z
  unfolding product
  both_have = ap (from_pairs row_cmp)
      (flat_map_agree (λ d. flat_map (λ e. weighing (d.1 *ℤ e.1) (joins (same_rows w) d.0 e.0)) (entries z)) (λ d. flat_map (λ e. weighing (d.1 *ℤ e.1) (if_same d.0 e.0)) (entries z)) (entries y)
      (all_weaker (λ (d : Row × ℤ). length d.0 ≡ w)
      (λ d. flat_map (λ e. weighing (d.1 *ℤ e.1) (joins (same_rows w) d.0 e.0)) (entries z) ≡ flat_map (λ e. weighing (d.1 *ℤ e.1) (if_same d.0 e.0)) (entries z)) (entries y)
      same_loop (recursion_from_All (λ (d : Row × ℤ). length d.0 ≡ w) (entries y) hy)))

once_or_not : (b : Bool) (n : ℤ) → n *ℤ cond b (pos 1) (pos 0) ≡ cond b n (pos 0)
once_or_not true n = omega (arith, ints)
once_or_not false n = omega (arith, ints)

without_it : (b : Bool) (n : ℤ) → n -ℤ cond b n (pos 0) ≡ cond (not b) n (pos 0)
without_it true n = omega (arith, ints)
without_it false n = omega (arith, ints)

meet_is : (y z : Rows) → meet y (distinct z) ≡ keep (has z) y
meet_is y z = same_weights (meet y (distinct z)) (keep (has z) y) (λ row.
    weight-meet row y (distinct z)
    ∙ ap (λ n. weight row y *ℤ n) (weight-distinct row z)
    ∙ once_or_not (has z row) (weight row y)
    ∙ sym (weight-keep (has z) row y))

minus_kept : (p : Row → Bool) (y : Rows) → minus y (keep p y) ≡ keep (λ row. not (p row)) y
minus_kept p y = same_weights (minus y (keep p y)) (keep (λ row. not (p row)) y) (λ row.
    weight-minus row y (keep p y)
    ∙ ap (λ n. weight row y -ℤ n) (weight-keep p row y)
    ∙ without_it (p row) (weight row y)
    ∙ sym (weight-keep (λ row. not (p row)) row y))

-- ---- parts

kept_part : (p : Row → Bool) (y x : Rows) → x ≡ keep p y → IsNonNegative y → IsNoMoreThan x y
kept_part p y x is above = subst (λ x. IsNoMoreThan x y) (sym is) (nonnegative-keep row_cmp row_cmp-total row_cmp-antisymmetric p y above, total-keep-le row_cmp row_cmp-total row_cmp-antisymmetric p y above)

pub found_is : (w : ℕ) (y z : Rows) → IsOfWidth w y → IsOfWidth w z → paired (same_rows w) y (distinct z) ≡ keep (has z) y
found_is w y z hy hz = both_have w y (distinct z) hy (once_wide w z hz) ∙ meet_is y z

pub rest_is : (w : ℕ) (y z : Rows) → IsOfWidth w y → IsOfWidth w z → minus y (paired (same_rows w) y (distinct z)) ≡ keep (has_not z) y
rest_is w y z hy hz = ap (minus y) (found_is w y z hy hz) ∙ minus_kept (has z) y

pub found_part : (w : ℕ) (y z : Rows) → IsOfWidth w y → IsOfWidth w z → IsNonNegative y → IsNoMoreThan (paired (same_rows w) y (distinct z)) y
found_part w y z hy hz above = kept_part (has z) y (paired (same_rows w) y (distinct z)) (found_is w y z hy hz) above

pub rest_part : (w : ℕ) (y z : Rows) → IsOfWidth w y → IsOfWidth w z → IsNonNegative y → IsNoMoreThan (minus y (paired (same_rows w) y (distinct z))) y
rest_part w y z hy hz above = kept_part (has_not z) y (minus y (paired (same_rows w) y (distinct z))) (rest_is w y z hy hz) above

-- ---- set operations

pub both_part : (w : ℕ) (y z : Rows) → IsOfWidth w y → IsOfWidth w z → IsNoMoreThan (both_of w y z) (distinct y)
both_part w y z hy hz = found_part w (distinct y) z (once_wide w y hy) hz (nonnegative-distinct row_cmp row_cmp-total y)

pub except_part : (w : ℕ) (y z : Rows) → IsOfWidth w y → IsOfWidth w z → IsNoMoreThan (set_result Except w y z) (distinct y)
except_part w y z hy hz = rest_part w (distinct y) z (once_wide w y hy) hz (nonnegative-distinct row_cmp row_cmp-total y)

-- ---- left joins

pub unpaired_is : (w : ℕ) (y pairs : Rows) → IsOfWidth w y → unpaired w y pairs ≡ keep (has_not (projected (first_columns w) pairs)) y
unpaired_is w y pairs hy = rest_is w y (projected (first_columns w) pairs) hy (fronts_wide w pairs)

pub unpaired_part : (w : ℕ) (y pairs : Rows) → IsOfWidth w y → IsNonNegative y → IsNoMoreThan (unpaired w y pairs) y
unpaired_part w y pairs hy above = rest_part w y (projected (first_columns w) pairs) hy (fronts_wide w pairs) above

pub front_part : (w : ℕ) (y pairs : Rows) → IsOfWidth w y → IsNonNegative y → IsNoMoreThan (paired (same_rows w) y (distinct (projected (first_columns w) pairs))) y
front_part w y pairs hy above = found_part w y (projected (first_columns w) pairs) hy (fronts_wide w pairs) above
