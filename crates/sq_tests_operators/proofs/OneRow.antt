-- The Z-set of one row, as tests make it.
use Rattle.std.proofs.Common.{◌≡◌, ◌≤ℤ◌, ◌^◌, List, [], ◌∷◌, ℤ, pos, sym, ap, subst, ◌∙◌, arith}
use Rattle.std.specs.List.{All}
use Rattle.std.proofs.lemmas.List.Elements.{All-from_recursion}
use borrow.Author.Differences.{ints}
use Rattle.sq_value.specs.declared.value.Value.{Value}
use Rattle.sq_value.specs.Order.{row_cmp}
use Rattle.sq_value.specs.OrderLaws.{row_cmp-total, row_cmp-antisymmetric}
use Rattle.sq_algebra.specs.Listed.{count}
use Rattle.sq_algebra.specs.Operators.{IsNonNegative}
use Rattle.sq_algebra.specs.ZSet.{ZSet, entries, of_list, total}
use Rattle.sq_algebra.proofs.MemberLemmas.{entries-of_list}
use Rattle.sq_algebra.proofs.NonNegativeLemmas.{nonnegative-of_list}
use Rattle.sq_zset.proofs.Rows.{total-of_list}

module _ (row : List Value) (z : ZSet (List Value) row_cmp) (alone : z ≡ of_list row_cmp (row ∷ [])) where
  pub all_of_one : (P : List Value → Type 0) → P row → All (λ e. P e.0) (entries z)
  all_of_one P h =
      subst (All (λ e. P e.0)) (sym (ap entries alone ∙ entries-of_list row_cmp row_cmp-total row_cmp-antisymmetric (row ∷ [])))
      (All-from_recursion (λ (e : List Value × ℤ). P e.0) ((row, pos (count row_cmp row (row ∷ []))) ∷ []) (h, tt))

  pub one_not_negative : IsNonNegative z
  one_not_negative = subst IsNonNegative (sym alone) (nonnegative-of_list row_cmp row_cmp-total (row ∷ []))

  pub one_bounded : total z ≤ℤ pos (2 ^ 61)
  one_bounded = subst (λ n. n ≤ℤ pos (2 ^ 61)) (sym (ap total alone ∙ total-of_list (row ∷ []))) small
    where
      small : pos 1 ≤ℤ pos (2 ^ 61)
      small = omega (arith, ints)
