-- No SUM is outside the range of BIGINT exactly if none is in any shard.
use Rattle.std.proofs.Common.{◌≡◌, ◌==◌, ℕ, ◌+◌, true, false, cond, ◌&&◌, List, [], ◌∷◌, None, refl, sym, ap, subst, ◌∙◌, is_eq, arith}
use Rattle.std.proofs.lemmas.Bool.Decides.{nat_tests}
use Rattle.sq_zset.proofs.RowKeys.{at_key-zero}
use mathlib.Core.Logic.{◌⊎◌, inl, inr}
use Rattle.std.specs.List.{AllByRecursion}
use Rattle.std.specs.Ordering.{nat_cmp}
use Rattle.std.proofs.lemmas.List.Elements.{recursion_from_All}
use Rattle.sq_value.specs.Order.{row_cmp}
use Rattle.sq_value.specs.OrderLaws.{row_cmp-total, row_cmp-antisymmetric}
use Rattle.sq_algebra.specs.Keyed.{CoversOnce, Shards, cut}
use Rattle.sq_algebra.specs.Listed.{count}
use Rattle.sq_algebra.specs.ZSet.{entries, entries-zero}
use Rattle.sq_algebra.proofs.KeyedLemmas.{at_key-at_key, part_or_covered}
use Rattle.sq_algebra.proofs.Lists.{count-cons}
use Rattle.sq_algebra.proofs.ShardLemmas.{same_number}
use Rattle.sq_expr.specs.Bigint.{first_not_bigint}
use Rattle.sq_agg.specs.Kept.{Row, Rows}
use Rattle.sq_agg.proofs.Homes.{no_front, tied}
use Rattle.sq_agg.proofs.Touching.{all_covered}
use Rattle.sq_circuit.specs.Nodes.{none}
use Rattle.sq_ops.specs.Aggregates.{first_sum_outside, group_of, groups_of, rows_of_group, sums_of}
use Rattle.sq_ops.specs.Wholes.{has_no_values}
use Rattle.sq_ops.specs.declared.aggregate.AggSpec.{AggSpec}
use Rattle.sq_ops.proofs.Grouping.{none_tested}
use Rattle.sq_ops.proofs.Outside.{sums_of_each_key}

found_among : (P : Row → Type 0) (cs : List Row) → AllByRecursion P cs → (c : Row) → count row_cmp c cs ≡ 1 → P c
found_among P [] h c once = absurd (cc once)
found_among P (x ∷ cs) h c once =
    elim (is_eq (row_cmp c x)) as (λ b. is_eq (row_cmp c x) ≡ b → P c) [
      | true ↦ λ e. subst P (sym (row_cmp-antisymmetric c x (tied (row_cmp c x) e))) h.0
      | false ↦ λ e. found_among P cs h.1 c (sym (no_front (count row_cmp c cs)) ∙ sym (count-cons row_cmp c x cs ∙ ap (λ b. cond b 1 0 + count row_cmp c cs) e) ∙ once)
    ] refl

module _ (spec : AggSpec) where
  abbrev IsFine : Rows → Row → Type 0
  IsFine z c = first_not_bigint (sums_of spec.calls (rows_of_group spec z c)) ≡ None

  fine_of_none : (z : Rows) (c : Row) → rows_of_group spec z c ≡ none → IsFine z c
  fine_of_none z c e =
      none_tested spec.calls (rows_of_group spec z c) true (ap (λ y. has_no_values (entries y) && true) e ∙ ap (λ es. has_no_values es && true) (entries-zero row_cmp))

  all_fine : (z : Rows) → first_sum_outside spec z ≡ None → (c : Row) → IsFine z c
  all_fine z fine c = step (part_or_covered row_cmp row_cmp-total row_cmp-antisymmetric row_cmp row_cmp-total row_cmp-antisymmetric (group_of spec) c z)
    where
      step : (rows_of_group spec z c ≡ none) ⊎ ((cs : List Row) → CoversOnce row_cmp (group_of spec) cs z → count row_cmp c cs ≡ 1) → IsFine z c
      step (inl empty) = fine_of_none z c empty
      step (inr once) = found_among (IsFine z) (groups_of spec z) (recursion_from_All (IsFine z) (groups_of spec z) ((sums_of_each_key spec z).0 fine)) c (once (groups_of spec z) (all_covered spec z))

  fine_from : (z : Rows) → ((c : Row) → IsFine z c) → first_sum_outside spec z ≡ None
  fine_from z all = (sums_of_each_key spec z).1 (λ i d low. all _)

  -- the rows of a group stand in its shard
  group_in : (S : Shards Row) (s : ℕ) (z : Rows) (c : Row) → rows_of_group spec (cut S (group_of spec) s z) c ≡ cond (s == S.shard c) (rows_of_group spec z c) none
  group_in S s z c =
      at_key-at_key row_cmp row_cmp-total row_cmp-antisymmetric row_cmp row_cmp-total row_cmp-antisymmetric (group_of spec) nat_cmp (λ row. S.shard (group_of spec row)) S.shard (λ row. refl) c s z
      ∙ ap (λ b. cond b (rows_of_group spec z c) none) (same_number s (S.shard c))

module _ (S : Shards Row) (spec : AggSpec) (z : Rows) where
  pub sums_in_shard : first_sum_outside spec z ≡ None → (s : ℕ) → first_sum_outside spec (cut S (group_of spec) s z) ≡ None
  sums_in_shard fine s = fine_from spec (cut S (group_of spec) s z) each
    where
      each : (c : Row) → IsFine spec (cut S (group_of spec) s z) c
      each c = elim (s == S.shard c) as (λ b. (s == S.shard c) ≡ b → IsFine spec (cut S (group_of spec) s z) c) [
        | true ↦ λ e. ap (λ y. first_not_bigint (sums_of spec.calls y)) (group_in spec S s z c ∙ ap (λ b. cond b (rows_of_group spec z c) none) e) ∙ all_fine spec z fine c
        | false ↦ λ e. fine_of_none spec (cut S (group_of spec) s z) c (group_in spec S s z c ∙ ap (λ b. cond b (rows_of_group spec z c) none) e)
      ] refl

  pub sums_from_shards : ((s : ℕ) → first_sum_outside spec (cut S (group_of spec) s z) ≡ None) → first_sum_outside spec z ≡ None
  sums_from_shards all = fine_from spec z (λ c.
      ap (λ y. first_not_bigint (sums_of spec.calls y)) (sym (group_in spec S (S.shard c) z c ∙ ap (λ b. cond b (rows_of_group spec z c) none) (itself (S.shard c))))
      ∙ all_fine spec (cut S (group_of spec) (S.shard c) z) (all (S.shard c)) c)
    where
      itself : (n : ℕ) → (n == n) ≡ true
      itself n = grind (arith, nat_tests)

pub no_sums_at_first : (spec : AggSpec) → first_sum_outside spec none ≡ None
no_sums_at_first spec = fine_from spec none (λ c. fine_of_none spec none c (at_key-zero (group_of spec) c))
