-- What the traces hold of few rows lies in the range: accumulators, arguments with their weights, and shown rows.
use Rattle.std.proofs.Common.{◌≡◌, ◌+◌, ◌≤◌, ◌^◌, ℕ, List, [], ◌∷◌, Bool, true, false, cond, not, ◌&&◌, ℤ, pos, ◌+ℤ◌, None, unsigned_abs, sym, subst, arith, is_eq}
use Rattle.std.specs.Prelude.{◌≤ℤ◌}
use Rattle.sq_value.specs.Order.{row_cmp}
use Rattle.sq_algebra.specs.Operators.{IsNonNegative}
use Rattle.sq_algebra.specs.ZSet.{entries, of_list, total, weight}
use Rattle.sq_ops.specs.Aggregates.{SuitsSpec, group_row, part_of, rows_of_group}
use Rattle.sq_ops.specs.Arguments.{arguments, arguments_of_group}
use Rattle.sq_ops.specs.Fits.{FitsRows}
use Rattle.sq_ops.specs.Wholes.{has_no_values}
use Rattle.sq_ops.specs.declared.aggregate.AggSpec.{AggSpec}
use Rattle.sq_ops.specs.declared.aggregate.Call.{Call}
use Rattle.sq_ops.proofs.Grouping.{fitting_change}
use Rattle.sq_ops.proofs.Measuring.{small_mass}
use Rattle.sq_zset.specs.Collecting.{mass_of}
use Rattle.sq_zset.proofs.Masses.{weights-in_range}
use Rattle.sq_agg.specs.Accumulators.{accumulated, first_number_outside}
use Rattle.sq_agg.specs.Kept.{Row, Rows}
use Rattle.sq_agg.proofs.Following.{accumulated_within}
use Rattle.sq_agg.proofs.GroupRows.{weight_of_none, weight_of_one}
use Rattle.sq_agg.proofs.Keys.{group_fits}
use Rattle.sq_agg.proofs.Touching.{few_arguments, group_few}

module _ (spec : AggSpec) (z : Rows) (proper : IsNonNegative z) (bounded : total z ≤ℤ pos (2 ^ 61)) where
  few_rows : mass_of (entries z) ≤ 2 ^ 62
  few_rows = let small = small_mass z proper bounded in omega arith

  pub accumulator_in_range : FitsRows (SuitsSpec spec) z → (c : Row) → first_number_outside (accumulated spec.calls (rows_of_group spec z c)) ≡ None
  accumulator_in_range fits c =
      accumulated_within (rows_of_group spec z c) (fitting_change (SuitsSpec spec) (rows_of_group spec z c) (group_fits spec c z fits) (group_few spec c z few_rows)) spec.calls

  pub argument_in_range : (c row : Row) (column : ℕ) → unsigned_abs (weight row (arguments_of_group spec column c z)) ≤ 2 ^ 62
  argument_in_range c row column = weights-in_range (arguments column (rows_of_group spec z c)) (few_arguments column (rows_of_group spec z c) (group_few spec c z few_rows)) row

one_or_none : (b : Bool) → unsigned_abs (cond b (pos 1) (pos 0) +ℤ pos 0) ≤ 2 ^ 62
one_or_none true = omega arith
one_or_none false = omega arith

pub part_in_range : (stands : Bool) (calls : List Call) (c row : Row) (z : Rows) → unsigned_abs (weight row (part_of stands calls c z)) ≤ 2 ^ 62
part_in_range stands calls c row z =
    elim (has_no_values (entries z) && not (stands && has_no_values c)) as (λ b. unsigned_abs (weight row (of_list row_cmp (cond b [] (group_row calls c z ∷ [])))) ≤ 2 ^ 62) [
      | true ↦ subst (λ n. unsigned_abs n ≤ 2 ^ 62) (sym (weight_of_none row)) (omega arith)
      | false ↦ subst (λ n. unsigned_abs n ≤ 2 ^ 62) (sym (weight_of_one row (group_row calls c z))) (one_or_none (is_eq (row_cmp row (group_row calls c z))))
    ]
