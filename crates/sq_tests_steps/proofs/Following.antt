-- Traces follow the changes of the rows: they hold nothing at first, and after each step what belongs to the rows.
use Rattle.std.proofs.Common.{◌≡◌, ◌^◌, ◌≤◌, List, [], Bool, true, false, cond, ℤ, pos, None, refl, sym, ap, subst, ◌∙◌, arith, get_or}
use Rattle.std.specs.Prelude.{◌≤ℤ◌, ◌&&◌}
use Rattle.std.specs.List.{All}
use Rattle.std.specs.Ordering.{nat_cmp}
use borrow.Author.Differences.{ints}
use Rattle.sq_value.specs.Order.{row_cmp}
use Rattle.sq_value.specs.OrderLaws.{row_cmp-antisymmetric, row_cmp-total}
use Rattle.sq_algebra.specs.Groups.{integers, z_sets}
use Rattle.sq_algebra.specs.ZSet.{entries, entries-zero, plus, total, weight, zero as no_rows}
use Rattle.sq_algebra.proofs.KeyedLemmas.{at_key-zero}
use Rattle.sq_ops.specs.Aggregates.{SuitsSpec, first_sum_outside, group_of, groups_of, rows_of_group, sums_of}
use Rattle.sq_ops.specs.Arguments.{argument_of, arguments}
use Rattle.sq_ops.specs.Fits.{FitsRow, FitsRows}
use Rattle.sq_ops.specs.Wholes.{has_no_values}
use Rattle.sq_ops.specs.declared.aggregate.AggSpec.{AggSpec}
use Rattle.sq_ops.proofs.Grouping.{none_tested}
use Rattle.sq_ops.proofs.Outside.{sums_of_each_key}
use Rattle.sq_zset.specs.Collecting.{mass_of}
use Rattle.sq_zset.proofs.Masses.{mass-total}
use Rattle.sq_zset.proofs.RowOperators.{image-zero}
use Rattle.sq_zset.proofs.Rows.{weight-zero}
use Rattle.sq_expr.specs.Bigint.{first_not_bigint}
use Rattle.sq_agg.specs.Accumulators.{accumulated}
use Rattle.sq_agg.specs.Aggregating.{AggState, HoldsShown, IsAfter, touched}
use Rattle.sq_agg.specs.Kept.{KeptAccumulators, Row, Rows}
use Rattle.sq_agg.specs.Stepping.{Accumulator, KeptWeights}
use Rattle.sq_agg.specs.declared.step.AggChange.{AggChange}
use Rattle.sq_agg.proofs.Adding.{accumulated-zero}
use Rattle.sq_join.specs.Stepping.{IsSmall}
use Rattle.sq_tests_steps.specs.Followed.{AreReady, Follows, Stepped}

module _ (spec : AggSpec) where
  no_group : (c : Row) → rows_of_group spec (no_rows row_cmp) c ≡ no_rows row_cmp
  no_group c = at_key-zero row_cmp row_cmp-total row_cmp-antisymmetric row_cmp row_cmp-total row_cmp-antisymmetric (group_of spec) c

  either_zero : (b : Bool) (x y : Accumulator) → x ≡ y → y ≡ cond b x y
  either_zero true x y e = sym e
  either_zero false x y e = refl

  no_sums : (c : Row) → first_not_bigint (sums_of spec.calls (rows_of_group spec (no_rows row_cmp) c)) ≡ None
  no_sums c =
      none_tested spec.calls (rows_of_group spec (no_rows row_cmp) c) true
      (ap (λ y. has_no_values (entries y) && true) (no_group c) ∙ ap (λ es. has_no_values es && true) (entries-zero row_cmp))

  zero_small : (n : ℤ) → pos 0 ≡ n → n ≤ℤ pos (2 ^ 61)
  zero_small n e = omega (arith, ints)

  zero_there : (n : ℤ) → n ≡ pos 0 → pos 0 ≤ℤ n
  zero_there n e = omega (arith, ints)

  none_ready : AreReady spec (no_rows row_cmp)
  none_ready = record {
    fits = subst (λ es. All (λ e. FitsRow (SuitsSpec spec) e.0) es) (sym (entries-zero row_cmp)) (λ i d low. absurd (omega arith));
    not_negative = λ row. zero_there (weight row (no_rows row_cmp)) (weight-zero row);
    bounded = zero_small (total (no_rows row_cmp)) (sym (ap (λ es. pos (mass_of es)) (entries-zero row_cmp)) ∙ mass-total (no_rows row_cmp) (λ row. zero_there (weight row (no_rows row_cmp)) (weight-zero row)));
    all_sums = (sums_of_each_key spec (no_rows row_cmp)).1 (λ i c low. no_sums (get_or (groups_of spec (no_rows row_cmp)) i c));
  }

  pub follows_nothing : (accs : KeptAccumulators) (ordered shown : KeptWeights) (z : Rows) → accs ≡ [] → ordered ≡ [] → shown ≡ [] → z ≡ no_rows row_cmp → Follows true spec accs ordered shown z
  follows_nothing accs ordered shown z e f g h =
      subst (λ y. Follows true spec accs ordered shown y) (sym h)
      (subst (λ p. Follows true spec p ordered shown (no_rows row_cmp)) (sym e)
      (subst (λ p. Follows true spec [] p shown (no_rows row_cmp)) (sym f)
      (subst (λ p. Follows true spec [] [] p (no_rows row_cmp)) (sym g) (record {
        accumulators = record { held = λ c row. either_zero (has_no_values row) (accumulated spec.calls (rows_of_group spec (no_rows row_cmp) c)) (no_rows nat_cmp) (ap (accumulated spec.calls) (no_group c) ∙ accumulated-zero spec.calls) };
        arguments = record { held = λ c row i call found ends. sym (ap (λ y. weight row (arguments call.arg y)) (no_group c) ∙ ap (weight row) (image-zero (argument_of call.arg)) ∙ weight-zero row) };
        shown_rows = λ c. record { held = λ row. sym (weight-zero row) };
        begins = λ t. refl;
        ready = none_ready;
      }))))

  module _ (first : Bool) (accs : KeptAccumulators) (ordered shown : KeptWeights) (z d new : Rows) (follows : Follows first spec accs ordered shown z)
      (change_fits : FitsRows (SuitsSpec spec) d) (new_fits : FitsRows (SuitsSpec spec) new) (small : IsSmall new) (is : new ≡ plus z d) where
    abbrev pub state : AggState spec accs ordered shown d first
    state = record {
      old = z;
      accumulators = follows.accumulators;
      arguments = follows.arguments;
      shown_before = λ i c low. follows.shown_rows (get_or (touched first spec d) i c);
      begins = follows.begins;
      old_fits = follows.ready.fits;
      change_fits = change_fits;
      old_not_negative = follows.ready.not_negative;
      old_bounded = follows.ready.bounded;
      not_negative = (subst IsSmall is small).not_negative;
      bounded = (subst IsSmall is small).bounded;
      all_sums = follows.ready.all_sums;
    }

  pub now_follows : (first : Bool) (accs : KeptAccumulators) (ordered shown : KeptWeights) (z d new : Rows) (change : AggChange) → Follows first spec accs ordered shown z → Stepped first spec accs ordered shown z d change → new ≡ plus z d
      → (accs_now : KeptAccumulators) (ordered_now shown_now : KeptWeights) → IsAfter (z_sets nat_cmp) accs change.acc accs_now → IsAfter integers ordered change.ordered ordered_now → IsAfter integers shown change.shown shown_now
      → Follows false spec accs_now ordered_now shown_now new
  now_follows first accs ordered shown z d new change follows stepped is accs_now ordered_now shown_now a o w =
      subst (Follows false spec accs_now ordered_now shown_now) (sym is) (record {
        accumulators = stepped.accumulators accs_now a;
        arguments = stepped.arguments ordered_now o;
        shown_rows = λ c. stepped.shown_rows c (follows.shown_rows c) shown_now w;
        begins = λ t. absurd (cc t);
        ready = stepped.ready;
      })
