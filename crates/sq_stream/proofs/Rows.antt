-- The laws of streams, for Z-sets of rows.
use Rattle.std.proofs.Common.{◌≡◌, List, sym, ap, ◌∙◌}
use Rattle.sq_value.specs.declared.value.Value.{Value}
use Rattle.sq_value.specs.Order.{row_cmp}
use Rattle.sq_algebra.specs.ZSet.{ZSet, zero}
use Rattle.sq_algebra.specs.Groups.{IsAdditive, z_sets}
use Rattle.sq_zset.specs.GroupLaws.{rows_are_abelian}
use Rattle.sq_stream.specs.Steps.{run, integrator_step, differentiator_step, delay_step}
use Rattle.sq_stream.specs.Streams.{lifted, delayed, differences, integral, pointwise_sum, incremental}
use Rattle.sq_stream.proofs.Runs as runs

pub integral_is : (s : List (ZSet (List Value) row_cmp)) → run (integrator_step (z_sets row_cmp)) (zero row_cmp) s ≡ integral (z_sets row_cmp) s
integral_is = runs.integral_is (z_sets row_cmp) rows_are_abelian

pub differences_are : (s : List (ZSet (List Value) row_cmp)) → run (differentiator_step (z_sets row_cmp)) (zero row_cmp) s ≡ differences (z_sets row_cmp) s
differences_are = runs.differences_are (z_sets row_cmp)

pub delay_is : (s : List (ZSet (List Value) row_cmp)) → run delay_step (zero row_cmp) s ≡ delayed (z_sets row_cmp) s
delay_is = runs.delay_is (z_sets row_cmp)

pub integral-differences : (s : List (ZSet (List Value) row_cmp)) → integral (z_sets row_cmp) (differences (z_sets row_cmp) s) ≡ s
integral-differences = runs.integral-differences (z_sets row_cmp) rows_are_abelian

pub differences-integral : (s : List (ZSet (List Value) row_cmp)) → differences (z_sets row_cmp) (integral (z_sets row_cmp) s) ≡ s
differences-integral = runs.differences-integral (z_sets row_cmp) rows_are_abelian

module _ (q p : List (ZSet (List Value) row_cmp) → List (ZSet (List Value) row_cmp)) where
  pub incremental-composition : (s : List (ZSet (List Value) row_cmp)) → incremental (z_sets row_cmp) (λ t. q (p t)) s ≡ incremental (z_sets row_cmp) q (incremental (z_sets row_cmp) p s)
  incremental-composition = runs.incremental-composition (z_sets row_cmp) rows_are_abelian q p

  pub incremental-sum : (s : List (ZSet (List Value) row_cmp)) → incremental (z_sets row_cmp) (λ t. pointwise_sum (z_sets row_cmp) (p t) (q t)) s ≡ pointwise_sum (z_sets row_cmp) (incremental (z_sets row_cmp) p s) (incremental (z_sets row_cmp) q s)
  incremental-sum s = runs.differences-pointwise_sum (z_sets row_cmp) rows_are_abelian (p (integral (z_sets row_cmp) s)) (q (integral (z_sets row_cmp) s))

module _ (q : List (ZSet (List Value) row_cmp) → List (ZSet (List Value) row_cmp)) (f : ZSet (List Value) row_cmp → ZSet (List Value) row_cmp) (additive : IsAdditive (z_sets row_cmp) (z_sets row_cmp) f) where
  pub incremental-linear : ((s : List (ZSet (List Value) row_cmp)) → q s ≡ lifted f s) → (s : List (ZSet (List Value) row_cmp)) → incremental (z_sets row_cmp) q s ≡ q s
  incremental-linear linear s =
      ap (differences (z_sets row_cmp)) (linear (integral (z_sets row_cmp) s))
      ∙ runs.incremental-lifted (z_sets row_cmp) rows_are_abelian f additive s
      ∙ sym (linear s)
