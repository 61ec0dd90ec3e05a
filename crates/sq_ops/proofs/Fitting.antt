-- Rows of kinds that suit an operator fit it.
use Rattle.std.proofs.Common.{List}
use Rattle.std.specs.List.{All}
use Rattle.sq_value.specs.declared.value.Value.{Value}
use Rattle.sq_value.specs.Order.{row_cmp}
use Rattle.sq_algebra.specs.ZSet.{ZSet, entries}
use Rattle.sq_expr.specs.declared.expr.Kind.{Kind}
use Rattle.sq_expr.specs.Kinds.{AreOfKinds}
use Rattle.sq_ops.specs.Fits.{FitsRow, FitsRows}

module _ (suits : List Kind → Type 0) (kinds : List Kind) (suitable : suits kinds) where
  pub row_fits : (row : List Value) → AreOfKinds row kinds → FitsRow suits row
  row_fits row of_kinds = record { kinds = kinds; of_kinds = of_kinds; suitable = suitable }

  pub rows_fit : (z : ZSet (List Value) row_cmp) → All (λ e. AreOfKinds e.0 kinds) (entries z) → FitsRows suits z
  rows_fit z all i d low = row_fits _ (all i d low)
