-- Which rows an operator takes. `suits` says of which kinds they are.
use Rattle.std.specs.Prelude.{List}
use Rattle.std.specs.List.{All}
use Rattle.sq_value.specs.declared.value.Value.{Value}
use Rattle.sq_value.specs.Order.{row_cmp}
use Rattle.sq_algebra.specs.ZSet.{ZSet, entries}
use Rattle.sq_expr.specs.declared.expr.Kind.{Kind}
use Rattle.sq_expr.specs.Kinds.{AreOfKinds}

-- the row is of kinds that suit
pub record FitsRow (suits : List Kind → Type 0) (row : List Value) : Type 0 where
  pub kinds : List Kind
  pub of_kinds : AreOfKinds row kinds
  pub suitable : suits kinds

-- each row of a Z-set is
abbrev pub FitsRows : (List Kind → Type 0) → ZSet (List Value) row_cmp → Type 0
FitsRows suits z = All (λ e. FitsRow suits e.0) (entries z)
