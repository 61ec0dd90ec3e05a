-- Which rows an expression or a condition can be computed on.
use Rattle.std.specs.Prelude.{List}
use Rattle.sq_value.specs.declared.value.Value.{Value}
use Rattle.sq_expr.specs.declared.cond.Cond.{Cond}
use Rattle.sq_expr.specs.declared.expr.Expr.{Expr}
use Rattle.sq_expr.specs.declared.expr.Kind.{Kind}
use Rattle.sq_expr.specs.Bounds.{IsBounded, IsBoundedCond}
use Rattle.sq_expr.specs.Kinds.{AreOfKinds}
use Rattle.sq_expr.specs.Typing.{IsTyped, IsTypedCond}

-- typed for columns of these kinds, and computed in 128 bits
pub record Suits (kinds : List Kind) (e : Expr) : Type 0 where
  pub typed : IsTyped kinds e
  pub bounded : IsBounded kinds e

pub record SuitsCond (kinds : List Kind) (c : Cond) : Type 0 where
  pub typed : IsTypedCond kinds c
  pub bounded : IsBoundedCond kinds c

-- the row is of kinds that suit
pub record Fits (e : Expr) (row : List Value) : Type 0 where
  pub kinds : List Kind
  pub of_kinds : AreOfKinds row kinds
  pub suits : Suits kinds e

pub record FitsCond (c : Cond) (row : List Value) : Type 0 where
  pub kinds : List Kind
  pub of_kinds : AreOfKinds row kinds
  pub suits : SuitsCond kinds c
