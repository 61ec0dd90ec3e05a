-- What stands in the tree of an expression or a condition: references, and calls of aggregate functions.
--     refs e        every reference.       leaves e        the columns outside calls, and the calls with their arguments
use Rattle.std.specs.Prelude.{Bool, true, false, List, [], ◌∷◌, Option, Some, None, option_to_list}
use Rattle.std.specs.List.{flat_map, list_any}
use Rattle.sq_ast.specs.declared.cond.CondTree.{CondTree}
use Rattle.sq_ast.specs.declared.cond.CondTree.TheFolds.{fold-CondTree}
use Rattle.sq_ast.specs.declared.cond.CondTree.TheOpen.{CondTree-F}
use Rattle.sq_ast.specs.declared.expr.ColRef.{ColRef}
use Rattle.sq_ast.specs.declared.expr.ExprTree.{ExprTree}
use Rattle.sq_ast.specs.declared.expr.ExprTree.TheFolds.{fold-ExprTree, para-ExprTree}
use Rattle.sq_ast.specs.declared.expr.ExprTree.TheOpen.{ExprTree-F}
use Rattle.sq_ast.specs.declared.expr.FuncTree.{FuncTree}
use Rattle.sq_ast.specs.declared.expr.TermTree.{TermTree}

-- ---- references

-- one level of an expression, with the references of each part in its place
abbrev pub refs_step : ExprTree-F (List ColRef) (List ColRef) → List ColRef
refs_step (ExprTree-F.Sum rss) = flat_map (λ rs. rs) rss
refs_step (ExprTree-F.Product rss) = flat_map (λ rs. rs) rss
refs_step (ExprTree-F.Neg rs) = rs
refs_step (ExprTree-F.Number n) = []
refs_step (ExprTree-F.Text t) = []
refs_step (ExprTree-F.Column r) = r ∷ []
refs_step (ExprTree-F.Call func None) = []
refs_step (ExprTree-F.Call func (Some rs)) = rs

-- every reference, from left to right
unfoldable pub refs : ExprTree → List ColRef
refs e = fold-ExprTree (List ColRef) (List ColRef) refs_step (λ t. t.expr) e

-- ---- columns outside calls, and calls

-- a call of an aggregate function
pub record CallTree : Type 0 where
  pub func : FuncTree
  pub arg : Option ExprTree

pub data Leaf : Type 0 where
  Plain : ColRef → Leaf
  Called : CallTree → Leaf

-- the argument of a call, where each part comes with its leaves
abbrev pub argument_of : Option (ExprTree × List Leaf) → Option ExprTree
argument_of None = None
argument_of (Some p) = Some p.0

-- one level of an expression, with each part and the leaves of that in its place
abbrev pub leaves_step : ExprTree-F (ExprTree × List Leaf) (TermTree × List Leaf) → List Leaf
leaves_step (ExprTree-F.Sum ps) = flat_map (λ p. p.1) ps
leaves_step (ExprTree-F.Product ps) = flat_map (λ p. p.1) ps
leaves_step (ExprTree-F.Neg p) = p.1
leaves_step (ExprTree-F.Number n) = []
leaves_step (ExprTree-F.Text t) = []
leaves_step (ExprTree-F.Column r) = Plain r ∷ []
leaves_step (ExprTree-F.Call func arg) = Called (record { func = func; arg = argument_of arg }) ∷ []

-- the columns outside calls and the calls, from left to right; what stands in a call's argument is none of them
unfoldable pub leaves : ExprTree → List Leaf
leaves e = para-ExprTree (List Leaf) (List Leaf) leaves_step (λ t. t.expr.1) e

abbrev pub column_at : Leaf → Option ColRef
column_at (Plain r) = Some r
column_at (Called c) = None

abbrev pub call_at : Leaf → Option CallTree
call_at (Plain r) = None
call_at (Called c) = Some c

abbrev pub is_call : Leaf → Bool
is_call (Plain r) = false
is_call (Called c) = true

abbrev pub has_call : ExprTree → Bool
has_call e = list_any is_call (leaves e)

-- whether a call stands in the argument of a call
abbrev pub is_nested : CallTree → Bool
is_nested c = list_any has_call (option_to_list c.arg)

-- ---- conditions

-- one level of a condition, with the expressions of each part in its place
abbrev pub exprs_step : CondTree-F (List ExprTree) → List ExprTree
exprs_step (CondTree-F.Any ess) = flat_map (λ es. es) ess
exprs_step (CondTree-F.All ess) = flat_map (λ es. es) ess
exprs_step (CondTree-F.Not es) = es
exprs_step (CondTree-F.Compare cmp left right) = left ∷ right ∷ []
exprs_step (CondTree-F.Null e negated) = e ∷ []

-- the expressions that a condition compares or tests for NULL
unfoldable pub exprs_in : CondTree → List ExprTree
exprs_in c = fold-CondTree (List ExprTree) exprs_step c

-- those of a condition that may be missing
abbrev pub exprs_of : Option CondTree → List ExprTree
exprs_of None = []
exprs_of (Some c) = exprs_in c
