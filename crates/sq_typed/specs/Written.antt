-- What the grammar gives of every statement: sources, operands, and arguments of calls.
use Rattle.std.specs.Prelude.{◌≡◌, Bool, true, false, List, [], ◌∷◌, ◌++◌, Option, is_some}
use Rattle.std.specs.List.{AllByRecursion}
use Rattle.sq_ast.specs.declared.expr.ExprTree.{ExprTree}
use Rattle.sq_ast.specs.declared.expr.FuncTree.{FuncTree}
use Rattle.sq_ast.specs.declared.expr.FuncTree.TheVariants.{Count, Sum, Min, Max}
use Rattle.sq_ast.specs.declared.statement.Statement.{Statement}
use Rattle.sq_typed.specs.Faults.{described}
use Rattle.sq_typed.specs.Programs.{catalog_of}
use Rattle.sq_typed.specs.Resolved.{Parts}
use Rattle.sq_typed.specs.Selected.{Scoped, call_trees}

abbrev pub has_member : {A : Type 0} → List A → Bool
has_member [] = false
has_member (x ∷ xs) = true

-- a call has an argument, unless it is COUNT(*)
abbrev pub has_argument : FuncTree → Option ExprTree → Bool
has_argument Count arg = true
has_argument Sum arg = is_some arg
has_argument Min arg = is_some arg
has_argument Max arg = is_some arg

-- a block has a source, and its calls have their arguments
pub record IsWritten (b : Scoped) : Type 0 where
  pub sources : has_member b.scope ≡ true
  pub calls : AllByRecursion (λ c. has_argument c.func c.arg ≡ true) (call_trees b)

-- so has each block of a statement, and each set operation has an operand
pub record AreWritten (parts : Parts) : Type 0 where
  pub blocks : AllByRecursion IsWritten parts.blocks
  pub operations : AllByRecursion (λ operands. has_member operands ≡ true) parts.operations

-- each statement is so, with the names that those before it create
abbrev pub AllWritten : List Statement → Type 0
AllWritten statements = (before after : List Statement) (s : Statement) → statements ≡ before ++ s ∷ after → AreWritten (described (catalog_of before) s.body).parts
