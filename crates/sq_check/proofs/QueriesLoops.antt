-- What the loops over sources and operands keep.
use Rattle.std.proofs.Common.{◌≡◌, ℕ, List, ◌∷◌, map, take}
use Rattle.sq_ast.specs.declared.query.QueryTree.{QueryTree}
use Rattle.sq_ast.specs.declared.query.QueryTree.TheVariants as tree
use Rattle.sq_ast.specs.declared.query.StepTree.{StepTree}
use Rattle.sq_catalog.specs.declared.relation.Relation.{Relation}
use Rattle.sq_typed.specs.Resolved.{resolved}
use Rattle.sq_check.specs.declared.findings.Findings.{Findings}
use Rattle.sq_check.specs.declared.resolve.Shape.{Shape}
use Rattle.sq_check.specs.declared.resolve.Wanted.{Wanted}
use Rattle.sq_check.specs.QueriesFound.{GivesAll}

-- the first operand and so many steps of a chain
pub record StepsSoFar (relations : List Relation) (query : QueryTree) (wanted : Wanted) (steps : List StepTree) (i : ℕ) (start now : Findings) (s : Shape) : Type 0 where
  pub first : QueryTree
  pub chain : query ≡ tree.Chain first steps
  pub gives : GivesAll wanted (resolved relations first ∷ map (λ s. resolved relations s.query) (take i steps)) start now s
