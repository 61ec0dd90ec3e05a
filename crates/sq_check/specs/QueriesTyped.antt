-- What typed queries and their parts are.
use Rattle.std.specs.Prelude.{◌≡◌, ℕ, suc, List, [], ◌∷◌, map, take, Option, Some, None}
use Rattle.sq_ast.specs.declared.query.JoinedTree.{JoinedTree, out-JoinedTree}
use Rattle.sq_ast.specs.declared.query.StepTree.{StepTree}
use Rattle.sq_catalog.specs.declared.relation.Column.{Column}
use Rattle.sq_catalog.specs.declared.relation.Relation.{Relation}
use Rattle.sq_typed.specs.declared.query.FromItem.{FromItem, roll-FromItem}
use Rattle.sq_typed.specs.declared.query.Origin.{Origin}
use Rattle.sq_typed.specs.declared.query.SetStep.{SetStep, roll-SetStep}
use Rattle.sq_typed.specs.Resolved.{Joined, Resolved, Source, resolved, scope_of, typed_join, widened}
use Rattle.sq_typed.specs.Scopes.{Named, Scope}
use Rattle.sq_check.specs.declared.typed.TypedQuery.{TypedQuery}

-- a query with its columns
pub record IsTyped (r : Resolved) (t : TypedQuery) : Type 0 where
  pub query : t.query ≡ r.query
  pub columns : t.columns ≡ r.columns

-- a further member of a chain
abbrev pub step_of : List Relation → StepTree → SetStep
step_of relations s = roll-SetStep (record { op = s.op; query = (resolved relations s.query).query })

-- the columns of a set operation with one more operand
abbrev pub joined_with : Option (List Column) → List Column → List Column
joined_with None cs = cs
joined_with (Some before) cs = widened before cs

-- a source by name, and where it comes from
pub record HasSource (s : Source) (named_ : Named) (origin_ : Origin) : Type 0 where
  pub named : named_ ≡ s.named
  pub origin : origin_ ≡ s.origin

pub record HasSources (sources : List Joined) (scope_ : Scope) (origins_ : List Origin) : Type 0 where
  pub scope : scope_ ≡ scope_of sources
  pub origins : origins_ ≡ map (λ j. j.source.origin) sources

-- sources with their joins, each condition with the sources up to its own, behind so many others
abbrev pub items_from : ℕ → Scope → List JoinedTree → List Origin → List FromItem
items_from before scope [] os = []
items_from before scope (j ∷ js) [] = []
items_from before scope (j ∷ js) (o ∷ os) = roll-FromItem (record { join = typed_join (take (suc before) scope) (out-JoinedTree j).join; source = o }) ∷ items_from (suc before) scope js os
