-- A block over sources whose columns are known.
--     scoped_by scope b        the block b with these sources in the place of their trees
use Rattle.std.specs.Prelude.{ℕ, suc, List, [], ◌∷◌, ◌++◌, take}
use Rattle.sq_ast.specs.declared.cond.CondTree.{CondTree}
use Rattle.sq_ast.specs.declared.query.BlockTree.{BlockTree, out-BlockTree}
use Rattle.sq_ast.specs.declared.query.JoinedTree.{JoinedTree, out-JoinedTree}
use Rattle.sq_typed.specs.Resolved.{on_cond}
use Rattle.sq_typed.specs.Scopes.{Scope}
use Rattle.sq_typed.specs.Selected.{Scoped}

-- each condition of ON with the sources up to its own, where these joins begin behind so many sources
abbrev pub ons_from : ℕ → Scope → List JoinedTree → List (Scope × CondTree)
ons_from before scope [] = []
ons_from before scope (j ∷ js) = on_cond (take (suc before) scope) (out-JoinedTree j).join ++ ons_from (suc before) scope js

abbrev pub scoped_by : Scope → BlockTree → Scoped
scoped_by scope b = record {
  scope = scope;
  ons = ons_from 0 scope (out-BlockTree b).sources;
  items = (out-BlockTree b).items;
  filter = (out-BlockTree b).filter;
  group = (out-BlockTree b).group;
  having = (out-BlockTree b).having;
}
