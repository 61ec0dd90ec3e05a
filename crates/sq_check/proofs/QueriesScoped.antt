-- A block with its sources in the place of their trees.
use Rattle.std.proofs.Common.{◌≡◌, suc, List, [], ◌∷◌, ◌++◌, map, take, length, refl, sym, ap, ◌∙◌, append_assoc}
use Rattle.std.specs.List.{flat_map}
use Rattle.sq_ast.specs.declared.query.BlockTree.{BlockTree, out-BlockTree, roll-out-BlockTree}
use Rattle.sq_ast.specs.declared.query.JoinedTree.{JoinedTree, out-JoinedTree, roll-out-JoinedTree}
use Rattle.sq_ast.specs.declared.query.QueryTree.TheOpen.{BlockTree-F}
use Rattle.sq_ast.specs.declared.query.QueryTree.TheVariants as tree
use Rattle.sq_ast.specs.declared.query.SetOp.{SetOp}
use Rattle.sq_ast.specs.declared.query.StepTree.{StepTree, roll-out-StepTree}
use Rattle.sq_catalog.specs.declared.relation.Relation.{Relation}
use Rattle.sq_typed.specs.Resolved.{Resolved, Source, Joined, scope_of, on_cond, each_join, scoped, of_block, resolved}
use Rattle.sq_typed.specs.Scopes.{Named, Scope}
use Rattle.sq_typed.proofs.QueryEquations.{resolved_source, resolved_joined, resolved_step, joined-is, step-is, resolved-Block}
use Rattle.sq_scope.specs.Scoped.{ons_from, scoped_by}

pub take_through : {A : Type 0} (before : List A) (x : A) (after : List A) → take (suc (length before)) (before ++ x ∷ after) ≡ before ++ x ∷ []
take_through [] x after = refl
take_through (b ∷ bs) x after = ap (λ xs. b ∷ xs) (take_through bs x after)

pub one_longer : {A : Type 0} (before : List A) (x : A) → length (before ++ x ∷ []) ≡ suc (length before)
one_longer [] x = refl
one_longer (b ∷ bs) x = ap suc (one_longer bs x)

module _ (relations : List Relation) where
  pub joined_at : (j : JoinedTree) → resolved_joined relations j ≡ record { join = (out-JoinedTree j).join; source = resolved_source relations (out-JoinedTree j).source }
  joined_at j = ap (resolved_joined relations) (sym (roll-out-JoinedTree j)) ∙ joined-is relations (out-JoinedTree j).join (out-JoinedTree j).source

  pub step_at : (s : StepTree) → resolved_step relations s ≡ (s.op, resolved relations s.query)
  step_at s = ap (resolved_step relations) (sym (roll-out-StepTree s)) ∙ step-is relations s.op s.query

  -- a block with its sources resolved
  abbrev pub layer : BlockTree → BlockTree-F Resolved Source Resolved Joined (SetOp × Resolved)
  layer b = record { distinct = (out-BlockTree b).distinct; items = (out-BlockTree b).items; sources = map (resolved_joined relations) (out-BlockTree b).sources; filter = (out-BlockTree b).filter; group = (out-BlockTree b).group; having = (out-BlockTree b).having }

  pub block_at : (b : BlockTree) → resolved relations (tree.Block b) ≡ of_block relations (layer b)
  block_at b =
      ap (λ b. resolved relations (tree.Block b)) (sym (roll-out-BlockTree b))
      ∙ resolved-Block relations (out-BlockTree b).distinct (out-BlockTree b).items (out-BlockTree b).sources (out-BlockTree b).filter (out-BlockTree b).group (out-BlockTree b).having

  ons_are : (before : Scope) (js : List JoinedTree) →
      flat_map (λ on. on) (each_join (λ scope s. on_cond scope s.join) before (map (resolved_joined relations) js)) ≡ ons_from (length before) (before ++ scope_of (map (resolved_joined relations) js)) js
  ons_are before [] = refl
  ons_are before (j ∷ js) =
      let named : Named = (resolved_joined relations j).source.named in
      let later : Scope = scope_of (map (resolved_joined relations) js) in
      ap (λ ons. on_cond (before ++ named ∷ []) (resolved_joined relations j).join ++ ons) (
      ons_are (before ++ named ∷ []) js
      ∙ ap (λ n. ons_from n ((before ++ named ∷ []) ++ later) js) (one_longer before named)
      ∙ ap (λ scope. ons_from (suc (length before)) scope js) (append_assoc before (named ∷ []) later))
      ∙ ap (λ scope. on_cond scope (resolved_joined relations j).join ++ ons_from (suc (length before)) (before ++ named ∷ later) js) (sym (take_through before named later))
      ∙ ap (λ (x : Joined). on_cond (take (suc (length before)) (before ++ named ∷ later)) x.join ++ ons_from (suc (length before)) (before ++ named ∷ later) js) (joined_at j)

  -- the conditions of ON are those with the sources up to their own
  pub scoped_at : (b : BlockTree) → scoped (layer b) ≡ scoped_by (scope_of (map (resolved_joined relations) (out-BlockTree b).sources)) b
  scoped_at b = ap (λ ons. record { scope = scope_of (map (resolved_joined relations) (out-BlockTree b).sources); ons = ons; items = (out-BlockTree b).items; filter = (out-BlockTree b).filter; group = (out-BlockTree b).group; having = (out-BlockTree b).having }) (ons_are [] (out-BlockTree b).sources)
