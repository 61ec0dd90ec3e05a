-- Induction over the trees of queries.
use Rattle.std.proofs.Common.{List, map, subst, sym}
use Rattle.std.specs.Prelude.{Option}
use Rattle.std.specs.List.{AllByRecursion}
use Rattle.sq_ast.specs.declared.query.BlockTree.{BlockTree, out-BlockTree, out-roll-BlockTree}
use Rattle.sq_ast.specs.declared.query.JoinedTree.{JoinedTree}
use Rattle.sq_ast.specs.declared.query.QueryTree.{QueryTree, roll-QueryTree}
use Rattle.sq_ast.specs.declared.query.QueryTree.TheFolds.{map-QueryTree, map-SourceTree, ind-QueryTree, ind-SourceTree}
use Rattle.sq_ast.specs.declared.query.QueryTree.TheOpen.{QueryTree-F, SourceTree-F}
use Rattle.sq_ast.specs.declared.query.QueryTree.TheVariants as query
use Rattle.sq_ast.specs.declared.query.SourceTree.{SourceTree, roll-SourceTree}
use Rattle.sq_ast.specs.declared.query.SourceTree.TheVariants as source
use Rattle.sq_ast.specs.declared.query.StepTree.{StepTree}
use Rattle.sq_typed.specs.Scopes.{Text}
use Rattle.sq_typed.proofs.Trees.{all_of}

-- what holds of each query and source whose parts have it
pub record QueryTreeCases (P : QueryTree → Type 0) (S : SourceTree → Type 0) : Type 0 where
  pub block : (b : BlockTree) → AllByRecursion (λ j. S j.source) (out-BlockTree b).sources → P (query.Block b)
  pub chain : (q : QueryTree) (rest : List StepTree) → P q → AllByRecursion (λ s. P s.query) rest → P (query.Chain q rest)
  pub intersect : (qs : List QueryTree) → AllByRecursion P qs → P (query.Intersect qs)
  pub relation : (name : Text) (alias : Option Text) → S (source.Relation name alias)
  pub of_query : (q : QueryTree) (alias : Text) → P q → S (source.Query q alias)

module _ (P : QueryTree → Type 0) (S : SourceTree → Type 0) (c : QueryTreeCases P S) where
  abbrev OfBlock : BlockTree → Type 0
  OfBlock b = AllByRecursion (λ j. S j.source) (out-BlockTree b).sources

  abbrev OfJoined : JoinedTree → Type 0
  OfJoined j = S j.source

  abbrev OfStep : StepTree → Type 0
  OfStep s = P s.query

  abbrev Q : Type 0
  Q = (q : QueryTree) × P q

  abbrev F : Type 0
  F = (s : SourceTree) × S s

  abbrev B : Type 0
  B = (b : BlockTree) × OfBlock b

  abbrev J : Type 0
  J = (j : JoinedTree) × OfJoined j

  abbrev T : Type 0
  T = (s : StepTree) × OfStep s

  query_level : (y : QueryTree-F Q F B J T) → P (roll-QueryTree (map-QueryTree Q F B J T QueryTree SourceTree BlockTree JoinedTree StepTree (λ y. y.0) (λ y. y.0) (λ y. y.0) (λ y. y.0) (λ y. y.0) y))
  query_level (QueryTree-F.Block y) = subst P (sym (query.rolls-Block y.0)) (c.block y.0 y.1)
  query_level (QueryTree-F.Chain y ys) = subst P (sym (query.rolls-Chain y.0 (map (λ y. y.0) ys))) (c.chain y.0 (map (λ y. y.0) ys) y.1 (all_of OfStep ys))
  query_level (QueryTree-F.Intersect ys) = subst P (sym (query.rolls-Intersect (map (λ y. y.0) ys))) (c.intersect (map (λ y. y.0) ys) (all_of P ys))

  source_level : (y : SourceTree-F Q F B J T) → S (roll-SourceTree (map-SourceTree Q F B J T QueryTree SourceTree BlockTree JoinedTree StepTree (λ y. y.0) (λ y. y.0) (λ y. y.0) (λ y. y.0) (λ y. y.0) y))
  source_level (SourceTree-F.Relation name alias) = subst S (sym (source.rolls-Relation name alias)) (c.relation name alias)
  source_level (SourceTree-F.Query y alias) = subst S (sym (source.rolls-Query y.0 alias)) (c.of_query y.0 alias y.1)

  pub each_query_tree : (q : QueryTree) → P q
  each_query_tree = ind-QueryTree P S OfBlock OfJoined OfStep
      (λ x y is. subst (λ z. P (roll-QueryTree z)) is (query_level y))
      (λ x y is. subst (λ z. S (roll-SourceTree z)) is (source_level y))
      (λ x y is. subst (λ z. AllByRecursion (λ j. S j.source) z.sources) (sym (out-roll-BlockTree x)) (subst (λ z. AllByRecursion (λ j. S j.source) z.sources) is (all_of OfJoined y.sources)))
      (λ x y is. subst (λ z. S z.source) is y.source.1)
      (λ x y is. subst (λ z. P z.query) is y.query.1)

  pub each_source_tree : (s : SourceTree) → S s
  each_source_tree = ind-SourceTree P S OfBlock OfJoined OfStep
      (λ x y is. subst (λ z. P (roll-QueryTree z)) is (query_level y))
      (λ x y is. subst (λ z. S (roll-SourceTree z)) is (source_level y))
      (λ x y is. subst (λ z. AllByRecursion (λ j. S j.source) z.sources) (sym (out-roll-BlockTree x)) (subst (λ z. AllByRecursion (λ j. S j.source) z.sources) is (all_of OfJoined y.sources)))
      (λ x y is. subst (λ z. S z.source) is y.source.1)
      (λ x y is. subst (λ z. P z.query) is y.query.1)
