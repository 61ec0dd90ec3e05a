-- What a query becomes, one equation for each form of it.
use Rattle.std.proofs.Common.{◌≡◌, Bool, List, map, ap, sym, ◌∙◌}
use Rattle.std.specs.Prelude.{Option}
use Rattle.sq_ast.specs.Trees.{joined, step, block_of}
use Rattle.sq_ast.specs.declared.cond.CondTree.{CondTree}
use Rattle.sq_ast.specs.declared.expr.ColRef.{ColRef}
use Rattle.sq_ast.specs.declared.query.BlockTree.{BlockTree, out-BlockTree, roll-BlockTree, out-roll-BlockTree, roll-out-BlockTree}
use Rattle.sq_ast.specs.declared.query.ItemTree.{ItemTree}
use Rattle.sq_ast.specs.declared.query.JoinTree.{JoinTree}
use Rattle.sq_ast.specs.declared.query.JoinedTree.{JoinedTree, out-roll-JoinedTree, roll-out-JoinedTree}
use Rattle.sq_ast.specs.declared.query.QueryTree.{QueryTree, roll-QueryTree}
use Rattle.sq_ast.specs.declared.query.QueryTree.TheFolds.{fold-SourceTree, fold-BlockTree, fold-JoinedTree, fold-StepTree, map-QueryTree, map-SourceTree, fold-roll-QueryTree, fold-roll-SourceTree, fold_out-BlockTree, fold_out-JoinedTree, fold_out-StepTree}
use Rattle.sq_ast.specs.declared.query.QueryTree.TheOpen.{QueryTree-F, SourceTree-F, BlockTree-F}
use Rattle.sq_ast.specs.declared.query.QueryTree.TheVariants as query
use Rattle.sq_ast.specs.declared.query.SetOp.{SetOp}
use Rattle.sq_ast.specs.declared.query.SourceTree.{SourceTree, roll-SourceTree}
use Rattle.sq_ast.specs.declared.query.SourceTree.TheVariants as source
use Rattle.sq_ast.specs.declared.query.StepTree.{StepTree, out-roll-StepTree, roll-out-StepTree}
use Rattle.sq_catalog.specs.declared.relation.Relation.{Relation}
use Rattle.sq_typed.specs.Resolved.{Resolved, Source, Joined, of_query, of_source, of_block, of_joined, of_step, resolved}
use Rattle.sq_typed.specs.Scopes.{Text}

module _ (relations : List Relation) where
  abbrev Step : Type 0
  Step = SetOp × Resolved

  -- what the parts of a query become
  pub resolved_source : SourceTree → Source
  resolved_source s = fold-SourceTree Resolved Source Resolved Joined Step (of_query relations) (of_source relations) (of_block relations) (of_joined relations) (of_step relations) s

  resolved_block : BlockTree → Resolved
  resolved_block b = fold-BlockTree Resolved Source Resolved Joined Step (of_query relations) (of_source relations) (of_block relations) (of_joined relations) (of_step relations) b

  pub resolved_joined : JoinedTree → Joined
  resolved_joined j = fold-JoinedTree Resolved Source Resolved Joined Step (of_query relations) (of_source relations) (of_block relations) (of_joined relations) (of_step relations) j

  pub resolved_step : StepTree → Step
  resolved_step s = fold-StepTree Resolved Source Resolved Joined Step (of_query relations) (of_source relations) (of_block relations) (of_joined relations) (of_step relations) s

  query_rolls : (x : QueryTree-F QueryTree SourceTree BlockTree JoinedTree StepTree) →
      resolved relations (roll-QueryTree x) ≡ of_query relations (map-QueryTree QueryTree SourceTree BlockTree JoinedTree StepTree Resolved Source Resolved Joined Step (resolved relations) resolved_source resolved_block resolved_joined resolved_step x)
  unfolding resolved resolved_source resolved_block resolved_joined resolved_step
  query_rolls x = fold-roll-QueryTree Resolved Source Resolved Joined Step (of_query relations) (of_source relations) (of_block relations) (of_joined relations) (of_step relations) x

  source_rolls : (x : SourceTree-F QueryTree SourceTree BlockTree JoinedTree StepTree) →
      resolved_source (roll-SourceTree x) ≡ of_source relations (map-SourceTree QueryTree SourceTree BlockTree JoinedTree StepTree Resolved Source Resolved Joined Step (resolved relations) resolved_source resolved_block resolved_joined resolved_step x)
  unfolding resolved resolved_source resolved_block resolved_joined resolved_step
  source_rolls x = fold-roll-SourceTree Resolved Source Resolved Joined Step (of_query relations) (of_source relations) (of_block relations) (of_joined relations) (of_step relations) x

  abbrev block_layer : BlockTree-F QueryTree SourceTree BlockTree JoinedTree StepTree → Resolved
  block_layer b = of_block relations (record { distinct = b.distinct; items = b.items; sources = map resolved_joined b.sources; filter = b.filter; group = b.group; having = b.having })

  resolved_block-is : (b : BlockTree) → resolved_block b ≡ block_layer (out-BlockTree b)
  unfolding resolved_block resolved_joined
  resolved_block-is b = fold_out-BlockTree Resolved Source Resolved Joined Step (of_query relations) (of_source relations) (of_block relations) (of_joined relations) (of_step relations) b

  -- a source with its join, and a further member of a chain
  pub joined-is : (how : JoinTree) (from : SourceTree) → resolved_joined (joined how from) ≡ record { join = how; source = resolved_source from }
  unfolding resolved_joined resolved_source
  joined-is how from =
      fold_out-JoinedTree Resolved Source Resolved Joined Step (of_query relations) (of_source relations) (of_block relations) (of_joined relations) (of_step relations) (joined how from) ∙
      ap (λ j. record { join = j.join; source = resolved_source j.source }) (out-roll-JoinedTree (record { join = how; source = from }))

  pub step-is : (op : SetOp) (q : QueryTree) → resolved_step (step op q) ≡ (op, resolved relations q)
  unfolding resolved resolved_step
  step-is op q =
      fold_out-StepTree Resolved Source Resolved Joined Step (of_query relations) (of_source relations) (of_block relations) (of_joined relations) (of_step relations) (step op q) ∙
      ap (λ s. (s.op, resolved relations s.query)) (out-roll-StepTree (record { op = op; query = q }))

  pub source-Relation : (name : Text) (alias : Option Text) → resolved_source (source.Relation name alias) ≡ of_source relations (SourceTree-F.Relation name alias)
  source-Relation name alias = ap resolved_source (sym (source.rolls-Relation name alias)) ∙ source_rolls (SourceTree-F.Relation name alias)

  pub source-Query : (q : QueryTree) (alias : Text) → resolved_source (source.Query q alias) ≡ of_source relations (SourceTree-F.Query (resolved relations q) alias)
  source-Query q alias = ap resolved_source (sym (source.rolls-Query q alias)) ∙ source_rolls (SourceTree-F.Query q alias)

  -- a block of these parts
  pub resolved-Block : (distinct : Bool) (items : List ItemTree) (sources : List JoinedTree) (filter : Option CondTree) (group : List ColRef) (having : Option CondTree) →
      resolved relations (block_of distinct items sources filter group having) ≡ of_block relations (record { distinct = distinct; items = items; sources = map resolved_joined sources; filter = filter; group = group; having = having })
  resolved-Block distinct items sources filter group having =
      ap (resolved relations) (sym (query.rolls-Block (roll-BlockTree (record { distinct = distinct; items = items; sources = sources; filter = filter; group = group; having = having })))) ∙
      (query_rolls (QueryTree-F.Block (roll-BlockTree (record { distinct = distinct; items = items; sources = sources; filter = filter; group = group; having = having }))) ∙
      (resolved_block-is (roll-BlockTree (record { distinct = distinct; items = items; sources = sources; filter = filter; group = group; having = having })) ∙
      ap block_layer (out-roll-BlockTree (record { distinct = distinct; items = items; sources = sources; filter = filter; group = group; having = having }))))

  pub resolved-Chain : (first : QueryTree) (rest : List StepTree) →
      resolved relations (query.Chain first rest) ≡ of_query relations (QueryTree-F.Chain (resolved relations first) (map resolved_step rest))
  resolved-Chain first rest = ap (resolved relations) (sym (query.rolls-Chain first rest)) ∙ query_rolls (QueryTree-F.Chain first rest)

  pub resolved-Intersect : (members : List QueryTree) → resolved relations (query.Intersect members) ≡ of_query relations (QueryTree-F.Intersect (map (resolved relations) members))
  resolved-Intersect members = ap (resolved relations) (sym (query.rolls-Intersect members)) ∙ query_rolls (QueryTree-F.Intersect members)

  -- the same, of trees that are opened
  pub joined_at : (j : JoinedTree) → resolved_joined j ≡ record { join = j.join; source = resolved_source j.source }
  joined_at j = ap (resolved_joined) (sym (roll-out-JoinedTree j)) ∙ joined-is j.join j.source

  pub step_at : (s : StepTree) → resolved_step s ≡ (s.op, resolved relations s.query)
  step_at s = ap (resolved_step) (sym (roll-out-StepTree s)) ∙ step-is s.op s.query

  pub block_at : (b : BlockTree) → resolved relations (query.Block b) ≡ of_block relations (record { distinct = (out-BlockTree b).distinct; items = (out-BlockTree b).items; sources = map (resolved_joined) (out-BlockTree b).sources; filter = (out-BlockTree b).filter; group = (out-BlockTree b).group; having = (out-BlockTree b).having })
  block_at b =
      ap (λ b. resolved relations (query.Block b)) (sym (roll-out-BlockTree b))
      ∙ resolved-Block (out-BlockTree b).distinct (out-BlockTree b).items (out-BlockTree b).sources (out-BlockTree b).filter (out-BlockTree b).group (out-BlockTree b).having

pub ruleset queries = (resolved-Block, resolved-Chain, resolved-Intersect, source-Relation, source-Query, joined-is, step-is)
