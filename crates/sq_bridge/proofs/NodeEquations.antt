-- What the node of a query is, one equation for each form of it.
use Rattle.std.proofs.Common.{◌≡◌, ℕ, List, map, ap, sym, ◌∙◌, get_or}
use Rattle.sq_ast.specs.declared.query.SetOp.{SetOp}
use Rattle.sq_typed.specs.declared.query.Query.{Query, roll-Query}
use Rattle.sq_typed.specs.declared.query.Query.TheVariants as query
use Rattle.sq_typed.specs.declared.query.Block.{Block, out-Block}
use Rattle.sq_typed.specs.declared.query.FromItem.{FromItem}
use Rattle.sq_typed.specs.declared.query.SetStep.{SetStep}
use Rattle.sq_typed.specs.declared.query.Origin.{Origin, roll-Origin}
use Rattle.sq_typed.specs.declared.query.Origin.TheVariants as origin
use Rattle.sq_typed.specs.declared.query.Origin.TheFolds.{fold-Block, map-Query, map-Origin, fold-roll-Query, fold-roll-Origin, fold_out-Block, fold_out-FromItem, fold_out-SetStep}
use Rattle.sq_typed.specs.declared.query.Origin.TheOpen.{Query-F, Origin-F}
use Rattle.sq_bridge.specs.Groups.{block_node}
use Rattle.sq_bridge.specs.Nodes.{Node, NodeSource, no_node}
use Rattle.sq_bridge.specs.Queries.{chain_node, intersect_node, member_node, node_by_block, node_by_origin, node_by_query, node_by_source, node_by_step, origin_node, query_node, relation_node, source_node}

module _ (relations : List Node) where
  abbrev Step : Type 0
  Step = SetOp × Node

  block_given : Block → Node
  block_given b = fold-Block Node Node Node NodeSource Step (node_by_origin relations) node_by_query node_by_block node_by_source node_by_step b

  query_rolls : (x : Query-F Origin Query Block FromItem SetStep) →
      query_node relations (roll-Query x) ≡ node_by_query (map-Query Origin Query Block FromItem SetStep Node Node Node NodeSource Step (origin_node relations) (query_node relations) block_given (source_node relations) (member_node relations) x)
  unfolding query_node origin_node block_given source_node member_node
  query_rolls x = fold-roll-Query Node Node Node NodeSource Step (node_by_origin relations) node_by_query node_by_block node_by_source node_by_step x

  origin_rolls : (x : Origin-F Origin Query Block FromItem SetStep) →
      origin_node relations (roll-Origin x) ≡ node_by_origin relations (map-Origin Origin Query Block FromItem SetStep Node Node Node NodeSource Step (origin_node relations) (query_node relations) block_given (source_node relations) (member_node relations) x)
  unfolding query_node origin_node block_given source_node member_node
  origin_rolls x = fold-roll-Origin Node Node Node NodeSource Step (node_by_origin relations) node_by_query node_by_block node_by_source node_by_step x

  block_given-is : (b : Block) → block_given b ≡ block_node (out-Block b).distinct (map (source_node relations) (out-Block b).sources) (out-Block b).filter (out-Block b).grouping (out-Block b).items
  unfolding block_given source_node
  block_given-is b = fold_out-Block Node Node Node NodeSource Step (node_by_origin relations) node_by_query node_by_block node_by_source node_by_step b

  -- a source, and a further member of a chain
  pub source_node-is : (s : FromItem) → source_node relations s ≡ record { join = s.join; node = origin_node relations s.source }
  unfolding origin_node source_node
  source_node-is s = fold_out-FromItem Node Node Node NodeSource Step (node_by_origin relations) node_by_query node_by_block node_by_source node_by_step s

  pub member_node-is : (s : SetStep) → member_node relations s ≡ (s.op, query_node relations s.query)
  unfolding query_node member_node
  member_node-is s = fold_out-SetStep Node Node Node NodeSource Step (node_by_origin relations) node_by_query node_by_block node_by_source node_by_step s

  pub node-Relation : (n : ℕ) → origin_node relations (origin.Relation n) ≡ relation_node (get_or relations n no_node)
  node-Relation n = ap (origin_node relations) (sym (origin.rolls-Relation n)) ∙ origin_rolls (Origin-F.Relation n)

  pub node-Query : (q : Query) → origin_node relations (origin.Query q) ≡ query_node relations q
  node-Query q = ap (origin_node relations) (sym (origin.rolls-Query q)) ∙ origin_rolls (Origin-F.Query q)

  pub node-Block : (b : Block) → query_node relations (query.Block b) ≡ block_node (out-Block b).distinct (map (source_node relations) (out-Block b).sources) (out-Block b).filter (out-Block b).grouping (out-Block b).items
  node-Block b = ap (query_node relations) (sym (query.rolls-Block b)) ∙ (query_rolls (Query-F.Block b) ∙ block_given-is b)

  pub node-Chain : (q : Query) (rest : List SetStep) → query_node relations (query.Chain q rest) ≡ chain_node (query_node relations q) (map (member_node relations) rest)
  node-Chain q rest = ap (query_node relations) (sym (query.rolls-Chain q rest)) ∙ query_rolls (Query-F.Chain q rest)

  pub node-Intersect : (qs : List Query) → query_node relations (query.Intersect qs) ≡ intersect_node (map (query_node relations) qs)
  node-Intersect qs = ap (query_node relations) (sym (query.rolls-Intersect qs)) ∙ query_rolls (Query-F.Intersect qs)
