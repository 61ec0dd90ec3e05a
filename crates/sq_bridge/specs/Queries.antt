-- Set operations and whole queries as operators, by the same fold as what a query means over lists.
--     query_node relations q      the node of a query over those of the relations before it
use Rattle.std.specs.Prelude.{ℕ, ◌||◌, false, List, [], ◌∷◌, fold, get_or}
use Rattle.sq_algebra.specs.Operators.{distinct}
use Rattle.sq_algebra.specs.ZSet.{minus, plus}
use Rattle.sq_ast.specs.declared.query.SetOp.{SetOp}
use Rattle.sq_ast.specs.declared.query.SetOp.TheVariants.{UnionAll, Union, Except}
use Rattle.sq_typed.specs.declared.query.FromItem.{FromItem}
use Rattle.sq_typed.specs.declared.query.Origin.{Origin}
use Rattle.sq_typed.specs.declared.query.Origin.TheFolds.{fold-Query, fold-FromItem, fold-SetStep, fold-Origin}
use Rattle.sq_typed.specs.declared.query.Origin.TheOpen.{Query-F, SetStep-F, Block-F, FromItem-F, Origin-F}
use Rattle.sq_typed.specs.declared.query.Query.{Query}
use Rattle.sq_typed.specs.declared.query.SetStep.{SetStep}
use Rattle.sq_circuit.specs.Nodes.{paired}
use Rattle.sq_bridge.specs.Groups.{block_node}
use Rattle.sq_bridge.specs.Joins.{same_rows}
use Rattle.sq_bridge.specs.Nodes.{Node, NodeSource, lists_too_many, no_node}
use Rattle.sq_bridge.specs.Rows.{Rows}

-- ---- set operations

-- the rows of both, each once, where rows have w columns
abbrev pub both_of : ℕ → Rows → Rows → Rows
both_of w y z = paired (same_rows w) (distinct y) (distinct z)

abbrev pub set_result : SetOp → ℕ → Rows → Rows → Rows
set_result UnionAll w y z = plus y z
set_result Union w y z = distinct (plus y z)
set_result Except w y z = minus (distinct y) (both_of w y z)

-- a step of a chain, whose rows are a place
abbrev pub step_node : (ℕ → Rows → Rows → Rows) → Node → Node → Node
step_node f a b = record { width = a.width; rows = f a.width a.rows b.rows; fault = (a.fault || b.fault) || lists_too_many (f a.width a.rows b.rows) }

abbrev pub chain_node : Node → List (SetOp × Node) → Node
chain_node first rest = fold (λ n s. step_node (set_result s.0) n s.1) first rest

abbrev pub intersect_node : List Node → Node
intersect_node [] = no_node
intersect_node (first ∷ rest) = fold (step_node both_of) first rest

-- ---- queries

-- the faults of a relation belong to the statement that created it
abbrev pub relation_node : Node → Node
relation_node n = record { width = n.width; rows = n.rows; fault = false }

abbrev pub node_by_query : Query-F Node Node Node NodeSource (SetOp × Node) → Node
node_by_query (Query-F.Block n) = n
node_by_query (Query-F.Chain first rest) = chain_node first rest
node_by_query (Query-F.Intersect members) = intersect_node members

abbrev pub node_by_block : Block-F Node Node Node NodeSource (SetOp × Node) → Node
node_by_block b = block_node b.distinct b.sources b.filter b.grouping b.items

abbrev pub node_by_source : FromItem-F Node Node Node NodeSource (SetOp × Node) → NodeSource
node_by_source s = record { join = s.join; node = s.source }

abbrev pub node_by_step : SetStep-F Node Node Node NodeSource (SetOp × Node) → SetOp × Node
node_by_step s = (s.op, s.query)

module _ (relations : List Node) where
  abbrev pub node_by_origin : Origin-F Node Node Node NodeSource (SetOp × Node) → Node
  node_by_origin (Origin-F.Relation n) = relation_node (get_or relations n no_node)
  node_by_origin (Origin-F.Query n) = n

  -- the node of a query over those of the relations before it
  unfoldable pub query_node : Query → Node
  query_node q = fold-Query Node Node Node NodeSource (SetOp × Node) node_by_origin node_by_query node_by_block node_by_source node_by_step q

  -- those of its parts
  unfoldable pub origin_node : Origin → Node
  origin_node o = fold-Origin Node Node Node NodeSource (SetOp × Node) node_by_origin node_by_query node_by_block node_by_source node_by_step o

  unfoldable pub source_node : FromItem → NodeSource
  source_node s = fold-FromItem Node Node Node NodeSource (SetOp × Node) node_by_origin node_by_query node_by_block node_by_source node_by_step s

  unfoldable pub member_node : SetStep → SetOp × Node
  member_node s = fold-SetStep Node Node Node NodeSource (SetOp × Node) node_by_origin node_by_query node_by_block node_by_source node_by_step s
