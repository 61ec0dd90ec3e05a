-- The views of a program as operators over its tables.
--     view_nodes p tables      the node of each view, in order of creation.      node_verdict p tables      the first with a fault
use Rattle.std.specs.Prelude.{ℕ, false, List, [], ◌∷◌, ◌++◌, fold, length, drop, position, Option}
use Rattle.sq_value.specs.Order.{row_cmp}
use Rattle.sq_algebra.specs.ZSet.{zero}
use Rattle.sq_catalog.specs.declared.relation.RelationKind.{RelationKind}
use Rattle.sq_catalog.specs.declared.relation.RelationKind.TheVariants.{Table, View}
use Rattle.sq_typed.specs.declared.query.Query.{Query}
use Rattle.sq_typed.specs.Views.{Meant}
use Rattle.sq_bridge.specs.Nodes.{Node, no_node}
use Rattle.sq_bridge.specs.Queries.{query_node}
use Rattle.sq_bridge.specs.Rows.{Rows}

-- how far the relations have been gone through: the nodes of those before, of the views among them, and the tables and
-- queries that are left
pub record NodeStanding : Type 0 where
  pub contents : List Node
  pub given : List Node
  pub tables : List Rows
  pub queries : List Query

abbrev pub first_table : List Rows → Rows
first_table [] = zero row_cmp
first_table (rows ∷ tables) = rows

abbrev pub node_of_first : List Node → List Query → Node
node_of_first relations [] = no_node
node_of_first relations (q ∷ queries) = query_node relations q

abbrev pub with_table_node : ℕ → NodeStanding → NodeStanding
with_table_node width s = record {
  contents = s.contents ++ record { width = width; rows = first_table s.tables; fault = false } ∷ [];
  given = s.given;
  tables = drop 1 s.tables;
  queries = s.queries;
}

abbrev pub with_view_node : Node → NodeStanding → NodeStanding
with_view_node n s = record {
  contents = s.contents ++ n ∷ [];
  given = s.given ++ n ∷ [];
  tables = s.tables;
  queries = drop 1 s.queries;
}

abbrev pub with_relation_node : RelationKind → ℕ → NodeStanding → NodeStanding
with_relation_node Table width s = with_table_node width s
with_relation_node (View printed) width s = with_view_node (node_of_first s.contents s.queries) s

abbrev pub node_standing : Meant → List Rows → NodeStanding
node_standing p tables = fold (λ s r. with_relation_node r.kind (length r.columns) s) (record { contents = []; given = []; tables = tables; queries = p.queries }) p.catalog

-- the node of each view over the tables, in order of creation
unfoldable pub view_nodes : Meant → List Rows → List Node
view_nodes p tables = (node_standing p tables).given

-- the first view whose node has a fault
unfoldable pub node_verdict : Meant → List Rows → Option ℕ
node_verdict p tables = position (λ n. n.fault) (view_nodes p tables)
