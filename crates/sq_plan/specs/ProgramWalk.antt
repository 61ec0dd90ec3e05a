-- How far the relations of a program have been gone through.
--     IsShown d shown tables v n     the node of view v, of those that are shown, holds the rows of n, and the view is to blame if n has a fault
--     Stands p at d nodes shown t tables      over these tables the nodes stand for the relations so far, and the others decide all views
--     Walk p at d nodes shown t      so many relations have nodes, of which t are tables and d.view are views
use Rattle.std.specs.Prelude.{◌≡◌, ℕ, ◌+◌, ◌*◌, ◌<◌, ◌≤◌, ◌^◌, List, ◌++◌, drop, fold, length, map, slice_get, take, Some, ⊤}
use Rattle.std.specs.List.{AllByRecursion}
use Rattle.sq_ast.specs.Sources.{sum}
use Rattle.sq_bridge.specs.Nodes.{Node}
use Rattle.sq_bridge.specs.Queries.{relation_node}
use Rattle.sq_bridge.specs.Views.{NodeStanding, node_standing, with_relation_node}
use Rattle.sq_catalog.specs.declared.relation.RelationKind.{RelationKind}
use Rattle.sq_catalog.specs.declared.relation.RelationKind.TheVariants.{Table, View}
use Rattle.sq_circuit.specs.Begun.{IsBegun}
use Rattle.sq_circuit.specs.Circuits.{owner_at}
use Rattle.sq_circuit.specs.Invariant.{table_count}
use Rattle.sq_circuit.specs.Nodes.{Rows}
use Rattle.sq_circuit.specs.declared.circuit.Part.{Part}
use Rattle.sq_expr.specs.declared.expr.Kind.{Kind}
use Rattle.sq_typed.specs.Checked.{IsChecked}
use Rattle.sq_typed.specs.Fit as fit
use Rattle.sq_typed.specs.Fit.{ProgramFits}
use Rattle.sq_typed.specs.Sources.{query_sources, sources_in}
use Rattle.sq_typed.specs.Views.{Meant}
use Rattle.sq_typed.specs.declared.limits.TheConstants.{MOST_COLUMNS}
use Rattle.sq_plan.specs.Drafts.{IsNode, blames_view, worth_of}
use Rattle.sq_plan.specs.Keyed.{AreKeyed}
use Rattle.sq_plan.specs.Plans.{relation_kinds, relation_nodes}
use Rattle.sq_plan.specs.Program.{table_kinds, tables_from}
use Rattle.sq_plan.specs.declared.draft.Draft.{Draft}
use Rattle.sq_plan.specs.declared.relations.Walked.{Walked}

abbrev pub IsView : RelationKind → Type 0
IsView Table = ⊥
IsView (View printed) = ⊤

abbrev pub IsNarrowKinds : List Kind → Type 0
IsNarrowKinds kinds = length kinds ≤ MOST_COLUMNS

pub record IsShown (d : Draft) (shown : List ℕ) (tables : List Rows) (v : ℕ) (n : Node) : Type 0 where
  pub node : ℕ
  pub at : slice_get shown v ≡ Some node
  pub low : node < length d.parts.items
  pub rows : worth_of d node tables ≡ n.rows
  pub blame : blames_view d.parts.items tables v ≡ n.fault

pub record Stands (p : Meant) (at : ℕ) (d : Draft) (nodes shown : List ℕ) (t : ℕ) (tables : List Rows) : Type 0 where
  pub before : NodeStanding
  pub contents : map relation_node before.contents ≡ relation_nodes d nodes tables
  pub tables_left : before.tables ≡ drop t tables
  pub queries_left : before.queries ≡ drop d.view p.queries
  pub many : length before.given ≡ d.view
  pub given : (v : ℕ) (n : Node) → slice_get before.given v ≡ Some n → IsShown d shown tables v n
  pub goes_on : node_standing p tables ≡ fold (λ s r. with_relation_node r.kind (length r.columns) s) before (drop at p.catalog)

-- how many nodes a program has at most, without those of its views
abbrev pub most_nodes : Meant → ℕ
most_nodes p = length (table_kinds p.catalog) + 40 * sources_in p

pub record Walk (p : Meant) (at : ℕ) (d : Draft) (nodes shown : List ℕ) (t : ℕ) : Type 0 where
  pub checked : IsChecked p
  pub begun : (views : ℕ) → d.view ≤ views → IsBegun views d.view d.parts.items
  pub are : AllByRecursion (IsNode d) nodes
  pub narrow : AllByRecursion IsNarrowKinds (relation_kinds d nodes)
  pub kinds : relation_kinds d nodes ≡ map fit.kinds_of (take at p.catalog)
  pub fits : ProgramFits (relation_kinds d nodes) (drop d.view p.queries) (drop at p.catalog)
  pub keyed : AreKeyed p d.parts.items
  pub more : List Part
  pub is : d.parts.items ≡ tables_from 0 (table_kinds p.catalog) ++ more
  pub no_tables : table_count more ≡ 0
  pub tables_left : drop t (table_kinds p.catalog) ≡ table_kinds (drop at p.catalog)
  pub owners : (i v : ℕ) → owner_at d.parts.items i ≡ Some v → v < d.view
  pub many : length shown ≡ d.view
  pub low : AllByRecursion (IsNode d) shown
  pub not_later : (v node w : ℕ) → slice_get shown v ≡ Some node → owner_at d.parts.items node ≡ Some w → w ≤ v
  pub count : t + d.view ≡ at
  pub there : d.view ≤ length p.queries
  pub few : length d.parts.items + 40 * sum (map query_sources (drop d.view p.queries)) ≤ most_nodes p
  pub room : most_nodes p + length p.catalog < 2 ^ 32
  pub stands : (tables : List Rows) → Stands p at d nodes shown t tables

abbrev pub Walks : Meant → ℕ → Walked → Type 0
Walks p at w = Walk p at w.draft w.nodes.items w.shown.items w.tables
