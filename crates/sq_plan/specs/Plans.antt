-- A query over the nodes of the relations before it.
--     PartOf q r             r is the query q, or stands in it
--     IsNarrow kinds q       the columns of the query and of all that stands in it are numbered in 32 bits
--     CanPlan d nodes q      the relations have these nodes, the query fits them, and there is room
--     Plans d e nodes q i    the node i stands for the query; CanPlanOrigin, PlansOrigin, CanPlanItems and PlansItems alike for sources
use Rattle.std.specs.Prelude.{◌≡◌, ℕ, ◌+◌, ◌*◌, ◌<◌, ◌≤◌, ◌^◌, true, ◌||◌, List, ◌++◌, length, map, slice_get, Option, Some, None}
use Rattle.std.specs.List.{AllByRecursion, list_any}
use Rattle.sq_ast.specs.Sources.{sum}
use Rattle.sq_bridge.specs.Small.{AreFewGroups}
use Rattle.sq_bridge.specs.Nodes.{Node}
use Rattle.sq_bridge.specs.Queries.{both_of, origin_node, query_node, relation_node}
use Rattle.sq_circuit.specs.Invariant.{table_count}
use Rattle.sq_circuit.specs.Nodes.{Rows}
use Rattle.sq_circuit.specs.declared.circuit.Part.{Part}
use Rattle.sq_expr.specs.declared.expr.Kind.{Kind}
use Rattle.sq_typed.specs.declared.query.Block.{Block, out-Block}
use Rattle.sq_typed.specs.declared.query.FromItem.{FromItem}
use Rattle.sq_typed.specs.declared.query.Origin.{Origin}
use Rattle.sq_typed.specs.declared.query.Origin.TheVariants as origin
use Rattle.sq_typed.specs.declared.query.Query.{Query}
use Rattle.sq_typed.specs.declared.query.Query.TheVariants as query
use Rattle.sq_typed.specs.declared.query.SetStep.{SetStep}
use Rattle.sq_typed.specs.Fit.{Fits, Pairwise, are_matched, kinded_origin, kinds_given, source_kinds}
use Rattle.sq_typed.specs.Sources.{origin_sources, query_sources}
use Rattle.sq_plan.specs.Drafts.{CanAdd, IsDraft, IsNode, IsOwnedBy, blames, kinds_of}
use Rattle.sq_plan.specs.Steps.{Becomes, node_of, set_kinds, set_of}
use Rattle.sq_plan.specs.declared.draft.Draft.{Draft}

-- ---- parts of a query
pub data PartOf : Query → Query → Type 0 where
  Itself : (q : Query) → PartOf q q
  InFrom : (b : Block) (n : ℕ) (s : FromItem) (q r : Query) → slice_get (out-Block b).sources n ≡ Some s → s.source ≡ origin.Query q → PartOf q r → PartOf (query.Block b) r
  First : (q : Query) (rest : List SetStep) (r : Query) → PartOf q r → PartOf (query.Chain q rest) r
  Later : (q : Query) (rest : List SetStep) (n : ℕ) (s : SetStep) (r : Query) → slice_get rest n ≡ Some s → PartOf s.query r → PartOf (query.Chain q rest) r
  Member : (qs : List Query) (n : ℕ) (q r : Query) → slice_get qs n ≡ Some q → PartOf q r → PartOf (query.Intersect qs) r

pub record HasFewColumns (kinds : List (List Kind)) (r : Query) : Type 0 where
  pub given : length (kinds_given kinds r) < 2 ^ 32
  pub joined : (b : Block) → r ≡ query.Block b → length (source_kinds kinds b) < 2 ^ 32
  pub grouped : (b : Block) → r ≡ query.Block b → AreFewGroups (out-Block b).grouping

abbrev pub IsNarrow : List (List Kind) → Query → Type 0
IsNarrow kinds q = (r : Query) → PartOf q r → HasFewColumns kinds r

-- ---- relations by their nodes
abbrev pub relation_kinds : Draft → List ℕ → List (List Kind)
relation_kinds d nodes = map (kinds_of d) nodes

abbrev pub relation_nodes : Draft → List ℕ → List Rows → List Node
relation_nodes d nodes tables = map (node_of d tables) nodes

-- ---- queries
pub record CanPlan (d : Draft) (nodes : List ℕ) (q : Query) : Type 0 where
  pub are : AllByRecursion (IsNode d) nodes
  pub fits : Fits (relation_kinds d nodes) q
  pub narrow : IsNarrow (relation_kinds d nodes) q
  pub room : CanAdd (40 * query_sources q) d

pub record Plans (d e : Draft) (nodes : List ℕ) (q : Query) (i : ℕ) : Type 0 where
  pub becomes : Becomes (40 * query_sources q) d e i (kinds_given (relation_kinds d nodes) q) (λ tables. query_node (relation_nodes d nodes tables) q)
  pub few : length e.parts.items + 4 ≤ length d.parts.items + 40 * query_sources q

-- ---- what stands in FROM
pub record OriginFits (kinds : List (List Kind)) (o : Origin) : Type 0 where
  pub fits : (kinded_origin kinds o).fits ≡ true
  pub narrow : (q : Query) → o ≡ origin.Query q → IsNarrow kinds q

pub record CanPlanOrigin (d : Draft) (nodes : List ℕ) (o : Origin) : Type 0 where
  pub are : AllByRecursion (IsNode d) nodes
  pub fits : OriginFits (relation_kinds d nodes) o
  pub room : CanAdd (40 * origin_sources o) d

pub record PlansOrigin (d e : Draft) (nodes : List ℕ) (o : Origin) (i : ℕ) : Type 0 where
  pub becomes : Becomes (40 * origin_sources o) d e i (kinded_origin (relation_kinds d nodes) o).kinds (λ tables. origin_node (relation_nodes d nodes tables) o)
  pub few : length e.parts.items + 20 ≤ length d.parts.items + 40 * origin_sources o

-- ---- all sources of a block
abbrev pub items_sources : List FromItem → ℕ
items_sources items = sum (map (λ s. origin_sources s.source) items)

pub record CanPlanItems (d : Draft) (nodes : List ℕ) (items : List FromItem) : Type 0 where
  pub are : AllByRecursion (IsNode d) nodes
  pub fit : AllByRecursion (λ s. OriginFits (relation_kinds d nodes) s.source) items
  pub room : CanAdd (40 * items_sources items) d

pub record IsSourceOf (d e : Draft) (nodes : List ℕ) (i : ℕ) (s : FromItem) : Type 0 where
  pub low : IsNode e i
  pub kinds : kinds_of e i ≡ (kinded_origin (relation_kinds d nodes) s.source).kinds
  pub node : (tables : List Rows) → node_of e tables i ≡ relation_node (origin_node (relation_nodes d nodes tables) s.source)

pub record PlansItems (d e : Draft) (nodes found : List ℕ) (items : List FromItem) : Type 0 where
  pub view : e.view ≡ d.view
  pub more : List Part
  pub is : e.parts.items ≡ d.parts.items ++ more
  pub no_tables : table_count more ≡ 0
  pub owned : AllByRecursion (IsOwnedBy d.view) more
  pub draft : IsDraft e
  pub stand : Pairwise (IsSourceOf d e nodes) found items
  pub blame : (tables : List Rows) → blames e tables ≡ (blames d tables || list_any (λ s. (origin_node (relation_nodes d nodes tables) s.source).fault) items)
  pub few : length e.parts.items + 20 * length items ≤ length d.parts.items + 40 * items_sources items

-- ---- members of INTERSECT
abbrev pub CanMeet : Draft → Option ℕ → ℕ → Type 0
CanMeet d None more = IsDraft d
CanMeet d (Some before) more = CanAdd 4 d × (IsNode d before × (IsNode d more × ((are_matched (kinds_of d before) (kinds_of d more) ≡ true) × (length (kinds_of d before) < 2 ^ 32))))

abbrev pub Meets : Draft → Draft → Option ℕ → ℕ → ℕ → Type 0
Meets d e None more i = (i ≡ more) × (e ≡ d)
Meets d e (Some before) more i = Becomes 4 d e i (set_kinds d before more) (set_of d before more both_of)
