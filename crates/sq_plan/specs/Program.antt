-- A program as a circuit.
--     table_kinds relations      the kinds of the columns of each table, in order
--     HasTables relations c      the tables of the circuit are those of the relations, in order, with the kinds of their columns
--     ShowsViews c tables given  the view nodes of the circuit are as many as the views, in order, and hold the rows that these give
--     IsPlanOf p c               the circuit c stands for the program p
use Rattle.std.specs.Prelude.{◌≡◌, ℕ, suc, ◌+◌, ◌*◌, ◌≤◌, false, List, [], ◌∷◌, length, map, slice_get, Option, Some, None}
use Rattle.std.specs.List.{filter_map}
use Rattle.sq_bridge.specs.Rows.{listed}
use Rattle.sq_catalog.specs.declared.relation.Relation.{Relation}
use Rattle.sq_catalog.specs.declared.relation.RelationKind.{RelationKind}
use Rattle.sq_catalog.specs.declared.relation.RelationKind.TheVariants as relation
use Rattle.sq_circuit.specs.Circuits.{kinds_at, verdict, whole}
use Rattle.sq_circuit.specs.Invariant.{table_count, view_count}
use Rattle.sq_circuit.specs.Nodes.{Rows}
use Rattle.sq_circuit.specs.declared.circuit.Part.{Part}
use Rattle.sq_circuit.specs.declared.node.Node.TheVariants as node
use Rattle.sq_expr.specs.declared.expr.Kind.{Kind}
use Rattle.sq_typed.specs.Fit.{TablesAreOfKinds, kinds_of}
use Rattle.sq_typed.specs.From.{Answer}
use Rattle.sq_typed.specs.Sources.{sources_in}
use Rattle.sq_typed.specs.Tables.{Tables}
use Rattle.sq_typed.specs.Views as typed
use Rattle.sq_typed.specs.Views.{Meant, views}
use Rattle.sq_plan.specs.Keyed.{AreKeyed}

-- ---- tables
abbrev pub if_table : RelationKind → List Kind → Option (List Kind)
if_table relation.Table kinds = Some kinds
if_table (relation.View printed) kinds = None

abbrev pub table_kinds : List Relation → List (List Kind)
table_kinds relations = filter_map (λ r. if_table r.kind (kinds_of r)) relations

abbrev pub table_part : ℕ → List Kind → Part
table_part t kinds = record { node = node.Table t; kinds = kinds; place = false; owner = None }

-- the nodes of tables with these kinds, from table t on
abbrev pub tables_from : ℕ → List (List Kind) → List Part
tables_from t [] = []
tables_from t (kinds ∷ kss) = table_part t kinds ∷ tables_from (suc t) kss

-- table t stands at t
pub record HasTables (relations : List Relation) (c : List Part) : Type 0 where
  pub many : table_count c ≡ length (table_kinds relations)
  pub each : (t : ℕ) (kinds : List Kind) → slice_get (table_kinds relations) t ≡ Some kinds → slice_get c t ≡ Some (table_part t kinds)

-- ---- views
abbrev pub view_part : List Part → ℕ → ℕ → Part
view_part c v input = record { node = node.View input v; kinds = kinds_at c input; place = false; owner = Some v }

-- the nodes of views that show these nodes of c, from view v on
abbrev pub views_from : List Part → ℕ → List ℕ → List Part
views_from c v [] = []
views_from c v (input ∷ inputs) = view_part c v input ∷ views_from c (suc v) inputs

-- view v stands at i if as many nodes are behind i as views behind v
abbrev pub IsViewAt : List Part → ℕ → ℕ → Type 0
IsViewAt c v i = i + view_count c ≡ length c + v

pub record ShowsViews (c : List Part) (tables : List Rows) (given : List Answer) : Type 0 where
  pub many : view_count c ≡ length given
  pub each : (v i : ℕ) (a : Answer) → slice_get given v ≡ Some a → IsViewAt c v i → whole c tables i ≡ listed a.rows

-- ---- programs
pub record IsPlanOf (p : Meant) (c : List Part) : Type 0 where
  pub tables : HasTables p.catalog c
  pub views : (tables : Tables) → TablesAreOfKinds tables p.catalog → ShowsViews c (map listed tables) (views p tables)
  pub verdict : (tables : Tables) → TablesAreOfKinds tables p.catalog → verdict c (map listed tables) ≡ typed.verdict p tables
  pub keyed : AreKeyed p c
  pub few : length c ≤ 40 * sources_in p + length p.catalog
