-- Engines that run the sample.
--     HasTables c           the first tables of a circuit are those of the sample
--     IsBehind s seed t     an engine of such a circuit whose tables are those after t ticks of the sample
--     rises s delta         the total of what a change of the tables changes in each view
use Rattle.std.specs.Prelude.{◌≡◌, ℕ, ℤ, List, [], ◌∷◌, map}
use Rattle.sq_algebra.specs.ZSet.{total}
use Rattle.sq_expr.specs.declared.expr.Kind.{Kind}
use Rattle.sq_expr.specs.declared.expr.Kind.TheVariants.{Integer}
use Rattle.sq_circuit.specs.Circuits.{kinds_at}
use Rattle.sq_circuit.specs.Nodes.{Rows}
use Rattle.sq_circuit.specs.declared.circuit.Part.{Part}
use Rattle.sq_engine.specs.Admitting.{in_z_sets}
use Rattle.sq_engine.specs.Engines.{State, views_between, with_changes}
use Rattle.sq_sample.specs.Ticks.{tables_after}

abbrev pub d_kinds : List Kind
d_kinds = Integer ∷ Integer ∷ []

abbrev pub e_kinds : List Kind
e_kinds = Integer ∷ Integer ∷ Integer ∷ []

pub record HasTables (c : List Part) : Type 0 where
  pub d : kinds_at c 0 ≡ d_kinds
  pub e : kinds_at c 1 ≡ e_kinds

pub record IsBehind (s : State) (seed t : ℕ) : Type 0 where
  pub kinds : HasTables s.circuit
  pub tables : s.tables ≡ in_z_sets (tables_after seed t)

abbrev pub rises : State → List Rows → List ℤ
rises s delta = map total (views_between s.circuit s.tables (with_changes s.tables delta))
