-- The circuit of the tests: a table of one BIGINT, the number of its rows with their sum, and a view of that.
--     totals_of_numbers       the circuit
--     AreOfNumbers us         updates of its table
--     IsNew s                 an engine of the circuit that has not started
--     IsReady rows s          an engine of it that has started, whose table has at most so many rows
use Rattle.std.specs.Prelude.{◌≡◌, ◌≤ℤ◌, ℕ, true, false, List, [], ◌∷◌, length, pos, Some, None}
use Rattle.std.specs.List.{AllByRecursion}
use Rattle.sq_algebra.specs.ZSet.{total}
use Rattle.sq_expr.specs.Kinds.{AreOfKinds}
use Rattle.sq_expr.specs.declared.expr.Func.TheVariants.{CountAll, Sum}
use Rattle.sq_expr.specs.declared.expr.Kind.{Kind}
use Rattle.sq_expr.specs.declared.expr.Kind.TheVariants.{Bigint}
use Rattle.sq_ops.specs.declared.aggregate.AggSpec.{AggSpec}
use Rattle.sq_typed.specs.declared.update.Update.{Update}
use Rattle.sq_circuit.specs.Circuits.{table_at}
use Rattle.sq_circuit.specs.declared.circuit.Part.{Part}
use Rattle.sq_circuit.specs.declared.node.Node.TheVariants.{Aggregate, Table, View}
use Rattle.sq_engine.specs.Engines.{State, fresh}

abbrev pub numbers : List Kind
numbers = Bigint ∷ []

abbrev pub pairs : List Kind
pairs = Bigint ∷ Bigint ∷ []

-- how many rows there are, and the sum of their numbers
abbrev pub totals : AggSpec
totals = record { group = []; calls = record { func = CountAll; arg = 0 } ∷ record { func = Sum; arg = 0 } ∷ []; global = true }

abbrev pub table : Part
table = record { node = Table 0; kinds = numbers; place = false; owner = None }

abbrev pub inner : Part
inner = record { node = Aggregate 0 totals; kinds = pairs; place = true; owner = Some 0 }

abbrev pub view : Part
view = record { node = View 1 0; kinds = pairs; place = false; owner = Some 0 }

abbrev pub totals_of_numbers : List Part
totals_of_numbers = table ∷ inner ∷ view ∷ []

-- an update of the table
pub record IsOfNumbers (u : Update) : Type 0 where
  pub table : u.table ≡ 0
  pub of_kinds : AreOfKinds u.row numbers

abbrev pub AreOfNumbers : List Update → Type 0
AreOfNumbers us = AllByRecursion IsOfNumbers us

-- an engine of the circuit that has not started
pub record IsNew (s : State) : Type 0 where
  pub shards : ℕ
  pub is : s ≡ fresh totals_of_numbers shards

pub record IsReady (rows : ℕ) (s : State) : Type 0 where
  pub circuit : s.circuit ≡ totals_of_numbers
  pub started : s.started ≡ true
  pub one : length s.tables ≡ 1
  pub few : (t : ℕ) → total (table_at s.tables t) ≤ℤ pos rows
