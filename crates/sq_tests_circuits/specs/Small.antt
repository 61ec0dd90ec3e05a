-- The circuits of the tests: two tables of one BIGINT, and a node or two over them.
--     small node own place      the tables, this node, and a view of it
--     two_sums                  the tables, a sum of both for the view 1, a sum of the first with itself for the view 0, and these views
--     HasTwoTables c            the tables of c are two, of one BIGINT.      AreLists tables     two tables as a circuit wants them
use Rattle.std.specs.Prelude.{◌≡◌, ℕ, Bool, true, false, List, [], ◌∷◌, length, slice_get, Some, None}
use Rattle.sq_expr.specs.declared.cond.Cond.TheVariants.{All}
use Rattle.sq_expr.specs.declared.expr.Func.TheVariants.{CountAll, Sum}
use Rattle.sq_expr.specs.declared.expr.Kind.{Kind}
use Rattle.sq_ops.specs.declared.aggregate.AggSpec.{AggSpec}
use Rattle.sq_ops.specs.declared.bilinear.Pairing.{Pairing}
use Rattle.sq_expr.specs.declared.expr.Kind.TheVariants.{Bigint}
use Rattle.sq_circuit.specs.Circuits.{table_at}
use Rattle.sq_circuit.specs.Invariant.{HasKinds, IsCircuit, IsListed, table_count}
use Rattle.sq_circuit.specs.Nodes.{Rows}
use Rattle.sq_circuit.specs.declared.circuit.Part.{Part}
use Rattle.sq_circuit.specs.declared.node.Node.{Node}
use Rattle.sq_circuit.specs.declared.node.Node.TheVariants.{Table, Plus, View}

abbrev pub numbers : List Kind
numbers = Bigint ∷ []

abbrev pub table : ℕ → Part
table t = record { node = Table t; kinds = numbers; place = false; owner = None }

abbrev pub inner : Node → List Kind → Bool → ℕ → Part
inner node own place owner = record { node = node; kinds = own; place = place; owner = Some owner }

abbrev pub view : ℕ → List Kind → ℕ → Part
view input own v = record { node = View input v; kinds = own; place = false; owner = Some v }

abbrev pub small : Node → List Kind → Bool → List Part
small node own place = table 0 ∷ table 1 ∷ inner node own place 0 ∷ view 2 own 0 ∷ []

abbrev pub two_sums : List Part
two_sums = table 0 ∷ table 1 ∷ inner (Plus 0 1) numbers true 1 ∷ inner (Plus 0 0) numbers true 0 ∷ view 3 numbers 0 ∷ view 2 numbers 1 ∷ []

pub record HasTwoTables (c : List Part) : Type 0 where
  pub count : table_count c ≡ 2
  pub each : (i : ℕ) (p : Part) (t : ℕ) → slice_get c i ≡ Some p → p.node ≡ Table t → p.kinds ≡ numbers

-- a circuit for the tests
pub record IsSample (c : List Part) : Type 0 where
  pub circuit : IsCircuit c
  pub tables : HasTwoTables c

pub record IsTableOf (kinds : List Kind) (z : Rows) : Type 0 where
  pub of_kinds : HasKinds kinds z
  pub listed : IsListed z

abbrev pub IsTable : Rows → Type 0
IsTable z = IsTableOf numbers z

pub record AreLists (tables : List Rows) : Type 0 where
  pub two : length tables ≡ 2
  pub each : (t : ℕ) → IsTable (table_at tables t)

-- the rows of both tables with the same number, beside each other
abbrev pub by_number : Pairing
by_number = record { left = 0 ∷ []; right = 0 ∷ []; nulls_match = false; keep = All []; items = 0 ∷ 1 ∷ [] }

-- how many rows there are, and the sum of their numbers
abbrev pub totals : AggSpec
totals = record { group = []; calls = record { func = CountAll; arg = 0 } ∷ record { func = Sum; arg = 0 } ∷ []; global = true }
