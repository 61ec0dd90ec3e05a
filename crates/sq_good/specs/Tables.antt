-- What the tests ask of tables, in parts.
--     table_of n              the table of a node, if it is a table's
--     AreListed tables        each is a list of at most 2^61 rows
--     FitsNode c tables i     the node i is no table's, or this table has rows of the node's kinds alone
use Rattle.std.specs.Prelude.{◌≡◌, ℕ, List, slice_get, Option, Some, None}
use Rattle.sq_circuit.specs.Circuits.{table_at}
use Rattle.sq_circuit.specs.Invariant.{HasKinds, IsListed}
use Rattle.sq_circuit.specs.Nodes.{Rows}
use Rattle.sq_circuit.specs.declared.circuit.Part.{Part}
use Rattle.sq_circuit.specs.declared.node.Node.{Node}
use Rattle.sq_circuit.specs.declared.node.Node.TheVariants.{Table, Linear, Join, Distinct, Aggregate, Plus, Minus, View}

abbrev pub table_of : Node → Option ℕ
table_of (Table t) = Some t
table_of (Linear i op) = None
table_of (Join l r op) = None
table_of (Distinct i) = None
table_of (Aggregate i spec) = None
table_of (Plus l r) = None
table_of (Minus l r) = None
table_of (View i v) = None

abbrev pub AreListed : List Rows → Type 0
AreListed tables = (t : ℕ) → IsListed (table_at tables t)

abbrev pub FitsNode : List Part → List Rows → ℕ → Type 0
FitsNode c tables i = (p : Part) (t : ℕ) → slice_get c i ≡ Some p → p.node ≡ Table t → HasKinds p.kinds (table_at tables t)
