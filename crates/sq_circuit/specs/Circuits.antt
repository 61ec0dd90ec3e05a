-- Circuits over whole tables: the Z-set of each node, which nodes have a fault, and the verdict. A circuit is the list of its parts.
--     node_at, kinds_at, place_at, owner_at c i     what is known of the node i
--     whole c tables i        the Z-set of the node i
--     has_fault c tables i    it is a place with more than 2^61 rows, or a number that it tests is no BIGINT
--     verdict c tables        the least owner of a node with a fault
--     is_sound c tables i     neither the node i nor any that it needs, directly or through others, has a fault
--     known c tables i        its Z-set, if it is sound
use Rattle.std.specs.Prelude.{ℕ, ◌^◌, Bool, true, false, not, ◌&&◌, ◌||◌, if◌then◌else◌, List, [], length, get_or, slice_get, pos, int_lt, is_some, Option, Some, None}
use Rattle.sq_expr.specs.declared.expr.Kind.{Kind}
use Rattle.sq_algebra.specs.ZSet.{total}
use Rattle.sq_ops.specs.Aggregates.{first_sum_outside}
use Rattle.sq_ops.specs.Extensions.{first_value_outside}
use Rattle.sq_circuit.specs.Along.{along, least_below}
use Rattle.sq_circuit.specs.LinearOps.{tested_of}
use Rattle.sq_circuit.specs.Nodes.{Rows, Source, left_source, none, operator, read, right_source}
use Rattle.sq_circuit.specs.declared.circuit.Part.{Part}
use Rattle.sq_circuit.specs.declared.node.Node.{Node}
use Rattle.sq_circuit.specs.declared.node.Node.TheVariants.{Table, Linear, Join, Distinct, Aggregate, Plus, Minus, View}

-- ---- parts by number
abbrev pub node_in : Option Part → Option Node
node_in None = None
node_in (Some p) = Some p.node

abbrev pub kinds_in : Option Part → List Kind
kinds_in None = []
kinds_in (Some p) = p.kinds

abbrev pub place_in : Option Part → Bool
place_in None = false
place_in (Some p) = p.place

abbrev pub owner_in : Option Part → Option ℕ
owner_in None = None
owner_in (Some p) = p.owner

module _ (c : List Part) (i : ℕ) where
  abbrev pub node_at : Option Node
  node_at = node_in (slice_get c i)

  abbrev pub kinds_at : List Kind
  kinds_at = kinds_in (slice_get c i)

  abbrev pub place_at : Bool
  place_at = place_in (slice_get c i)

  abbrev pub owner_at : Option ℕ
  owner_at = owner_in (slice_get c i)

-- ---- values
abbrev pub table_at : List Rows → ℕ → Rows
table_at tables t = get_or tables t none

abbrev pub value_of : Option Part → (Source → Rows) → Rows
value_of None from = none
value_of (Some p) from = operator p.node (from (left_source p.node)) (from (right_source p.node))

abbrev pub value_step : List Part → List Rows → ℕ → (ℕ → Rows) → Rows
value_step c tables i below = value_of (slice_get c i) (read (table_at tables) below none)

unfoldable pub whole : List Part → List Rows → ℕ → Rows
whole c tables i = along none (value_step c tables) i

-- what a node over whole tables reads
abbrev pub whole_from : List Part → List Rows → Source → Rows
whole_from c tables s = read (table_at tables) (whole c tables) none s

-- ---- faults
abbrev pub lists_too_many : Rows → Bool
lists_too_many z = int_lt (pos (2 ^ 61)) (total z)

-- whether an item of a Project on some row of y, or a SUM of an Aggregate over y, lies outside the range of BIGINT
abbrev pub has_number_outside : Node → Rows → Bool
has_number_outside (Table t) y = false
has_number_outside (Linear i op) y = is_some (first_value_outside (tested_of op) y)
has_number_outside (Join l r op) y = false
has_number_outside (Distinct i) y = false
has_number_outside (Aggregate i spec) y = is_some (first_sum_outside spec y)
has_number_outside (Plus l r) y = false
has_number_outside (Minus l r) y = false
has_number_outside (View i v) y = false

abbrev pub fault_of : Option Part → (Source → Rows) → Rows → Bool
fault_of None from z = false
fault_of (Some p) from z = (p.place && lists_too_many z) || has_number_outside p.node (from (left_source p.node))

unfoldable pub has_fault : List Part → List Rows → ℕ → Bool
has_fault c tables i = fault_of (slice_get c i) (whole_from c tables) (whole c tables i)

abbrev pub verdict : List Part → List Rows → Option ℕ
verdict c tables = least_below (λ i. if has_fault c tables i then owner_at c i else None) (length c)

-- ---- sound nodes
abbrev pub are_sound : Option Part → (Source → Bool) → Bool
are_sound None from = true
are_sound (Some p) from = from (left_source p.node) && from (right_source p.node)

abbrev pub sound_step : List Part → List Rows → ℕ → (ℕ → Bool) → Bool
sound_step c tables i below = not (has_fault c tables i) && are_sound (slice_get c i) (read (λ t. true) below true)

unfoldable pub is_sound : List Part → List Rows → ℕ → Bool
is_sound c tables i = along true (sound_step c tables) i

abbrev pub known : List Part → List Rows → ℕ → Option Rows
known c tables i = if is_sound c tables i then Some (whole c tables i) else None
