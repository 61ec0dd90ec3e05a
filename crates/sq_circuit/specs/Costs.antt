-- The cost of a tick, in steps: a sum over the nodes and the keys of the rows that change in what they read. Rows are counted once,
-- whatever their weight is.
--     before first z          z, but no rows at the start, before which nothing was shown
--     join_cost op y dy z dz  for each changed key 2, and the old rows of this key on both sides
--     aggregate_cost first spec d      for each changed group 3, and for each call 1 and its changed rows; at the start also for that of all rows
--     cost first c tables changes      the sum over all nodes, where `changes` has the change of each table
use Rattle.std.specs.Prelude.{ℕ, ◌+◌, ◌*◌, Bool, ◌&&◌, if◌then◌else◌, List, [], ◌∷◌, ◌++◌, map, length, slice_get, Option, Some, None}
use Rattle.std.specs.List.{filter_map, sum_by}
use Rattle.sq_value.specs.declared.value.Value.{Value}
use Rattle.sq_value.specs.Order.{row_cmp}
use Rattle.sq_algebra.specs.Keyed.{at_key, at_some_key, numbers_below}
use Rattle.sq_algebra.specs.Listed.{in_order}
use Rattle.sq_algebra.specs.ZSet.{entries, minus, plus}
use Rattle.sq_ops.specs.Aggregates.{group_of}
use Rattle.sq_ops.specs.Joins.{key_in}
use Rattle.sq_ops.specs.declared.aggregate.AggSpec.{AggSpec}
use Rattle.sq_ops.specs.declared.bilinear.Pairing.{Pairing}
use Rattle.sq_circuit.specs.Circuits.{whole_from}
use Rattle.sq_circuit.specs.Nodes.{Rows, Source, left_source, none, right_source}
use Rattle.sq_circuit.specs.declared.circuit.Part.{Part}
use Rattle.sq_circuit.specs.declared.node.Node.{Node}
use Rattle.sq_circuit.specs.declared.node.Node.TheVariants.{Table, Linear, Join, Distinct, Aggregate, Plus, Minus, View}

abbrev pub rows_in : Rows → ℕ
rows_in z = length (entries z)

abbrev pub before : Bool → Rows → Rows
before first z = if first then none else z

-- ---- a join
abbrev pub left_rows : Pairing → List Value → Rows → Rows
left_rows op c z = at_some_key row_cmp (key_in op.left op.nulls_match) c z

abbrev pub right_rows : Pairing → List Value → Rows → Rows
right_rows op c z = at_some_key row_cmp (key_in op.right op.nulls_match) c z

-- the keys of the changed rows, each once; a row with no key finds no other, and is not kept
abbrev pub changed_keys : Pairing → Rows → Rows → List (List Value)
changed_keys op dy dz = in_order row_cmp (filter_map (λ e. key_in op.left op.nulls_match e.0) (entries dy) ++ filter_map (λ e. key_in op.right op.nulls_match e.0) (entries dz))

abbrev pub join_cost : Pairing → Rows → Rows → Rows → Rows → ℕ
join_cost op y dy z dz = sum_by (λ c. 2 + (rows_in (left_rows op c y) + rows_in (right_rows op c z))) (changed_keys op dy dz)

-- ---- an aggregate
-- the group of all rows, which is shown at the start whether or not it has rows
abbrev pub first_group : Bool → AggSpec → List (List Value)
first_group first spec = if first && spec.global then [] ∷ [] else []

abbrev pub changed_groups : Bool → AggSpec → Rows → List (List Value)
changed_groups first spec d = in_order row_cmp (first_group first spec ++ map (λ e. group_of spec e.0) (entries d))

abbrev pub group_cost : AggSpec → Rows → List Value → ℕ
group_cost spec d c = 3 + length spec.calls * (rows_in (at_key row_cmp (group_of spec) c d) + 1)

abbrev pub aggregate_cost : Bool → AggSpec → Rows → ℕ
aggregate_cost first spec d = sum_by (group_cost spec d) (changed_groups first spec d)

-- ---- a node, over the old rows y and z that it reads and their changes
abbrev pub node_cost : Bool → Node → Rows → Rows → Rows → Rows → ℕ
node_cost first (Table t) y dy z dz = 0
node_cost first (Linear i op) y dy z dz = 0
node_cost first (Join l r op) y dy z dz = join_cost op y dy z dz
node_cost first (Distinct i) y dy z dz = rows_in dy
node_cost first (Aggregate i spec) y dy z dz = aggregate_cost first spec dy
node_cost first (Plus l r) y dy z dz = 0
node_cost first (Minus l r) y dy z dz = 0
node_cost first (View i v) y dy z dz = 0

-- ---- a circuit
-- the tables after their changes
abbrev pub changed_tables : List Rows → List Rows → List Rows
changed_tables [] changes = []
changed_tables (z ∷ tables) [] = z ∷ tables
changed_tables (z ∷ tables) (d ∷ changes) = plus z d ∷ changed_tables tables changes

module _ (first : Bool) (c : List Part) (old new : List Rows) where
  -- what a source held, and how that has changed
  abbrev pub held : Source → Rows
  held s = before first (whole_from c old s)

  abbrev pub change : Source → Rows
  change s = minus (whole_from c new s) (held s)

  abbrev pub cost_at : Option Part → ℕ
  cost_at None = 0
  cost_at (Some p) = node_cost first p.node (held (left_source p.node)) (change (left_source p.node)) (held (right_source p.node)) (change (right_source p.node))

abbrev pub cost : Bool → List Part → List Rows → List Rows → ℕ
cost first c tables changes = sum_by (λ i. cost_at first c tables (changed_tables tables changes) (slice_get c i)) (numbers_below (length c))
