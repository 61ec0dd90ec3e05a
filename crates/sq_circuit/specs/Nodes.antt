-- Nodes: what they read, and what they make of it.
--     Source                  where a node reads: nowhere, a table, or a node.      read outer inner other s     what stands there
--     left_source, right_source n     where a node reads on its left and on its right
--     operator n y z          what the node makes of y on its left and z on its right
--     standing n, core n y z  what is there of it over no rows, and what its rows add to that, key by key
--     left_key, right_key n   the key of a row that it reads: the key columns of a Join, the group columns of an Aggregate, and else the row
use Rattle.std.specs.Prelude.{ℕ, List}
use Rattle.sq_value.specs.declared.value.Value.{Value}
use Rattle.sq_value.specs.Order.{row_cmp}
use Rattle.sq_algebra.specs.Operators.{distinct, image}
use Rattle.sq_algebra.specs.ZSet.{ZSet, zero, plus, minus}
use Rattle.sq_ops.specs.Aggregates.{aggregated, group_of, part_of}
use Rattle.sq_ops.specs.Joins.{chosen, joined, key_in}
use Rattle.sq_expr.specs.Meaning.{columns_of}
use Rattle.sq_ops.specs.Wholes.{standing_rows}
use Rattle.sq_ops.specs.declared.aggregate.AggSpec.{AggSpec}
use Rattle.sq_ops.specs.declared.bilinear.Pairing.{Pairing}
use Rattle.sq_circuit.specs.LinearOps.{images_of}
use Rattle.sq_circuit.specs.declared.node.Node.{Node}
use Rattle.sq_circuit.specs.declared.node.Node.TheVariants.{Table, Linear, Join, Distinct, Aggregate, Plus, Minus, View}

abbrev pub Rows : Type 0
Rows = ZSet (List Value) row_cmp

abbrev pub none : Rows
none = zero row_cmp

-- ---- what a node reads
pub data Source : Type 0 where
  Nowhere : Source
  Outer : ℕ → Source
  Inner : ℕ → Source

abbrev pub read : {A : Type 0} → (ℕ → A) → (ℕ → A) → A → Source → A
read outer inner other Nowhere = other
read outer inner other (Outer t) = outer t
read outer inner other (Inner i) = inner i

abbrev pub left_source : Node → Source
left_source (Table t) = Outer t
left_source (Linear i op) = Inner i
left_source (Join l r op) = Inner l
left_source (Distinct i) = Inner i
left_source (Aggregate i spec) = Inner i
left_source (Plus l r) = Inner l
left_source (Minus l r) = Inner l
left_source (View i v) = Inner i

abbrev pub right_source : Node → Source
right_source (Table t) = Nowhere
right_source (Linear i op) = Nowhere
right_source (Join l r op) = Inner r
right_source (Distinct i) = Nowhere
right_source (Aggregate i spec) = Nowhere
right_source (Plus l r) = Inner r
right_source (Minus l r) = Inner r
right_source (View i v) = Nowhere

-- ---- what a node makes of it
abbrev pub paired : Pairing → Rows → Rows → Rows
paired op y z = joined (key_in op.left op.nulls_match) (key_in op.right op.nulls_match) (chosen op.keep op.items) y z

abbrev pub operator : Node → Rows → Rows → Rows
operator (Table t) y z = y
operator (Linear i op) y z = image row_cmp (images_of op) y
operator (Join l r op) y z = paired op y z
operator (Distinct i) y z = distinct y
operator (Aggregate i spec) y z = aggregated spec y
operator (Plus l r) y z = plus y z
operator (Minus l r) y z = minus y z
operator (View i v) y z = y

-- the row that a global aggregate shows over no rows
abbrev pub shown_for_none : AggSpec → Rows
shown_for_none spec = standing_rows (part_of spec.global spec.calls) spec.global

abbrev pub standing : Node → Rows
standing (Table t) = none
standing (Linear i op) = none
standing (Join l r op) = none
standing (Distinct i) = none
standing (Aggregate i spec) = shown_for_none spec
standing (Plus l r) = none
standing (Minus l r) = none
standing (View i v) = none

abbrev pub core : Node → Rows → Rows → Rows
core (Table t) y z = y
core (Linear i op) y z = image row_cmp (images_of op) y
core (Join l r op) y z = paired op y z
core (Distinct i) y z = distinct y
core (Aggregate i spec) y z = minus (aggregated spec y) (shown_for_none spec)
core (Plus l r) y z = plus y z
core (Minus l r) y z = minus y z
core (View i v) y z = y

-- ---- the key of a row that it reads
abbrev pub left_key : Node → List Value → List Value
left_key (Table t) row = row
left_key (Linear i op) row = row
left_key (Join l r op) row = columns_of op.left row
left_key (Distinct i) row = row
left_key (Aggregate i spec) row = group_of spec row
left_key (Plus l r) row = row
left_key (Minus l r) row = row
left_key (View i v) row = row

abbrev pub right_key : Node → List Value → List Value
right_key (Table t) row = row
right_key (Linear i op) row = row
right_key (Join l r op) row = columns_of op.right row
right_key (Distinct i) row = row
right_key (Aggregate i spec) row = row
right_key (Plus l r) row = row
right_key (Minus l r) row = row
right_key (View i v) row = row
