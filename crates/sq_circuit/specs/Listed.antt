-- Circuits whose sound nodes are lists of rows: what is left to show of parts that stand where they may. What follows from what a node
-- reads, or from the test of a place, is not asked.
--     is_loose n place       a sum, a difference or a view that is no place: it may hold more rows than a list, or negative weights
--     HasList c i            the node i is listed if it is sound; this is asked of loose nodes alone
--     AsksLists c n place    what the node n asks of the nodes that it reads: that they are listed
--     IsShort n place z      what is asked of its own rows z: few in a join that is no place, none negative in a difference that is one
--     IsListedPart c i p     the part p gives its kinds, and meets both
use Rattle.std.specs.Prelude.{◌≡◌, ◌^◌, ℕ, Bool, true, false, not, List, slice_get, pos, ◌≤ℤ◌, Option, Some, None, ⊤}
use Rattle.sq_algebra.specs.Operators.{IsNonNegative}
use Rattle.sq_algebra.specs.ZSet.{total}
use Rattle.sq_circuit.specs.Circuits.{kinds_at, whole}
use Rattle.sq_circuit.specs.Gives.{GivesKinds}
use Rattle.sq_circuit.specs.Invariant.{IsListed, IsSoundAt}
use Rattle.sq_circuit.specs.Nodes.{Rows}
use Rattle.sq_circuit.specs.declared.circuit.Part.{Part}
use Rattle.sq_circuit.specs.declared.node.Node.{Node}
use Rattle.sq_circuit.specs.declared.node.Node.TheVariants.{Table, Linear, Join, Distinct, Aggregate, Plus, Minus, View}

abbrev pub is_loose : Node → Bool → Bool
is_loose (Table t) place = false
is_loose (Linear i op) place = false
is_loose (Join l r op) place = false
is_loose (Distinct i) place = false
is_loose (Aggregate i spec) place = false
is_loose (Plus l r) place = not place
is_loose (Minus l r) place = not place
is_loose (View i v) place = not place

abbrev pub is_loose_in : Option Part → Bool
is_loose_in None = false
is_loose_in (Some p) = is_loose p.node p.place

abbrev pub HasList : List Part → ℕ → Type 0
HasList c i = is_loose_in (slice_get c i) ≡ true → (tables : List Rows) → IsSoundAt c tables i → IsListed (whole c tables i)

-- a Distinct or a View that is no place takes any rows
abbrev pub AsksLists : List Part → Node → Bool → Type 0
AsksLists c (Table t) place = ⊤
AsksLists c (Linear i op) place = HasList c i
AsksLists c (Join l r op) place = HasList c l × HasList c r
AsksLists c (Distinct i) place = place ≡ false → HasList c i
AsksLists c (Aggregate i spec) place = HasList c i
AsksLists c (Plus l r) place = HasList c l × HasList c r
AsksLists c (Minus l r) place = HasList c l × HasList c r
AsksLists c (View i v) place = place ≡ true → HasList c i

abbrev pub IsShort : Node → Bool → Rows → Type 0
IsShort (Table t) place z = ⊤
IsShort (Linear i op) place z = ⊤
IsShort (Join l r op) place z = place ≡ false → total z ≤ℤ pos (2 ^ 61)
IsShort (Distinct i) place z = ⊤
IsShort (Aggregate i spec) place z = ⊤
IsShort (Plus l r) place z = ⊤
IsShort (Minus l r) place z = place ≡ true → IsNonNegative z
IsShort (View i v) place z = ⊤

pub record IsListedPart (c : List Part) (i : ℕ) (p : Part) : Type 0 where
  pub gives : GivesKinds p.node (kinds_at c) p.kinds
  pub asks : AsksLists c p.node p.place
  pub short : (tables : List Rows) → IsSoundAt c tables i → IsShort p.node p.place (whole c tables i)
