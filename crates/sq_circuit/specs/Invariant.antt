-- What the type of circuits keeps. A circuit is the list of its parts.
--     IsGood c tables         tables for the circuit: of their kinds, without negative weights, and with totals of at most 2^61
--     IsPart c i p            the part p may stand at i: it reads earlier nodes, stands in order, takes what it reads, and has its owner
--     IsPartOf nodes views c i p      it may stand there in a circuit of so many nodes and views that begins with the parts c
--     IsBounded c i p z       the rows z of a sound node are of its kinds, and their weights are bounded
--     AreEarlier c            each node reads earlier nodes alone
--     table_and_view kinds    the circuit of a table and a view of it
--     IsCircuit c             each part may stand where it does, and sound nodes are bounded over good tables
use Rattle.std.specs.Prelude.{◌≡◌, ℕ, ◌+◌, ◌<◌, ◌≤◌, ◌^◌, Bool, true, false, List, [], ◌∷◌, filter, length, slice_get, pos, ◌-ℤ◌, ◌≤ℤ◌, unsigned_abs, Option, Some, None, ◌⊎◌, ⊤}
use Rattle.std.specs.List.{All}
use Rattle.sq_value.specs.declared.value.Value.{Value}
use Rattle.sq_expr.specs.declared.expr.Kind.{Kind}
use Rattle.sq_expr.specs.Kinds.{AreOfKinds}
use Rattle.sq_algebra.specs.Operators.{IsNonNegative}
use Rattle.sq_algebra.specs.ZSet.{entries, total, weight}
use Rattle.sq_zset.specs.Collecting.{mass_of}
use Rattle.sq_ops.specs.Aggregates.{SuitsSpec}
use Rattle.sq_ops.specs.JoinLaws.{SuitsPairing}
use Rattle.sq_circuit.specs.Circuits.{is_sound, kinds_at, owner_at, table_at, whole}
use Rattle.sq_circuit.specs.LinearOps.{SuitsOp}
use Rattle.sq_circuit.specs.Nodes.{Rows, Source, Nowhere, Outer, Inner, left_source, right_source}
use Rattle.sq_circuit.specs.declared.circuit.Part.{Part}
use Rattle.sq_circuit.specs.declared.node.LinearOp.{LinearOp}
use Rattle.sq_circuit.specs.declared.node.LinearOp.TheVariants.{Keep, Project, Pad}
use Rattle.sq_circuit.specs.declared.node.Node.{Node}
use Rattle.sq_circuit.specs.declared.node.Node.TheVariants.{Table, Linear, Join, Distinct, Aggregate, Plus, Minus, View}

-- ---- order
-- an inner source is an earlier node
abbrev pub IsEarlier : ℕ → Source → Type 0
IsEarlier i Nowhere = ⊤
IsEarlier i (Outer t) = ⊤
IsEarlier i (Inner j) = j < i

abbrev pub AreEarlier : List Part → Type 0
AreEarlier c = (i : ℕ) (p : Part) → slice_get c i ≡ Some p → IsEarlier i (left_source p.node) × IsEarlier i (right_source p.node)

abbrev pub is_table : Node → Bool
is_table (Table t) = true
is_table (Linear i op) = false
is_table (Join l r op) = false
is_table (Distinct i) = false
is_table (Aggregate i spec) = false
is_table (Plus l r) = false
is_table (Minus l r) = false
is_table (View i v) = false

abbrev pub is_view : Node → Bool
is_view (Table t) = false
is_view (Linear i op) = false
is_view (Join l r op) = false
is_view (Distinct i) = false
is_view (Aggregate i spec) = false
is_view (Plus l r) = false
is_view (Minus l r) = false
is_view (View i v) = true

abbrev pub table_count : List Part → ℕ
table_count c = length (filter (λ p. is_table p.node) c)

abbrev pub view_count : List Part → ℕ
view_count c = length (filter (λ p. is_view p.node) c)

-- in a circuit of so many nodes, of which so many are views
module _ (nodes views : ℕ) (c : List Part) (i : ℕ) where
  -- a node that is neither table nor view stands between the tables and the views
  abbrev pub IsBetween : Type 0
  IsBetween = (table_count c ≤ i) × (i + views < nodes)

  -- table t stands at t, and view v so far behind all nodes that are no views
  abbrev pub IsInOrder : Node → Type 0
  IsInOrder (Table t) = (i ≡ t) × (t < table_count c)
  IsInOrder (Linear j op) = IsBetween
  IsInOrder (Join l r op) = IsBetween
  IsInOrder (Distinct j) = IsBetween
  IsInOrder (Aggregate j spec) = IsBetween
  IsInOrder (Plus l r) = IsBetween
  IsInOrder (Minus l r) = IsBetween
  IsInOrder (View j v) = (i + views ≡ nodes + v) × (v < views)

-- ---- kinds
-- the operator takes rows of the kinds that it reads
abbrev pub TakesKinds : Node → (ℕ → List Kind) → Type 0
TakesKinds (Table t) kinds = ⊤
TakesKinds (Linear i op) kinds = SuitsOp op (kinds i)
TakesKinds (Join l r op) kinds = SuitsPairing op.left op.right op.items op.keep (kinds l) (kinds r)
TakesKinds (Distinct i) kinds = ⊤
TakesKinds (Aggregate i spec) kinds = SuitsSpec spec (kinds i)
TakesKinds (Plus l r) kinds = ⊤
TakesKinds (Minus l r) kinds = ⊤
TakesKinds (View i v) kinds = ⊤

-- how wide the images of rows of a width are
abbrev pub width_of : LinearOp → ℕ → ℕ
width_of (Keep op) width = width
width_of (Project op) width = length op.items
width_of (Pad op) width = width + op.nulls

-- its rows are as wide as what it makes of those that it reads
abbrev pub HasWidth : Node → (ℕ → List Kind) → ℕ → Type 0
HasWidth (Table t) kinds width = ⊤
HasWidth (Linear i op) kinds width = width ≡ width_of op (length (kinds i))
HasWidth (Join l r op) kinds width = width ≡ length op.items
HasWidth (Distinct i) kinds width = width ≡ length (kinds i)
HasWidth (Aggregate i spec) kinds width = width ≡ length spec.group + length spec.calls
HasWidth (Plus l r) kinds width = (width ≡ length (kinds l)) × (width ≡ length (kinds r))
HasWidth (Minus l r) kinds width = (width ≡ length (kinds l)) × (width ≡ length (kinds r))
HasWidth (View i v) kinds width = width ≡ length (kinds i)

-- ---- owners
-- the owner of an inner source is not above the view v
abbrev pub IsOwnedBelow : List Part → ℕ → Source → Type 0
IsOwnedBelow c v Nowhere = ⊤
IsOwnedBelow c v (Outer t) = ⊤
IsOwnedBelow c v (Inner j) = (w : ℕ) → owner_at c j ≡ Some w → w ≤ v

-- an owner that is one of so many views, and not below the owners of what the node reads
pub record IsOwner (views : ℕ) (c : List Part) (node : Node) (v : ℕ) : Type 0 where
  pub is_view : v < views
  pub left : IsOwnedBelow c v (left_source node)
  pub right : IsOwnedBelow c v (right_source node)

-- a table is no place and has no owner, and every other node has one
abbrev pub IsOwned : ℕ → List Part → Node → Bool → Option ℕ → Type 0
IsOwned views c (Table t) place owner = (place ≡ false) × (owner ≡ None)
IsOwned views c node place None = ⊥
IsOwned views c node place (Some v) = IsOwner views c node v

-- ---- parts
-- a part of a circuit of so many nodes and views, which begins with the parts c
pub record IsPartOf (nodes views : ℕ) (c : List Part) (i : ℕ) (p : Part) : Type 0 where
  pub left_earlier : IsEarlier i (left_source p.node)
  pub right_earlier : IsEarlier i (right_source p.node)
  pub in_order : IsInOrder nodes views c i p.node
  pub takes : TakesKinds p.node (kinds_at c)
  pub width : HasWidth p.node (kinds_at c) (length p.kinds)
  pub owned : IsOwned views c p.node p.place p.owner

abbrev pub IsPart : List Part → ℕ → Part → Type 0
IsPart c i p = IsPartOf (length c) (view_count c) c i p

-- ---- bounds
-- rows that a list of at most 2^61 rows has
pub record IsListed (z : Rows) : Type 0 where
  pub above : IsNonNegative z
  pub few : total z ≤ℤ pos (2 ^ 61)

-- rows of these kinds alone
abbrev pub HasKinds : List Kind → Rows → Type 0
HasKinds kinds z = All (λ e. AreOfKinds e.0 kinds) (entries z)

pub record IsGood (c : List Part) (tables : List Rows) : Type 0 where
  pub count : length tables ≡ table_count c
  pub of_kinds : (i : ℕ) (p : Part) (t : ℕ) → slice_get c i ≡ Some p → p.node ≡ Table t → HasKinds p.kinds (table_at tables t)
  pub listed : (t : ℕ) → IsListed (table_at tables t)

-- a Project, a Join or an Aggregate that reads the node i
abbrev pub NeedsListed : Node → ℕ → Type 0
NeedsListed (Table t) i = ⊥
NeedsListed (Linear j (Keep op)) i = ⊥
NeedsListed (Linear j (Project op)) i = j ≡ i
NeedsListed (Linear j (Pad op)) i = ⊥
NeedsListed (Join l r op) i = (l ≡ i) ⊎ (r ≡ i)
NeedsListed (Distinct j) i = ⊥
NeedsListed (Aggregate j spec) i = j ≡ i
NeedsListed (Plus l r) i = ⊥
NeedsListed (Minus l r) i = ⊥
NeedsListed (View j v) i = ⊥

pub record IsBounded (c : List Part) (i : ℕ) (p : Part) (z : Rows) : Type 0 where
  pub of_kinds : HasKinds p.kinds z
  pub place : p.place ≡ true → IsListed z
  pub needed : (k : ℕ) (q : Part) → slice_get c k ≡ Some q → NeedsListed q.node i → IsListed z
  pub few : p.place ≡ false → mass_of (entries z) ≤ 2 ^ 62

-- a sound node over good tables
pub record IsSoundAt (c : List Part) (tables : List Rows) (i : ℕ) : Type 0 where
  pub good : IsGood c tables
  pub sound : is_sound c tables i ≡ true

-- the weight of no row differs by more than 2^62
abbrev pub IsNear : Rows → Rows → Type 0
IsNear y z = (row : List Value) → unsigned_abs (weight row z -ℤ weight row y) ≤ 2 ^ 62

pub record IsCircuit (c : List Part) : Type 0 where
  pub few : length c < 2 ^ 32
  pub parts : (i : ℕ) (p : Part) → slice_get c i ≡ Some p → IsPart c i p
  pub bounded : (tables : List Rows) (i : ℕ) (p : Part) → slice_get c i ≡ Some p → IsSoundAt c tables i → IsBounded c i p (whole c tables i)
  pub steady : (old new : List Rows) (i : ℕ) (p : Part) → slice_get c i ≡ Some p → p.place ≡ false → IsSoundAt c old i → IsSoundAt c new i → IsNear (whole c old i) (whole c new i)

-- ---- the least circuit
-- a table, and a view of it
abbrev pub table_and_view : List Kind → List Part
table_and_view kinds =
    record { node = Table 0; kinds = kinds; place = false; owner = None }
    ∷ record { node = View 0 0; kinds = kinds; place = false; owner = Some 0 } ∷ []
