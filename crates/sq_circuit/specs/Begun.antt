-- A circuit in the making: its tables, then nodes one by one, for one view after the other, and at last the views.
--     AreTables c             tables alone, in order
--     ReadsThese c p          the part p reads nodes of c alone, so it may stand behind c
--     made_of c tables p      what a part behind c is worth.      is_faulty c tables p, is_fine c tables p     whether it has a fault, and is sound
--     IsBegun views now c     tables, and nodes of a circuit of so many views, none of which belongs to a view behind `now`
--     IsNext views now c p    the part p is a node for the view `now`, and may be appended
--     IsEnded views now c vs  such parts, and as many views in order, each of a node of c (IsViewOf c v p)
--     IsGrown c d             d is c with more nodes behind, none of them a table
use Rattle.std.specs.Prelude.{◌≡◌, ◌+◌, ◌<◌, ◌≤◌, ℕ, Bool, true, false, not, ◌&&◌, List, ◌++◌, length, slice_get, Some, None}
use Rattle.sq_circuit.specs.Circuits.{are_sound, fault_of, kinds_at, owner_at, value_of, whole_from}
use Rattle.sq_circuit.specs.Gives.{GivesKinds}
use Rattle.sq_circuit.specs.Invariant.{IsEarlier, IsGood, IsPartOf, TakesKinds, is_table, is_view, table_count}
use Rattle.sq_circuit.specs.Listed.{AsksLists, IsListedPart, IsShort}
use Rattle.sq_circuit.specs.Nodes.{Rows, left_source, right_source}
use Rattle.sq_circuit.specs.Verdicts.{source_sound}
use Rattle.sq_circuit.specs.declared.circuit.Part.{Part}
use Rattle.sq_circuit.specs.declared.node.Node.TheVariants.{Table, View}

-- ---- tables
pub record IsTablePart (i : ℕ) (p : Part) : Type 0 where
  pub node : p.node ≡ Table i
  pub place : p.place ≡ false
  pub owner : p.owner ≡ None

abbrev pub AreTables : List Part → Type 0
AreTables c = (i : ℕ) (p : Part) → slice_get c i ≡ Some p → IsTablePart i p

-- ---- a part behind others
pub record ReadsThese (c : List Part) (p : Part) : Type 0 where
  pub left : IsEarlier (length c) (left_source p.node)
  pub right : IsEarlier (length c) (right_source p.node)

module _ (c : List Part) (tables : List Rows) (p : Part) where
  abbrev pub made_of : Rows
  made_of = value_of (Some p) (whole_from c tables)

  abbrev pub is_faulty : Bool
  is_faulty = fault_of (Some p) (whole_from c tables) made_of

  abbrev pub is_fine : Bool
  is_fine = not is_faulty && are_sound (Some p) (source_sound c tables)

-- ---- nodes
pub record IsBegun (views now : ℕ) (c : List Part) : Type 0 where
  pub parts : (i : ℕ) (p : Part) → slice_get c i ≡ Some p → IsPartOf (length c + views) views c i p
  pub lists : (i : ℕ) (p : Part) → slice_get c i ≡ Some p → IsListedPart c i p
  pub owners : (i v : ℕ) → owner_at c i ≡ Some v → v ≤ now

pub record IsNext (views now : ℕ) (c : List Part) (p : Part) : Type 0 where
  pub no_table : is_table p.node ≡ false
  pub no_view : is_view p.node ≡ false
  pub reads : ReadsThese c p
  pub takes : TakesKinds p.node (kinds_at c)
  pub gives : GivesKinds p.node (kinds_at c) p.kinds
  pub owner : p.owner ≡ Some now
  pub low : now < views
  pub asks : AsksLists c p.node p.place
  pub short : (tables : List Rows) → IsGood c tables → are_sound (Some p) (source_sound c tables) ≡ true → IsShort p.node p.place (made_of c tables p)

-- ---- views
pub record IsViewOf (c : List Part) (v : ℕ) (p : Part) : Type 0 where
  pub input : ℕ
  pub node : p.node ≡ View input v
  pub low : input < length c
  pub kinds : p.kinds ≡ kinds_at c input
  pub place : p.place ≡ false
  pub owner : p.owner ≡ Some v
  pub not_later : (w : ℕ) → owner_at c input ≡ Some w → w ≤ v

pub record IsEnded (views now : ℕ) (c vs : List Part) : Type 0 where
  pub begun : IsBegun views now c
  pub each : (v : ℕ) (p : Part) → slice_get vs v ≡ Some p → IsViewOf c v p
  pub many : length vs ≡ views

-- ---- longer lists
pub record IsGrown (c d : List Part) : Type 0 where
  pub more : List Part
  pub is : d ≡ c ++ more
  pub no_tables : table_count more ≡ 0
