-- What becomes of the tasks of a tick over n shards, by the old tables and the changes of each; at the start (`first`) nothing was there before.
--     Outcome                  a task was not run, or its own part has a number outside BIGINT, or it ran and left a piece
--     step .. t store          what becomes of the task t, if others have left the store
--     outcome .. i s           what becomes of the task of the node i in the shard s, with no order
--     AreLeft ..               a task that ran left the piece of its node in its shard.      AllRan ..     all tasks did
--     part_read .. p store s   the part of the shard s of what the node of p reads on its left, with all pieces of the store
--     total_now .. store i     the total of the node i over all shards: the old one, and those of its pieces
--     is_faulty .. store i     the node i has a fault that its tasks tell: a broken one; or all ran, it is a place, and its total is too great
--     is_clear .. store i      its tasks ran in all shards, and it has none: those that need them may run
--     least_faulty .. store    the least owner of a faulty node
--     IsTick .. new            a tick of a circuit, which takes the old tables to the new ones
--     IsTested .. new i p      the tasks of the node i, of the part p, tell its faults.      AreTested .. new     so do those of each node
--     TotalsRise .. new        the total of each node rises by those of its pieces
use Rattle.std.specs.Prelude.{◌≡◌, ℕ, ◌<◌, ◌^◌, Bool, true, false, not, ◌&&◌, ◌||◌, if◌then◌else◌, List, length, slice_get, pos, int_lt, ℤ, ◌+ℤ◌, Option, Some, None}
use Rattle.std.specs.List.{list_all, list_any}
use Rattle.sq_algebra.specs.Groups.{integers}
use Rattle.sq_algebra.specs.Keyed.{cut, over_shards}
use Rattle.sq_algebra.specs.ZSet.{total}
use Rattle.sq_circuit.specs.Along.{least_below}
use Rattle.sq_circuit.specs.Circuits.{are_sound, has_fault, has_number_outside, is_sound, owner_at, place_at, whole}
use Rattle.sq_circuit.specs.Costs.{before}
use Rattle.sq_circuit.specs.Invariant.{IsCircuit}
use Rattle.sq_circuit.specs.Nodes.{Rows, Source, left_key, left_source, none, read}
use Rattle.sq_circuit.specs.Pieces.{AreChanged, held_now, piece_of, pieces}
use Rattle.sq_circuit.specs.Verdicts.{source_sound}
use Rattle.sq_circuit.specs.declared.circuit.Part.{Part}
use Rattle.sq_shard.specs.Shards.{shards}
use Rattle.sq_incr.specs.Play.{StepOf, StoreOf, outcomes}

pub data Outcome : Type 0 where
  Skipped : Outcome
  Broken : Outcome
  Ran : Rows → Outcome

abbrev pub has_run : Outcome → Bool
has_run Skipped = false
has_run Broken = false
has_run (Ran z) = true

abbrev pub is_broken : Outcome → Bool
is_broken Skipped = false
is_broken Broken = true
is_broken (Ran z) = false

abbrev pub piece_in : Outcome → Rows
piece_in Skipped = none
piece_in Broken = none
piece_in (Ran z) = z

abbrev pub Store : Type 0
Store = StoreOf Outcome

abbrev pub pieces_in : Store → ℕ → ℕ → Rows
pieces_in store i s = piece_in (store i s)

module _ (first : Bool) (c : List Part) (n : ℕ) (old : List Rows) (change : ℕ → Rows) where
  -- ---- a node over all shards
  abbrev pub ran_everywhere : Store → ℕ → Bool
  ran_everywhere store i = list_all (λ s. has_run (store i s)) (shards n).numbers

  abbrev pub total_now : Store → ℕ → ℤ
  total_now store i = total (before first (whole c old i)) +ℤ over_shards integers (shards n) (λ s. total (pieces_in store i s))

  abbrev pub holds_too_many : Store → ℕ → Bool
  holds_too_many store i = place_at c i && int_lt (pos (2 ^ 61)) (total_now store i)

  abbrev pub is_faulty : Store → ℕ → Bool
  is_faulty store i = list_any (λ s. is_broken (store i s)) (shards n).numbers || (ran_everywhere store i && holds_too_many store i)

  abbrev pub is_clear : Store → ℕ → Bool
  is_clear store i = ran_everywhere store i && not (holds_too_many store i)

  abbrev pub is_ready : Store → Source → Bool
  is_ready store s = read (λ t. true) (is_clear store) true s

  -- ---- a task
  abbrev pub part_read : Part → Store → ℕ → Rows
  part_read p store s = cut (shards n) (left_key p.node) s (held_now first c (shards n) old change (pieces_in store) (left_source p.node))

  abbrev pub breaks : Option Part → Store → ℕ → Bool
  breaks None store s = false
  breaks (Some p) store s = has_number_outside p.node (part_read p store s)

  abbrev pub outcome_of : Option Part → Store → ℕ → Outcome
  outcome_of o store s =
      if are_sound o (is_ready store)
      then (if breaks o store s then Broken else Ran (piece_of first c (shards n) old change o (pieces_in store) s))
      else Skipped

  abbrev pub step : StepOf Outcome
  step t store = outcome_of (slice_get c t.node) store t.shard

  abbrev pub outcome : Store
  outcome = outcomes Skipped step

  -- the pieces of the tasks that ran are those of the circuit
  abbrev pub AreLeft : Type 0
  AreLeft = (i s : ℕ) (z : Rows) → outcome i s ≡ Ran z → z ≡ pieces first c (shards n) old change i s

  abbrev pub AllRan : Type 0
  AllRan = (i : ℕ) (p : Part) → slice_get c i ≡ Some p → (s : ℕ) → s < n → outcome i s ≡ Ran (pieces first c (shards n) old change i s)

  -- ---- who is to blame
  abbrev pub least_faulty : Store → Option ℕ
  least_faulty store = least_below (λ i. if is_faulty store i then owner_at c i else None) (length c)

-- ---- a tick
-- a tick of a circuit over n shards, which takes the old tables to the new ones
pub record IsTick (first : Bool) (c : List Part) (n : ℕ) (old : List Rows) (change : ℕ → Rows) (new : List Rows) : Type 0 where
  pub circuit : IsCircuit c
  pub some : 0 < n
  pub changed : AreChanged first old change new

module _ (first : Bool) (c : List Part) (n : ℕ) (old : List Rows) (change : ℕ → Rows) (new : List Rows) where
  -- if what a node reads is sound, its tasks tell a fault exactly where it has one over the new tables; if not, they are not run
  pub record IsTested (i : ℕ) (p : Part) : Type 0 where
    pub told : are_sound (Some p) (source_sound c new) ≡ true → is_faulty first c n old change (outcome first c n old change) i ≡ has_fault c new i
    pub skipped : are_sound (Some p) (source_sound c new) ≡ false → (s : ℕ) → outcome first c n old change i s ≡ Skipped
    pub clear : is_clear first c n old change (outcome first c n old change) i ≡ is_sound c new i

  abbrev pub AreTested : Type 0
  AreTested = (i : ℕ) (p : Part) → slice_get c i ≡ Some p → IsTested i p

  -- the total of each node rises by those of its pieces
  abbrev pub TotalsRise : Type 0
  TotalsRise = (i : ℕ) → total (before first (whole c old i)) +ℤ over_shards integers (shards n) (λ s. total (pieces first c (shards n) old change i s)) ≡ total (whole c new i)
