-- Weights in range: what the tasks of sound nodes read, and the pieces that they leave.
--     ReadsSound c tables p      what a node reads, of the part p, is sound over good tables
--     PartFits .. p s            its parts in the shard s, of what is there now and of how that has changed, are in range
--     PartsFit ..                so are those of each node, if what it reads is sound, and was so, unless this is the start
--     PiecesFit ..               the pieces of a sound node are in range
--     UnfitIsFaulty ..           if a piece is not in range, but what its node reads is sound, the node has a fault
use Rattle.std.specs.Prelude.{◌≡◌, ℕ, ◌<◌, Bool, true, false, List, slice_get, Some}
use Rattle.sq_algebra.specs.Keyed.{cut}
use Rattle.sq_zset.specs.Range.{IsInRange}
use Rattle.sq_circuit.specs.Circuits.{are_sound, has_fault, whole_from}
use Rattle.sq_circuit.specs.Costs as costs
use Rattle.sq_circuit.specs.Invariant.{IsGood, IsSoundAt}
use Rattle.sq_circuit.specs.Nodes.{Rows, left_key, left_source, right_key, right_source}
use Rattle.sq_circuit.specs.Pieces.{pieces}
use Rattle.sq_circuit.specs.Verdicts.{source_sound}
use Rattle.sq_circuit.specs.declared.circuit.Part.{Part}
use Rattle.sq_shard.specs.Shards.{shards}

pub record ReadsSound (c : List Part) (tables : List Rows) (p : Part) : Type 0 where
  pub good : IsGood c tables
  pub sound : are_sound (Some p) (source_sound c tables) ≡ true

pub record PartFits (first : Bool) (c : List Part) (n : ℕ) (old new : List Rows) (p : Part) (s : ℕ) : Type 0 where
  pub left : IsInRange (cut (shards n) (left_key p.node) s (whole_from c new (left_source p.node)))
  pub right : IsInRange (cut (shards n) (right_key p.node) s (whole_from c new (right_source p.node)))
  pub left_change : IsInRange (cut (shards n) (left_key p.node) s (costs.change first c old new (left_source p.node)))
  pub right_change : IsInRange (cut (shards n) (right_key p.node) s (costs.change first c old new (right_source p.node)))

abbrev pub PartsFit : Bool → List Part → ℕ → List Rows → List Rows → Type 0
PartsFit first c n old new = (i : ℕ) (p : Part) → slice_get c i ≡ Some p → ReadsSound c new p → (first ≡ false → ReadsSound c old p) → (s : ℕ) → PartFits first c n old new p s

module _ (first : Bool) (c : List Part) (n : ℕ) (old : List Rows) (change : ℕ → Rows) (new : List Rows) where
  abbrev pub PieceFits : ℕ → ℕ → Type 0
  PieceFits i s = IsInRange (pieces first c (shards n) old change i s)

  abbrev pub PiecesFit : Type 0
  PiecesFit = (i : ℕ) (p : Part) → slice_get c i ≡ Some p → IsSoundAt c new i → (first ≡ false → IsSoundAt c old i) → (s : ℕ) → s < n → PieceFits i s

  abbrev pub UnfitIsFaulty : Type 0
  UnfitIsFaulty = (i : ℕ) (p : Part) → slice_get c i ≡ Some p → ReadsSound c new p → (first ≡ false → IsSoundAt c old i) → (s : ℕ) → s < n → (PieceFits i s → ⊥) → has_fault c new i ≡ true
