-- What is prepared of a node's traces, and what a commit makes of its state.
--     StaysInRange state change     at each place what a trace holds and its change together lie in the range
--     taken parts ready             a trace after what was prepared of it; one that does not change stays
--     CanTake G outside parts ready      the trace has the parts that are to stay, and adds up within the range afterwards
--     CanCommit state traces        each trace of the state can take what was prepared
--     state_after state traces      the state after that
--     IsReadyFor state change traces     it can be committed, and is then the state with the change
--     CommitsKeep, PiecesStay n kept      a state that takes what was prepared keeps the new rows; its traces stay in range with a piece
use Rattle.std.specs.Prelude.{◌≡◌, ℕ, ◌≤◌, Bool, List, length, ℤ, Option, Some, None, ⊤}
use Rattle.std.specs.Ordering.{nat_cmp}
use Rattle.sq_algebra.specs.Groups.{AbelianGroup, integers, z_sets}
use Rattle.sq_agg.specs.Accumulators.{first_number_outside}
use Rattle.sq_agg.specs.Aggregating.{IsAfter}
use Rattle.sq_agg.specs.Stepping.{Accumulator}
use Rattle.sq_algebra.specs.ZSet.{plus}
use Rattle.sq_circuit.specs.Nodes.{Rows}
use Rattle.sq_circuit.specs.declared.node.Node.{Node}
use Rattle.sq_trace.specs.Changes.{changed, committed}
use Rattle.sq_trace.specs.Runs.{AddsUpInRange, Place}
use Rattle.sq_trace.specs.declared.entry.Entry.{Entry}
use Rattle.sq_zset.specs.Range.{IsInRange, number_outside}
use Rattle.sq_states.specs.Keeps.{IsChanged, change_kind, state_kind}
use Rattle.sq_states.specs.Steps.{KeepsAfter, KeepsState, NodeStep}
use Rattle.sq_states.specs.declared.piece.Piece.{Piece}
use Rattle.sq_states.specs.declared.kept.NodeState.{NodeState}
use Rattle.sq_states.specs.declared.kept.NodeState.TheVariants as state
use Rattle.sq_states.specs.declared.piece.StateChange.{StateChange}
use Rattle.sq_states.specs.declared.piece.StateChange.TheVariants as change
use Rattle.sq_states.specs.declared.ready.ReadyTraces.{ReadyTraces}
use Rattle.sq_states.specs.declared.ready.ReadyTraces.TheVariants as ready

-- ---- one trace
abbrev pub taken : {A : Type 0} → List (List (Entry A)) → Option (ℕ × List (Entry A)) → List (List (Entry A))
taken parts None = parts
taken parts (Some p) = committed parts p

module _ {A : Type 0} (G : AbelianGroup A) (outside : A → Option ℤ) (parts : List (List (Entry A))) where
  abbrev pub StaysWithin : List (Entry A) → Type 0
  StaysWithin d = (p : Place) → outside (changed G parts d p) ≡ None

  abbrev pub CanTake : Option (ℕ × List (Entry A)) → Type 0
  CanTake None = ⊤
  CanTake (Some p) = (p.0 ≤ length parts) × AddsUpInRange G outside (committed parts p)

  pub record IsReadyRun (d : List (Entry A)) (prepared : Option (ℕ × List (Entry A))) : Type 0 where
    pub can : CanTake prepared
    pub after : IsAfter G parts d (taken parts prepared)

abbrev pub Weights : Type 0
Weights = List (Entry ℤ)

abbrev pub TakesWeights : List Weights → Option (ℕ × Weights) → Type 0
TakesWeights parts p = CanTake integers number_outside parts p

abbrev pub TakesAccumulators : List (List (Entry Accumulator)) → Option (ℕ × List (Entry Accumulator)) → Type 0
TakesAccumulators parts p = CanTake (z_sets nat_cmp) first_number_outside parts p

-- ---- the traces of a node
abbrev pub StaysInRange : NodeState → StateChange → Type 0
StaysInRange state.Nothing change.Nothing = ⊤
StaysInRange state.Nothing (change.Rows d) = ⊥
StaysInRange state.Nothing (change.Sides da db) = ⊥
StaysInRange state.Nothing (change.Groups daccs dordered dshown) = ⊥
StaysInRange (state.Rows parts) change.Nothing = ⊥
StaysInRange (state.Rows parts) (change.Rows d) = StaysWithin integers number_outside parts d
StaysInRange (state.Rows parts) (change.Sides da db) = ⊥
StaysInRange (state.Rows parts) (change.Groups daccs dordered dshown) = ⊥
StaysInRange (state.Sides a b) change.Nothing = ⊥
StaysInRange (state.Sides a b) (change.Rows d) = ⊥
StaysInRange (state.Sides a b) (change.Sides da db) = StaysWithin integers number_outside a da × StaysWithin integers number_outside b db
StaysInRange (state.Sides a b) (change.Groups daccs dordered dshown) = ⊥
StaysInRange (state.Groups accs ordered shown) change.Nothing = ⊥
StaysInRange (state.Groups accs ordered shown) (change.Rows d) = ⊥
StaysInRange (state.Groups accs ordered shown) (change.Sides da db) = ⊥
StaysInRange (state.Groups accs ordered shown) (change.Groups daccs dordered dshown) =
    StaysWithin (z_sets nat_cmp) first_number_outside accs daccs × StaysWithin integers number_outside ordered dordered × StaysWithin integers number_outside shown dshown

abbrev pub CanCommit : NodeState → ReadyTraces → Type 0
CanCommit state.Nothing ready.Nothing = ⊤
CanCommit state.Nothing (ready.Rows p) = ⊥
CanCommit state.Nothing (ready.Sides p q) = ⊥
CanCommit state.Nothing (ready.Groups p q r) = ⊥
CanCommit (state.Rows parts) ready.Nothing = ⊥
CanCommit (state.Rows parts) (ready.Rows p) = TakesWeights parts p
CanCommit (state.Rows parts) (ready.Sides p q) = ⊥
CanCommit (state.Rows parts) (ready.Groups p q r) = ⊥
CanCommit (state.Sides a b) ready.Nothing = ⊥
CanCommit (state.Sides a b) (ready.Rows p) = ⊥
CanCommit (state.Sides a b) (ready.Sides p q) = TakesWeights a p × TakesWeights b q
CanCommit (state.Sides a b) (ready.Groups p q r) = ⊥
CanCommit (state.Groups accs ordered shown) ready.Nothing = ⊥
CanCommit (state.Groups accs ordered shown) (ready.Rows p) = ⊥
CanCommit (state.Groups accs ordered shown) (ready.Sides p q) = ⊥
CanCommit (state.Groups accs ordered shown) (ready.Groups p q r) = TakesAccumulators accs p × TakesWeights ordered q × TakesWeights shown r

-- each trace takes what was prepared of it; nothing else can be committed
abbrev pub rows_after : List Weights → ReadyTraces → NodeState
rows_after parts ready.Nothing = state.Nothing
rows_after parts (ready.Rows p) = state.Rows (taken parts p)
rows_after parts (ready.Sides p q) = state.Nothing
rows_after parts (ready.Groups p q r) = state.Nothing

abbrev pub sides_after : List Weights → List Weights → ReadyTraces → NodeState
sides_after a b ready.Nothing = state.Nothing
sides_after a b (ready.Rows p) = state.Nothing
sides_after a b (ready.Sides p q) = state.Sides (taken a p) (taken b q)
sides_after a b (ready.Groups p q r) = state.Nothing

abbrev pub groups_after : List (List (Entry Accumulator)) → List Weights → List Weights → ReadyTraces → NodeState
groups_after accs ordered shown ready.Nothing = state.Nothing
groups_after accs ordered shown (ready.Rows p) = state.Nothing
groups_after accs ordered shown (ready.Sides p q) = state.Nothing
groups_after accs ordered shown (ready.Groups p q r) = state.Groups (taken accs p) (taken ordered q) (taken shown r)

abbrev pub state_after : NodeState → ReadyTraces → NodeState
state_after state.Nothing traces = state.Nothing
state_after (state.Rows parts) traces = rows_after parts traces
state_after (state.Sides a b) traces = sides_after a b traces
state_after (state.Groups accs ordered shown) traces = groups_after accs ordered shown traces

pub record IsReadyFor (kept : NodeState) (d : StateChange) (traces : ReadyTraces) : Type 0 where
  pub can : CanCommit kept traces
  pub changed : IsChanged kept d (state_after kept traces)

-- ---- words of the laws
abbrev pub CommitsKeep : Node → NodeState → Type 0
CommitsKeep n kept =
    (left right : Rows) (first : Bool) (b : NodeStep n kept left right first) (p : Piece) (traces : ReadyTraces) → KeepsState n kept left right first p → IsReadyFor kept p.kept traces
    → KeepsAfter b (state_after kept traces)

abbrev pub PiecesStay : Node → NodeState → Type 0
PiecesStay n kept =
    (left right : Rows) (first : Bool) (b : NodeStep n kept left right first) (p : Piece) → IsInRange (plus b.y b.dy) → IsInRange (plus b.z b.dz) → change_kind p.kept ≡ state_kind kept
    → KeepsState n kept left right first p → StaysInRange kept p.kept
