-- What a node of a circuit keeps in one shard. Nothing here knows how many shards there are: S is any set of shards, and s a number.
--     KeepsNode start S s n state y z     the state holds what the node n keeps in the shard s of the old rows that it reads, y on its left and
--                                         z on its right. If `start` is true, nothing was there before, and nothing is shown
--     HoldsGroups start S s spec .. y     what an aggregate keeps: accumulators, arguments, and the shown rows of the groups of the shard
--     IsChanged state change now          the state after its change: each trace holds what it held and its change together
--     state_kind state, change_kind d     which of the four kinds of state it is, or is the change of
--     IsPieceOf start n S s y dy z dz answer     what the node's share of the new rows has more than that of the old ones
--     OnNode c i states P                 P holds of the node i and its state
use Rattle.std.specs.Prelude.{◌≡◌, ℕ, Bool, List, slice_get, pos, Some, ⊤}
use Rattle.std.specs.Ordering.{nat_cmp}
use Rattle.sq_value.specs.declared.value.Value.{Value}
use Rattle.sq_algebra.specs.Groups.{integers, z_sets}
use Rattle.sq_algebra.specs.Keyed.{Shards, cut}
use Rattle.sq_algebra.specs.ZSet.{minus, plus}
use Rattle.sq_agg.specs.Aggregating.{HoldsShown, IsAfter}
use Rattle.sq_agg.specs.Kept.{HoldsAccumulators, HoldsArguments, HoldsNoOthers, KeptAccumulators}
use Rattle.sq_agg.specs.Stepping.{KeptWeights}
use Rattle.sq_circuit.specs.Circuits.{node_at}
use Rattle.sq_circuit.specs.Costs.{before}
use Rattle.sq_circuit.specs.NodeLaws.{share}
use Rattle.sq_circuit.specs.Nodes.{Rows, left_key, right_key}
use Rattle.sq_circuit.specs.declared.circuit.Part.{Part}
use Rattle.sq_circuit.specs.declared.node.Node.{Node}
use Rattle.sq_circuit.specs.declared.node.Node.TheVariants.{Table, Linear, Join, Distinct, Aggregate, Plus, Minus, View}
use Rattle.sq_distinct.specs.Stepping.{HoldsRows}
use Rattle.sq_join.specs.Stepping.{HoldsByKey}
use Rattle.sq_ops.specs.Joins.{key_in}
use Rattle.sq_ops.specs.declared.aggregate.AggSpec.{AggSpec}
use Rattle.sq_trace.specs.Runs.{content}
use Rattle.sq_states.specs.declared.kept.NodeState.{NodeState}
use Rattle.sq_states.specs.declared.kept.NodeState.TheVariants as state
use Rattle.sq_states.specs.declared.piece.StateChange.{StateChange}
use Rattle.sq_states.specs.declared.piece.StateChange.TheVariants as change

-- ---- kinds of state
abbrev pub KeepsNothing : NodeState → Type 0
KeepsNothing state.Nothing = ⊤
KeepsNothing (state.Rows parts) = ⊥
KeepsNothing (state.Sides a b) = ⊥
KeepsNothing (state.Groups accs ordered shown) = ⊥

abbrev pub OnRows : NodeState → (KeptWeights → Type 0) → Type 0
OnRows state.Nothing P = ⊥
OnRows (state.Rows parts) P = P parts
OnRows (state.Sides a b) P = ⊥
OnRows (state.Groups accs ordered shown) P = ⊥

abbrev pub OnSides : NodeState → (KeptWeights → KeptWeights → Type 0) → Type 0
OnSides state.Nothing P = ⊥
OnSides (state.Rows parts) P = ⊥
OnSides (state.Sides a b) P = P a b
OnSides (state.Groups accs ordered shown) P = ⊥

abbrev pub OnGroups : NodeState → (KeptAccumulators → KeptWeights → KeptWeights → Type 0) → Type 0
OnGroups state.Nothing P = ⊥
OnGroups (state.Rows parts) P = ⊥
OnGroups (state.Sides a b) P = ⊥
OnGroups (state.Groups accs ordered shown) P = P accs ordered shown

-- ---- what is kept
-- y is the part of the shard; a group is shown in its own shard alone, and nothing stands at other places
pub record HoldsGroups (start : Bool) (S : Shards (List Value)) (s : ℕ) (spec : AggSpec) (accs : KeptAccumulators) (ordered shown : KeptWeights) (y : Rows) : Type 0 where
  pub accumulators : HoldsAccumulators spec accs y
  pub arguments : HoldsArguments spec ordered y
  pub no_others : HoldsNoOthers spec ordered
  pub shown_rows : (c : List Value) → S.shard c ≡ s → HoldsShown start spec shown y c
  pub elsewhere : (c row : List Value) → (S.shard c ≡ s → ⊥) → content integers (c, row) shown ≡ pos 0

-- y and z are the parts of the shard
abbrev pub KeepsParts : Bool → Shards (List Value) → ℕ → Node → NodeState → Rows → Rows → Type 0
KeepsParts start S s (Table t) state y z = OnRows state (λ parts. HoldsRows parts y)
KeepsParts start S s (Linear i op) state y z = KeepsNothing state
KeepsParts start S s (Join l r op) state y z = OnSides state (λ a b. HoldsByKey (key_in op.left op.nulls_match) a y × HoldsByKey (key_in op.right op.nulls_match) b z)
KeepsParts start S s (Distinct i) state y z = OnRows state (λ parts. HoldsRows parts y)
KeepsParts start S s (Aggregate i spec) state y z = OnGroups state (λ accs ordered shown. HoldsGroups start S s spec accs ordered shown y)
KeepsParts start S s (Plus l r) state y z = KeepsNothing state
KeepsParts start S s (Minus l r) state y z = KeepsNothing state
KeepsParts start S s (View i v) state y z = KeepsNothing state

abbrev pub KeepsNode : Bool → Shards (List Value) → ℕ → Node → NodeState → Rows → Rows → Type 0
KeepsNode start S s n state y z = KeepsParts start S s n state (cut S (left_key n) s y) (cut S (right_key n) s z)

-- ---- changes
abbrev pub state_kind : NodeState → ℕ
state_kind state.Nothing = 0
state_kind (state.Rows parts) = 1
state_kind (state.Sides a b) = 2
state_kind (state.Groups accs ordered shown) = 3

abbrev pub change_kind : StateChange → ℕ
change_kind change.Nothing = 0
change_kind (change.Rows d) = 1
change_kind (change.Sides da db) = 2
change_kind (change.Groups daccs dordered dshown) = 3

abbrev pub IsChanged : NodeState → StateChange → NodeState → Type 0
IsChanged state.Nothing change.Nothing now = KeepsNothing now
IsChanged state.Nothing (change.Rows d) now = ⊥
IsChanged state.Nothing (change.Sides da db) now = ⊥
IsChanged state.Nothing (change.Groups daccs dordered dshown) now = ⊥
IsChanged (state.Rows parts) change.Nothing now = ⊥
IsChanged (state.Rows parts) (change.Rows d) now = OnRows now (IsAfter integers parts d)
IsChanged (state.Rows parts) (change.Sides da db) now = ⊥
IsChanged (state.Rows parts) (change.Groups daccs dordered dshown) now = ⊥
IsChanged (state.Sides a b) change.Nothing now = ⊥
IsChanged (state.Sides a b) (change.Rows d) now = ⊥
IsChanged (state.Sides a b) (change.Sides da db) now = OnSides now (λ newa newb. IsAfter integers a da newa × IsAfter integers b db newb)
IsChanged (state.Sides a b) (change.Groups daccs dordered dshown) now = ⊥
IsChanged (state.Groups accs ordered shown) change.Nothing now = ⊥
IsChanged (state.Groups accs ordered shown) (change.Rows d) now = ⊥
IsChanged (state.Groups accs ordered shown) (change.Sides da db) now = ⊥
IsChanged (state.Groups accs ordered shown) (change.Groups daccs dordered dshown) now =
    OnGroups now (λ newaccs newordered newshown. IsAfter (z_sets nat_cmp) accs daccs newaccs × IsAfter integers ordered dordered newordered × IsAfter integers shown dshown newshown)

abbrev pub IsPieceOf : Bool → Node → Shards (List Value) → ℕ → (y dy z dz : Rows) → Rows → Type 0
IsPieceOf start n S s y dy z dz answer = answer ≡ minus (share n S s (plus y dy) (plus z dz)) (before start (share n S s y z))

-- ---- nodes by number
abbrev pub OnNode : List Part → ℕ → List NodeState → (Node → NodeState → Type 0) → Type 0
OnNode c i states P = (n : Node) (state : NodeState) → node_at c i ≡ Some n → slice_get states i ≡ Some state → P n state
