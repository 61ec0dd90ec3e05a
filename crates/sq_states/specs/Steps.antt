-- The step of a node in one shard: what is taken for granted, and what it gives.
--     NodeStep n state left right first     old rows of which the state holds the shard's part, and their changes, of which left and right are
--                                           the parts. Of the old rows and changes in all shards: TakesRows, what the operator asks of them
--     IsStepped n state left right first result old new     what a step answers over all such rows, and how many steps it takes
--     IsFault, NoFault                      the fault that the operator has over the part of the shard, and that it has none
use Rattle.std.specs.Prelude.{◌≡◌, ℕ, ◌+◌, ◌≤◌, ◌==◌, ◌&&◌, Bool, true, false, List, [], ℤ, Option, Some, None, Result, Err, IfOk, OnOk, ⊤}
use Rattle.sq_value.specs.declared.value.Value.{Value}
use Rattle.sq_algebra.specs.Keyed.{Shards, cut}
use Rattle.sq_algebra.specs.ZSet.{minus, plus}
use Rattle.sq_expr.specs.declared.expr.Kind.{Kind}
use Rattle.sq_zset.specs.Range.{IsInRange, first_outside}
use Rattle.sq_ops.specs.Aggregates.{SuitsSpec, first_sum_outside}
use Rattle.sq_ops.specs.Extensions.{first_value_outside}
use Rattle.sq_ops.specs.Fits.{FitsRows}
use Rattle.sq_ops.specs.JoinLaws.{SuitsPairing}
use Rattle.sq_ops.specs.declared.aggregate.AggSpec.{AggSpec}
use Rattle.sq_ops.specs.declared.bilinear.Pairing.{Pairing}
use Rattle.sq_circuit.specs.Costs.{before, node_cost}
use Rattle.sq_circuit.specs.Invariant.{HasKinds, IsListed}
use Rattle.sq_circuit.specs.LinearOps.{SuitsOp, tested_of}
use Rattle.sq_circuit.specs.NodeLaws.{share}
use Rattle.sq_circuit.specs.Nodes.{Rows, left_key, none, right_key}
use Rattle.sq_circuit.specs.declared.node.Node.{Node}
use Rattle.sq_circuit.specs.declared.node.Node.TheVariants.{Table, Linear, Join, Distinct, Aggregate, Plus, Minus, View}
use Rattle.sq_states.specs.Keeps.{IsChanged, IsPieceOf, KeepsNode, change_kind, state_kind}
use Rattle.sq_states.specs.declared.kept.NodeState.{NodeState}
use Rattle.sq_states.specs.declared.piece.Piece.{Piece}
use Rattle.sq_states.specs.declared.piece.NodeFault.{NodeFault}
use Rattle.sq_states.specs.declared.piece.NodeFault.TheVariants as fault
use Rattle.sq_states.specs.declared.piece.StepRefusal.{StepRefusal}
use Rattle.sq_states.specs.declared.piece.StepRefusal.TheVariants as refusal

-- ---- what is taken for granted of all rows, in all shards
-- both sides are of kinds that suit, and small before and after
pub record TakesSides (op : Pairing) (y dy z dz : Rows) : Type 0 where
  pub left_kinds : List Kind
  pub right_kinds : List Kind
  pub suitable : SuitsPairing op.left op.right op.items op.keep left_kinds right_kinds
  pub left_fit : HasKinds left_kinds y
  pub left_change_fits : HasKinds left_kinds dy
  pub right_fit : HasKinds right_kinds z
  pub right_change_fits : HasKinds right_kinds dz
  pub left_before : IsListed y
  pub left_after : IsListed (plus y dy)
  pub right_before : IsListed z
  pub right_after : IsListed (plus z dz)

pub record TakesGroups (spec : AggSpec) (y dy : Rows) : Type 0 where
  pub old_fits : FitsRows (SuitsSpec spec) y
  pub change_fits : FitsRows (SuitsSpec spec) dy
  pub old_listed : IsListed y
  pub new_listed : IsListed (plus y dy)
  pub all_sums : first_sum_outside spec y ≡ None

abbrev pub TakesRows : Node → (y dy z dz : Rows) → Type 0
TakesRows (Table t) y dy z dz = ⊤
TakesRows (Linear i op) y dy z dz = FitsRows (SuitsOp op) dy
TakesRows (Join l r op) y dy z dz = TakesSides op y dy z dz
TakesRows (Distinct i) y dy z dz = ⊤
TakesRows (Aggregate i spec) y dy z dz = TakesGroups spec y dy
TakesRows (Plus l r) y dy z dz = ⊤
TakesRows (Minus l r) y dy z dz = ⊤
TakesRows (View i v) y dy z dz = ⊤

-- ---- a node before a step
pub record NodeStep (n : Node) (state : NodeState) (left right : Rows) (first : Bool) : Type 0 where
  pub S : Shards (List Value)
  pub s : ℕ
  pub start : Bool
  pub y : Rows
  pub dy : Rows
  pub z : Rows
  pub dz : Rows
  pub keeps : KeepsNode start S s n state y z
  pub left_is : left ≡ cut S (left_key n) s dy
  pub right_is : right ≡ cut S (right_key n) s dz
  pub first_is : first ≡ start && s == S.shard []
  pub begins_left : start ≡ true → y ≡ none
  pub begins_right : start ≡ true → z ≡ none
  pub takes : TakesRows n y dy z dz

-- ---- what it gives
module _ {n : Node} {state : NodeState} {left right : Rows} {first : Bool} (b : NodeStep n state left right first) where
  -- what the node has more in this shard than before
  abbrev pub piece_at : Rows
  piece_at = minus (share n b.S b.s (plus b.y b.dy) (plus b.z b.dz)) (before b.start (share n b.S b.s b.y b.z))

  -- the part of the new rows in this shard
  abbrev pub left_after : Rows
  left_after = cut b.S (left_key n) b.s (plus b.y b.dy)

  abbrev pub KeepsAfter : NodeState → Type 0
  KeepsAfter now = KeepsNode false b.S b.s n now (plus b.y b.dy) (plus b.z b.dz)

  abbrev pub cost_of : ℕ
  cost_of = node_cost first n (cut b.S (left_key n) b.s b.y) (cut b.S (left_key n) b.s b.dy) (cut b.S (right_key n) b.s b.z) (cut b.S (right_key n) b.s b.dz)

-- the first number outside that is tested of changed rows, and the first SUM outside over the new rows
abbrev pub value_outside : Node → Rows → Option ℤ
value_outside (Table t) d = None
value_outside (Linear i op) d = first_value_outside (tested_of op) d
value_outside (Join l r op) d = None
value_outside (Distinct i) d = None
value_outside (Aggregate i spec) d = None
value_outside (Plus l r) d = None
value_outside (Minus l r) d = None
value_outside (View i v) d = None

abbrev pub sum_outside : Node → Rows → Option (List Value × ℤ)
sum_outside (Table t) y = None
sum_outside (Linear i op) y = None
sum_outside (Join l r op) y = None
sum_outside (Distinct i) y = None
sum_outside (Aggregate i spec) y = first_sum_outside spec y
sum_outside (Plus l r) y = None
sum_outside (Minus l r) y = None
sum_outside (View i v) y = None

pub record IsSum (found : Option (List Value × ℤ)) (sum : ℤ) : Type 0 where
  pub group : List Value
  pub is : found ≡ Some (group, sum)

module _ {n : Node} {state : NodeState} {left right : Rows} {first : Bool} (b : NodeStep n state left right first) where
  abbrev pub IsFault : NodeFault → Type 0
  IsFault (fault.Weight sum) = first_outside (piece_at b) ≡ Some sum
  IsFault (fault.Value value) = value_outside n left ≡ Some value
  IsFault (fault.Sum sum) = IsSum (sum_outside n (left_after b)) sum

  pub record NoFault : Type 0 where
    pub values : value_outside n left ≡ None
    pub sums : sum_outside n (left_after b) ≡ None

module _ (n : Node) (state : NodeState) (left right : Rows) (first : Bool) where
  abbrev pub IsStepChange : Piece → Type 0
  IsStepChange made = (b : NodeStep n state left right first) → IsPieceOf b.start n b.S b.s b.y b.dy b.z b.dz made.change

  abbrev pub KeepsState : Piece → Type 0
  KeepsState made = (b : NodeStep n state left right first) (now : NodeState) → IsChanged state made.kept now → KeepsAfter b now

  pub record IsStepped (result : Result Piece StepRefusal) (old new : ℕ) : Type 0 where
    pub change : IfOk result IsStepChange
    pub in_range : IfOk result (λ made. IsInRange made.change)
    pub keeps : IfOk result KeepsState
    pub kind : IfOk result (λ made. (b : NodeStep n state left right first) → change_kind made.kept ≡ state_kind state)
    pub faultless : OnOk result ((b : NodeStep n state left right first) → NoFault b)
    pub faulty : (f : NodeFault) → result ≡ Err (refusal.Fault f) → (b : NodeStep n state left right first) → IsFault b f
    pub count : (b : NodeStep n state left right first) → new ≤ old + cost_of b
