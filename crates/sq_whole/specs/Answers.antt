-- What a node answers over what it reads, where that may be unknown.
--     IsResult z outside x     x is z, unless a number is outside BIGINT or a weight of z leaves its range
--     IsAnswer f outside y z x      x is so for f over y and z, if both are known; IsUnary, for one side alone
--     IsAnswerAt c tables i x       x is so for the node i of a circuit, over what is known of the nodes that it reads
--     FitsPairing op y z            rows that a pairing takes, few enough
--     rows_within place x           x, unless it is known, stands at a place, and has too many rows
--     missing_owner c values i      the owner of the node i, if there is no value for it
use Rattle.std.specs.Prelude.{◌≡◌, ℕ, Bool, false, ◌&&◌, if◌then◌else◌, slice_get, List, Option, Some, None, Result, Ok, Err, ⊤}
use Rattle.sq_ops.specs.JoinLaws.{SuitsPairing}
use Rattle.sq_ops.specs.Joins.{FitsSides}
use Rattle.sq_ops.specs.declared.bilinear.Pairing.{Pairing}
use Rattle.sq_zset.specs.Range.{IsInRange}
use Rattle.sq_zset.specs.declared.pair.ZFault.{ZFault}
use Rattle.sq_zset.specs.declared.pair.ZFault.TheVariants.{Weight, Memory}
use Rattle.sq_circuit.specs.Circuits.{has_number_outside, known, lists_too_many, node_at, owner_at, table_at}
use Rattle.sq_circuit.specs.Invariant.{IsListed}
use Rattle.sq_circuit.specs.Nodes.{Rows, Source, left_source, none, operator, read, right_source}
use Rattle.sq_circuit.specs.declared.circuit.Part.{Part}
use Rattle.sq_circuit.specs.declared.node.Node.{Node}

abbrev pub IsResult : Rows → Bool → Option Rows → Type 0
IsResult z outside None = outside ≡ false → IsInRange z → ⊥
IsResult z outside (Some x) = (x ≡ z) × (outside ≡ false)

module _ (f : Rows → Rows → Rows) (outside : Rows → Bool) where
  abbrev pub IsAnswer : Option Rows → Option Rows → Option Rows → Type 0
  IsAnswer None z x = x ≡ None
  IsAnswer (Some y) None x = x ≡ None
  IsAnswer (Some y) (Some z) x = IsResult (f y z) (outside y) x

abbrev pub IsUnary : (Rows → Rows) → (Rows → Bool) → Option Rows → Option Rows → Type 0
IsUnary f outside y x = IsAnswer (λ y z. f y) outside y (Some none) x

-- no number is outside
abbrev pub never : Rows → Bool
never y = false

-- a Z-set that was made, unless a weight left its range
abbrev pub IsMade : Result Rows ZFault → Option Rows → Type 0
IsMade (Ok z) x = x ≡ Some z
IsMade (Err (Weight sum)) x = x ≡ None
IsMade (Err Memory) x = ⊥

-- what is known of what a node reads
abbrev pub known_from : List Part → List Rows → Source → Option Rows
known_from c tables s = read (λ t. Some (table_at tables t)) (known c tables) (Some none) s

abbrev pub AnswersNode : List Part → List Rows → Option Node → Option Rows → Type 0
AnswersNode c tables None x = ⊤
AnswersNode c tables (Some n) x = IsAnswer (operator n) (has_number_outside n) (known_from c tables (left_source n)) (known_from c tables (right_source n)) x

abbrev pub IsAnswerAt : List Part → List Rows → ℕ → Option Rows → Type 0
IsAnswerAt c tables i x = AnswersNode c tables (node_at c i) x

pub record CanPair (op : Pairing) (y z : Rows) : Type 0 where
  pub fits : FitsSides (SuitsPairing op.left op.right op.items op.keep) y z
  pub left : IsListed y
  pub right : IsListed z

abbrev pub FitsPairing : Pairing → Option Rows → Option Rows → Type 0
FitsPairing op None z = ⊤
FitsPairing op (Some y) None = ⊤
FitsPairing op (Some y) (Some z) = CanPair op y z

abbrev pub rows_within : Bool → Option Rows → Option Rows
rows_within place None = None
rows_within place (Some z) = if place && lists_too_many z then None else Some z

abbrev pub unless_known : Option (Option Rows) → Option ℕ → Option ℕ
unless_known None owner = None
unless_known (Some None) owner = owner
unless_known (Some (Some z)) owner = None

abbrev pub missing_owner : List Part → List (Option Rows) → ℕ → Option ℕ
missing_owner c values i = unless_known (slice_get values i) (owner_at c i)
