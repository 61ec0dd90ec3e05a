-- Words for laws of verdicts, and of what a node needs.
--     IsToBlame c tables v      a node with a fault belongs to the view v
--     AreTold test xs c tables  the test tells of each view, in the list xs of views, whether it is to blame, if none before it is
--     IsMadeOfReads c tables i p      the Z-set, the fault and the soundness of the part p at i, by what it reads
--     IsAtMost o w              a number that may be missing is there, and is not above w
--     source_sound c tables s   what a source reads is sound
--     unsound_owner c tables i  the owner of the node i, if it is not sound
use Rattle.std.specs.Prelude.{◌≡◌, ℕ, ◌<◌, ◌≤◌, Bool, true, not, ◌&&◌, if◌then◌else◌, List, length, slice_get, Option, Some, None}
use Rattle.sq_circuit.specs.Circuits.{fault_of, has_fault, is_sound, owner_at, whole, whole_from}
use Rattle.sq_circuit.specs.Nodes.{Rows, Source, left_source, operator, read, right_source}
use Rattle.sq_circuit.specs.declared.circuit.Part.{Part}

pub record IsToBlame (c : List Part) (tables : List Rows) (v : ℕ) : Type 0 where
  pub node : ℕ
  pub low : node < length c
  pub fault : has_fault c tables node ≡ true
  pub owner : owner_at c node ≡ Some v

pub record IsTold (c : List Part) (tables : List Rows) (v : ℕ) (bad : Bool) : Type 0 where
  pub tells : IsToBlame c tables v → bad ≡ true
  pub blames : bad ≡ true → IsToBlame c tables v

abbrev pub NoneBefore : List Part → List Rows → ℕ → Type 0
NoneBefore c tables v = (w : ℕ) → w < v → IsToBlame c tables w → ⊥

abbrev pub AreTold : {X : Type 0} → (X → Bool) → List X → List Part → List Rows → Type 0
AreTold {X} test xs c tables = (v : ℕ) (x : X) → slice_get xs v ≡ Some x → NoneBefore c tables v → IsTold c tables v (test x)

abbrev pub IsAtMost : Option ℕ → ℕ → Type 0
IsAtMost None w = ⊥
IsAtMost (Some v) w = v ≤ w

abbrev pub source_sound : List Part → List Rows → Source → Bool
source_sound c tables s = read (λ t. true) (is_sound c tables) true s

abbrev pub unsound_owner : List Part → List Rows → ℕ → Option ℕ
unsound_owner c tables i = if is_sound c tables i then None else owner_at c i

pub record IsMadeOfReads (c : List Part) (tables : List Rows) (i : ℕ) (p : Part) : Type 0 where
  pub value : whole c tables i ≡ operator p.node (whole_from c tables (left_source p.node)) (whole_from c tables (right_source p.node))
  pub fault : has_fault c tables i ≡ fault_of (Some p) (whole_from c tables) (whole c tables i)
  pub sound : is_sound c tables i ≡ not (has_fault c tables i) && (source_sound c tables (left_source p.node) && source_sound c tables (right_source p.node))
