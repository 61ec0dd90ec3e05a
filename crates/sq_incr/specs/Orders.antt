-- Orders of the tasks of a circuit c over n shards. An order is a list of tasks.
--     task i s                 the task of the node i in the shard s
--     all_tasks c n            all tasks, by node and then by shard
--     IsInRange c n t          the task t is one of these
--     IsNeeded c t u           the task t needs the task u: u is one, in any shard, of a node that t's node reads
--     MayStand c n front t     t may stand behind the tasks of `front`: it is none of them, is in range, and all that it needs are there
--     IsLegal c n order        each task may stand behind those before it
--     IsWhole c n order        no task is missing
--     FirstIllegal c n order at     the task at this place, from 0, is the first that may not stand there
--     first_missing c n order  the first task that is missing, by node and then by shard
--     may_stand c n front t    whether t may stand there, as a test: the tasks of the nodes that it reads are there in all shards
--     IsFirstMissing c n order t     t is missing, and no task before it is, by node and then by shard
use Rattle.std.specs.Prelude.{◌≡◌, ℕ, ◌<◌, nat_lt, ◌==◌, Bool, true, not, ◌&&◌, List, length, map, take, slice_get, Option, Some, None, ◌⊎◌}
use Rattle.std.specs.List.{Contains, find, flat_map, list_all, list_any}
use Rattle.sq_algebra.specs.Keyed.{numbers_below}
use Rattle.sq_circuit.specs.Circuits.{are_sound}
use Rattle.sq_circuit.specs.Nodes.{Source, Nowhere, Outer, Inner, left_source, read, right_source}
use Rattle.sq_circuit.specs.declared.circuit.Part.{Part}
use Rattle.sq_incr.specs.declared.task.Task.{Task}

-- ---- tasks
abbrev pub task : ℕ → ℕ → Task
task i s = record { node = i; shard = s }

abbrev pub tasks_of : ℕ → ℕ → List Task
tasks_of n i = map (task i) (numbers_below n)

abbrev pub all_tasks : List Part → ℕ → List Task
all_tasks c n = flat_map (tasks_of n) (numbers_below (length c))

abbrev pub is_same : Task → Task → Bool
is_same t u = (t.node == u.node) && (t.shard == u.shard)

pub record IsInRange (c : List Part) (n : ℕ) (t : Task) : Type 0 where
  pub low : t.node < length c
  pub inside : t.shard < n

-- ---- what a task needs
abbrev pub IsOfNode : ℕ → Source → Type 0
IsOfNode j Nowhere = ⊥
IsOfNode j (Outer t) = ⊥
IsOfNode j (Inner i) = i ≡ j

abbrev pub IsInput : Option Part → ℕ → Type 0
IsInput None j = ⊥
IsInput (Some p) j = IsOfNode j (left_source p.node) ⊎ IsOfNode j (right_source p.node)

abbrev pub IsNeeded : List Part → Task → Task → Type 0
IsNeeded c t u = IsInput (slice_get c t.node) u.node

-- ---- orders
pub record MayStand (c : List Part) (n : ℕ) (front : List Task) (t : Task) : Type 0 where
  pub once : Contains front t → ⊥
  pub in_range : IsInRange c n t
  pub after : (u : Task) → IsNeeded c t u → u.shard < n → Contains front u

abbrev pub IsLegal : List Part → ℕ → List Task → Type 0
IsLegal c n order = (at : ℕ) (t : Task) → slice_get order at ≡ Some t → MayStand c n (take at order) t

abbrev pub IsWhole : List Part → ℕ → List Task → Type 0
IsWhole c n order = (t : Task) → IsInRange c n t → Contains order t

pub record FirstIllegal (c : List Part) (n : ℕ) (order : List Task) (at : ℕ) : Type 0 where
  pub wrong : Task
  pub is : slice_get order at ≡ Some wrong
  pub front : IsLegal c n (take at order)
  pub illegal : MayStand c n (take at order) wrong → ⊥

-- ---- tests
abbrev pub is_in : List Task → Task → Bool
is_in front t = list_any (is_same t) front

abbrev pub is_done : List Task → ℕ → Source → Bool
is_done front n s = read (λ t. true) (λ j. list_all (λ k. is_in front (task j k)) (numbers_below n)) true s

abbrev pub may_stand : List Part → ℕ → List Task → Task → Bool
may_stand c n front t = (nat_lt t.node (length c) && nat_lt t.shard n) && (not (is_in front t) && are_sound (slice_get c t.node) (is_done front n))

abbrev pub first_missing : List Part → ℕ → List Task → Option Task
first_missing c n order = find (λ t. not (is_in order t)) (all_tasks c n)

abbrev pub IsBefore : Task → Task → Type 0
IsBefore u t = (u.node < t.node) ⊎ ((u.node ≡ t.node) × (u.shard < t.shard))

pub record IsFirstMissing (c : List Part) (n : ℕ) (order : List Task) (t : Task) : Type 0 where
  pub in_range : IsInRange c n t
  pub missing : Contains order t → ⊥
  pub before : (u : Task) → IsInRange c n u → IsBefore u t → Contains order u

-- ---- words for laws
-- the test tells whether a task may stand behind others
pub record IsToldBy (c : List Part) (n : ℕ) (front : List Task) (t : Task) : Type 0 where
  pub passes : MayStand c n front t → may_stand c n front t ≡ true
  pub stands : may_stand c n front t ≡ true → MayStand c n front t

-- no task is missing exactly if the order is whole, and else the one that is named is the first
pub record TellsMissing (c : List Part) (n : ℕ) (order : List Task) : Type 0 where
  pub none : IsWhole c n order → first_missing c n order ≡ None
  pub whole : first_missing c n order ≡ None → IsWhole c n order
  pub first : (t : Task) → first_missing c n order ≡ Some t → IsFirstMissing c n order t
