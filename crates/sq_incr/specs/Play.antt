-- Tasks played in an order, whatever it is that becomes of a task: its outcome, of any type O. A store has one for each node and shard.
--     StepOf O                 what becomes of a task, by the store that it finds
--     put store t o            the store with the outcome o at the task t
--     play_one step store t    the store after one more task
--     played start step order  the store after all tasks of an order, which begins with `start` at each
--     outcomes start step      the outcomes by number of node, in all shards, with no order
--     IsPlayable c n step      nodes read earlier ones, and what becomes of a task depends on the outcomes of those that it needs alone
--     HasPlayed start step order store     the store has their outcome for the tasks of the order, and `start` for all others
--     OneMoreKeeps, AnyOrderGives c n start step     one more task keeps this, and any whole legal order gives all outcomes
use Rattle.std.specs.Prelude.{◌≡◌, ℕ, ◌<◌, ◌==◌, ◌&&◌, if◌then◌else◌, List, [], ◌∷◌, ◌++◌}
use Rattle.std.specs.List.{Contains, fold}
use Rattle.sq_circuit.specs.Along.{along}
use Rattle.sq_circuit.specs.Invariant.{AreEarlier}
use Rattle.sq_circuit.specs.declared.circuit.Part.{Part}
use Rattle.sq_incr.specs.Orders.{IsInRange, IsLegal, IsNeeded, IsWhole, MayStand, task}
use Rattle.sq_incr.specs.declared.task.Task.{Task}

abbrev pub StoreOf : Type 0 → Type 0
StoreOf O = ℕ → ℕ → O

abbrev pub StepOf : Type 0 → Type 0
StepOf O = Task → StoreOf O → O

-- ---- in an order
module _ {O : Type 0} where
  abbrev pub put : StoreOf O → Task → O → StoreOf O
  put store t o i s = if (i == t.node) && (s == t.shard) then o else store i s

  abbrev pub play_one : StepOf O → StoreOf O → Task → StoreOf O
  play_one step store t = put store t (step t store)

  abbrev pub played : O → StepOf O → List Task → StoreOf O
  played start step order = fold (play_one step) (λ i s. start) order

  -- ---- with no order
  abbrev pub outcome_step : StepOf O → ℕ → StoreOf O → ℕ → O
  outcome_step step i below s = step (task i s) below

  abbrev pub outcomes : O → StepOf O → StoreOf O
  outcomes start step i = along (λ s. start) (outcome_step step) i

-- ---- what is asked of the steps
abbrev pub ReadsNeeds : {O : Type 0} → List Part → ℕ → StepOf O → Type 0
ReadsNeeds {O} c n step = (t : Task) (f g : StoreOf O) → ((u : Task) → IsNeeded c t u → u.shard < n → f u.node u.shard ≡ g u.node u.shard) → step t f ≡ step t g

pub record IsPlayable {O : Type 0} (c : List Part) (n : ℕ) (step : StepOf O) : Type 0 where
  pub earlier : AreEarlier c
  pub reads : ReadsNeeds c n step

-- ---- what a store has
pub record HasPlayed {O : Type 0} (start : O) (step : StepOf O) (order : List Task) (store : StoreOf O) : Type 0 where
  pub done : (t : Task) → Contains order t → store t.node t.shard ≡ outcomes start step t.node t.shard
  pub rest : (t : Task) → (Contains order t → ⊥) → store t.node t.shard ≡ start

module _ {O : Type 0} (c : List Part) (n : ℕ) (start : O) (step : StepOf O) where
  -- one more task keeps this
  abbrev pub OneMoreKeeps : Type 0
  OneMoreKeeps = (order : List Task) (t : Task) (store : StoreOf O) → HasPlayed start step order store → MayStand c n order t → HasPlayed start step (order ++ t ∷ []) (play_one step store t)

  -- all tasks in any whole legal order
  abbrev pub AnyOrderGives : Type 0
  AnyOrderGives = (order : List Task) → IsLegal c n order → IsWhole c n order → (t : Task) → IsInRange c n t → played start step order t.node t.shard ≡ outcomes start step t.node t.shard
