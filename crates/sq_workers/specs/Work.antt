-- What holds of a worker as it is hired, works and leaves, and how answers are put into places.
use Rattle.std.specs.Prelude.{◌≡◌, ℕ, ◌<◌, ◌≤◌, List, [], ◌∷◌, length, Some, None, Option, slice_set, OnOk, Result}
use Rattle.std.specs.List.{AllZip}
use Rattle.sq_value.specs.declared.memory.NoMemory.{NoMemory}
use Rattle.sq_claims.specs.Claims.{Place, Turn, fresh, total}
use Rattle.sq_workers.specs.declared.crew.Yield.{Yield}
use Rattle.sq_workers.specs.declared.worker.Worker.{Worker}

-- a worker that has done nothing
pub record IsHired {L X : Type 0} (board : Place) (w : Worker L X) : Type 0 where
  pub pass_is : w.pass ≡ fresh board
  pub steps_are : w.steps ≡ record { count = 0; ledger = None }
  pub claims_are : w.claims.items ≡ []
  pub answers_are : w.answers.items ≡ []

-- The worker is at work: its claims have their answers, and its steps cost no more than they do.
pub record IsAtWork {L X : Type 0} (ok : ℕ → X → Type 0) (cost : ℕ → ℕ) (board : Place) (w : Worker L X) : Type 0 where
  pub board_is : w.pass.board ≡ board
  pub part : w.steps.ledger ≡ None
  pub bound : w.steps.count ≤ total cost w.pass.claims
  pub claims_are : w.claims.items ≡ w.pass.claims
  pub answered : AllZip ok w.claims.items w.answers.items

-- all its claims have their answers, and it found that there is no further task
pub record Leaves {X : Type 0} (ok : ℕ → X → Type 0) (turn : Turn) (claims : List ℕ) (answers : List X) : Type 0 where
  pub claims_are : claims ≡ turn.claims
  pub answered : AllZip ok claims answers
  pub late : 0 < length turn.late

-- The worker stopped: for want of memory, or since all tasks are claimed.
pub record HasWorked {L X : Type 0} (ok : ℕ → X → Type 0) (cost : ℕ → ℕ) (board : Place) (w : Worker L X) (ended : Result (Unit {0}) NoMemory) : Type 0 where
  pub board_is : w.pass.board ≡ board
  pub part : w.steps.ledger ≡ None
  pub bound : w.steps.count ≤ total cost w.pass.claims
  pub leaves : OnOk ended (Leaves ok w.pass w.claims.items w.answers.items)

-- what a worker with this pass left, if it had the memory for all
abbrev pub IsYield : {X : Type 0} → (ℕ → X → Type 0) → Turn → Yield X → Type 0
IsYield ok turn y = OnOk y.ended (Leaves ok turn y.claims.items y.answers.items)

-- the places, once each number's took its answer, from the last number to the first
abbrev pub filled : {X : Type 0} → List (Option X) → List ℕ → List X → List (Option X)
filled slots [] answers = slots
filled slots (n ∷ ns) [] = slots
filled slots (n ∷ ns) (x ∷ xs) = slice_set (filled slots ns xs) n (Some x)
