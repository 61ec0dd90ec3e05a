-- Which worker claimed which task, and what contracts see of a board and of a pass.
use Rattle.std.specs.Prelude.{◌≡◌, ℕ, ◌+◌, ◌<◌, ◌≤◌, ◌==◌, List, [], ◌∷◌, ◌++◌, if◌then◌else◌}
use Rattle.std.specs.List.{AllByRecursion}
use Rattle.std.specs.List.Sorted.{IsStrictlyIncreasing}
use Rattle.atomic_table.specs.Seated.{TableId}

-- the numbers of all, added up
abbrev pub total : {A : Type 0} → (A → ℕ) → List A → ℕ
total f [] = 0
total f (x ∷ xs) = f x + total f xs

-- how often x stands in the list
abbrev pub times : ℕ → List ℕ → ℕ
times x = total (λ y. if y == x then 1 else 0)

-- each number below n stands in exactly one of the lists, once, no other stands there, and each list ascends
pub record Claimed (n : ℕ) (lists : List (List ℕ)) : Type 0 where
  pub once : (x : ℕ) → x < n → total (times x) lists ≡ 1
  pub no_other : (x : ℕ) → n ≤ x → total (times x) lists ≡ 0
  pub ascends : AllByRecursion IsStrictlyIncreasing lists

-- a board: how many tasks and passes it has, and what no other board shares with it
pub record Place : Type 0 where
  pub tasks : ℕ
  pub passes : ℕ
  pub id : TableId

-- a pass: its board, the numbers that it claimed, and the word at which it ended, if it did: one that is no task
pub record Turn : Type 0 where
  pub board : Place
  pub claims : List ℕ
  pub late : List ℕ

-- a pass that has claimed nothing
abbrev pub fresh : Place → Turn
fresh board = record { board = board; claims = []; late = [] }

-- the claim of the number i
abbrev pub claims_one : Turn → ℕ → Turn
claims_one t i = record { board = t.board; claims = t.claims ++ i ∷ []; late = t.late }

-- the end, at a word that is no task
abbrev pub ends_at : Turn → ℕ → Turn
ends_at t word = record { board = t.board; claims = t.claims; late = word ∷ [] }
