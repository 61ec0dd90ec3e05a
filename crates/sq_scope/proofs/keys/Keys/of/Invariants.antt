use Rattle.std.proofs.Common.{◌≡◌, ◌==◌, ℕ, nat_eq, map, take}
use Rattle.std.specs.Prelude.{position}
use Rattle.std.specs.HashMap.{get}
use Rattle.sq_typed.specs.Scopes.{number_of}
use Rattle.sq_scope.proofs.keys.Keys.of.Given as goal

-- the columns so far, with their first places
abbrev pub invariant-loop-r : goal.invariant-loop-r
invariant-loop-r l = record { numbered : l.numbers ≡ map (number_of l.row) (take l.r-index l.group); placed : (n : ℕ) → get nat_eq l.places n ≡ position (λ k. k == n) l.numbers }
