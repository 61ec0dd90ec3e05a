use Rattle.std.proofs.Common.{◌≡◌, ◌≤◌, ◌*◌, ◌^◌, length, take}
use Rattle.std.specs.List.{flat_map}
use Rattle.sq_scope.specs.TypesItems.{starred_at}
use Rattle.sq_check.proofs.columns.named_count.Given as goal

-- the columns of the sources so far, of which each has fewer than 2^64
abbrev pub invariant-loop-place : goal.invariant-loop-place
invariant-loop-place l = record { counted : l.count ≡ length (flat_map (starred_at l.scope) (take l.place-index l.place-items)); few : l.count ≤ l.place-index * 2 ^ 64 }
