use Rattle.std.proofs.Common.{◌≡◌, take}
use Rattle.sq_scope.specs.NamesIndex.{spots_from, spots_of}
use Rattle.sq_scope.proofs.index.placed.Given as goal
use Rattle.sq_typed.specs.Scopes.{Text}

abbrev pub invariant-loop-i : goal.invariant-loop-i
invariant-loop-i l = (q : Text) → spots_of l.by_column q ≡ spots_from 0 0 (take l.i l.sources) q
