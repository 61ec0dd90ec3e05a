use Rattle.std.proofs.Common.{◌≡◌, take}
use Rattle.sq_scope.specs.NamesIndex.{named_from, named_in}
use Rattle.sq_scope.proofs.index.named.Given as goal
use Rattle.sq_typed.specs.Scopes.{Text}

abbrev pub invariant-loop-i : goal.invariant-loop-i
invariant-loop-i l = (q : Text) → named_in l.by_name q ≡ named_from 0 (take l.i l.sources) q
