use Rattle.std.proofs.Common.{map, take}
use Rattle.sq_scope.proofs.NamesTexts.{SeenOnce}
use Rattle.sq_scope.proofs.repeating.repeats.Given as goal

abbrev pub invariant-loop-name : goal.invariant-loop-name
invariant-loop-name l = SeenOnce l.seen (map (λ n. n.now) (take l.name-index l.names))
