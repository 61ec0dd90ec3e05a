use Rattle.std.proofs.Common.{take}
use Rattle.sq_scope.proofs.TypesStarsOnce.{Told}
use Rattle.sq_scope.proofs.stars.each_star_once.Given as goal

abbrev pub invariant-loop-item : goal.invariant-loop-item
invariant-loop-item l = Told l.kept.items l.seen (take l.item-index l.items)
