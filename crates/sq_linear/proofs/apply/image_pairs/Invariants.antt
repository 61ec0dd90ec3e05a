use Rattle.sq_linear.proofs.Images.{Moved}
use Rattle.sq_linear.proofs.apply.image_pairs.Given as goal

abbrev pub invariant-loop-i : goal.invariant-loop-i
invariant-loop-i g l = Moved (g.O.Linear.images l.op) (g.O.Linear.tested l.op) l.z l.i l.images.items l.pairs.items
