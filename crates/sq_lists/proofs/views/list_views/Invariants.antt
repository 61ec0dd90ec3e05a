use Rattle.sq_lists.specs.Walks.{Walk}
use Rattle.sq_lists.proofs.views.list_views.Given as goal

abbrev pub invariant-loop-i : goal.invariant-loop-i
invariant-loop-i l = Walk l.program l.tables l.i l.so_far
