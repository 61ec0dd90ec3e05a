use Rattle.std.proofs.Common.{◌≡◌, ◌++◌, take}
use Rattle.sq_plan.proofs.columns.joined_kinds.Given as goal

abbrev pub invariant-loop-kind : goal.invariant-loop-kind
invariant-loop-kind l = l.kinds ≡ l.left ++ take l.kind-index l.right
