use Rattle.sq_ops.proofs.Calling.{Called}
use Rattle.sq_ops.proofs.aggregate.call_values.Given as goal

abbrev pub invariant-loop-call : goal.invariant-loop-call
invariant-loop-call l = Called l.calls l.z l.call-index l.values.items
