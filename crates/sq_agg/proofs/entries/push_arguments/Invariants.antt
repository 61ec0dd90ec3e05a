use Rattle.std.proofs.Common.{◌≡◌, ◌++◌, drop}
use Rattle.sq_agg.specs.Entering.{argument_entries}
use Rattle.sq_agg.proofs.entries.push_arguments.Given as goal

-- those of the calls that are left, behind what is there
abbrev pub invariant-loop-i : goal.invariant-loop-i
invariant-loop-i l = l.ordered.items ++ argument_entries l.key l.i (drop l.i l.spec.calls) l.changed ≡ l.fn.ordered.items ++ argument_entries l.key 0 l.spec.calls l.changed
