use Rattle.std.proofs.Common.{◌≡◌, take}
use Rattle.sq_states.specs.Empty.{empty_states}
use Rattle.sq_states.proofs.kept.States.new.Given as goal

-- the states of the first nodes
abbrev pub invariant-loop-i : goal.invariant-loop-i
invariant-loop-i l = l.nodes.items ≡ empty_states (take l.i l.circuit)
