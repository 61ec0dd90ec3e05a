use Rattle.std.proofs.Common.{◌≡◌, Bool, List, true}
use Rattle.std.specs.List.{list_all}
use Rattle.sq_circuit.specs.Along.{least_below}
use Rattle.sq_circuit.specs.Nodes.{Rows}
use Rattle.sq_states.specs.declared.kept.NodeState.{NodeState}
use Rattle.sq_incr.specs.Ends.{blamed_owner}
use Rattle.sq_incr.specs.Ready.{IsReady}
use Rattle.sq_incr.specs.Slots.{AreNoted, is_done}
use Rattle.sq_incr.specs.declared.task.Task.{Task}
use Rattle.sq_incr.proofs.judge.least_faulty.Given as goal

abbrev pub invariant-loop-node : goal.invariant-loop-node
invariant-loop-node l = (states : List (List NodeState)) (changes : List Rows) (first : Bool) (r : IsReady l.circuit states l.totals changes first) (front : List Task) → AreNoted r front l.lines
    → list_all (list_all is_done) l.lines ≡ true → l.least ≡ least_below (blamed_owner r) l.node
