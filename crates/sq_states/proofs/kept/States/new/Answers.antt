use Rattle.sq_states.proofs.Begun.{one_more_state}
use Rattle.sq_states.proofs.kept.States.new.Goals as goal

pub loop-i-preserved : goal.loop-i-preserved
loop-i-preserved c =
    one_more_state c.args.circuit.now c.loop-i.i c.node.result.now c.empty.result c.loop-i.nodes.items c.push.new.self.items c.node.ensures.node c.empty.ensures c.loop-i.invariant c.in_ok-push.ensures.items
