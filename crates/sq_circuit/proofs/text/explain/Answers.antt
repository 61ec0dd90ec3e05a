use Rattle.std.proofs.Common.{◌∙◌, ◌+◌, ◌++◌, ap, drop}
use Rattle.sq_circuit.proofs.Explaining.{next_line, lines_from}
use Rattle.sq_circuit.proofs.text.explain.Goals as goal

pub loop-i-preserved : goal.loop-i-preserved
loop-i-preserved c = ap (λ t. t ++ lines_from (c.loop-i.i + 1) (drop (c.loop-i.i + 1) c.args.circuit.now)) c.in_ok-push_line.ensures
    ∙ next_line c.args.circuit.now c.loop-i.i c.node.result.now c.loop-i.text.items c.node.ensures.node c.loop-i.invariant
