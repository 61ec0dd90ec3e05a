-- Verdicts of circuits in the making.
use Rattle.sq_circuit.proofs.Judging.{verdict_kept, verdict_new}
use Rattle.sq_circuit.proofs.laws.verdicts_are_made_node_by_node.Goals as goal

pub returns-clause-kept : goal.returns-clause-kept
returns-clause-kept a = verdict_kept

pub returns-clause-first : goal.returns-clause-first
returns-clause-first a = verdict_new
