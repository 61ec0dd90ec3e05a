-- Circuits with their views.
use Rattle.sq_circuit.proofs.Ending.{ended_circuit, good_nodes, view_value}
use Rattle.sq_circuit.proofs.Judging.{ended_verdict}
use Rattle.sq_circuit.proofs.laws.views_end_a_circuit.Goals as goal

pub returns-clause-circuit : goal.returns-clause-circuit
returns-clause-circuit a = ended_circuit

pub returns-clause-good : goal.returns-clause-good
returns-clause-good a = good_nodes

pub returns-clause-value : goal.returns-clause-value
returns-clause-value a = view_value

pub returns-clause-verdict : goal.returns-clause-verdict
returns-clause-verdict a = ended_verdict
