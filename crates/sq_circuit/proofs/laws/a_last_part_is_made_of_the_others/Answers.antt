-- A part that is appended.
use Rattle.sq_circuit.proofs.Judging.{last_verdict}
use Rattle.sq_circuit.proofs.Making.{last_earlier, last_fault, last_sound, last_value}
use Rattle.sq_circuit.proofs.laws.a_last_part_is_made_of_the_others.Goals as goal

pub returns-clause-value : goal.returns-clause-value
returns-clause-value a = last_value

pub returns-clause-fault : goal.returns-clause-fault
returns-clause-fault a = last_fault

pub returns-clause-sound : goal.returns-clause-sound
returns-clause-sound a = last_sound

pub returns-clause-verdict : goal.returns-clause-verdict
returns-clause-verdict a = last_verdict

pub returns-clause-earlier : goal.returns-clause-earlier
returns-clause-earlier a = last_earlier
