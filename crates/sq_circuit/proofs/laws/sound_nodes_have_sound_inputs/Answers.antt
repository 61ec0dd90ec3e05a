-- Soundness goes down along what nodes read.
use Rattle.sq_circuit.proofs.Lawfully.{faultless, left_sound, right_sound, sound_in_range, sound_kinds}
use Rattle.sq_circuit.proofs.laws.sound_nodes_have_sound_inputs.Goals as goal

pub returns-clause-faultless : goal.returns-clause-faultless
returns-clause-faultless a = faultless

pub returns-clause-left : goal.returns-clause-left
returns-clause-left a = left_sound

pub returns-clause-right : goal.returns-clause-right
returns-clause-right a = right_sound

pub returns-clause-kinds : goal.returns-clause-kinds
returns-clause-kinds a = sound_kinds

pub returns-clause-in_range : goal.returns-clause-in_range
returns-clause-in_range a = sound_in_range
