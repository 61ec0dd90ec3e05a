-- Longer lists of parts.
use Rattle.sq_circuit.proofs.Staying.{grown_fault, grown_good, grown_length, grown_list, grown_next, grown_part, grown_same, grown_sound, grown_through, grown_value}
use Rattle.sq_circuit.proofs.laws.longer_lists_keep_their_parts.Goals as goal

pub returns-clause-same : goal.returns-clause-same
returns-clause-same a = grown_same

pub returns-clause-next : goal.returns-clause-next
returns-clause-next a = grown_next

pub returns-clause-through : goal.returns-clause-through
returns-clause-through a = grown_through

pub returns-clause-length : goal.returns-clause-length
returns-clause-length a = grown_length

pub returns-clause-part : goal.returns-clause-part
returns-clause-part a = grown_part

pub returns-clause-value : goal.returns-clause-value
returns-clause-value a = grown_value

pub returns-clause-fault : goal.returns-clause-fault
returns-clause-fault a = grown_fault

pub returns-clause-sound : goal.returns-clause-sound
returns-clause-sound a = grown_sound

pub returns-clause-good : goal.returns-clause-good
returns-clause-good a = grown_good

pub returns-clause-list : goal.returns-clause-list
returns-clause-list a = grown_list
