use Rattle.sq_states.proofs.Starting.{begins_empty, state_of_node}
use Rattle.sq_states.proofs.laws.empty_states_keep_nothing.Goals as goal

pub returns-clause-begins : goal.returns-clause-begins
returns-clause-begins c = begins_empty

pub returns-clause-state : goal.returns-clause-state
returns-clause-state c = state_of_node
