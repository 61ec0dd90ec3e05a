use Rattle.sq_states.specs.Committing.{state_after}
use Rattle.sq_states.proofs.laws.commits_keep_the_new_rows.Goals as goal

pub returns : goal.returns
returns c = λ n kept left right first b p traces keeps ready. keeps b (state_after kept traces) ready.changed
