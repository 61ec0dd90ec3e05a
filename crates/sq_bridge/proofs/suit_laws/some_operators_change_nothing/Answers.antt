use Rattle.sq_bridge.proofs.Skipping.{kept_on_none, projected_all}
use Rattle.sq_bridge.proofs.suit_laws.some_operators_change_nothing.Goals as goal

pub returns-clause-kept : goal.returns-clause-kept
returns-clause-kept c = kept_on_none

pub returns-clause-projected : goal.returns-clause-projected
returns-clause-projected c = projected_all
