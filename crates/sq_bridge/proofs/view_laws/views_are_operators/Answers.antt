use Rattle.sq_bridge.proofs.Viewing.{views_are_worth, verdicts_are_same}
use Rattle.sq_bridge.proofs.view_laws.views_are_operators.Goals as goal

pub returns-clause-views : goal.returns-clause-views
returns-clause-views c = views_are_worth

pub returns-clause-verdict : goal.returns-clause-verdict
returns-clause-verdict c = verdicts_are_same
