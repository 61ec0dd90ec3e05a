use Rattle.sq_typed.proofs.CheckedFits.{checked_fits}
use Rattle.sq_bridge.proofs.Beginning.{checked_begins}
use Rattle.sq_bridge.proofs.Viewing.{views_are_worth, verdicts_are_same}
use Rattle.sq_bridge.proofs.view_laws.checked_programs_are_operators.Goals as goal

pub returns-clause-views : goal.returns-clause-views
returns-clause-views c p tables checked hold = views_are_worth p tables (checked_fits p checked) (checked_begins p checked) hold

pub returns-clause-verdict : goal.returns-clause-verdict
returns-clause-verdict c p tables checked hold = verdicts_are_same p tables (checked_fits p checked) (checked_begins p checked) hold
