use Rattle.sq_algebra.proofs.GroupLemmas.{cancel, minus-self, plus-minus_back, plus-minus_left, plus-minus_right, same_from_minus}
use Rattle.sq_algebra.proofs.groups.differences_cancel.Goals as goal

pub returns-clause-left : goal.returns-clause-left
returns-clause-left g c G laws = plus-minus_left G laws

pub returns-clause-right : goal.returns-clause-right
returns-clause-right g c G laws = plus-minus_right G laws

pub returns-clause-back : goal.returns-clause-back
returns-clause-back g c G laws = plus-minus_back G laws

pub returns-clause-none : goal.returns-clause-none
returns-clause-none g c G laws = minus-self G laws

pub returns-clause-same : goal.returns-clause-same
returns-clause-same g c G laws = same_from_minus G laws

pub returns-clause-summand : goal.returns-clause-summand
returns-clause-summand g c G laws = cancel G laws
