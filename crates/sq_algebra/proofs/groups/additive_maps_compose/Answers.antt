use Rattle.sq_algebra.proofs.GroupLemmas.{IsAdditive-compose, IsAdditive-negate, IsAdditive-plus, IsAdditive-zero, times-IsAdditive}
use Rattle.sq_algebra.proofs.groups.additive_maps_compose.Goals as goal

pub returns-clause-composed : goal.returns-clause-composed
returns-clause-composed g c = IsAdditive-compose

pub returns-clause-sum : goal.returns-clause-sum
returns-clause-sum g c G H others = IsAdditive-plus G H others

pub returns-clause-negation : goal.returns-clause-negation
returns-clause-negation g c G H others = IsAdditive-negate G H others

pub returns-clause-zero : goal.returns-clause-zero
returns-clause-zero g c G H others = IsAdditive-zero G H others

pub returns-clause-multiple : goal.returns-clause-multiple
returns-clause-multiple g c = times-IsAdditive
