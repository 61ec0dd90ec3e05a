use Rattle.sq_algebra.proofs.GroupLemmas.{negate-negate, negate-plus, negate-zero}
use Rattle.sq_algebra.proofs.groups.negations_add.Goals as goal

pub returns-clause-zero : goal.returns-clause-zero
returns-clause-zero g c G laws = negate-zero G laws

pub returns-clause-twice : goal.returns-clause-twice
returns-clause-twice g c G laws = negate-negate G laws

pub returns-clause-sum : goal.returns-clause-sum
returns-clause-sum g c G laws = negate-plus G laws
