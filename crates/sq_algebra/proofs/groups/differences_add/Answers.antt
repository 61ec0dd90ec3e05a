use Rattle.sq_algebra.proofs.GroupLemmas.{minus-chain, minus-plus, minus-zero}
use Rattle.sq_algebra.proofs.groups.differences_add.Goals as goal

pub returns-clause-sums : goal.returns-clause-sums
returns-clause-sums g c G laws = minus-plus G laws

pub returns-clause-row : goal.returns-clause-row
returns-clause-row g c G laws = minus-chain G laws

pub returns-clause-zero : goal.returns-clause-zero
returns-clause-zero g c G laws = minus-zero G laws
