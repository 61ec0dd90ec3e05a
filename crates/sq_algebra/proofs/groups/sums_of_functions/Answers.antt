use Rattle.sq_algebra.proofs.GroupLemmas.{sum_over-minus, sum_over-plus, sum_over-times, sum_over-zero, sum_over_agree_at}
use Rattle.sq_algebra.proofs.groups.sums_of_functions.Goals as goal

pub returns-clause-zeros : goal.returns-clause-zeros
returns-clause-zeros g c G laws = sum_over-zero G laws

pub returns-clause-sums : goal.returns-clause-sums
returns-clause-sums g c G laws = sum_over-plus G laws

pub returns-clause-differences : goal.returns-clause-differences
returns-clause-differences g c G laws = sum_over-minus G laws

pub returns-clause-multiples : goal.returns-clause-multiples
returns-clause-multiples g c G laws = sum_over-times G laws

pub returns-clause-same : goal.returns-clause-same
returns-clause-same g c G = sum_over_agree_at G
