use Rattle.sq_stream.proofs.Rows.{integral-differences, differences-integral}
use Rattle.sq_stream.proofs.laws.integration_and_differentiation_are_inverse.Goals as goal

pub returns-clause-differentiated_first : goal.returns-clause-differentiated_first
returns-clause-differentiated_first c = integral-differences

pub returns-clause-integrated_first : goal.returns-clause-integrated_first
returns-clause-integrated_first c = differences-integral
