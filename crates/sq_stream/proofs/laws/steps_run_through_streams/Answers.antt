use Rattle.sq_stream.proofs.Rows.{integral_is, differences_are, delay_is}
use Rattle.sq_stream.proofs.laws.steps_run_through_streams.Goals as goal

pub returns-clause-integral : goal.returns-clause-integral
returns-clause-integral c = integral_is

pub returns-clause-differences : goal.returns-clause-differences
returns-clause-differences c = differences_are

pub returns-clause-delay : goal.returns-clause-delay
returns-clause-delay c = delay_is
