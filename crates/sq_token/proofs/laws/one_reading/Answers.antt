use Rattle.sq_token.proofs.Outcomes.{list_once, fault_once, list_or_fault}
use Rattle.sq_token.proofs.laws.one_reading.Goals as goal

pub returns : goal.returns
returns c = record { list = list_once; fault = fault_once; either = list_or_fault }
