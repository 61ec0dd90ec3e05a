use Rattle.sq_bridge.proofs.Combining.{chain_holds, intersect_holds}
use Rattle.sq_bridge.proofs.set_laws.chains_go_step_by_step.Goals as goal

pub returns-clause-chain : goal.returns-clause-chain
returns-clause-chain c = chain_holds

pub returns-clause-intersection : goal.returns-clause-intersection
returns-clause-intersection c = intersect_holds
