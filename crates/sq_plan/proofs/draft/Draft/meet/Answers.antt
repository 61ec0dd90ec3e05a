use Rattle.sq_plan.proofs.KeyedSteps.{nothing_joined}
use Rattle.sq_plan.specs.Keyed.{NoJoin}
use Rattle.sq_plan.proofs.draft.Draft.meet.Goals as goal

pub returns-in-None-clause-keyed : goal.returns-in-None-clause-keyed
returns-in-None-clause-keyed c = nothing_joined c.args.self.now NoJoin
