use Rattle.sq_plan.proofs.KeyedSteps.{nothing_joined}
use Rattle.sq_plan.specs.Keyed.{NoJoin}
use Rattle.sq_plan.proofs.draft.Draft.once_if.Goals as goal

pub returns-else-distinct-clause-keyed : goal.returns-else-distinct-clause-keyed
returns-else-distinct-clause-keyed c = nothing_joined c.args.self.now NoJoin
