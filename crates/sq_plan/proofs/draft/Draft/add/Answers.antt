use Rattle.sq_plan.proofs.Adding.{adds_one}
use Rattle.sq_plan.proofs.Primitives.{if_ok}
use Rattle.sq_plan.proofs.draft.Draft.add.Goals as goal

pub returns-clause-adds : goal.returns-clause-adds
returns-clause-adds c = if_ok c.append.result _ _ (λ i g. adds_one c.args.self.now c.append.new.self _ i g c.requires.room.draft c.requires.next c.requires.list) c.append.ensures
