use Rattle.sq_ops.proofs.Parting.{over_all_shards, over_change, over_nothing}
use Rattle.sq_ops.proofs.whole_laws.answers_change_by_key.Goals as goal

pub returns-clause-none : goal.returns-clause-none
returns-clause-none g c op = over_nothing (g.W.Whole.parts op) (g.W.Whole.stands op) (g.W.Whole.keys op) (g.W.Whole.answers op) (g.met.W.Whole.adds_up op)

pub returns-clause-change : goal.returns-clause-change
returns-clause-change g c op = over_change (g.W.Whole.parts op) (g.W.Whole.stands op) (g.W.Whole.keys op) (g.W.Whole.answers op) (g.met.W.Whole.adds_up op)

pub returns-clause-shards : goal.returns-clause-shards
returns-clause-shards g c op = over_all_shards (g.W.Whole.parts op) (g.W.Whole.stands op) (g.W.Whole.keys op) (g.W.Whole.answers op) (g.met.W.Whole.adds_up op)
