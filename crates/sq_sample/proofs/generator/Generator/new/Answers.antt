use Rattle.std.proofs.Common.{◌∙◌, sym}
use Rattle.sq_sample.proofs.Counting.{state_begins}
use Rattle.sq_sample.proofs.generator.Generator.new.Goals as goal

pub returns-clause-state : goal.returns-clause-state
returns-clause-state c = c.from.ensures ∙ sym (state_begins c.args.seed)
