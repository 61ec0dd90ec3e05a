-- What small statements mean, computed.
use Rattle.std.proofs.Common.{refl}
use Rattle.sq_typed.specs.ProgramExamples as e
use Rattle.sq_typed.proofs.FaultLemmas.{rules}

pub a_grouped_block : e.a_grouped_block
a_grouped_block = simp rules refl

pub a_star_over_a_union : e.a_star_over_a_union
a_star_over_a_union = simp rules refl

pub ruleset program_examples = (a_grouped_block, a_star_over_a_union)
