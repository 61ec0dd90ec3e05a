use Rattle.std.proofs.Common.{arith}
use Rattle.std.proofs.lemmas.Grind.{common_steps}
use Rattle.std.proofs.lemmas.Bool.Decides.{nat_tests}
use Rattle.sq_scope.proofs.keys.keep_first.Goals as goal

pub returns : goal.returns
returns c = λ q. grind (arith, common_steps, nat_tests)
