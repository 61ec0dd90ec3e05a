use Rattle.std.proofs.Common.{◌/◌, ◌%◌, ◌<◌, w64, arith}
use Rattle.std.proofs.lemmas.Int.{to_z_pos}
use Rattle.std.proofs.Math.Nat.{mod-lt}
use Rattle.sq_sample.specs.Numbers.{drawn}
use Rattle.sq_sample.proofs.generator.below_thousand.Goals as goal

pub returns : goal.returns
unfolding drawn
returns c = to_z_pos w64 (c.args.state / 4294967296 % 1000) (let low : c.args.state / 4294967296 % 1000 < 1000 = mod-lt (c.args.state / 4294967296) (omega arith) in omega arith)
