use Rattle.std.proofs.Common.{rules, SFits}
use Rattle.std.specs.Int.{w128}
use Rattle.std.proofs.lemmas.Int.{wrapping_add_is}
use Rattle.sq_sample.proofs.counted.wrapped_sum.Goals as goal

pub returns : goal.returns
returns c =
    let left : SFits w128 c.args.a = search rules in
    let right : SFits w128 c.args.b = search rules in
    wrapping_add_is w128 c.args.a c.args.b left right
