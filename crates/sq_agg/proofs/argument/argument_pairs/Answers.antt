use Rattle.std.proofs.Common.{◌++◌, ◌∙◌, ap, sym}
use Rattle.sq_algebra.specs.Operators.{weighing}
use Rattle.sq_algebra.specs.ZSet.{entries}
use Rattle.sq_ops.specs.Arguments.{argument_of}
use Rattle.sq_zset.proofs.Entries.{kept}
use Rattle.sq_zset.specs.Pairs.{weighted_rows}
use Rattle.sq_agg.proofs.Arguing.{one_more}
use Rattle.sq_agg.proofs.argument.argument_pairs.Goals as goal

pub loop-i-preserved : goal.loop-i-preserved
loop-i-preserved c =
    c.in_ok-push_argument.ensures
    ∙ ap (λ w. weighted_rows c.loop-i.pairs.items ++ weighing w (argument_of c.args.column c.at-weight.result.0.now)) (kept c.at-weight.result.1 c.at-weight.ensures.in_range)
    ∙ ap (λ ps. ps ++ weighing c.at-weight.result.1 (argument_of c.args.column c.at-weight.result.0.now)) c.loop-i.invariant
    ∙ sym (one_more c.args.column (entries c.args.z.now) c.loop-i.i c.at-weight.result.0.now c.at-weight.result.1 c.at-weight.ensures.entry)
