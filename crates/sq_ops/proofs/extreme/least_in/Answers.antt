use Rattle.std.proofs.Common.{◌∙◌, ap₂, sym}
use Rattle.sq_algebra.specs.ZSet.{entries}
use Rattle.sq_ops.specs.Aggregates.{lesser}
use Rattle.sq_value.specs.declared.value.Value.TheVariants.{Null}
use Rattle.sq_ops.proofs.Folding.{folded_more}
use Rattle.sq_ops.proofs.extreme.least_in.Goals as goal

pub loop-i-preserved : goal.loop-i-preserved
loop-i-preserved c =
    c.the_lesser-least.ensures ∙ ap₂ lesser c.loop-i.invariant c.value_at.ensures
    ∙ sym (folded_more lesser Null c.args.column (entries c.args.z.now) c.loop-i.i c.at.result.0.now c.at.result.1 c.at.ensures.entry)
