use Rattle.std.proofs.Common.{arith, ◌∙◌}
use Rattle.sq_base.proofs.Taken.{Appends-more}
use Rattle.sq_base.proofs.sinks.put_all.Goals as goal

pub loop-done-preserved : goal.loop-done-preserved
loop-done-preserved g c = record {
  within = omega (arith, c.in_ok-count.ensures.bound);
  taken = Appends-more _ _ _ c.args.bytes.now c.loop-done.done c.in_ok-count.count c.loop-done.invariant.taken c.in_ok-count.ensures.bytes;
  same = c.in_ok-count.ensures.ok ∙ c.loop-done.invariant.same;
}
