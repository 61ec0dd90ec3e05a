use Rattle.std.proofs.Common.{◌+◌, ◌∙◌, ap, sym}
use Rattle.sq_sample.proofs.Counting.{next_d_updates, no_d_updates}
use Rattle.sq_sample.proofs.ticks.insert_into_d.Goals as goal

pub loop-k-init : goal.loop-k-init
loop-k-init c = c.requires ∙ sym no_d_updates

pub loop-k-preserved : goal.loop-k-preserved
loop-k-preserved c =
    next_d_updates c.loop-k.k _ _ c.loop-k.updates.items _ c.loop-k.invariant (ap (λ n. n + 1) c.from.ensures) c.in_ok-d_row.ensures c.in_ok-push_update.ensures
