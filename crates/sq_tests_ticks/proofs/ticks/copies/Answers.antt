use Rattle.std.proofs.Common.{◌∙◌}
use Rattle.sq_tests_ticks.specs.Ticks.{IsCopyAt}
use Rattle.sq_tests_ticks.proofs.Putting.{more_each}
use Rattle.sq_tests_ticks.proofs.Settling.{table_is}
use Rattle.sq_tests_ticks.proofs.ticks.copies.Goals as goal

pub loop-t-preserved : goal.loop-t-preserved
loop-t-preserved c =
    more_each (IsCopyAt c.args.tables.now) c.loop-t.copies.items c.push.new.self.items c.loop-t.t _ c.loop-t.invariant
    (c.in_ok-clone_group.ensures.ok ∙ table_is c.args.tables.now c.loop-t.t c.index-tables-t.result c.loop-t-test.true c.index-tables-t.is) c.in_ok-push.ensures.items
