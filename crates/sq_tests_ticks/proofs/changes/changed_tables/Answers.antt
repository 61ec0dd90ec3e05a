use Rattle.std.proofs.Common.{◌∙◌, ap₂, subst, sym, ◌<◌}
use Rattle.sq_algebra.specs.ZSet.{plus}
use Rattle.sq_tests_ticks.specs.Ticks.{IsPlusAt}
use Rattle.sq_tests_ticks.proofs.Putting.{more_each}
use Rattle.sq_tests_ticks.proofs.Settling.{table_is}
use Rattle.sq_tests_ticks.proofs.changes.changed_tables.Goals as goal

pub loop-t-preserved : goal.loop-t-preserved
loop-t-preserved c =
    more_each (IsPlusAt c.args.tables.now c.args.changes.now) c.loop-t.now.items c.push.new.self.items c.loop-t.t _ c.loop-t.invariant
    (c.in_ok-plus.ensures.ok ∙ ap₂ (λ y d. plus y d) (table_is c.args.tables.now c.loop-t.t c.index-tables-t.result c.loop-t-test.true c.index-tables-t.is)
    (table_is c.args.changes.now c.loop-t.t c.index-changes-t.result (subst (λ n. c.loop-t.t < n) (sym c.requires) c.loop-t-test.true) c.index-changes-t.is)) c.in_ok-push.ensures.items
