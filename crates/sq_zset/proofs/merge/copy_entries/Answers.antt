use Rattle.sq_zset.proofs.Copying.{read_bound, copied_more}
use Rattle.sq_zset.proofs.merge.copy_entries.Goals as goal

pub of-requires : goal.of-requires
of-requires c = read_bound c.args.entries.now c.loop-entry.entry-index c.entry-item.result c.requires c.loop-entry-test.true c.entry-item.is

pub loop-entry-preserved : goal.loop-entry-preserved
loop-entry-preserved c =
    copied_more c.args.sign c.args.entries.now c.loop-entry.list.items c.push.new.self.items c.loop-entry.entry-index c.entry-item.result _ _ c.requires c.loop-entry-test.true c.entry-item.is
    c.loop-entry.invariant c.in_ok-row.ensures.equal c.of.ensures c.in_ok-push.ensures.items
