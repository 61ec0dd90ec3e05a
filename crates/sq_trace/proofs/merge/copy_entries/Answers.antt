use Rattle.sq_trace.proofs.Ranges.{in_range_got}
use Rattle.sq_trace.proofs.merge.copy_entries.Goals as goal

pub copy_entry-requires : goal.copy_entry-requires
copy_entry-requires g c = in_range_got g.P.Group.addition g.P.Group.first_outside c.args.entries.now c.loop-entry.entry-index c.entry-item.result c.requires c.loop-entry-test.true c.entry-item.is
