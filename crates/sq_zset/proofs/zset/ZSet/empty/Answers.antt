use Rattle.sq_zset.proofs.Entries.{from_no_entries}
use Rattle.sq_zset.proofs.zset.ZSet.empty.Goals as goal

pub returns : goal.returns
returns c = from_no_entries c.new.result.items c.new.ensures.items
