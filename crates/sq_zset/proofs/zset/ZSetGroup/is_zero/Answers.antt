use Rattle.sq_zset.proofs.Entries.{tested_empty}
use Rattle.sq_zset.proofs.zset.ZSetGroup.is_zero.Goals as goal

pub returns : goal.returns
returns c = tested_empty c.self.inside.entries.items c.args.self.now c.self.inside.entries.len c.is_empty.result c.self.invariant c.self.view_is c.self.inside.entries.ok.0 c.is_empty.ensures
