use Rattle.std.proofs.Common.{rules}
use Rattle.sq_good.proofs.Tables.{kinds_there}
use Rattle.sq_good.proofs.good.has_kinds_at.Goals as goal

pub returns : goal.returns
returns c t = kinds_there c.args.tables.now c.args.table c.index-tables-table.result c.args.kinds.now (search rules) c.index-tables-table.is (c.has_kinds.ensures t)
