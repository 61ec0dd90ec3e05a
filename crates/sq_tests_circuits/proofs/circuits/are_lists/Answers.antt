-- Two tables.
use Rattle.sq_tests_circuits.proofs.Tables.{are_lists}
use Rattle.sq_tests_circuits.proofs.circuits.are_lists.Goals as goal

pub returns : goal.returns
returns c _ =
    are_lists c.args.tables.now c.index-tables-0.result c.index-tables-1.result c.if-tables-ne2.false c.index-tables-0.is c.index-tables-1.is
    (c.is_table.ensures c.if-not-is_table.false) (c.is_table-2.ensures c.if-not-is_table-2.false)
