-- One table.
use Rattle.sq_tests_circuits.proofs.Tables.{good_one}
use Rattle.sq_tests_circuits.proofs.view.shown.Goals as goal

pub whole_eval-requires : goal.whole_eval-requires
whole_eval-requires c = rw c.requires (good_one c.args.tables.now c.index-tables-0.result c.if-tables-ne1.false c.index-tables-0.is (c.is_table_of_integers.ensures c.if-not-is_table_of_integers.false))
