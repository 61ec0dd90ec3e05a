-- The weight of a row in a table.
use Rattle.std.proofs.Common.{◌≡◌, length, refl, subst}
use Rattle.std.specs.Prelude.{IfOk}
use Rattle.std.proofs.lemmas.Option.{slice_get_read}
use Rattle.sq_circuit.specs.Circuits.{table_at}
use Rattle.sq_tables.specs.Tables.{tables_in}
use Rattle.sq_tables.proofs.Standing.{asked, rows_there}
use Rattle.sq_tables.proofs.weigh.weight_of.Goals as goal

pub table-rows-requires-clause-keeps_rows : goal.table-rows-requires-clause-keeps_rows
table-rows-requires-clause-keeps_rows g c kept at =
    let there = slice_get_read c.args.states.now (length c.args.states.now) c.shard_of-shard.result c.index-states-shard.result refl c.shard_of-shard.ensures.inside c.index-states-shard.is in
    rows_there c.args.states.now c.args.table (table_at (tables_in c.args.circuit.now c.args.states.now) c.args.table) (c.requires.holds.each c.args.table c.requires.table)
    c.shard_of-shard.result c.index-states-shard.result kept there at

pub returns-clause-ok : goal.returns-clause-ok
returns-clause-ok g c =
    let there = slice_get_read c.args.states.now (length c.args.states.now) c.shard_of-shard.result c.index-states-shard.result refl c.shard_of-shard.ensures.inside c.index-states-shard.is in
    subst (λ w. IfOk c.weight_held.result (λ n. n ≡ w))
    (asked c.args.states.now c.args.table (table_at (tables_in c.args.circuit.now c.args.states.now) c.args.table) c.requires.holds.some (c.requires.holds.each c.args.table c.requires.table)
    c.shard_of-shard.result c.index-states-shard.result c.table-rows.result.now c.args.row.now c.shard_of-shard.ensures.number there c.table-rows.ensures)
    c.weight_held.ensures.ok
