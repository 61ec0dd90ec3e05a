use Rattle.std.proofs.Common.{◌≡◌, length, ap₂, arith}
use Rattle.sq_plan.specs.Program.{table_part}
use Rattle.sq_plan.proofs.RelationsTables.{no_table, one_table}
use Rattle.sq_plan.proofs.relations.with_table_part.Goals as goal

pub returns-in_ok-push-in-Table : goal.returns-in_ok-push-in-Table
returns-in_ok-push-in-Table c =
    let long : c.len-table.result ≡ length c.args.parts.items = omega (arith, c.len-table.ensures, c.args.parts.ok.0) in
    one_table c.args.parts.items c.push.new.self.items c.args.relation.now (table_part c.len-table.result c.in_ok-kinds-in-Table.kinds) c.in-Table.is c.in_ok-push-in-Table.ensures.items (ap₂ table_part long c.in_ok-kinds-in-Table.ensures)

pub returns-in-View : goal.returns-in-View
returns-in-View c = no_table c.args.parts.items c.args.relation.now _ c.in-View.is
