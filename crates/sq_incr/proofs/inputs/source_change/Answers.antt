use Rattle.std.proofs.Common.{sym, subst, ◌∙◌, ap}
use Rattle.std.specs.Prelude.{IfOk}
use Rattle.sq_circuit.specs.Nodes.{none}
use Rattle.sq_incr.specs.Inputs.{AreDone, IsChange, IsThere, Rises, source_of}
use Rattle.sq_incr.proofs.Noting.{there_is_same}
use Rattle.sq_incr.proofs.Summing.{nothing_rises, table_rises}
use Rattle.sq_incr.proofs.inputs.source_change.Goals as goal

pub returns-in-Nothing : goal.returns-in-Nothing
returns-in-Nothing c states first r front noted done =
    subst (λ s. Rises r s c.zero.result) (sym (ap source_of c.in-Nothing.is)) (nothing_rises r c.zero.result c.zero.ensures.zero)

pub returns-in_ok-z-in-Table : goal.returns-in_ok-z-in-Table
returns-in_ok-z-in-Table c states first r front noted done =
    subst (λ s. Rises r s c.in_ok-z-in-Table.z) (sym (ap source_of c.in-Table.is)) (table_rises r c.in-Table.table c.in_ok-z-in-Table.z (c.in_ok-z-in-Table.ensures.ok ∙ c.index-changes-table.is ∙ there_is_same c.args.changes.now c.in-Table.table c.index-changes-table.result none (subst (λ s. IsThere c.args.circuit.now c.args.totals.now c.args.changes.now c.args.lines.now c.args.shards s) (ap source_of c.in-Table.is) c.requires.input)))

pub returns-in-Node : goal.returns-in-Node
returns-in-Node c states first r front noted done =
    subst (λ s. IfOk c.change_of.result (IsChange r s)) (sym (ap source_of c.in-Node.is)) (c.change_of.ensures c.args.changes.now states first r front noted (subst (AreDone c.args.lines.now) (ap source_of c.in-Node.is) done))
