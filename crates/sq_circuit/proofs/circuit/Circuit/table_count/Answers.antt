use Rattle.std.proofs.Common.{◌≡◌, ◌+◌, true, false, sym, ◌∙◌, arith}
use Rattle.sq_circuit.specs.Invariant.{is_table}
use Rattle.sq_circuit.proofs.Counted.{counted}
use Rattle.sq_circuit.proofs.circuit.Circuit.table_count.Goals.{then-is_table, else-is_table}
use Rattle.sq_circuit.proofs.circuit.Circuit.table_count.Goals as goal

pub loop-i-preserved : goal.loop-i-preserved
loop-i-preserved c =
    elim c.if-is_table.branch [
      | then-is_table w ↦ record {
        told = w.count-is ∙ counted is_table c.args.self.now c.loop-i.i c.node.result.now true c.loop-i.count c.node.ensures.node (sym w.if-is_table.true ∙ c.is_table.ensures) c.loop-i.invariant.told;
        few = let is = w.count-is in let few = c.loop-i.invariant.few in omega arith;
      }
      | else-is_table w ↦ record {
        told =
            let none : c.loop-i.count ≡ c.loop-i.count + 0 = omega arith in
            w.count-is ∙ none ∙ counted is_table c.args.self.now c.loop-i.i c.node.result.now false c.loop-i.count c.node.ensures.node (sym w.if-is_table.false ∙ c.is_table.ensures) c.loop-i.invariant.told;
        few = let is = w.count-is in let few = c.loop-i.invariant.few in omega arith;
      }
    ]
