use Rattle.std.proofs.Common.{◌≡◌, ◌+◌, true, false, sym, ◌∙◌, arith}
use Rattle.sq_circuit.specs.Invariant.{is_view}
use Rattle.sq_circuit.proofs.Counted.{counted}
use Rattle.sq_circuit.proofs.circuit.Circuit.view_count.Goals.{then-is_view, else-is_view}
use Rattle.sq_circuit.proofs.circuit.Circuit.view_count.Goals as goal

pub loop-i-preserved : goal.loop-i-preserved
loop-i-preserved c =
    elim c.if-is_view.branch [
      | then-is_view w ↦ record {
        told = w.count-is ∙ counted is_view c.args.self.now c.loop-i.i c.node.result.now true c.loop-i.count c.node.ensures.node (sym w.if-is_view.true ∙ c.is_view.ensures) c.loop-i.invariant.told;
        few = let is = w.count-is in let few = c.loop-i.invariant.few in omega arith;
      }
      | else-is_view w ↦ record {
        told =
            let none : c.loop-i.count ≡ c.loop-i.count + 0 = omega arith in
            w.count-is ∙ none ∙ counted is_view c.args.self.now c.loop-i.i c.node.result.now false c.loop-i.count c.node.ensures.node (sym w.if-is_view.false ∙ c.is_view.ensures) c.loop-i.invariant.told;
        few = let is = w.count-is in let few = c.loop-i.invariant.few in omega arith;
      }
    ]
