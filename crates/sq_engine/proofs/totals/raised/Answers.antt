use Rattle.std.proofs.Common.{rules, [], ◌∷◌, ◌++◌, SFits, to_z-of_z, ap, ◌∙◌}
use Rattle.std.specs.Int.{w128}
use Rattle.sq_engine.specs.Ticking.{IsRaised}
use Rattle.sq_engine.proofs.Putting.{more_each}
use Rattle.sq_engine.proofs.totals.raised.Goals as goal

pub loop-node-preserved : goal.loop-node-preserved
loop-node-preserved c =
    let fits : SFits w128 c.total_after.result = search rules in
    more_each (IsRaised c.args.totals.now c.args.pieces.now) c.loop-node.sums.items c.push.new.self.items c.loop-node.node c.total_after.result c.loop-node.invariant c.total_after.ensures
    (c.in_ok-push.ensures.items ∙ ap (λ t. c.loop-node.sums.items ++ t ∷ []) (to_z-of_z fits))
