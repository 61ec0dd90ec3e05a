use Rattle.std.proofs.Common.{◌≡◌, subst, length, arith}
use Rattle.std.specs.List.{list_all}
use Rattle.sq_circuit.specs.Along.{least_below}
use Rattle.sq_incr.specs.Ends.{blamed_owner}
use Rattle.sq_incr.specs.Slots.{is_done}
use Rattle.sq_incr.proofs.Judging.{one_more_owner}
use Rattle.sq_incr.proofs.Noting.{at_all_places}
use Rattle.sq_incr.proofs.judge.least_faulty.Goals as goal

pub loop-node-preserved : goal.loop-node-preserved
loop-node-preserved c states changes first r front noted done =
    one_more_owner c.owner.ensures.sound r c.loop-node.node c.loop-node.least c.with_owner-least.result c.in_ok-bad.bad c.owner.result (c.loop-node.invariant states changes first r front noted done)
    (c.in_ok-bad.ensures states changes first r front noted (λ line at. at_all_places (list_all is_done) c.args.lines.now done c.loop-node.node line at)) c.owner.ensures.owner c.with_owner-least.ensures

pub returns : goal.returns
returns c states changes first r front noted done =
    let past = c.loop-node-test.false in
    let within = c.loop-node.auto.node-end in
    let long = c.len-node-end.ensures.len in
    let last : c.loop-node.node ≡ length c.args.circuit.now = omega (arith, past, within, long) in
    subst (λ k. c.loop-node.least ≡ least_below (blamed_owner r) k) last (c.loop-node.invariant states changes first r front noted done)
