use Rattle.std.proofs.Common.{arith}
use Rattle.sq_circuit.specs.Invariant.{is_view}
use Rattle.sq_engine.proofs.Listing.{none_past}
use Rattle.sq_engine.proofs.views.view_changes.Goals as goal

pub overflow_sub-front : goal.overflow_sub-front
overflow_sub-front c =
    let few = none_past is_view c.args.circuit.now in
    let long = c.len.ensures.len in
    let count = c.view_count-count.ensures.count in
    omega (arith, few, long, count)

pub node_change-requires-clause-node : goal.node_change-requires-clause-node
node_change-requires-clause-node c =
    let few = none_past is_view c.args.circuit.now in
    let long = c.len.ensures.len in
    let count = c.view_count-count.ensures.count in
    let inside = c.loop-view-test.true in
    let within = c.loop-view.auto.view-end in
    let many = c.requires.count in
    omega (arith, few, long, count, inside, within, many)
