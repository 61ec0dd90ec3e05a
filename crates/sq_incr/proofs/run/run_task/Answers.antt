use Rattle.sq_incr.specs.Inputs.{source_of}
use Rattle.sq_incr.proofs.Carrying.{all_small, can_step, left_played, left_skips, left_there, right_played, right_skips, right_there}
use Rattle.sq_incr.proofs.run.run_task.Goals as goal

pub source_change-requires-clause-small : goal.source_change-requires-clause-small
source_change-requires-clause-small g c = all_small c.node-node.ensures.sound c.requires.ready

pub source_change-requires-2-clause-small : goal.source_change-requires-2-clause-small
source_change-requires-2-clause-small g c = all_small c.node-node.ensures.sound c.requires.ready

pub source_change-requires-clause-input : goal.source_change-requires-clause-input
source_change-requires-clause-input g c = left_there c.node-node.ensures.sound c.requires c.node-node.result.now c.node-node.ensures.node (source_of c.left_input.result) c.left_input.ensures

pub source_change-requires-2-clause-input : goal.source_change-requires-2-clause-input
source_change-requires-2-clause-input g c = right_there c.node-node.ensures.sound c.requires c.node-node.result.now c.node-node.ensures.node (source_of c.right_input.result) c.right_input.ensures

pub run_step-requires : goal.run_step-requires
run_step-requires g c =
    let b = c.requires in
    can_step c.node-node.ensures.sound b c.node-node.result.now c.node-node.ensures.node
    (source_of c.left_input.result) c.left_input.ensures c.in_ok-left.left (c.in_ok-left.ensures c.args.states.now c.args.first b.ready b.front b.noted (left_played c.node-node.ensures.sound b c.node-node.result.now c.node-node.ensures.node (source_of c.left_input.result) c.left_input.ensures)) c.in-Some.left c.in-Some.is
    (source_of c.right_input.result) c.right_input.ensures c.in_ok-right.right (c.in_ok-right.ensures c.args.states.now c.args.first b.ready b.front b.noted (right_played c.node-node.ensures.sound b c.node-node.result.now c.node-node.ensures.node (source_of c.right_input.result) c.right_input.ensures)) c.in-Some-right.right c.in-Some-right.is

pub returns-in-None-clause-told : goal.returns-in-None-clause-told
returns-in-None-clause-told g c b =
    left_skips c.node-node.ensures.sound b c.node-node.result.now c.node-node.ensures.node
    (source_of c.left_input.result) c.left_input.ensures c.in_ok-left.left (c.in_ok-left.ensures c.args.states.now c.args.first b.ready b.front b.noted (left_played c.node-node.ensures.sound b c.node-node.result.now c.node-node.ensures.node (source_of c.left_input.result) c.left_input.ensures)) c.in-None.is

pub returns-in-None-right-clause-told : goal.returns-in-None-right-clause-told
returns-in-None-right-clause-told g c b =
    right_skips c.node-node.ensures.sound b c.node-node.result.now c.node-node.ensures.node
    (source_of c.right_input.result) c.right_input.ensures c.in_ok-right.right (c.in_ok-right.ensures c.args.states.now c.args.first b.ready b.front b.noted (right_played c.node-node.ensures.sound b c.node-node.result.now c.node-node.ensures.node (source_of c.right_input.result) c.right_input.ensures)) c.in-None-right.is

pub returns-in-Some-right-clause-told : goal.returns-in-Some-right-clause-told
returns-in-Some-right-clause-told g c b = c.run_step.ensures.told
    (can_step c.node-node.ensures.sound b c.node-node.result.now c.node-node.ensures.node
    (source_of c.left_input.result) c.left_input.ensures c.in_ok-left.left (c.in_ok-left.ensures c.args.states.now c.args.first b.ready b.front b.noted (left_played c.node-node.ensures.sound b c.node-node.result.now c.node-node.ensures.node (source_of c.left_input.result) c.left_input.ensures)) c.in-Some.left c.in-Some.is
    (source_of c.right_input.result) c.right_input.ensures c.in_ok-right.right (c.in_ok-right.ensures c.args.states.now c.args.first b.ready b.front b.noted (right_played c.node-node.ensures.sound b c.node-node.result.now c.node-node.ensures.node (source_of c.right_input.result) c.right_input.ensures)) c.in-Some-right.right c.in-Some-right.is)

pub returns-in-Some-right-clause-count : goal.returns-in-Some-right-clause-count
returns-in-Some-right-clause-count g c b = c.run_step.ensures.count
    (can_step c.node-node.ensures.sound b c.node-node.result.now c.node-node.ensures.node
    (source_of c.left_input.result) c.left_input.ensures c.in_ok-left.left (c.in_ok-left.ensures c.args.states.now c.args.first b.ready b.front b.noted (left_played c.node-node.ensures.sound b c.node-node.result.now c.node-node.ensures.node (source_of c.left_input.result) c.left_input.ensures)) c.in-Some.left c.in-Some.is
    (source_of c.right_input.result) c.right_input.ensures c.in_ok-right.right (c.in_ok-right.ensures c.args.states.now c.args.first b.ready b.front b.noted (right_played c.node-node.ensures.sound b c.node-node.result.now c.node-node.ensures.node (source_of c.right_input.result) c.right_input.ensures)) c.in-Some-right.right c.in-Some-right.is)
