use Rattle.sq_incr.proofs.Carrying.{begins, if_weaker, left_have, node_there, right_have, spends, tells_all}
use Rattle.sq_incr.proofs.Noting.{got_at}
use Rattle.sq_incr.proofs.run.run_step.Goals as goal

pub left_part-requires-clause-keys : goal.left_part-requires-clause-keys
left_part-requires-clause-keys g c = left_have c.node-node.ensures.sound c.requires c.node-node.result.now c.node-node.ensures.node

pub right_part-requires-clause-keys : goal.right_part-requires-clause-keys
right_part-requires-clause-keys g c = right_have c.node-node.ensures.sound c.requires c.node-node.result.now c.node-node.ensures.node

pub node_step-made-requires-clause-kept : goal.node_step-made-requires-clause-kept
node_step-made-requires-clause-kept g c =
    node_there c.node-node.ensures.sound c.requires c.index-states-task.result (got_at c.args.states.now c.args.task.shard c.index-states-task.result c.requires.in_range.inside c.index-states-task.is)

pub node_step-made-requires-clause-state : goal.node_step-made-requires-clause-state
node_step-made-requires-clause-state g c =
    begins c.node-node.ensures.sound c.requires c.index-states-task.result (got_at c.args.states.now c.args.task.shard c.index-states-task.result c.requires.in_range.inside c.index-states-task.is)
    c.node-node.result.now c.node-node.ensures.node c.in_ok-left.left c.in_ok-right.right c.in_ok-left.ensures c.in_ok-right.ensures c.shows_first.result c.shows_first.ensures

pub returns-clause-told : goal.returns-clause-told
returns-clause-told g c b =
    if_weaker c.noted.result (tells_all c.node-node.ensures.sound b c.index-states-task.result (got_at c.args.states.now c.args.task.shard c.index-states-task.result b.in_range.inside c.index-states-task.is)
    c.node-node.result.now c.node-node.ensures.node c.in_ok-left.left c.in_ok-right.right c.in_ok-left.ensures c.in_ok-right.ensures c.shows_first.result c.shows_first.ensures
    c.node_step-made.result c.args.steps.now.count c.node_step-made.new.steps.count c.node_step-made.ensures.stepped c.node_step-made.ensures.number) c.noted.ensures

pub returns-clause-count : goal.returns-clause-count
returns-clause-count g c b =
    spends c.node-node.ensures.sound b c.index-states-task.result (got_at c.args.states.now c.args.task.shard c.index-states-task.result b.in_range.inside c.index-states-task.is)
    c.node-node.result.now c.node-node.ensures.node c.in_ok-left.left c.in_ok-right.right c.in_ok-left.ensures c.in_ok-right.ensures c.shows_first.result c.shows_first.ensures
    c.node_step-made.result c.args.steps.now.count c.node_step-made.new.steps.count c.node_step-made.ensures.stepped
