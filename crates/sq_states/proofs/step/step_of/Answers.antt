use Rattle.sq_circuit.specs.declared.node.Node.TheVariants.{Table, Linear, Join, Distinct, Aggregate, Plus, Minus, View}
use Rattle.sq_states.specs.declared.kept.NodeState.TheVariants.{Rows, Sides, Groups}
use Rattle.sq_states.proofs.GroupSteps.{agg_state}
use Rattle.sq_states.proofs.JoinSteps.{join_state}
use Rattle.sq_states.proofs.Matching.{linear_fits, of_node, of_state, to_node, to_state}
use Rattle.sq_states.proofs.step.step_of.Goals as goal

pub linear_step-requires : goal.linear_step-requires
linear_step-requires g c =
    linear_fits c.args.left.now c.args.right.now c.args.first c.in-Linear.input c.in-Linear.op c.args.kept.now (of_node c.args.left.now c.args.right.now c.args.first c.args.node.now (Linear c.in-Linear.input c.in-Linear.op) c.args.kept.now c.in-Linear.is c.requires)

pub join_node-requires : goal.join_node-requires
join_node-requires g c = record {
  state = join_state c.in-Join.op c.in-Join.left c.in-Join.right c.sides.result.0.now c.sides.result.1.now c.args.left.now c.args.right.now c.args.first
      (of_state c.args.left.now c.args.right.now c.args.first c.args.node.now (Join c.in-Join.left c.in-Join.right c.in-Join.op) c.args.kept.now (Sides c.sides.result.0.now c.sides.result.1.now) c.in-Join.is c.sides.ensures c.requires);
}

pub aggregate_node-requires : goal.aggregate_node-requires
aggregate_node-requires g c = record {
  state = agg_state c.in-Aggregate.input c.in-Aggregate.spec c.groups.result.0.now c.groups.result.1.now c.groups.result.2.now c.args.left.now c.args.right.now c.args.first
      (of_state c.args.left.now c.args.right.now c.args.first c.args.node.now (Aggregate c.in-Aggregate.input c.in-Aggregate.spec) c.args.kept.now (Groups c.groups.result.0.now c.groups.result.1.now c.groups.result.2.now) c.in-Aggregate.is c.groups.ensures c.requires);
}

pub returns-in-Table-clause-stepped : goal.returns-in-Table-clause-stepped
returns-in-Table-clause-stepped g c =
    to_node c.args.left.now c.args.right.now c.args.first c.table_step.result c.args.steps.now.count c.args.steps.now.count c.args.node.now (Table c.in-Table.table) c.args.kept.now c.in-Table.is (c.table_step.ensures.stepped c.in-Table.table c.args.steps.now.count c.args.kept.now c.args.right.now c.args.first)

pub returns-in-Linear-clause-stepped : goal.returns-in-Linear-clause-stepped
returns-in-Linear-clause-stepped g c =
    to_node c.args.left.now c.args.right.now c.args.first c.linear_step.result c.args.steps.now.count c.args.steps.now.count c.args.node.now (Linear c.in-Linear.input c.in-Linear.op) c.args.kept.now c.in-Linear.is (c.linear_step.ensures.stepped c.in-Linear.input c.args.steps.now.count c.args.kept.now c.args.right.now c.args.first)

pub returns-in-Join-clause-stepped : goal.returns-in-Join-clause-stepped
returns-in-Join-clause-stepped g c =
    to_state c.args.left.now c.args.right.now c.args.first c.join_node.result c.args.steps.now.count c.join_node.new.steps.count c.args.node.now (Join c.in-Join.left c.in-Join.right c.in-Join.op) c.args.kept.now (Sides c.sides.result.0.now c.sides.result.1.now) c.in-Join.is c.sides.ensures
    (c.join_node.ensures.stepped c.in-Join.left c.in-Join.right c.args.first)

pub returns-in-Distinct-clause-stepped : goal.returns-in-Distinct-clause-stepped
returns-in-Distinct-clause-stepped g c =
    to_state c.args.left.now c.args.right.now c.args.first c.distinct_node.result c.args.steps.now.count c.distinct_node.new.steps.count c.args.node.now (Distinct c.in-Distinct.input) c.args.kept.now (Rows c.rows.result.now) c.in-Distinct.is c.rows.ensures
    (c.distinct_node.ensures.stepped c.in-Distinct.input c.args.right.now c.args.first)

pub returns-in-Aggregate-clause-stepped : goal.returns-in-Aggregate-clause-stepped
returns-in-Aggregate-clause-stepped g c =
    to_state c.args.left.now c.args.right.now c.args.first c.aggregate_node.result c.args.steps.now.count c.aggregate_node.new.steps.count c.args.node.now (Aggregate c.in-Aggregate.input c.in-Aggregate.spec) c.args.kept.now (Groups c.groups.result.0.now c.groups.result.1.now c.groups.result.2.now) c.in-Aggregate.is c.groups.ensures
    (c.aggregate_node.ensures.stepped c.in-Aggregate.input c.args.right.now)

pub returns-in-Plus-clause-stepped : goal.returns-in-Plus-clause-stepped
returns-in-Plus-clause-stepped g c =
    to_node c.args.left.now c.args.right.now c.args.first c.plus_step.result c.args.steps.now.count c.args.steps.now.count c.args.node.now (Plus c.in-Plus.left c.in-Plus.right) c.args.kept.now c.in-Plus.is (c.plus_step.ensures.stepped c.in-Plus.left c.in-Plus.right c.args.steps.now.count c.args.kept.now c.args.first)

pub returns-in-Minus-clause-stepped : goal.returns-in-Minus-clause-stepped
returns-in-Minus-clause-stepped g c =
    to_node c.args.left.now c.args.right.now c.args.first c.minus_step.result c.args.steps.now.count c.args.steps.now.count c.args.node.now (Minus c.in-Minus.left c.in-Minus.right) c.args.kept.now c.in-Minus.is (c.minus_step.ensures.stepped c.in-Minus.left c.in-Minus.right c.args.steps.now.count c.args.kept.now c.args.first)

pub returns-in-View-clause-stepped : goal.returns-in-View-clause-stepped
returns-in-View-clause-stepped g c =
    to_node c.args.left.now c.args.right.now c.args.first c.view_step.result c.args.steps.now.count c.args.steps.now.count c.args.node.now (View c.in-View.input c.in-View.view) c.args.kept.now c.in-View.is (c.view_step.ensures.stepped c.in-View.input c.in-View.view c.args.steps.now.count c.args.kept.now c.args.right.now c.args.first)
