-- What the tasks of a tick cost.
use Rattle.sq_incr.proofs.Spending.{orders_cost_at_most, parts_cost_the_node, tasks_cost_the_tick}
use Rattle.sq_incr.proofs.laws.tasks_cost_what_the_tick_costs.Goals as goal

pub returns-clause-node : goal.returns-clause-node
returns-clause-node a = parts_cost_the_node

pub returns-clause-tasks : goal.returns-clause-tasks
returns-clause-tasks a = tasks_cost_the_tick

pub returns-clause-order : goal.returns-clause-order
returns-clause-order a = orders_cost_at_most
