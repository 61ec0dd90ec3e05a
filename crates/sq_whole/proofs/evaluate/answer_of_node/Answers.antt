-- Each arm reads earlier nodes, and answers for the node.
use Rattle.std.proofs.Common.{Some, refl, ap, ◌∙◌}
use Rattle.sq_circuit.specs.Nodes.{none}
use Rattle.sq_circuit.specs.declared.node.Node.TheVariants.{Linear, Join, Distinct, Aggregate, Plus, Minus, View}
use Rattle.sq_whole.proofs.Reading.{aggregate_fits, aggregate_listed, answers, join_fits, left_bound, left_value, linear_fits, right_bound, right_value, table_bound}
use Rattle.sq_whole.proofs.evaluate.answer_of_node.Goals as goal

pub bounds-tables-table : goal.bounds-tables-table
bounds-tables-table c = table_bound c.args.circuit.now c.args.tables.now c.args.values.now c.args.i c.in-Table.table (record { circuit = c.node.ensures.sound; good = c.requires.good; inside = c.requires.inside; at = c.node.ensures.node ∙ ap Some c.in-Table.is; earlier = c.requires.earlier })

pub bounds-values-input : goal.bounds-values-input
bounds-values-input c = left_bound c.args.circuit.now c.args.tables.now c.args.values.now c.args.i (Linear c.in-Linear.input c.in-Linear.op) (record { circuit = c.node.ensures.sound; good = c.requires.good; inside = c.requires.inside; at = c.node.ensures.node ∙ ap Some c.in-Linear.is; earlier = c.requires.earlier }) c.in-Linear.input refl

pub returns-in-Linear : goal.returns-in-Linear
returns-in-Linear c =
    answers c.args.circuit.now c.args.tables.now c.args.values.now c.args.i (Linear c.in-Linear.input c.in-Linear.op)
    (record { circuit = c.node.ensures.sound; good = c.requires.good; inside = c.requires.inside; at = c.node.ensures.node ∙ ap Some c.in-Linear.is; earlier = c.requires.earlier })
    c.index-values-input.result (Some none) c.linear.result
    (left_value c.args.circuit.now c.args.tables.now c.args.values.now c.args.i (Linear c.in-Linear.input c.in-Linear.op) (record { circuit = c.node.ensures.sound; good = c.requires.good; inside = c.requires.inside; at = c.node.ensures.node ∙ ap Some c.in-Linear.is; earlier = c.requires.earlier }) c.in-Linear.input c.index-values-input.result refl c.index-values-input.is)
    refl c.linear.ensures

pub bounds-values-input-in-Distinct : goal.bounds-values-input-in-Distinct
bounds-values-input-in-Distinct c = left_bound c.args.circuit.now c.args.tables.now c.args.values.now c.args.i (Distinct c.in-Distinct.input) (record { circuit = c.node.ensures.sound; good = c.requires.good; inside = c.requires.inside; at = c.node.ensures.node ∙ ap Some c.in-Distinct.is; earlier = c.requires.earlier }) c.in-Distinct.input refl

pub returns-in-Distinct : goal.returns-in-Distinct
returns-in-Distinct c =
    answers c.args.circuit.now c.args.tables.now c.args.values.now c.args.i (Distinct c.in-Distinct.input)
    (record { circuit = c.node.ensures.sound; good = c.requires.good; inside = c.requires.inside; at = c.node.ensures.node ∙ ap Some c.in-Distinct.is; earlier = c.requires.earlier })
    c.index-values-input-in-Distinct.result (Some none) c.distinct.result
    (left_value c.args.circuit.now c.args.tables.now c.args.values.now c.args.i (Distinct c.in-Distinct.input) (record { circuit = c.node.ensures.sound; good = c.requires.good; inside = c.requires.inside; at = c.node.ensures.node ∙ ap Some c.in-Distinct.is; earlier = c.requires.earlier }) c.in-Distinct.input c.index-values-input-in-Distinct.result refl c.index-values-input-in-Distinct.is)
    refl c.distinct.ensures

pub bounds-values-input-in-Aggregate : goal.bounds-values-input-in-Aggregate
bounds-values-input-in-Aggregate c = left_bound c.args.circuit.now c.args.tables.now c.args.values.now c.args.i (Aggregate c.in-Aggregate.input c.in-Aggregate.spec) (record { circuit = c.node.ensures.sound; good = c.requires.good; inside = c.requires.inside; at = c.node.ensures.node ∙ ap Some c.in-Aggregate.is; earlier = c.requires.earlier }) c.in-Aggregate.input refl

pub returns-in-Aggregate : goal.returns-in-Aggregate
returns-in-Aggregate c =
    answers c.args.circuit.now c.args.tables.now c.args.values.now c.args.i (Aggregate c.in-Aggregate.input c.in-Aggregate.spec)
    (record { circuit = c.node.ensures.sound; good = c.requires.good; inside = c.requires.inside; at = c.node.ensures.node ∙ ap Some c.in-Aggregate.is; earlier = c.requires.earlier })
    c.index-values-input-in-Aggregate.result (Some none) c.aggregate.result
    (left_value c.args.circuit.now c.args.tables.now c.args.values.now c.args.i (Aggregate c.in-Aggregate.input c.in-Aggregate.spec) (record { circuit = c.node.ensures.sound; good = c.requires.good; inside = c.requires.inside; at = c.node.ensures.node ∙ ap Some c.in-Aggregate.is; earlier = c.requires.earlier }) c.in-Aggregate.input c.index-values-input-in-Aggregate.result refl c.index-values-input-in-Aggregate.is)
    refl c.aggregate.ensures

pub bounds-values-input-in-View : goal.bounds-values-input-in-View
bounds-values-input-in-View c = left_bound c.args.circuit.now c.args.tables.now c.args.values.now c.args.i (View c.in-View.input c.in-View.view) (record { circuit = c.node.ensures.sound; good = c.requires.good; inside = c.requires.inside; at = c.node.ensures.node ∙ ap Some c.in-View.is; earlier = c.requires.earlier }) c.in-View.input refl

pub returns-in-View : goal.returns-in-View
returns-in-View c =
    answers c.args.circuit.now c.args.tables.now c.args.values.now c.args.i (View c.in-View.input c.in-View.view)
    (record { circuit = c.node.ensures.sound; good = c.requires.good; inside = c.requires.inside; at = c.node.ensures.node ∙ ap Some c.in-View.is; earlier = c.requires.earlier })
    c.index-values-input-in-View.result (Some none) c.copied.result
    (left_value c.args.circuit.now c.args.tables.now c.args.values.now c.args.i (View c.in-View.input c.in-View.view) (record { circuit = c.node.ensures.sound; good = c.requires.good; inside = c.requires.inside; at = c.node.ensures.node ∙ ap Some c.in-View.is; earlier = c.requires.earlier }) c.in-View.input c.index-values-input-in-View.result refl c.index-values-input-in-View.is)
    refl c.copied.ensures

pub bounds-values-left : goal.bounds-values-left
bounds-values-left c = left_bound c.args.circuit.now c.args.tables.now c.args.values.now c.args.i (Join c.in-Join.left c.in-Join.right c.in-Join.op) (record { circuit = c.node.ensures.sound; good = c.requires.good; inside = c.requires.inside; at = c.node.ensures.node ∙ ap Some c.in-Join.is; earlier = c.requires.earlier }) c.in-Join.left refl

pub bounds-values-right : goal.bounds-values-right
bounds-values-right c = right_bound c.args.circuit.now c.args.tables.now c.args.values.now c.args.i (Join c.in-Join.left c.in-Join.right c.in-Join.op) (record { circuit = c.node.ensures.sound; good = c.requires.good; inside = c.requires.inside; at = c.node.ensures.node ∙ ap Some c.in-Join.is; earlier = c.requires.earlier }) c.in-Join.right refl

pub returns-in-Join : goal.returns-in-Join
returns-in-Join c =
    answers c.args.circuit.now c.args.tables.now c.args.values.now c.args.i (Join c.in-Join.left c.in-Join.right c.in-Join.op)
    (record { circuit = c.node.ensures.sound; good = c.requires.good; inside = c.requires.inside; at = c.node.ensures.node ∙ ap Some c.in-Join.is; earlier = c.requires.earlier })
    c.index-values-left.result c.index-values-right.result c.join.result
    (left_value c.args.circuit.now c.args.tables.now c.args.values.now c.args.i (Join c.in-Join.left c.in-Join.right c.in-Join.op) (record { circuit = c.node.ensures.sound; good = c.requires.good; inside = c.requires.inside; at = c.node.ensures.node ∙ ap Some c.in-Join.is; earlier = c.requires.earlier }) c.in-Join.left c.index-values-left.result refl c.index-values-left.is)
    (right_value c.args.circuit.now c.args.tables.now c.args.values.now c.args.i (Join c.in-Join.left c.in-Join.right c.in-Join.op) (record { circuit = c.node.ensures.sound; good = c.requires.good; inside = c.requires.inside; at = c.node.ensures.node ∙ ap Some c.in-Join.is; earlier = c.requires.earlier }) c.in-Join.right c.index-values-right.result refl c.index-values-right.is)
    c.join.ensures

pub bounds-values-left-in-Plus : goal.bounds-values-left-in-Plus
bounds-values-left-in-Plus c = left_bound c.args.circuit.now c.args.tables.now c.args.values.now c.args.i (Plus c.in-Plus.left c.in-Plus.right) (record { circuit = c.node.ensures.sound; good = c.requires.good; inside = c.requires.inside; at = c.node.ensures.node ∙ ap Some c.in-Plus.is; earlier = c.requires.earlier }) c.in-Plus.left refl

pub bounds-values-right-in-Plus : goal.bounds-values-right-in-Plus
bounds-values-right-in-Plus c = right_bound c.args.circuit.now c.args.tables.now c.args.values.now c.args.i (Plus c.in-Plus.left c.in-Plus.right) (record { circuit = c.node.ensures.sound; good = c.requires.good; inside = c.requires.inside; at = c.node.ensures.node ∙ ap Some c.in-Plus.is; earlier = c.requires.earlier }) c.in-Plus.right refl

pub returns-in-Plus : goal.returns-in-Plus
returns-in-Plus c =
    answers c.args.circuit.now c.args.tables.now c.args.values.now c.args.i (Plus c.in-Plus.left c.in-Plus.right)
    (record { circuit = c.node.ensures.sound; good = c.requires.good; inside = c.requires.inside; at = c.node.ensures.node ∙ ap Some c.in-Plus.is; earlier = c.requires.earlier })
    c.index-values-left-in-Plus.result c.index-values-right-in-Plus.result c.sum.result
    (left_value c.args.circuit.now c.args.tables.now c.args.values.now c.args.i (Plus c.in-Plus.left c.in-Plus.right) (record { circuit = c.node.ensures.sound; good = c.requires.good; inside = c.requires.inside; at = c.node.ensures.node ∙ ap Some c.in-Plus.is; earlier = c.requires.earlier }) c.in-Plus.left c.index-values-left-in-Plus.result refl c.index-values-left-in-Plus.is)
    (right_value c.args.circuit.now c.args.tables.now c.args.values.now c.args.i (Plus c.in-Plus.left c.in-Plus.right) (record { circuit = c.node.ensures.sound; good = c.requires.good; inside = c.requires.inside; at = c.node.ensures.node ∙ ap Some c.in-Plus.is; earlier = c.requires.earlier }) c.in-Plus.right c.index-values-right-in-Plus.result refl c.index-values-right-in-Plus.is)
    c.sum.ensures

pub bounds-values-left-in-Minus : goal.bounds-values-left-in-Minus
bounds-values-left-in-Minus c = left_bound c.args.circuit.now c.args.tables.now c.args.values.now c.args.i (Minus c.in-Minus.left c.in-Minus.right) (record { circuit = c.node.ensures.sound; good = c.requires.good; inside = c.requires.inside; at = c.node.ensures.node ∙ ap Some c.in-Minus.is; earlier = c.requires.earlier }) c.in-Minus.left refl

pub bounds-values-right-in-Minus : goal.bounds-values-right-in-Minus
bounds-values-right-in-Minus c = right_bound c.args.circuit.now c.args.tables.now c.args.values.now c.args.i (Minus c.in-Minus.left c.in-Minus.right) (record { circuit = c.node.ensures.sound; good = c.requires.good; inside = c.requires.inside; at = c.node.ensures.node ∙ ap Some c.in-Minus.is; earlier = c.requires.earlier }) c.in-Minus.right refl

pub returns-in-Minus : goal.returns-in-Minus
returns-in-Minus c =
    answers c.args.circuit.now c.args.tables.now c.args.values.now c.args.i (Minus c.in-Minus.left c.in-Minus.right)
    (record { circuit = c.node.ensures.sound; good = c.requires.good; inside = c.requires.inside; at = c.node.ensures.node ∙ ap Some c.in-Minus.is; earlier = c.requires.earlier })
    c.index-values-left-in-Minus.result c.index-values-right-in-Minus.result c.difference.result
    (left_value c.args.circuit.now c.args.tables.now c.args.values.now c.args.i (Minus c.in-Minus.left c.in-Minus.right) (record { circuit = c.node.ensures.sound; good = c.requires.good; inside = c.requires.inside; at = c.node.ensures.node ∙ ap Some c.in-Minus.is; earlier = c.requires.earlier }) c.in-Minus.left c.index-values-left-in-Minus.result refl c.index-values-left-in-Minus.is)
    (right_value c.args.circuit.now c.args.tables.now c.args.values.now c.args.i (Minus c.in-Minus.left c.in-Minus.right) (record { circuit = c.node.ensures.sound; good = c.requires.good; inside = c.requires.inside; at = c.node.ensures.node ∙ ap Some c.in-Minus.is; earlier = c.requires.earlier }) c.in-Minus.right c.index-values-right-in-Minus.result refl c.index-values-right-in-Minus.is)
    c.difference.ensures

pub linear-requires : goal.linear-requires
linear-requires c = linear_fits c.args.circuit.now c.args.tables.now c.args.values.now c.args.i c.in-Linear.input c.in-Linear.op c.index-values-input.result (record { circuit = c.node.ensures.sound; good = c.requires.good; inside = c.requires.inside; at = c.node.ensures.node ∙ ap Some c.in-Linear.is; earlier = c.requires.earlier }) c.index-values-input.is

pub join-requires : goal.join-requires
join-requires c = join_fits c.args.circuit.now c.args.tables.now c.args.values.now c.args.i c.in-Join.left c.in-Join.right c.in-Join.op (record { circuit = c.node.ensures.sound; good = c.requires.good; inside = c.requires.inside; at = c.node.ensures.node ∙ ap Some c.in-Join.is; earlier = c.requires.earlier }) c.index-values-left.result c.index-values-right.result c.index-values-left.is c.index-values-right.is

pub aggregate-requires-clause-fits : goal.aggregate-requires-clause-fits
aggregate-requires-clause-fits c = aggregate_fits c.args.circuit.now c.args.tables.now c.args.values.now c.args.i c.in-Aggregate.input c.in-Aggregate.spec c.index-values-input-in-Aggregate.result (record { circuit = c.node.ensures.sound; good = c.requires.good; inside = c.requires.inside; at = c.node.ensures.node ∙ ap Some c.in-Aggregate.is; earlier = c.requires.earlier }) c.index-values-input-in-Aggregate.is

pub aggregate-requires-clause-listed : goal.aggregate-requires-clause-listed
aggregate-requires-clause-listed c = aggregate_listed c.args.circuit.now c.args.tables.now c.args.values.now c.args.i c.in-Aggregate.input c.in-Aggregate.spec c.index-values-input-in-Aggregate.result (record { circuit = c.node.ensures.sound; good = c.requires.good; inside = c.requires.inside; at = c.node.ensures.node ∙ ap Some c.in-Aggregate.is; earlier = c.requires.earlier }) c.index-values-input-in-Aggregate.is
