use Rattle.std.proofs.Common.{rules, ◌<◌, length, sym, ◌∙◌}
use Rattle.sq_incr.specs.Inputs.{source_of}
use Rattle.sq_incr.proofs.Noting.{got_at}
use Rattle.sq_incr.proofs.Turning.{done_before, left_open, right_tells}
use Rattle.sq_incr.proofs.turns.may_stand.Goals as goal

pub returns-then-is_done : goal.returns-then-is_done
returns-then-is_done c front played =
    let low : c.args.task.node < length c.args.circuit.now = search rules in
    let inside : c.args.task.shard < c.args.shards = search rules in
    let long : c.args.task.node < length c.args.lines.now = search rules in
    done_before c.args.circuit.now c.args.shards c.args.lines.now c.requires front played c.args.task low inside c.index-lines-task.result
    (got_at c.args.lines.now c.args.task.node c.index-lines-task.result long c.index-lines-task.is) c.at.result.now c.at.ensures (sym c.is_done.ensures ∙ c.if-is_done.true)

pub returns-then-not-is_played : goal.returns-then-not-is_played
returns-then-not-is_played c front played =
    let low : c.args.task.node < length c.args.circuit.now = search rules in
    let inside : c.args.task.shard < c.args.shards = search rules in
    let long : c.args.task.node < length c.args.lines.now = search rules in
    left_open c.args.circuit.now c.args.shards c.args.lines.now c.requires front played c.args.task low inside c.index-lines-task.result
    (got_at c.args.lines.now c.args.task.node c.index-lines-task.result long c.index-lines-task.is) c.at.result.now c.at.ensures
    c.node-node.ensures.sound (sym c.is_done.ensures ∙ c.if-is_done.false) c.node-node.result.now c.node-node.ensures.node (source_of c.left_input.result) c.left_input.ensures (sym c.is_played.ensures ∙ c.if-not-is_played.true)

pub returns : goal.returns
returns c front played =
    let low : c.args.task.node < length c.args.circuit.now = search rules in
    let inside : c.args.task.shard < c.args.shards = search rules in
    let long : c.args.task.node < length c.args.lines.now = search rules in
    right_tells c.args.circuit.now c.args.shards c.args.lines.now c.requires front played c.args.task low inside c.index-lines-task.result
    (got_at c.args.lines.now c.args.task.node c.index-lines-task.result long c.index-lines-task.is) c.at.result.now c.at.ensures
    c.node-node.ensures.sound (sym c.is_done.ensures ∙ c.if-is_done.false) c.node-node.result.now c.node-node.ensures.node (source_of c.left_input.result) c.left_input.ensures (sym c.is_played.ensures ∙ c.if-not-is_played.false)
    (source_of c.right_input.result) c.right_input.ensures c.is_played-2.result c.is_played-2.ensures
