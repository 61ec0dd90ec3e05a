use Rattle.std.proofs.Common.{◌∙◌}
use Rattle.sq_tests_play.proofs.Starting.{ready, shaped}
use Rattle.sq_tests_play.proofs.played.played.Goals as goal

pub play-pieces-requires-clause-ready : goal.play-pieces-requires-clause-ready
play-pieces-requires-clause-ready c =
    ready c.args.circuit.now c.args.shards c.len.result c.deref.result.now c.deref-2.result.now c.args.tables.now c.requires.shards c.requires.good
    (c.deref.ensures.value ∙ c.in_ok-states.ensures) (c.deref-2.ensures.value ∙ c.in_ok-totals.ensures) c.len.ensures.len

pub returns : goal.returns
returns c =
    let begun = ready c.args.circuit.now c.args.shards c.len.result c.deref.result.now c.deref-2.result.now c.args.tables.now c.requires.shards c.requires.good
    (c.deref.ensures.value ∙ c.in_ok-states.ensures) (c.deref-2.ensures.value ∙ c.in_ok-totals.ensures) c.len.ensures.len in
    shaped c.args.circuit.now c.deref.result.now c.deref-2.result.now c.args.tables.now c.args.shards (c.deref.ensures.value ∙ c.in_ok-states.ensures) begun c.args.order.now c.play-pieces.result (c.play-pieces.ensures.answers begun)
