use Rattle.std.proofs.Common.{length, Err, Some, subst, ap, ◌∙◌}
use Rattle.sq_incr.specs.Played.{Answers}
use Rattle.sq_engine.proofs.Ordered.{few_tasks, no_illegal, no_missing}
use Rattle.sq_engine.proofs.Spent.{played_cost}
use Rattle.sq_engine.proofs.tick.played.Goals as goal

pub play-requires-clause-few : goal.play-requires-clause-few
play-requires-clause-few g c = few_tasks c.args.circuit.now (length c.args.states.now) c.args.order.now c.requires.nodes c.requires.ready.few c.requires.order

pub unreachable-requires : goal.unreachable-requires
unreachable-requires g c =
    no_illegal c.len.ensures.sound c.requires.ready c.args.order.now c.requires.order c.in-Err-NotLegal.field-0-0
    (subst (Answers c.requires.ready c.args.order.now) (c.in-Err-NotLegal.is ∙ ap Err c.in-Err-NotLegal.field-0-is) (c.play.ensures.answers c.requires.ready))

pub unreachable-requires-in-Err-Missing : goal.unreachable-requires-in-Err-Missing
unreachable-requires-in-Err-Missing g c =
    no_missing c.requires.ready c.args.order.now c.requires.order c.in-Err-Missing.field-0-0
    (subst (Answers c.requires.ready c.args.order.now) (c.in-Err-Missing.is ∙ ap Err c.in-Err-Missing.field-0-is) (c.play.ensures.answers c.requires.ready))

pub returns-in-Err-Range-clause-range : goal.returns-in-Err-Range-clause-range
returns-in-Err-Range-clause-range g c r view e =
    let blamed = subst (Answers r c.args.order.now) (c.in-Err-Range.is ∙ ap Err c.in-Err-Range.field-0-is) (c.play.ensures.answers r) in
    blamed.blamed ∙ ap Some (cc (e, c.in-Err-Range.field-0-is))

pub returns-in-Ok-clause-cost : goal.returns-in-Ok-clause-cost
returns-in-Ok-clause-cost g c r = played_cost r c.args.order.now c.requires.order _ _ (c.play.ensures.count r)

pub returns-in-Err-Range-clause-cost : goal.returns-in-Err-Range-clause-cost
returns-in-Err-Range-clause-cost g c r = played_cost r c.args.order.now c.requires.order _ _ (c.play.ensures.count r)

pub returns-in-Err-Memory-clause-cost : goal.returns-in-Err-Memory-clause-cost
returns-in-Err-Memory-clause-cost g c r = played_cost r c.args.order.now c.requires.order _ _ (c.play.ensures.count r)
