use Rattle.std.proofs.Common.{◌∙◌, refl, subst}
use Rattle.sq_incr.specs.Plays.{IsTurn}
use Rattle.sq_incr.proofs.Turning.{all_legal_so, all_played, far_costs, goes_on, spent_within, starts, stops_here, turn_at}
use Rattle.sq_incr.proofs.turns.play_all.Goals as goal

pub loop-at-init : goal.loop-at-init
loop-at-init g c = record { far = starts c.args.order.now c.args.lines.now.items c.args.steps.now.count c.requires.fresh; ledger = refl }

pub turn-requires : goal.turn-requires
turn-requires g c = turn_at c.args.order.now c.loop-at.at c.loop-at.lines.items c.args.steps.now.count c.loop-at.steps.count c.loop-at.invariant.far c.requires.ready

pub returns-in_err-turn-clause-count : goal.returns-in_err-turn-clause-count
returns-in_err-turn-clause-count g c r = spent_within c.args.order.now c.loop-at.at c.loop-at.lines.items c.args.steps.now.count c.loop-at.steps.count c.loop-at.invariant.far c.task_at-task.result c.task_at-task.ensures r c.turn.new.steps.count (c.turn.ensures.count (turn_at c.args.order.now c.loop-at.at c.loop-at.lines.items c.args.steps.now.count c.loop-at.steps.count c.loop-at.invariant.far r))

pub returns-in_err-turn-clause-ledger : goal.returns-in_err-turn-clause-ledger
returns-in_err-turn-clause-ledger g c = c.turn.ensures.ledger ∙ c.loop-at.invariant.ledger

pub returns-then-not-branch-clause-stops : goal.returns-then-not-branch-clause-stops
returns-then-not-branch-clause-stops g c = stops_here c.args.order.now c.loop-at.at c.loop-at.lines.items c.args.steps.now.count c.loop-at.steps.count c.loop-at.invariant.far c.task_at-task.result c.task_at-task.ensures c.requires.ready
    (subst (λ went. IsTurn (turn_at c.args.order.now c.loop-at.at c.loop-at.lines.items c.args.steps.now.count c.loop-at.steps.count c.loop-at.invariant.far c.requires.ready) c.task_at-task.result c.turn.new.lines.items went) c.if-not-branch.true (c.in_ok-turn.ensures.told (turn_at c.args.order.now c.loop-at.at c.loop-at.lines.items c.args.steps.now.count c.loop-at.steps.count c.loop-at.invariant.far c.requires.ready)))

pub returns-then-not-branch-clause-count : goal.returns-then-not-branch-clause-count
returns-then-not-branch-clause-count g c r = spent_within c.args.order.now c.loop-at.at c.loop-at.lines.items c.args.steps.now.count c.loop-at.steps.count c.loop-at.invariant.far c.task_at-task.result c.task_at-task.ensures r c.turn.new.steps.count (c.turn.ensures.count (turn_at c.args.order.now c.loop-at.at c.loop-at.lines.items c.args.steps.now.count c.loop-at.steps.count c.loop-at.invariant.far r))

pub returns-then-not-branch-clause-ledger : goal.returns-then-not-branch-clause-ledger
returns-then-not-branch-clause-ledger g c = c.turn.ensures.ledger ∙ c.loop-at.invariant.ledger

pub loop-at-preserved : goal.loop-at-preserved
loop-at-preserved g c = record {
  far = goes_on c.args.order.now c.loop-at.at c.loop-at.lines.items c.args.steps.now.count c.loop-at.steps.count c.loop-at.invariant.far c.task_at-task.result c.task_at-task.ensures c.requires.ready c.turn.new.lines.items c.turn.new.steps.count
      (λ r. (subst (λ went. IsTurn (turn_at c.args.order.now c.loop-at.at c.loop-at.lines.items c.args.steps.now.count c.loop-at.steps.count c.loop-at.invariant.far r) c.task_at-task.result c.turn.new.lines.items went) c.if-not-branch.false (c.in_ok-turn.ensures.told (turn_at c.args.order.now c.loop-at.at c.loop-at.lines.items c.args.steps.now.count c.loop-at.steps.count c.loop-at.invariant.far r))))
      (λ r. c.turn.ensures.count (turn_at c.args.order.now c.loop-at.at c.loop-at.lines.items c.args.steps.now.count c.loop-at.steps.count c.loop-at.invariant.far r));
  ledger = c.turn.ensures.ledger ∙ c.loop-at.invariant.ledger;
}

pub returns-clause-stops : goal.returns-clause-stops
returns-clause-stops g c = all_legal_so c.args.order.now c.loop-at.at c.loop-at.lines.items c.args.steps.now.count c.loop-at.steps.count c.loop-at.invariant.far c.loop-at-test.false

pub returns-clause-noted : goal.returns-clause-noted
returns-clause-noted g c r = λ over. all_played c.args.order.now c.loop-at.at c.loop-at.lines.items c.args.steps.now.count c.loop-at.steps.count c.loop-at.invariant.far c.loop-at-test.false r

pub returns-clause-count : goal.returns-clause-count
returns-clause-count g c r = far_costs c.args.order.now c.loop-at.at c.loop-at.lines.items c.args.steps.now.count c.loop-at.steps.count c.loop-at.invariant.far r

pub returns-clause-ledger : goal.returns-clause-ledger
returns-clause-ledger g c = c.loop-at.invariant.ledger
