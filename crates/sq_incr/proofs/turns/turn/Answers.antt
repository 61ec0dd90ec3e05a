use Rattle.std.proofs.Common.{◌∙◌, sym, subst}
use Rattle.sq_incr.specs.Plays.{ArePlayed}
use Rattle.sq_incr.proofs.Turning.{can_run, node_within, played_of, shard_within, turn_refused, turn_taken}
use Rattle.sq_incr.proofs.turns.turn.Goals as goal

pub returns-then-not-may_stand-clause-told : goal.returns-then-not-may_stand-clause-told
returns-then-not-may_stand-clause-told g c b = turn_refused b c.args.task (sym (c.may_stand.ensures b.front (subst (ArePlayed b.front) (sym c.deref.ensures.value) (played_of b))) ∙ c.if-not-may_stand.true)

pub run_task-requires : goal.run_task-requires
run_task-requires g c = can_run c.requires c.args.task (sym (c.may_stand.ensures c.requires.front (subst (ArePlayed c.requires.front) (sym c.deref.ensures.value) (played_of c.requires))) ∙ c.if-not-may_stand.false) c.deref-2.result.now c.deref-2.ensures.value

pub returns-in_err-slot-clause-count : goal.returns-in_err-slot-clause-count
returns-in_err-slot-clause-count g c b = c.run_task.ensures.count (can_run b c.args.task (sym (c.may_stand.ensures b.front (subst (ArePlayed b.front) (sym c.deref.ensures.value) (played_of b))) ∙ c.if-not-may_stand.false) c.deref-2.result.now c.deref-2.ensures.value)

pub put-requires-clause-node : goal.put-requires-clause-node
put-requires-clause-node g c = node_within c.requires c.args.task (sym (c.may_stand.ensures c.requires.front (subst (ArePlayed c.requires.front) (sym c.deref.ensures.value) (played_of c.requires))) ∙ c.if-not-may_stand.false)

pub put-requires-clause-shard : goal.put-requires-clause-shard
put-requires-clause-shard g c = shard_within c.requires c.args.task (sym (c.may_stand.ensures c.requires.front (subst (ArePlayed c.requires.front) (sym c.deref.ensures.value) (played_of c.requires))) ∙ c.if-not-may_stand.false)

pub returns-clause-told : goal.returns-clause-told
returns-clause-told g c b =
    turn_taken b c.args.task (sym (c.may_stand.ensures b.front (subst (ArePlayed b.front) (sym c.deref.ensures.value) (played_of b))) ∙ c.if-not-may_stand.false) c.in_ok-slot.slot (c.in_ok-slot.ensures.told (can_run b c.args.task (sym (c.may_stand.ensures b.front (subst (ArePlayed b.front) (sym c.deref.ensures.value) (played_of b))) ∙ c.if-not-may_stand.false) c.deref-2.result.now c.deref-2.ensures.value)) c.put.new.lines.items c.put.ensures

pub returns-clause-count : goal.returns-clause-count
returns-clause-count g c b = c.run_task.ensures.count (can_run b c.args.task (sym (c.may_stand.ensures b.front (subst (ArePlayed b.front) (sym c.deref.ensures.value) (played_of b))) ∙ c.if-not-may_stand.false) c.deref-2.result.now c.deref-2.ensures.value)
