use Rattle.std.proofs.Common.{◌∙◌}
use Rattle.sq_sample.proofs.Playing.{after_next, may_admit_next, next_full, next_in_range, none_is_absent}
use Rattle.sq_sample.proofs.run.play_tick.Goals as goal

pub admit-requires-clause-fits : goal.admit-requires-clause-fits
admit-requires-clause-fits c =
    may_admit_next c.args.run.now.ticks.seed c.args.run.now.ticks.made c.args.run.now.engine c.args.run.now.numbers.items c.requires.few c.requires.after c.deref.result.now
    (c.deref.ensures.value ∙ c.in_ok-updates.ensures.tick)

pub admit-requires-clause-there : goal.admit-requires-clause-there
admit-requires-clause-there c =
    none_is_absent c.args.run.now.ticks.seed c.args.run.now.ticks.made c.args.run.now.engine c.args.run.now.numbers.items c.requires.few c.requires.after c.deref.result.now
    (c.deref.ensures.value ∙ c.in_ok-updates.ensures.tick)

pub tick-requires-clause-in_range : goal.tick-requires-clause-in_range
tick-requires-clause-in_range c =
    next_in_range c.args.run.now.ticks.seed c.args.run.now.ticks.made c.args.run.now.engine c.args.run.now.numbers.items c.requires.few c.requires.after c.deref.result.now
    (c.deref.ensures.value ∙ c.in_ok-updates.ensures.tick) c.in_ok-delta.delta c.in_ok-delta.ensures.made

pub raised-requires : goal.raised-requires
raised-requires c =
    next_full c.args.run.now.ticks.seed c.args.run.now.ticks.made c.args.run.now.engine c.args.run.now.numbers.items c.requires.few c.requires.after c.deref.result.now
    (c.deref.ensures.value ∙ c.in_ok-updates.ensures.tick) c.in_ok-delta.delta c.in_ok-delta.ensures.made
    c.deref-2.result.now c.deref-3.result.now c.in_ok-changes.changes.views.items c.deref-2.ensures.value c.deref-3.ensures.value c.in_ok-changes.ensures.ok

pub returns-clause-after : goal.returns-clause-after
returns-clause-after c =
    after_next c.args.run.now.ticks.seed c.args.run.now.ticks.made c.args.run.now.engine c.args.run.now.numbers.items c.requires.few c.requires.after c.deref.result.now
    (c.deref.ensures.value ∙ c.in_ok-updates.ensures.tick) c.in_ok-delta.delta c.in_ok-delta.ensures.made
    c.tick.new.engine c.in_ok-run.field-0.items c.deref-2.result.now c.deref-3.result.now c.in_ok-changes.changes.views.items
    c.in_ok-changes.ensures.engine c.deref-2.ensures.value c.deref-3.ensures.value c.in_ok-changes.ensures.ok c.in_ok-run.ensures
