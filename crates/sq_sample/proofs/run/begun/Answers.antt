use Rattle.sq_sample.proofs.Playing.{after_start, starts_full, starts_in_range}
use Rattle.sq_sample.proofs.run.begun.Goals as goal

pub start-requires-clause-in_range : goal.start-requires-clause-in_range
start-requires-clause-in_range c = starts_in_range c.in_ok-circuit.field-0 c.in_ok-engine.engine c.in_ok-circuit.ensures c.in_ok-engine.ensures

pub raised-requires : goal.raised-requires
raised-requires c =
    starts_full c.in_ok-circuit.field-0 c.in_ok-engine.engine c.in_ok-circuit.ensures c.in_ok-engine.ensures c.deref.result.now c.in_ok-changes.changes.views.items
    c.deref.ensures.value c.in_ok-changes.ensures.ok

pub returns-clause-after : goal.returns-clause-after
returns-clause-after c =
    after_start c.in_ok-circuit.field-0 c.in_ok-engine.engine c.in_ok-circuit.ensures c.in_ok-engine.ensures c.args.seed c.start.new.engine c.in_ok-numbers.numbers.items
    c.deref.result.now c.in_ok-changes.changes.views.items c.in_ok-changes.ensures.engine c.deref.ensures.value c.in_ok-changes.ensures.ok c.in_ok-numbers.ensures
