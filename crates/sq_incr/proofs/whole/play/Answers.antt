use Rattle.std.proofs.Common.{refl, ap, subst, length, ◌∙◌}
use Rattle.std.specs.Prelude.{Ok}
use Rattle.sq_incr.specs.Plays.{Stops}
use Rattle.sq_incr.proofs.whole.play.Goals as goal

pub judged-requires : goal.judged-requires
judged-requires g c = (record {
  states = c.args.states.now;
  changes = c.args.changes.now;
  first = c.args.first;
  ready = c.requires.ready;
  many = refl;
  order = c.args.order.now;
  legal = subst (Stops c.args.circuit.now (length c.args.states.now) c.args.order.now) c.in-None.is c.in_ok-stop.ensures.stops;
  noted = c.play_all.ensures.noted c.requires.ready (c.in_ok-stop.was ∙ ap Ok c.in-None.is);
})

pub returns-in-None-clause-answers : goal.returns-in-None-clause-answers
returns-in-None-clause-answers g c r = c.judged.ensures
    (record {
      states = c.args.states.now;
      changes = c.args.changes.now;
      first = c.args.first;
      ready = r;
      many = refl;
      order = c.args.order.now;
      legal = subst (Stops c.args.circuit.now (length c.args.states.now) c.args.order.now) c.in-None.is c.in_ok-stop.ensures.stops;
      noted = c.play_all.ensures.noted r (c.in_ok-stop.was ∙ ap Ok c.in-None.is);
    })
