use Rattle.std.proofs.Common.{Err, ap, refl, subst, sym, ◌∙◌}
use Rattle.std.proofs.lemmas.Result.{IfOk-weaker}
use Rattle.sq_engine.specs.Admitting.{MayAdmit, made}
use Rattle.sq_print.specs.declared.refusal.Refusal.TheVariants.{Absent}
use Rattle.sq_ticks.specs.Ticks.{refused}
use Rattle.sq_ticks.proofs.Playing.{played_on}
use Rattle.sq_ticks.proofs.TickLemmas.{may_be_admitted, tick_absent, tick_malformed}
use Rattle.sq_ticks.proofs.tick.play_tick.Goals as goal

pub admit-requires-clause-fits : goal.admit-requires-clause-fits
admit-requires-clause-fits c =
    let s = c.requires in
    subst (MayAdmit c.args.engine.now) (sym (c.deref.ensures.value ∙ c.in_ok-updates.ensures.updates))
    (may_be_admitted c.args.program.now s.0 c.args.engine.now c.args.lines.items s.1 s.3.over s.3.fit s.3.room s.2)

pub returns-in-Err-Absent : goal.returns-in-Err-Absent
returns-in-Err-Absent c lists n stands = (
  tick_absent c.args.program.now lists c.args.engine.now c.args.lines.items c.in-Err-Absent.line stands.over stands.fit
      (sym (ap (made c.args.engine.now.tables) (c.deref.ensures.value ∙ c.in_ok-updates.ensures.updates))
      ∙ c.in-Err-Absent.ensures.absent c.in-Err-Absent.line (ap Err c.in-Err-Absent.field-0-is))
      ∙ ap (λ l. refused (Absent l)) (sym c.in-Err-Absent.line-is),
  refl,
)

pub returns-in-Some : goal.returns-in-Some
returns-in-Some c lists n stands = (
  tick_malformed c.args.program.now lists c.args.engine.now c.args.lines.items c.in-Ok.delta c.in-Some.line stands.over stands.fit
      (sym (ap (made c.args.engine.now.tables) (c.deref.ensures.value ∙ c.in_ok-updates.ensures.updates)) ∙ c.in-Ok.ensures.made)
      (sym c.in_ok-updates.ensures.bad ∙ c.in-Some.is),
  refl,
)

pub returns : goal.returns
returns c lists n stands =
    IfOk-weaker c.end_tick.result _ _
    (λ o ended. played_on c.args.program.now lists n c.args.engine.now c.end_tick.new.engine c.args.lines.items c.in-Ok.delta o stands
    (sym (ap (made c.args.engine.now.tables) (c.deref.ensures.value ∙ c.in_ok-updates.ensures.updates)) ∙ c.in-Ok.ensures.made)
    (sym c.in_ok-updates.ensures.bad ∙ c.in_default.is) ended)
    c.end_tick.ensures
