use Rattle.std.proofs.Common.{rules, ap, refl, subst, ◌∙◌}
use Rattle.std.specs.Io.KnownBytes.{Appends}
use Rattle.sq_ticks.specs.Runs.{told_outcome}
use Rattle.sq_ticks.proofs.Playing.{closed, played_by, told_played}
use Rattle.sq_ticks.proofs.Reports.{stopped_same}
use Rattle.sq_ticks.proofs.run.Run.close_tick.Goals.{then-self, else-self}
use Rattle.sq_ticks.proofs.run.Run.close_tick.Goals as goal

pub returns-in_err-put_all-clause-stopped : goal.returns-in_err-put_all-clause-stopped
returns-in_err-put_all-clause-stopped g c lists at =
    stopped_same _ _ _ _ c.in_ok-text.text.items _ c.from_residual-in_err-put_all.result
    (c.in_ok-text.ensures ∙ ap (λ rs. told_outcome rs c.args.self.now.tick c.in_ok-outcome.outcome) c.catalog.ensures.relations
    ∙ told_played c.args.program.now c.args.self.now.tick lists c.args.self.now.read c.args.self.now.engine c.play_tick.new.engine c.args.self.now.lines.items c.in_ok-outcome.outcome
    (played_by c.args.program.now lists c.args.self.now c.replace-lines.result c.in_ok-outcome.outcome c.play_tick.new.engine c.replace-lines.ensures.value at (c.in_ok-outcome.ensures lists c.args.self.now.read)))
    (search rules)

pub returns-clause-told : goal.returns-clause-told
returns-clause-told g c lists at =
    subst (Appends (g.K.Sink.taken c.args.out.now) (g.K.Sink.taken c.put_all.new.sink))
    (c.in_ok-text.ensures ∙ ap (λ rs. told_outcome rs c.args.self.now.tick c.in_ok-outcome.outcome) c.catalog.ensures.relations
    ∙ told_played c.args.program.now c.args.self.now.tick lists c.args.self.now.read c.args.self.now.engine c.play_tick.new.engine c.args.self.now.lines.items c.in_ok-outcome.outcome
    (played_by c.args.program.now lists c.args.self.now c.replace-lines.result c.in_ok-outcome.outcome c.play_tick.new.engine c.replace-lines.ensures.value at (c.in_ok-outcome.ensures lists c.args.self.now.read)))
    (search rules)

pub returns-clause-closed : goal.returns-clause-closed
returns-clause-closed g c lists at =
    closed c.args.program.now lists c.args.self.now _ c.in_ok-outcome.outcome at
    (played_by c.args.program.now lists c.args.self.now c.replace-lines.result c.in_ok-outcome.outcome c.play_tick.new.engine c.replace-lines.ensures.value at (c.in_ok-outcome.ensures lists c.args.self.now.read))
    (ap (λ ls. ls.items) c.replace-lines.ensures.after ∙ c.new.ensures.items) refl refl
    (elim c.if-self.branch [
      | then-self w ↦ w.self-is ∙ (rw w.if-self.true refl)
      | else-self w ↦ rw (w.if-self.false, w.self-is, w.is_refused-self.ensures) refl
    ])
