use Rattle.std.proofs.Common.{refl, sym, ◌∙◌}
use Rattle.std.proofs.lemmas.Result.{on_ok_weaker}
use Rattle.sq_ticks.proofs.Reports.{goes_closed, goes_on, read_more, stopped_same, texts_commit}
use Rattle.sq_ticks.proofs.run.Run.take_line.Goals as goal

pub returns-then-is_commit-clause-goes : goal.returns-then-is_commit-clause-goes
returns-then-is_commit-clause-goes g c lists at =
    on_ok_weaker c.close_tick.result
    (λ x. (x.0, goes_closed c.args.program.now lists x.0 c.args.self.now _ c.close_tick.new.self c.args.line (sym c.is_commit.ensures ∙ c.if-is_commit.true) refl refl refl refl refl x.1))
    (c.close_tick.ensures.closed lists (read_more c.args.program.now lists c.args.self.now.read c.args.self.now.engine c.args.self.now.lines.items at))

pub returns-then-is_commit-clause-stopped : goal.returns-then-is_commit-clause-stopped
returns-then-is_commit-clause-stopped g c lists at =
    stopped_same _ _ _ _ _ _ c.close_tick.result
    (texts_commit c.args.program.now c.args.self.now.tick lists c.args.self.now.lines.items c.args.line (sym c.is_commit.ensures ∙ c.if-is_commit.true))
    (c.close_tick.ensures.stopped lists (read_more c.args.program.now lists c.args.self.now.read c.args.self.now.engine c.args.self.now.lines.items at))

pub returns-clause-goes : goal.returns-clause-goes
returns-clause-goes g c lists at =
    (lists, goes_on c.args.program.now lists c.args.self.now _ c.args.line (sym c.is_commit.ensures ∙ c.if-is_commit.false) at c.requires.fits c.in_ok-push.ensures.items refl refl refl refl)
