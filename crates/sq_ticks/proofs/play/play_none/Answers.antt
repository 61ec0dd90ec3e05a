use Rattle.std.proofs.Common.{[], refl}
use Rattle.std.proofs.lemmas.Result.{err_from_is_err_and}
use Rattle.sq_ticks.specs.Seen.{seen}
use Rattle.sq_ticks.proofs.Going.{first_stop}
use Rattle.sq_ticks.proofs.PlayingOn.{begin_at, far_begun}
use Rattle.sq_ticks.proofs.play.play_none.Goals as goal

pub returns-in_err-run-clause-stopped : goal.returns-in_err-run-clause-stopped
returns-in_err-run-clause-stopped g c =
    let p = err_from_is_err_and c.from_residual.result c.from_residual.ensures.1 in
    rw (p.1, p.2) (first_stop c.args.judged.program [] _ _ _ _ c.in_err-run.field-0.0 c.in_err-run.ensures.stopped)

pub end-requires-clause-stands : goal.end-requires-clause-stands
end-requires-clause-stands g c =
    let from = begin_at (seen (g.K.Sink.taken c.args.out.now) (g.K.Sink.faults c.args.out.now)) c.args.judged.engine.shards in
    ([], from, far_begun c.args.judged.program from _ _ c.args.judged.engine _ _ c.in_ok-run.ensures.start c.in_ok-run.ensures.told c.start.ensures.later refl c.new.ensures)

pub returns-clause-refused : goal.returns-clause-refused
returns-clause-refused g c =
    let from = begin_at (seen (g.K.Sink.taken c.args.out.now) (g.K.Sink.faults c.args.out.now)) c.args.judged.engine.shards in
    c.end.ensures.refused [] from (far_begun c.args.judged.program from _ _ c.args.judged.engine _ _ c.in_ok-run.ensures.start c.in_ok-run.ensures.told c.start.ensures.later refl c.new.ensures)

pub returns-clause-engine : goal.returns-clause-engine
returns-clause-engine g c =
    let from = begin_at (seen (g.K.Sink.taken c.args.out.now) (g.K.Sink.faults c.args.out.now)) c.args.judged.engine.shards in
    c.end.ensures.engine [] from (far_begun c.args.judged.program from _ _ c.args.judged.engine _ _ c.in_ok-run.ensures.start c.in_ok-run.ensures.told c.start.ensures.later refl c.new.ensures)

pub returns-clause-told : goal.returns-clause-told
returns-clause-told g c =
    let from = begin_at (seen (g.K.Sink.taken c.args.out.now) (g.K.Sink.faults c.args.out.now)) c.args.judged.engine.shards in
    c.end.ensures.told [] from (far_begun c.args.judged.program from _ _ c.args.judged.engine _ _ c.in_ok-run.ensures.start c.in_ok-run.ensures.told c.start.ensures.later refl c.new.ensures)

pub returns-clause-stopped : goal.returns-clause-stopped
returns-clause-stopped g c =
    let from = begin_at (seen (g.K.Sink.taken c.args.out.now) (g.K.Sink.faults c.args.out.now)) c.args.judged.engine.shards in
    c.end.ensures.stopped [] from (far_begun c.args.judged.program from _ _ c.args.judged.engine _ _ c.in_ok-run.ensures.start c.in_ok-run.ensures.told c.start.ensures.later refl c.new.ensures)
