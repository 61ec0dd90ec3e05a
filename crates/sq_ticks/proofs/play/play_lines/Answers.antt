use Rattle.std.specs.Prelude.{Err}
use Rattle.std.proofs.Common.{◌≡◌, [], ◌++◌, ◌+◌, length, take, arith, ap, refl, sym, subst, ◌∙◌, append-nil, append_assoc, length-append}
use Rattle.std.proofs.lemmas.List.{length-take-le}
use Rattle.std.proofs.lemmas.Result.{IfErr-weaker, err_from_is_err_and}
use Rattle.std.specs.Io.KnownBytes.{Consumes}
use Rattle.sq_lines.specs.Cutting.{lines_of}
use Rattle.sq_ticks.specs.Seen.{seen}
use Rattle.sq_ticks.proofs.Going.{first_stop}
use Rattle.sq_ticks.proofs.PlayingOn.{begin_at, consumes_chain, consumes_none, count_halts, far_begun, halts_within, played_out, playing_begins, playing_on, stops_in_bytes}
use Rattle.sq_ticks.proofs.play.play_lines.Goals as goal

pub returns-in_err-run-clause-halted : goal.returns-in_err-run-clause-halted
returns-in_err-run-clause-halted g c =
    let q = err_from_is_err_and c.from_residual.result c.from_residual.ensures.1 in
    let p = c.args.judged.program in
    let first = c.args.first.now in
    rw (q.1, q.2)
    (halts_within p c.args.limit c.args.taken first (seen (g.S.Source.left c.args.input.now) (g.S.Source.faults c.args.input.now)) (seen (g.K.Sink.taken c.args.out.now) (g.K.Sink.faults c.args.out.now)) []
    (seen (g.S.Source.left c.args.input.now) (g.S.Source.faults c.args.input.now)) (seen (g.K.Sink.taken c.start.new.out) (g.K.Sink.faults c.start.new.out)) c.in_err-run.field-0.0
    (consumes_none (g.S.Source.left c.args.input.now)) (omega (arith, c.requires.limit))
    (first_stop p (lines_of (first ++ [])) _ _ _ _ c.in_err-run.field-0.0 c.in_err-run.ensures.stopped))

pub take_piece-requires-clause-stands : goal.take_piece-requires-clause-stands
take_piece-requires-clause-stands g c =
    let from = begin_at (seen (g.K.Sink.taken c.args.out.now) (g.K.Sink.faults c.args.out.now)) c.args.judged.engine.shards in
    ([], from, far_begun c.args.judged.program from _ _ c.args.judged.engine _ _ c.in_ok-run.ensures.start c.in_ok-run.ensures.told c.start.ensures.later refl c.new-cutter.ensures)

pub returns-in_err-take_piece-clause-halted : goal.returns-in_err-take_piece-clause-halted
returns-in_err-take_piece-clause-halted g c =
    let q = err_from_is_err_and c.from_residual-in_err-take_piece.result c.from_residual-in_err-take_piece.ensures.1 in
    let p = c.args.judged.program in
    let first = c.args.first.now in
    let from = begin_at (seen (g.K.Sink.taken c.args.out.now) (g.K.Sink.faults c.args.out.now)) c.args.judged.engine.shards in
    let far = far_begun p from _ _ c.args.judged.engine _ _ c.in_ok-run.ensures.start c.in_ok-run.ensures.told c.start.ensures.later refl c.new-cutter.ensures in
    let all : first ++ [] ≡ first = append-nil first in
    rw (q.1, q.2)
    (halts_within p c.args.limit c.args.taken first (seen (g.S.Source.left c.args.input.now) (g.S.Source.faults c.args.input.now)) (seen (g.K.Sink.taken c.args.out.now) (g.K.Sink.faults c.args.out.now)) []
    (seen (g.S.Source.left c.args.input.now) (g.S.Source.faults c.args.input.now)) (seen (g.K.Sink.taken c.take_piece.new.out) (g.K.Sink.faults c.take_piece.new.out)) c.in_err-take_piece.field-0.0
    (consumes_none (g.S.Source.left c.args.input.now)) (omega (arith, c.requires.limit))
    (rw all (stops_in_bytes p first from _ _ c.in_err-take_piece.field-0.0 (c.in_err-take_piece.ensures.stopped [] from far))))

pub loop-cutter-init : goal.loop-cutter-init
loop-cutter-init g c =
    let p = c.args.judged.program in
    let from = begin_at (seen (g.K.Sink.taken c.args.out.now) (g.K.Sink.faults c.args.out.now)) c.args.judged.engine.shards in
    let far = far_begun p from _ _ c.args.judged.engine _ _ c.in_ok-run.ensures.start c.in_ok-run.ensures.told c.start.ensures.later refl c.new-cutter.ensures in
    let none = ap (λ k. k.handed) c.new-cutter.ensures in
    playing_begins p c.args.limit c.args.taken c.args.first.now _ _ c.args.judged.engine.shards _ c.take_piece.new.run c.take_piece.new.cutter
    (omega (arith, c.requires.limit)) (omega (arith, c.requires.limit)) (omega (arith, c.in_ok-take_piece.ensures.few, none)) (c.in_ok-take_piece.ensures.far [] from far)

pub returns-in_err-count-clause-halted : goal.returns-in_err-count-clause-halted
returns-in_err-count-clause-halted g c =
    let q = err_from_is_err_and c.from_residual-in_err-count.result c.from_residual-in_err-count.ensures.1 in
    rw (q.1, q.2)
    (count_halts c.args.judged.program c.args.limit c.args.taken c.args.first.now _ _ c.args.judged.engine.shards
    (seen (g.S.Source.left c.loop-cutter.input) (g.S.Source.faults c.loop-cutter.input)) (seen (g.S.Source.left c.read_piece.new.input) (g.S.Source.faults c.read_piece.new.input))
    (seen (g.K.Sink.taken c.loop-cutter.out) (g.K.Sink.faults c.loop-cutter.out)) c.loop-cutter.taken c.loop-cutter.run c.loop-cutter.cutter c.in_err-count.field-0.0 c.loop-cutter.invariant
    (λ e. c.in_err-count.ensures.no_memory (ap (λ s. Err s) e)) (λ e. c.in_err-count.ensures.no_write (ap (λ s. Err s) e))
    (λ e. c.in_err-count.ensures.failed (ap (λ s. Err s) e)) (λ e. c.in_err-count.ensures.too_long (ap (λ s. Err s) e)))

pub returns-then-count-eq0-clause-played : goal.returns-then-count-eq0-clause-played
returns-then-count-eq0-clause-played g c =
    let h = c.loop-cutter.invariant in
    let from = begin_at (seen (g.K.Sink.taken c.args.out.now) (g.K.Sink.faults c.args.out.now)) c.args.judged.engine.shards in
    let none = subst (λ n. Consumes (g.S.Source.left c.loop-cutter.input) (g.S.Source.left c.read_piece.new.input) (take n c.read_piece.new.buffer)) c.if-count-eq0.true c.in_ok-count.ensures.piece in
    played_out c.args.judged.program c.args.limit c.args.taken c.args.first.now _ _ c.args.judged.engine.shards
    (seen (g.S.Source.left c.loop-cutter.input) (g.S.Source.faults c.loop-cutter.input)) (seen (g.S.Source.left c.read_piece.new.input) (g.S.Source.faults c.read_piece.new.input))
    (seen (g.K.Sink.taken c.loop-cutter.out) (g.K.Sink.faults c.loop-cutter.out)) (seen (g.K.Sink.taken c.end.new.out) (g.K.Sink.faults c.end.new.out)) c.loop-cutter.taken c.loop-cutter.run c.loop-cutter.cutter c.end.result h none
    (c.in_ok-count.ensures.to_end c.if-count-eq0.true)
    (c.end.ensures.refused (c.args.first.now ++ h.rest) from h.far) (c.end.ensures.engine (c.args.first.now ++ h.rest) from h.far) (c.end.ensures.told (c.args.first.now ++ h.rest) from h.far)

pub returns-then-count-eq0-clause-halted : goal.returns-then-count-eq0-clause-halted
returns-then-count-eq0-clause-halted g c =
    let h = c.loop-cutter.invariant in
    let from = begin_at (seen (g.K.Sink.taken c.args.out.now) (g.K.Sink.faults c.args.out.now)) c.args.judged.engine.shards in
    let none = subst (λ n. Consumes (g.S.Source.left c.loop-cutter.input) (g.S.Source.left c.read_piece.new.input) (take n c.read_piece.new.buffer)) c.if-count-eq0.true c.in_ok-count.ensures.piece in
    IfErr-weaker c.end.result _ _
    (λ stop stopped. halts_within c.args.judged.program c.args.limit c.args.taken c.args.first.now _ _ h.rest
    (seen (g.S.Source.left c.read_piece.new.input) (g.S.Source.faults c.read_piece.new.input)) (seen (g.K.Sink.taken c.end.new.out) (g.K.Sink.faults c.end.new.out)) stop
    (subst (Consumes (g.S.Source.left c.args.input.now) (g.S.Source.left c.read_piece.new.input)) (append-nil h.rest) (consumes_chain _ _ _ h.rest [] h.given none)) (omega (arith, h.within, h.taken_is)) stopped)
    (c.end.ensures.stopped (c.args.first.now ++ h.rest) from h.far)

pub returns-in_err-take_piece-2-clause-halted : goal.returns-in_err-take_piece-2-clause-halted
returns-in_err-take_piece-2-clause-halted g c =
    let q = err_from_is_err_and c.from_residual-in_err-take_piece-2.result c.from_residual-in_err-take_piece-2.ensures.1 in
    let p = c.args.judged.program in
    let first = c.args.first.now in
    let h = c.loop-cutter.invariant in
    let piece = take c.in_ok-count.count c.read_piece.new.buffer in
    let from = begin_at (seen (g.K.Sink.taken c.args.out.now) (g.K.Sink.faults c.args.out.now)) c.args.judged.engine.shards in
    let long : length piece ≡ c.in_ok-count.count = length-take-le c.in_ok-count.count c.read_piece.new.buffer c.in_ok-count.ensures.bound.0 in
    let all : first ++ (h.rest ++ piece) ≡ (first ++ h.rest) ++ piece = sym (append_assoc first h.rest piece) in
    rw (q.1, q.2)
    (halts_within p c.args.limit c.args.taken first (seen (g.S.Source.left c.args.input.now) (g.S.Source.faults c.args.input.now)) (seen (g.K.Sink.taken c.args.out.now) (g.K.Sink.faults c.args.out.now)) (h.rest ++ piece)
    (seen (g.S.Source.left c.read_piece.new.input) (g.S.Source.faults c.read_piece.new.input)) (seen (g.K.Sink.taken c.take_piece-in-loop-cutter.new.out) (g.K.Sink.faults c.take_piece-in-loop-cutter.new.out)) c.in_err-take_piece-2.field-0.0
    (consumes_chain _ _ _ h.rest piece h.given c.in_ok-count.ensures.piece) (omega (arith, h.taken_is, c.in_ok-count.ensures.bound.1, long, length-append h.rest piece))
    (rw all (stops_in_bytes p ((first ++ h.rest) ++ piece) from _ _ c.in_err-take_piece-2.field-0.0 (c.in_err-take_piece-2.ensures.stopped (first ++ h.rest) from h.far))))

pub loop-cutter-preserved : goal.loop-cutter-preserved
loop-cutter-preserved g c =
    let h = c.loop-cutter.invariant in
    let piece = take c.in_ok-count.count c.read_piece.new.buffer in
    let from = begin_at (seen (g.K.Sink.taken c.args.out.now) (g.K.Sink.faults c.args.out.now)) c.args.judged.engine.shards in
    playing_on c.args.judged.program c.args.limit c.args.taken c.args.first.now _ _ c.args.judged.engine.shards
    (seen (g.S.Source.left c.loop-cutter.input) (g.S.Source.faults c.loop-cutter.input)) (seen (g.S.Source.left c.read_piece.new.input) (g.S.Source.faults c.read_piece.new.input))
    (seen (g.K.Sink.taken c.loop-cutter.out) (g.K.Sink.faults c.loop-cutter.out)) (seen (g.K.Sink.taken c.take_piece-in-loop-cutter.new.out) (g.K.Sink.faults c.take_piece-in-loop-cutter.new.out))
    c.loop-cutter.taken _ c.in_ok-count.count c.loop-cutter.run c.take_piece-in-loop-cutter.new.run c.loop-cutter.cutter c.take_piece-in-loop-cutter.new.cutter piece h
    c.in_ok-count.ensures.piece (length-take-le c.in_ok-count.count c.read_piece.new.buffer c.in_ok-count.ensures.bound.0) c.in_ok-count.ensures.bound.1 refl
    c.read_piece.ensures.later c.in_ok-take_piece-2.ensures.few (c.in_ok-take_piece-2.ensures.far (c.args.first.now ++ h.rest) from h.far)
