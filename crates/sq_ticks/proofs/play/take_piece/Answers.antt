use Rattle.std.proofs.Common.{◌≡◌, ◌<◌, ◌+◌, ◌^◌, [], ◌∷◌, ◌++◌, length, arith, ap, subst, ◌∙◌}
use Rattle.std.proofs.lemmas.List.{nil_from_length}
use Rattle.std.proofs.lemmas.Result.{err_from_is_err_and}
use Rattle.std.specs.Vec.Iter.{into_iter_items}
use Rattle.sq_ticks.specs.Runs.{ended_lines}
use Rattle.sq_ticks.proofs.Behind.{Along, along_begins, along_ends, along_more, along_read, along_stops, piece_stops, read_handed, room_for}
use Rattle.sq_ticks.proofs.play.take_piece.Goals as goal

pub returns-in_err-raw-items-clause-stopped : goal.returns-in_err-raw-items-clause-stopped
returns-in_err-raw-items-clause-stopped g c bytes from far =
    let p = err_from_is_err_and c.from_residual.result c.from_residual.ensures.1 in
    rw (p.1, p.2) (piece_stops c.args.program.now bytes c.args.piece.now from _ _ c.args.run.now c.args.cutter.now far)

pub loop-raw-init : goal.loop-raw-init
loop-raw-init g c =
    let far = c.requires.stands in
    let gives : into_iter_items c.into_iter-raw-iterator.result ≡ c.in_ok-raw-items.raw-items.items = c.into_iter-raw-iterator.ensures.into_iter_gives.0 in (
      room_for c.args.cutter.now c.feed.new.self c.args.piece.now (into_iter_items c.into_iter-raw-iterator.result) c.args.run.now.read (gives ∙ c.in_ok-raw-items.ensures.lines) c.in_ok-raw-items.ensures.fed
          c.in_ok-raw-items.ensures.few (read_handed c.args.program.now far.0 far.1 _ _ c.args.run.now c.args.cutter.now far.2) c.requires.few,
      λ bytes from f. along_begins c.args.program.now bytes c.args.piece.now from _ _ c.args.run.now c.args.cutter.now (into_iter_items c.into_iter-raw-iterator.result) f (gives ∙ c.in_ok-raw-items.ensures.lines),
    )

pub take_raw-requires-clause-few : goal.take_raw-requires-clause-few
take_raw-requires-clause-few g c = omega (arith, c.loop-raw.invariant.0)

pub take_raw-requires-clause-stands : goal.take_raw-requires-clause-stands
take_raw-requires-clause-stands g c =
    let far = c.requires.stands in
    let a = c.loop-raw.invariant.1 far.0 far.1 far.2 in
    (a.seen, far.1, a.behind)

pub returns-in_err-take_raw-clause-stopped : goal.returns-in_err-take_raw-clause-stopped
returns-in_err-take_raw-clause-stopped g c bytes from far =
    let p = err_from_is_err_and c.from_residual-in_err-take_raw.result c.from_residual-in_err-take_raw.ensures.1 in
    let a = subst (Along c.args.program.now (ended_lines c.args.program.now (bytes ++ c.args.piece.now)) from (g.K.Sink.taken c.loop-raw.out) (g.K.Sink.faults c.loop-raw.out) c.loop-raw.run) c.in-Some.ensures.steps.0 (c.loop-raw.invariant.1 bytes from far) in
    rw (p.1, p.2)
    (along_stops c.args.program.now _ from _ _ _ _ c.loop-raw.run c.in-Some.raw (into_iter_items c.next.new.self) c.in_err-take_raw.field-0.0 a (c.in_err-take_raw.ensures.stopped a.seen from a.behind))

pub loop-raw-preserved : goal.loop-raw-preserved
loop-raw-preserved g c =
    let p = c.args.program.now in
    let far = c.requires.stands in
    let steps = c.in-Some.ensures.steps.0 in
    let a = subst (Along p (ended_lines p (far.0 ++ c.args.piece.now)) far.1 (g.K.Sink.taken c.loop-raw.out) (g.K.Sink.faults c.loop-raw.out) c.loop-raw.run) steps (c.loop-raw.invariant.1 far.0 far.1 far.2) in
    let read = along_read p _ far.1 _ _ _ _ c.loop-raw.run c.take_raw.new.run c.in-Some.raw (into_iter_items c.next.new.self) a (c.in_ok-take_raw.ensures.behind a.seen far.1 a.behind) in
    let fewer : length (into_iter_items c.loop-raw.raw-iterator) ≡ length (c.in-Some.raw ∷ into_iter_items c.next.new.self) = ap length steps in (
      omega (arith, read, fewer, c.loop-raw.invariant.0),
      λ bytes from f.
          let b = subst (Along p (ended_lines p (bytes ++ c.args.piece.now)) from (g.K.Sink.taken c.loop-raw.out) (g.K.Sink.faults c.loop-raw.out) c.loop-raw.run) steps (c.loop-raw.invariant.1 bytes from f) in
          along_more p _ from _ _ _ _ c.loop-raw.run c.take_raw.new.run c.in-Some.raw (into_iter_items c.next.new.self) b (c.in_ok-take_raw.ensures.behind b.seen from b.behind),
    )

pub returns-clause-far : goal.returns-clause-far
returns-clause-far g c bytes from far =
    let none : into_iter_items c.loop-raw.raw-iterator ≡ [] = nil_from_length (into_iter_items c.loop-raw.raw-iterator) (let ends = c.in-None.ensures.steps.0 in let fits = c.loop-raw.raw-iterator.rest.ok in omega (arith, ends, fits)) in
    let a = subst (Along c.args.program.now (ended_lines c.args.program.now (bytes ++ c.args.piece.now)) from (g.K.Sink.taken c.loop-raw.out) (g.K.Sink.faults c.loop-raw.out) c.loop-raw.run) none (c.loop-raw.invariant.1 bytes from far) in
    along_ends c.args.program.now bytes c.args.piece.now from _ _ c.loop-raw.run c.args.cutter.now c.feed.new.self a far.cut c.in_ok-raw-items.ensures.fed
