use Rattle.std.specs.Prelude.{Err}
use Rattle.std.proofs.Common.{ap, arith, length, subst, take}
use Rattle.std.proofs.lemmas.List.{length-take-le}
use Rattle.std.proofs.lemmas.Result.{err_from_is_err_and}
use Rattle.sq_ticks.specs.Begun.{Takes}
use Rattle.sq_ticks.specs.Seen.{seen}
use Rattle.sq_top.proofs.Reading.{count_stops, end_line_found, memory_stops}
use Rattle.sq_top.proofs.session.read_text.Goals as goal

pub returns-in_err-count-clause-stopped : goal.returns-in_err-count-clause-stopped
returns-in_err-count-clause-stopped g c =
    let q = err_from_is_err_and c.from_residual.result c.from_residual.ensures.1 in
    rw (q.1, q.2)
    (count_stops c.args.limit _ (seen (g.S.Source.left c.loop-count.input) (g.S.Source.faults c.loop-count.input)) (seen (g.S.Source.left c.read_piece.new.input) (g.S.Source.faults c.read_piece.new.input))
    c.loop-count.text c.in_err-count.field-0.0 c.loop-count.invariant
    (λ e. c.in_err-count.ensures.no_memory (ap (λ s. Err s) e)) (λ e. c.in_err-count.ensures.no_write (ap (λ s. Err s) e))
    (λ e. c.in_err-count.ensures.failed (ap (λ s. Err s) e))
    (λ e. let t = c.in_err-count.ensures.too_long (ap (λ s. Err s) e) in (omega (arith, t.0, c.len.ensures, c.loop-count.text.bytes.ok.0), t.1)))

pub returns-in_err-from-clause-stopped : goal.returns-in_err-from-clause-stopped
returns-in_err-from-clause-stopped g c =
    let q = err_from_is_err_and c.from_residual-in_err-from.result c.from_residual-in_err-from.ensures.1 in
    let piece = take c.in_ok-count.count c.read_piece.new.buffer in
    let long = length-take-le c.in_ok-count.count c.read_piece.new.buffer c.in_ok-count.ensures.bound.0 in
    rw (q.1, q.2)
    (memory_stops c.args.limit _ (seen (g.S.Source.left c.loop-count.input) (g.S.Source.faults c.loop-count.input)) (seen (g.S.Source.left c.read_piece.new.input) (g.S.Source.faults c.read_piece.new.input))
    c.loop-count.text piece c.loop-count.invariant c.in_ok-count.ensures.piece (omega (arith, c.in_ok-count.ensures.bound.1, long, c.len.ensures, c.loop-count.text.bytes.ok.0)))

pub returns-in-Some-clause-found : goal.returns-in-Some-clause-found
returns-in-Some-clause-found g c =
    end_line_found c.args.limit (seen (g.S.Source.left c.args.input.now) (g.S.Source.faults c.args.input.now)) (seen (g.S.Source.left c.loop-count.input) (g.S.Source.faults c.loop-count.input))
    (seen (g.S.Source.left c.read_piece.new.input) (g.S.Source.faults c.read_piece.new.input)) c.loop-count.text c.take.new.self c.read_piece.new.buffer c.in_ok-count.count c.in-Some.from c.loop-count.invariant
    c.in_ok-count.ensures.piece (length-take-le c.in_ok-count.count c.read_piece.new.buffer c.in_ok-count.ensures.bound.0) c.in_ok-count.ensures.bound.0
    (omega (arith, c.in_ok-count.ensures.bound.1, c.len.ensures, c.loop-count.text.bytes.ok.0))
    (subst (Takes c.loop-count.text (take c.in_ok-count.count c.read_piece.new.buffer) c.take.new.self) c.in-Some.is c.in_ok-from.ensures)
