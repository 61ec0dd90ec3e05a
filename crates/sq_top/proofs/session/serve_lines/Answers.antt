use Rattle.std.proofs.Common.{inl, sym, subst, ap, arith, ◌∷◌, [], ◌+◌, ◌++◌, length, length-append, append_assoc, ◌∙◌}
use Rattle.sq_lines.specs.Cutting.{line_feed}
use Rattle.sq_top.specs.Found.{front_of}
use Rattle.sq_ticks.specs.Programs.{Stops}
use Rattle.sq_top.specs.Statuses.{EndsAs}
use Rattle.sq_ticks.specs.Seen.{seen}
use Rattle.sq_top.proofs.Endings.{refused_ends}
use Rattle.sq_top.proofs.Serving.{front_of_input, halted_lines, keeps_same, played_lines}
use Rattle.sq_top.proofs.session.serve_lines.Goals as goal

pub returns-in-Err-Fault : goal.returns-in-Err-Fault
returns-in-Err-Fault g c source given later =
    let text = c.args.text.now in
    let first = c.args.first.now in
    let long = length-append (front_of text) first in
    let more_long = length-append text.bytes.items (line_feed ∷ []) in (
      front_of text ++ first,
      given,
      refused_ends c.args.limit c.args.workers (front_of text ++ first) source (seen (g.S.Source.left c.args.input.now) (g.S.Source.faults c.args.input.now)) _ _ c.in-Err-Fault.fault
          c.refuse.result c.refuse.ensures (omega (arith, long, more_long, c.requires.limit)) (keeps_same _)
          (inl (λ more. subst (Stops ((front_of text ++ first) ++ more)) c.in-Err-Fault.field-0-is
          (subst (λ bs. Stops bs c.in-Err-Fault.field-0) (sym (append_assoc (front_of text) first more)) (c.in-Err-Fault.ensures.refused (front_of text ++ (first ++ more)) (front_of_input text c.requires.ended (first ++ more)))))),
    )

pub returns-in-Ok-play_lines : goal.returns-in-Ok-play_lines
returns-in-Ok-play_lines g c source given later =
    let text = c.args.text.now in
    let first = c.args.first.now in
    let long = length-append (front_of text) first in
    let more_long = length-append text.bytes.items (line_feed ∷ []) in
    played_lines text c.requires.ended c.in-Ok.judged.program c.in-Ok.ensures.accepted c.args.limit c.args.workers first source (seen (g.S.Source.left c.args.input.now) (g.S.Source.faults c.args.input.now)) given _
    (omega (arith, long, more_long, c.len.ensures, text.bytes.ok.0)) c.in-Ok.judged.engine.shards (seen (g.S.Source.left c.play_lines.new.input) (g.S.Source.faults c.play_lines.new.input)) (seen (g.K.Sink.taken c.args.out.now) (g.K.Sink.faults c.args.out.now))
    (seen (g.K.Sink.taken c.play_lines.new.out) (g.K.Sink.faults c.play_lines.new.out)) c.in-Ok-play_lines.played c.in-Ok.ensures.starts.shards c.in-Ok-play_lines.ensures.played

pub returns-in-Err : goal.returns-in-Err
returns-in-Err g c source given later =
    let text = c.args.text.now in
    let first = c.args.first.now in
    let long = length-append (front_of text) first in
    let more_long = length-append text.bytes.items (line_feed ∷ []) in
    subst (EndsAs c.args.limit c.args.workers source (seen (g.S.Source.left c.play_lines.new.input) (g.S.Source.faults c.play_lines.new.input)) (seen (g.K.Sink.taken c.args.out.now) (g.K.Sink.faults c.args.out.now))
    (seen (g.K.Sink.taken c.play_lines.new.out) (g.K.Sink.faults c.play_lines.new.out))) (sym c.stopped.ensures)
    (halted_lines text c.requires.ended c.in-Ok.judged.program c.in-Ok.ensures.accepted c.args.limit c.args.workers first source (seen (g.S.Source.left c.args.input.now) (g.S.Source.faults c.args.input.now)) given _
    (omega (arith, long, more_long, c.len.ensures, text.bytes.ok.0)) (seen (g.S.Source.left c.play_lines.new.input) (g.S.Source.faults c.play_lines.new.input)) (seen (g.K.Sink.taken c.args.out.now) (g.K.Sink.faults c.args.out.now))
    (seen (g.K.Sink.taken c.play_lines.new.out) (g.K.Sink.faults c.play_lines.new.out)) c.in-Err.stop later c.in-Err.ensures.halted)
