use Rattle.std.proofs.Common.{inr, sym, subst, ◌∙◌}
use Rattle.sq_ticks.specs.Programs.{Stops}
use Rattle.sq_top.specs.Statuses.{IsEndOf}
use Rattle.sq_ticks.specs.Seen.{seen}
use Rattle.sq_top.proofs.Endings.{refused_ends}
use Rattle.sq_ticks.proofs.LongTexts.{no_end_at_all}
use Rattle.sq_top.proofs.Serving.{front_at_end, keeps_same, nothing_after, played_none, stopped_none}
use Rattle.sq_top.proofs.session.serve_text.Goals as goal

pub without_end-requires : goal.without_end-requires
without_end-requires g c = no_end_at_all c.args.text.now.bytes.items c.args.text.now.line c.requires.so_far (sym c.is_at_end_line.ensures ∙ c.if-not-is_at_end_line.true)

pub returns-then-not-is_at_end_line : goal.returns-then-not-is_at_end_line
returns-then-not-is_at_end_line g c limit source source_now given ends short =
    (c.args.text.now.bytes.items, given, refused_ends limit c.args.workers c.args.text.now.bytes.items source source_now _ _ c.without_end.result c.refuse.result c.refuse.ensures short (keeps_same _) (inr (ends, c.without_end.ensures)))

pub returns-in-Err-Fault : goal.returns-in-Err-Fault
returns-in-Err-Fault g c limit source source_now given ends short =
    let front = front_at_end c.args.text.now c.requires.so_far (sym c.is_at_end_line.ensures ∙ c.if-not-is_at_end_line.false) in (
      c.args.text.now.bytes.items,
      given,
      refused_ends limit c.args.workers c.args.text.now.bytes.items source source_now _ _ c.in-Err-Fault.fault c.refuse-in-Err-Fault.result c.refuse-in-Err-Fault.ensures short (keeps_same _)
          (inr (ends, subst (Stops c.args.text.now.bytes.items) c.in-Err-Fault.field-0-is (c.in-Err-Fault.ensures.refused c.args.text.now.bytes.items front))),
    )

pub returns-in-Ok-play_none : goal.returns-in-Ok-play_none
returns-in-Ok-play_none g c limit source source_now given ends short =
    let e = sym c.is_at_end_line.ensures ∙ c.if-not-is_at_end_line.false in (
      c.args.text.now.bytes.items,
      given,
      played_none limit c.args.workers c.in-Ok.judged.engine.shards c.args.text.now.bytes.items source source_now (seen (g.K.Sink.taken c.args.out.now) (g.K.Sink.faults c.args.out.now))
          (seen (g.K.Sink.taken c.play_none.new.out) (g.K.Sink.faults c.play_none.new.out)) c.in-Ok.judged.program c.in-Ok-play_none.played
          (c.in-Ok.ensures.accepted c.args.text.now.bytes.items (front_at_end c.args.text.now c.requires.so_far e)) (nothing_after c.args.text.now c.requires.so_far e)
          c.in-Ok-play_none.ensures.refused c.in-Ok.ensures.starts.shards c.in-Ok-play_none.ensures.engine ends short c.in-Ok-play_none.ensures.told,
    )

pub returns-in-Err : goal.returns-in-Err
returns-in-Err g c limit source source_now given ends short =
    let e = sym c.is_at_end_line.ensures ∙ c.if-not-is_at_end_line.false in (
      c.args.text.now.bytes.items,
      given,
      subst (IsEndOf limit c.args.workers c.args.text.now.bytes.items source source_now (seen (g.K.Sink.taken c.args.out.now) (g.K.Sink.faults c.args.out.now)) (seen (g.K.Sink.taken c.play_none.new.out) (g.K.Sink.faults c.play_none.new.out)))
          (sym c.stopped.ensures)
          (stopped_none limit c.args.workers c.args.text.now.bytes.items source source_now (seen (g.K.Sink.taken c.args.out.now) (g.K.Sink.faults c.args.out.now))
          (seen (g.K.Sink.taken c.play_none.new.out) (g.K.Sink.faults c.play_none.new.out)) c.in-Ok.judged.program c.in-Err.stop
          (c.in-Ok.ensures.accepted c.args.text.now.bytes.items (front_at_end c.args.text.now c.requires.so_far e)) (nothing_after c.args.text.now c.requires.so_far e) short c.in-Err.ensures.stopped),
    )
