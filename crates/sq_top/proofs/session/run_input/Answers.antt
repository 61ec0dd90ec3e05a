use Rattle.std.proofs.Common.{inl, sym, subst}
use Rattle.sq_top.specs.Found.{IsFound}
use Rattle.sq_top.specs.Statuses.{EndsAs}
use Rattle.sq_ticks.specs.Seen.{seen}
use Rattle.sq_top.proofs.Endings.{refused_ends}
use Rattle.sq_top.proofs.Serving.{is_too_long, keeps_same, unfound_ends}
use Rattle.sq_top.proofs.session.run_input.Goals as goal

pub returns-in-Ok-TooLong : goal.returns-in-Ok-TooLong
returns-in-Ok-TooLong g c =
    let text = c.read_text.new.text in
    let found = subst (IsFound c.args.limit (seen (g.S.Source.left c.args.input.now) (g.S.Source.faults c.args.input.now)) (seen (g.S.Source.left c.read_text.new.input) (g.S.Source.faults c.read_text.new.input))
    text c.read_text.new.buffer) c.in-Ok-TooLong.field-0-is c.in-Ok-TooLong.ensures.found in (
      text.bytes.items,
      found.2.0,
      refused_ends c.args.limit c.args.workers text.bytes.items (seen (g.S.Source.left c.args.input.now) (g.S.Source.faults c.args.input.now))
          (seen (g.S.Source.left c.read_text.new.input) (g.S.Source.faults c.read_text.new.input)) _ _ _ c.refuse.result c.refuse.ensures found.2.1 (keeps_same _)
          (inl (is_too_long text.bytes.items text.line found.0 found.1)),
    )

pub returns : goal.returns
returns g c =
    subst (EndsAs c.args.limit c.args.workers (seen (g.S.Source.left c.args.input.now) (g.S.Source.faults c.args.input.now)) (seen (g.S.Source.left c.read_text.new.input) (g.S.Source.faults c.read_text.new.input))
    (seen (g.K.Sink.taken c.args.out.now) (g.K.Sink.faults c.args.out.now)) (seen (g.K.Sink.taken c.args.out.now) (g.K.Sink.faults c.args.out.now))) (sym c.stopped.ensures)
    (unfound_ends c.args.limit c.args.workers _ _ _ _ c.in-Err.stop (keeps_same _) c.in-Err.ensures.stopped)
