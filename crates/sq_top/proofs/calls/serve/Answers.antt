use Rattle.sq_ticks.specs.Seen.{seen}
use Rattle.sq_top.proofs.Telling.{handed_back, no_usage, ran, told}
use Rattle.sq_top.proofs.calls.serve.Goals as goal

pub returns-clause-ran : goal.returns-clause-ran
returns-clause-ran g c =
    ran c.args.limit c.args.workers (seen (g.S.Source.left c.args.input.now) (g.S.Source.faults c.args.input.now)) (seen (g.S.Source.left c.run_input.new.input) (g.S.Source.faults c.run_input.new.input))
    (seen (g.K.Sink.taken c.args.out.now) (g.K.Sink.faults c.args.out.now)) (seen (g.K.Sink.taken c.run_input.new.out) (g.K.Sink.faults c.run_input.new.out)) c.run_input.result c.run_input.ensures
    _ c.tell.ensures.status

pub returns-clause-told : goal.returns-clause-told
returns-clause-told g c =
    told c.args.limit c.args.workers (seen (g.S.Source.left c.args.input.now) (g.S.Source.faults c.args.input.now)) (seen (g.S.Source.left c.run_input.new.input) (g.S.Source.faults c.run_input.new.input))
    (seen (g.K.Sink.taken c.args.out.now) (g.K.Sink.faults c.args.out.now)) (seen (g.K.Sink.taken c.run_input.new.out) (g.K.Sink.faults c.run_input.new.out)) c.run_input.result c.run_input.ensures
    _ c.tell.ensures.status (seen (g.E.Sink.taken c.args.err.now) (g.E.Sink.faults c.args.err.now)) (seen (g.E.Sink.taken c.tell.new.err) (g.E.Sink.faults c.tell.new.err)) c.tell.ensures.told c.tell.ensures.prefix

pub returns-clause-engine : goal.returns-clause-engine
returns-clause-engine g c =
    handed_back c.args.limit c.args.workers (seen (g.S.Source.left c.args.input.now) (g.S.Source.faults c.args.input.now)) (seen (g.S.Source.left c.run_input.new.input) (g.S.Source.faults c.run_input.new.input))
    (seen (g.K.Sink.taken c.args.out.now) (g.K.Sink.faults c.args.out.now)) (seen (g.K.Sink.taken c.run_input.new.out) (g.K.Sink.faults c.run_input.new.out)) c.run_input.result c.run_input.ensures
    _ c.tell.ensures.status _ c.tell.ensures.engine

pub returns-clause-no_usage : goal.returns-clause-no_usage
returns-clause-no_usage g c =
    no_usage c.args.limit c.args.workers (seen (g.S.Source.left c.args.input.now) (g.S.Source.faults c.args.input.now)) (seen (g.S.Source.left c.run_input.new.input) (g.S.Source.faults c.run_input.new.input))
    (seen (g.K.Sink.taken c.args.out.now) (g.K.Sink.faults c.args.out.now)) (seen (g.K.Sink.taken c.run_input.new.out) (g.K.Sink.faults c.run_input.new.out)) c.run_input.result c.run_input.ensures
    _ c.tell.ensures.status
