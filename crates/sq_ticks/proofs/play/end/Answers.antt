use Rattle.std.specs.Prelude.{IfErr, IfOk, OnOk}
use Rattle.std.specs.List.{list_any}
use Rattle.std.specs.Io.KnownBytes.{Appends}
use Rattle.std.proofs.Common.{◌≡◌, [], ◌∷◌, ◌++◌, arith, subst, ◌∙◌}
use Rattle.std.proofs.lemmas.Result.{err_from_is_err_and}
use Rattle.sq_lines.specs.Cutting.{lines_of}
use Rattle.sq_ticks.specs.Output.{reports_of, texts_from}
use Rattle.sq_ticks.specs.Runs.{IsLeft, StoppedWithin, ended_lines, said_line}
use Rattle.sq_ticks.specs.Ticks.{is_refusal, lines_from}
use Rattle.sq_ticks.proofs.Behind.{last_said, none_said, read_handed, stops_now}
use Rattle.sq_ticks.proofs.play.end.Goals as goal

pub take_raw-requires-clause-few : goal.take_raw-requires-clause-few
take_raw-requires-clause-few g c =
    let far = c.requires.stands in
    omega (arith, read_handed c.args.program.now far.0 far.1 _ _ c.args.run c.args.cutter far.2, c.requires.few)

pub returns-in_err-take_raw-in-Some-clause-stopped : goal.returns-in_err-take_raw-in-Some-clause-stopped
returns-in_err-take_raw-in-Some-clause-stopped g c bytes from far =
    let p = err_from_is_err_and c.from_residual.result c.from_residual.ensures.1 in
    rw (p.1, p.2)
    (stops_now c.args.program.now from (ended_lines c.args.program.now bytes ++ said_line c.args.program.now c.in-Some.raw ∷ []) (lines_from c.args.program.now.catalog 1 (lines_of bytes)) _ _ c.in_err-take_raw-in-Some.field-0.0
    (last_said c.args.program.now bytes c.args.cutter c.in-Some.raw far.cut c.in-Some.ensures)
    (c.in_err-take_raw-in-Some.ensures.stopped (ended_lines c.args.program.now bytes) from far.behind))

pub returns-in_ok-take_raw-in-Some-clause-refused : goal.returns-in_ok-take_raw-in-Some-clause-refused
returns-in_ok-take_raw-in-Some-clause-refused g c bytes from far =
    subst (λ ls. IfOk c.finish-in-Some.result (λ played. played.refused ≡ list_any (λ r. is_refusal r.1) (reports_of c.args.program.now ls)))
    (last_said c.args.program.now bytes c.args.cutter c.in-Some.raw far.cut c.in-Some.ensures)
    (c.finish-in-Some.ensures.refused _ from (c.in_ok-take_raw-in-Some.ensures.behind (ended_lines c.args.program.now bytes) from far.behind))

pub returns-in_ok-take_raw-in-Some-clause-engine : goal.returns-in_ok-take_raw-in-Some-clause-engine
returns-in_ok-take_raw-in-Some-clause-engine g c bytes from far =
    subst (λ ls. IfOk c.finish-in-Some.result (λ played. IsLeft c.args.program.now (reports_of c.args.program.now ls) from.shards played.engine))
    (last_said c.args.program.now bytes c.args.cutter c.in-Some.raw far.cut c.in-Some.ensures)
    (c.finish-in-Some.ensures.engine _ from (c.in_ok-take_raw-in-Some.ensures.behind (ended_lines c.args.program.now bytes) from far.behind))

pub returns-in_ok-take_raw-in-Some-clause-told : goal.returns-in_ok-take_raw-in-Some-clause-told
returns-in_ok-take_raw-in-Some-clause-told g c bytes from far =
    subst (λ ls. OnOk c.finish-in-Some.result (Appends from.taken (g.K.Sink.taken c.finish-in-Some.new.out) (texts_from c.args.program.now 0 (reports_of c.args.program.now ls))))
    (last_said c.args.program.now bytes c.args.cutter c.in-Some.raw far.cut c.in-Some.ensures)
    (c.finish-in-Some.ensures.told _ from (c.in_ok-take_raw-in-Some.ensures.behind (ended_lines c.args.program.now bytes) from far.behind))

pub returns-in_ok-take_raw-in-Some-clause-stopped : goal.returns-in_ok-take_raw-in-Some-clause-stopped
returns-in_ok-take_raw-in-Some-clause-stopped g c bytes from far =
    subst (λ ls. IfErr c.finish-in-Some.result (StoppedWithin c.args.program.now from.taken (g.K.Sink.taken c.finish-in-Some.new.out) from.faults (g.K.Sink.faults c.finish-in-Some.new.out) (reports_of c.args.program.now ls)))
    (last_said c.args.program.now bytes c.args.cutter c.in-Some.raw far.cut c.in-Some.ensures)
    (c.finish-in-Some.ensures.stopped _ from (c.in_ok-take_raw-in-Some.ensures.behind (ended_lines c.args.program.now bytes) from far.behind))

pub returns-in-None-clause-refused : goal.returns-in-None-clause-refused
returns-in-None-clause-refused g c bytes from far =
    subst (λ ls. IfOk c.finish-in-None.result (λ played. played.refused ≡ list_any (λ r. is_refusal r.1) (reports_of c.args.program.now ls)))
    (none_said c.args.program.now bytes c.args.cutter far.cut c.in-None.ensures)
    (c.finish-in-None.ensures.refused _ from far.behind)

pub returns-in-None-clause-engine : goal.returns-in-None-clause-engine
returns-in-None-clause-engine g c bytes from far =
    subst (λ ls. IfOk c.finish-in-None.result (λ played. IsLeft c.args.program.now (reports_of c.args.program.now ls) from.shards played.engine))
    (none_said c.args.program.now bytes c.args.cutter far.cut c.in-None.ensures)
    (c.finish-in-None.ensures.engine _ from far.behind)

pub returns-in-None-clause-told : goal.returns-in-None-clause-told
returns-in-None-clause-told g c bytes from far =
    subst (λ ls. OnOk c.finish-in-None.result (Appends from.taken (g.K.Sink.taken c.finish-in-None.new.out) (texts_from c.args.program.now 0 (reports_of c.args.program.now ls))))
    (none_said c.args.program.now bytes c.args.cutter far.cut c.in-None.ensures)
    (c.finish-in-None.ensures.told _ from far.behind)

pub returns-in-None-clause-stopped : goal.returns-in-None-clause-stopped
returns-in-None-clause-stopped g c bytes from far =
    subst (λ ls. IfErr c.finish-in-None.result (StoppedWithin c.args.program.now from.taken (g.K.Sink.taken c.finish-in-None.new.out) from.faults (g.K.Sink.faults c.finish-in-None.new.out) (reports_of c.args.program.now ls)))
    (none_said c.args.program.now bytes c.args.cutter far.cut c.in-None.ensures)
    (c.finish-in-None.ensures.stopped _ from far.behind)
