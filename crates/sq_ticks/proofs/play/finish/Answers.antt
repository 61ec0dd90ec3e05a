use Rattle.std.proofs.Common.{[]}
use Rattle.std.proofs.lemmas.Result.{IfErr-weaker, IfOk-weaker, on_ok_weaker}
use Rattle.sq_ticks.specs.Runs.{still}
use Rattle.sq_ticks.proofs.Behind.{going_now}
use Rattle.sq_ticks.proofs.Going.{end_stop, going_left, going_refused, going_told}
use Rattle.sq_ticks.proofs.play.finish.Goals as goal

pub returns-clause-refused : goal.returns-clause-refused
returns-clause-refused g c seen from h =
    IfOk-weaker c.finish.result _ _
    (λ played ended. going_refused c.args.program.now _ _ _ _ _ h.lists c.args.run (still c.args.program.now h.lists c.args.run.lines.items []) played.refused
    (going_now c.args.program.now from seen _ _ c.args.run h) ended.refused)
    (c.finish.ensures.ended h.lists)

pub returns-clause-engine : goal.returns-clause-engine
returns-clause-engine g c seen from h =
    IfOk-weaker c.finish.result _ _
    (λ played ended. going_left c.args.program.now _ _ _ _ _ h.lists c.args.run from.shards played
    (going_now c.args.program.now from seen _ _ c.args.run h) h.at h.shards ended)
    (c.finish.ensures.ended h.lists)

pub returns-clause-told : goal.returns-clause-told
returns-clause-told g c seen from h =
    on_ok_weaker c.finish.result
    (λ told. going_told c.args.program.now _ _ _ _ _ _ h.lists c.args.run (still c.args.program.now h.lists c.args.run.lines.items [])
    (going_now c.args.program.now from seen _ _ c.args.run h) told)
    (c.finish.ensures.told h.lists)

pub returns-clause-stopped : goal.returns-clause-stopped
returns-clause-stopped g c seen from h =
    IfErr-weaker c.finish.result _ _
    (λ stop stopped. end_stop c.args.program.now _ _ _ _ _ _ _ h.lists c.args.run (still c.args.program.now h.lists c.args.run.lines.items []) stop
    (going_now c.args.program.now from seen _ _ c.args.run h) c.finish.ensures.later stopped)
    (c.finish.ensures.stopped h.lists)
