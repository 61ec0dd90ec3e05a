use Rattle.std.specs.Prelude.{IfErr}
use Rattle.std.specs.List.{AllByRecursion}
use Rattle.std.proofs.Common.{[], ◌∷◌, ◌++◌, ap, sym, subst, ◌∙◌}
use Rattle.std.proofs.lemmas.Result.{IfErr-weaker, err_from_is_err_and, on_ok_weaker}
use Rattle.sq_lines.specs.Lines.{decoded}
use Rattle.sq_ticks.specs.Runs.{IsBehind, StopsWithin, said_line}
use Rattle.sq_ticks.proofs.Behind.{behind_line, line_stops, memory_stops, on_ok_both}
use Rattle.sq_ticks.proofs.play.take_raw.Goals as goal

pub returns-in_err-line-clause-stopped : goal.returns-in_err-line-clause-stopped
returns-in_err-line-clause-stopped g c seen from h =
    let p = err_from_is_err_and c.from_residual.result c.from_residual.ensures.1 in
    rw (p.1, p.2) (memory_stops c.args.program.now from seen (said_line c.args.program.now c.args.raw.now ∷ []) _ _ c.args.run.now h)

pub returns-clause-behind : goal.returns-clause-behind
returns-clause-behind g c seen from h =
    let says = c.in_ok-line.ensures.says ∙ ap (λ rs. decoded rs c.args.raw.now.number c.args.raw.now.bytes) c.catalog.ensures.relations in
    rw (sym says)
    (on_ok_both c.take_line.result (c.take_line.ensures.goes h.lists h.at) (c.take_line.ensures.told h.lists h.at)
    (λ went told. behind_line c.args.program.now from seen c.in_ok-line.line _ _ _ _ c.args.run.now c.take_line.new.self went.0 h went.1 told c.take_line.ensures.later))

pub returns-clause-stopped : goal.returns-clause-stopped
returns-clause-stopped g c seen from h =
    let says = c.in_ok-line.ensures.says ∙ ap (λ rs. decoded rs c.args.raw.now.number c.args.raw.now.bytes) c.catalog.ensures.relations in
    rw (sym says)
    (IfErr-weaker c.take_line.result _ _
    (λ stop stopped. line_stops c.args.program.now from seen c.in_ok-line.line _ _ _ _ c.args.run.now stop h c.take_line.ensures.later stopped)
    (c.take_line.ensures.stopped h.lists h.at))
