use Rattle.std.proofs.lemmas.Result.{err_from_is_err_and, IfErr-weaker, IfOk-weaker}
use Rattle.std.proofs.Common.{ap, Err}
use Rattle.sq_compile.proofs.Judging.{check_stops, checked_program, range_stops}
use Rattle.sq_compile.proofs.texts.compile_statements.Goals as goal

pub returns-in_err-program-clause-refused : goal.returns-in_err-program-clause-refused
returns-in_err-program-clause-refused c =
    let p = err_from_is_err_and c.from_residual.result c.from_residual.ensures.1 in
    rw (p.1, p.2) (check_stops c.args.statements.now c.in_err-program.field-0.0 (λ n kind e. c.in_err-program.ensures.refused n kind (ap (λ fault. Err fault) e)))

pub returns-clause-refused : goal.returns-clause-refused
returns-clause-refused c =
    IfErr-weaker c.compile_program.result _ _
    (λ stop wrong. range_stops c.args.statements.now c.in_ok-program.program stop c.in_ok-program.ensures.accepted c.in_ok-program.ensures.typed wrong)
    c.compile_program.ensures.refused

pub returns-clause-program : goal.returns-clause-program
returns-clause-program c =
    IfOk-weaker c.compile_program.result _ _
    (λ made is. checked_program c.args.statements.now c.in_ok-program.program made.0 c.in_ok-program.ensures.accepted c.in_ok-program.ensures.typed is)
    c.compile_program.ensures.program
