use Rattle.std.proofs.lemmas.Result.{err_from_is_err_and, IfErr-weaker, IfOk-weaker}
use Rattle.std.proofs.Common.{arith, subst, sym}
use Rattle.sq_ast.specs.Spelling.{Spells}
use Rattle.sq_check.proofs.QueriesSpelled.{each_spelled}
use Rattle.sq_compile.proofs.Judging.{few_sources, parse_stops, statements_stop}
use Rattle.sq_compile.proofs.texts.compile_tokens.Goals as goal

pub returns-in_err-statements-clause-refused : goal.returns-in_err-statements-clause-refused
returns-in_err-statements-clause-refused c =
    let p = err_from_is_err_and c.from_residual.result c.from_residual.ensures.1 in
    rw (p.1, p.2) (parse_stops c.args.tokens.now c.in_err-statements.field-0.0 c.in_err-statements.ensures.refused)

pub returns-clause-refused : goal.returns-clause-refused
returns-clause-refused c =
    IfErr-weaker c.compile_statements.result _ _
    (λ stop wrong. statements_stop c.args.tokens.now c.deref.result.now stop (subst (Spells c.args.tokens.now) (sym c.deref.ensures.value) c.in_ok-statements.ensures.found) wrong)
    c.compile_statements.ensures.refused

pub compile_statements-requires : goal.compile_statements-requires
compile_statements-requires c = record {
  few = few_sources c.args.tokens.now c.deref.result.now _ c.requires.short c.deref.ensures.value c.in_ok-statements.ensures.sources;
  spelled = each_spelled c.args.tokens.now c.deref.result.now (omega (arith, c.requires.short)) (subst (Spells c.args.tokens.now) (sym c.deref.ensures.value) c.in_ok-statements.ensures.found);
}

pub returns-clause-program : goal.returns-clause-program
returns-clause-program c =
    IfOk-weaker c.compile_statements.result _ _
    (λ made means text short utf8 lexed. means text c.args.tokens.now short utf8 lexed
    (subst (Spells c.args.tokens.now) (sym c.deref.ensures.value) c.in_ok-statements.ensures.found))
    c.compile_statements.ensures.program
