use Rattle.std.proofs.lemmas.Result.{err_from_is_err_and, IfErr-weaker, IfOk-weaker}
use Rattle.std.proofs.Common.{subst, sym}
use Rattle.sq_token.specs.Reading.{Tokens}
use Rattle.sq_compile.specs.Programs.{BytesFault, TextFault}
use Rattle.sq_compile.proofs.Judging.{lex_stops, tokens_stop, untrue, istrue}
use Rattle.sq_compile.proofs.texts.compile.Goals as goal

pub returns-then-not-is_utf8-clause-refused : goal.returns-then-not-is_utf8-clause-refused
returns-then-not-is_utf8-clause-refused c = TextFault.in_bytes c.if-text-gt-LONGEST_TEXT.false (BytesFault.not_utf8 (untrue c.is_utf8.result c.is_utf8.ensures c.if-not-is_utf8.true))

pub returns-in_err-tokens-clause-refused : goal.returns-in_err-tokens-clause-refused
returns-in_err-tokens-clause-refused c =
    let p = err_from_is_err_and c.from_residual.result c.from_residual.ensures.1 in
    rw (p.1, p.2) (lex_stops c.args.text.now c.in_err-tokens.field-0.0 c.if-text-gt-LONGEST_TEXT.false (istrue c.is_utf8.result c.is_utf8.ensures c.if-not-is_utf8.false) c.in_err-tokens.ensures.refused)

pub returns-clause-refused : goal.returns-clause-refused
returns-clause-refused c =
    IfErr-weaker c.compile_tokens.result _ _
    (λ stop wrong. tokens_stop c.args.text.now c.deref.result.now stop c.if-text-gt-LONGEST_TEXT.false (istrue c.is_utf8.result c.is_utf8.ensures c.if-not-is_utf8.false)
    (subst (Tokens c.args.text.now) (sym c.deref.ensures.value) c.in_ok-tokens.ensures.found) wrong)
    c.compile_tokens.ensures.refused

pub returns-clause-program : goal.returns-clause-program
returns-clause-program c =
    IfOk-weaker c.compile_tokens.result _ _
    (λ made means. means c.args.text.now c.if-text-gt-LONGEST_TEXT.false (istrue c.is_utf8.result c.is_utf8.ensures c.if-not-is_utf8.false)
    (subst (Tokens c.args.text.now) (sym c.deref.ensures.value) c.in_ok-tokens.ensures.found))
    c.compile_tokens.ensures.program

pub returns-then-text-gt-LONGEST_TEXT-clause-refused : goal.returns-then-text-gt-LONGEST_TEXT-clause-refused
returns-then-text-gt-LONGEST_TEXT-clause-refused c = TextFault.too_long c.if-text-gt-LONGEST_TEXT.true
