use Rattle.std.proofs.lemmas.Result.{IfOk-weaker}
use Rattle.std.proofs.Common.{arith, length, subst, sym}
use Rattle.sq_ast.specs.Spelling.{Spells}
use Rattle.sq_check.proofs.QueriesSpelled.{each_spelled}
use Rattle.sq_tests_play.proofs.Sources.{few}
use Rattle.sq_tests_play.proofs.circuits.program_of_tokens.Goals as goal

pub program_of_statements-requires : goal.program_of_statements-requires
program_of_statements-requires c =
    each_spelled c.args.tokens.now c.deref.result.now (omega (arith, c.requires)) (subst (Spells c.args.tokens.now) (sym c.deref.ensures.value) c.in_ok-statements.ensures.found)

pub returns : goal.returns
returns c =
    IfOk-weaker c.program_of_statements.result _ _
    (λ program is. few c.deref.result.now _ (length c.args.tokens.now) _ c.requires c.deref.ensures.value c.in_ok-statements.ensures.sources is)
    c.program_of_statements.ensures
