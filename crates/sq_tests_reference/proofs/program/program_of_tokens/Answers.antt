use Rattle.std.proofs.Common.{arith, subst, sym}
use Rattle.sq_ast.specs.Spelling.{Spells}
use Rattle.sq_check.proofs.QueriesSpelled.{each_spelled}
use Rattle.sq_tests_reference.proofs.program.program_of_tokens.Goals as goal

pub program_of_statements-requires : goal.program_of_statements-requires
program_of_statements-requires c =
    each_spelled c.args.tokens.now c.deref.result.now (omega (arith, c.requires)) (subst (Spells c.args.tokens.now) (sym c.deref.ensures.value) c.in_ok-statements.ensures.found)
