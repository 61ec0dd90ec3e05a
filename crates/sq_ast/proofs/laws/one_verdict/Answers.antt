use Rattle.sq_ast.specs.Spelling.{kinds}
use Rattle.sq_ast.proofs.Programs.{spelled_or_refused}
use Rattle.sq_ast.proofs.laws.one_verdict.Goals as goal

pub returns-clause-either : goal.returns-clause-either
returns-clause-either c tokens = spelled_or_refused (kinds tokens)
