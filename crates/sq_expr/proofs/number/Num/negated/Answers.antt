use Rattle.std.proofs.Common.{rules}
use Rattle.std.proofs.lemmas.Int.{wraps}
use Rattle.sq_expr.proofs.number.Num.negated.Goals as goal

pub returns-in-Whole : goal.returns-in-Whole
returns-in-Whole c = search (rules, wraps)
