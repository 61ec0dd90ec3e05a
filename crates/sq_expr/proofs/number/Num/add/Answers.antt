use Rattle.std.proofs.Common.{rules}
use Rattle.std.proofs.lemmas.Int.{wraps}
use Rattle.sq_expr.proofs.number.Num.add.Goals as goal

pub returns-in-Whole-Whole : goal.returns-in-Whole-Whole
returns-in-Whole-Whole c = search (rules, wraps)

pub returns-in-Whole-Whole-2 : goal.returns-in-Whole-Whole-2
returns-in-Whole-Whole-2 c = search (rules, wraps)
