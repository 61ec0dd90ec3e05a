use Rattle.sq_expr.proofs.Kept.{suits_more, suits_cond_more}
use Rattle.sq_expr.proofs.laws.suiting.Goals as goal

pub returns-clause-more : goal.returns-clause-more
returns-clause-more c = suits_more

pub returns-clause-more_cond : goal.returns-clause-more_cond
returns-clause-more_cond c = suits_cond_more
