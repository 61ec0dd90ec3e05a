use Rattle.sq_typed.proofs.AnswerLemmas.{count-union_all, count-union, count-except, count-intersect, count-distinct}
use Rattle.sq_typed.proofs.laws.rows_are_counted.Goals as goal

pub returns-clause-union_all : goal.returns-clause-union_all
returns-clause-union_all c = count-union_all

pub returns-clause-union : goal.returns-clause-union
returns-clause-union c = count-union

pub returns-clause-except : goal.returns-clause-except
returns-clause-except c = count-except

pub returns-clause-intersect : goal.returns-clause-intersect
returns-clause-intersect c = count-intersect

pub returns-clause-distinct : goal.returns-clause-distinct
returns-clause-distinct c = count-distinct
