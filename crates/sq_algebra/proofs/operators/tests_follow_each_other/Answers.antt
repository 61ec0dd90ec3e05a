use Rattle.sq_algebra.proofs.OperatorLemmas.{keep-keep, keep_agree, keep_all, keep_none, keep_parts}
use Rattle.sq_algebra.proofs.operators.tests_follow_each_other.Goals as goal

pub returns-clause-both : goal.returns-clause-both
returns-clause-both g c identical = keep-keep g.K.Ord.cmp g.met.K.Ord.total identical

pub returns-clause-all : goal.returns-clause-all
returns-clause-all g c identical = keep_all g.K.Ord.cmp g.met.K.Ord.total identical

pub returns-clause-nothing : goal.returns-clause-nothing
returns-clause-nothing g c identical = keep_none g.K.Ord.cmp g.met.K.Ord.total identical

pub returns-clause-parts : goal.returns-clause-parts
returns-clause-parts g c identical = keep_parts g.K.Ord.cmp g.met.K.Ord.total identical

pub returns-clause-same : goal.returns-clause-same
returns-clause-same g c identical = keep_agree g.K.Ord.cmp g.met.K.Ord.total identical
