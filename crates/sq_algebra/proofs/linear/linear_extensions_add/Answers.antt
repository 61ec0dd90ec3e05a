use Rattle.sq_algebra.proofs.LinearLemmas.{lin-IsAdditive, lin-minus, lin-negate, lin-of_list, lin-plus, lin-single, lin-zero}
use Rattle.sq_algebra.proofs.linear.linear_extensions_add.Goals as goal

pub returns-clause-none : goal.returns-clause-none
returns-clause-none g c identical G laws = lin-zero g.K.Ord.cmp g.met.K.Ord.total identical G laws

pub returns-clause-one : goal.returns-clause-one
returns-clause-one g c identical G laws = lin-single g.K.Ord.cmp g.met.K.Ord.total identical G laws

pub returns-clause-sum : goal.returns-clause-sum
returns-clause-sum g c identical G laws = lin-plus g.K.Ord.cmp g.met.K.Ord.total identical G laws

pub returns-clause-negation : goal.returns-clause-negation
returns-clause-negation g c identical G laws = lin-negate g.K.Ord.cmp g.met.K.Ord.total identical G laws

pub returns-clause-difference : goal.returns-clause-difference
returns-clause-difference g c identical G laws = lin-minus g.K.Ord.cmp g.met.K.Ord.total identical G laws

pub returns-clause-additive : goal.returns-clause-additive
returns-clause-additive g c identical G laws = lin-IsAdditive g.K.Ord.cmp g.met.K.Ord.total identical G laws

pub returns-clause-list : goal.returns-clause-list
returns-clause-list g c identical G laws = lin-of_list g.K.Ord.cmp g.met.K.Ord.total identical G laws
