use Rattle.sq_algebra.proofs.LinearLemmas.{additive_is_lin, lin_inside}
use Rattle.sq_algebra.proofs.linear.additive_maps_are_linear.Goals as goal

pub returns-clause-inside : goal.returns-clause-inside
returns-clause-inside g c identical G H f map = lin_inside g.K.Ord.cmp g.met.K.Ord.total identical G map.from H map.to f map.additive

pub returns-clause-single_keys : goal.returns-clause-single_keys
returns-clause-single_keys g c identical G laws = additive_is_lin g.K.Ord.cmp g.met.K.Ord.total identical G laws
