use Rattle.sq_algebra.proofs.KeyedLemmas.{additive_parts, parts_add_up}
use Rattle.sq_algebra.proofs.keyed.parts_add_up.Goals as goal

pub returns-clause-whole : goal.returns-clause-whole
returns-clause-whole g c orders key = parts_add_up g.C.Ord.cmp g.met.C.Ord.total orders.first g.K.Ord.cmp g.met.K.Ord.total orders.second key

pub returns-clause-additive : goal.returns-clause-additive
returns-clause-additive g c orders key G laws = additive_parts g.C.Ord.cmp g.met.C.Ord.total orders.first g.K.Ord.cmp g.met.K.Ord.total orders.second key G laws
