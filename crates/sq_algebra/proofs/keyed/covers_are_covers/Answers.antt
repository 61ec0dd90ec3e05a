use Rattle.sq_algebra.proofs.KeyedLemmas.{covered, covers-keep, covers-keys_of, covers_from, no_key_from, no_part_from, part_or_covered}
use Rattle.sq_algebra.proofs.keyed.covers_are_covers.Goals as goal

pub returns-clause-own_keys : goal.returns-clause-own_keys
returns-clause-own_keys g c orders key = covers-keys_of g.C.Ord.cmp g.met.C.Ord.total orders.first g.K.Ord.cmp g.met.K.Ord.total orders.second key

pub returns-clause-by_weight : goal.returns-clause-by_weight
returns-clause-by_weight g c orders key = covered g.C.Ord.cmp g.met.C.Ord.total orders.first g.K.Ord.cmp g.met.K.Ord.total orders.second key

pub returns-clause-from_weights : goal.returns-clause-from_weights
returns-clause-from_weights g c orders key = covers_from g.C.Ord.cmp g.met.C.Ord.total orders.first g.K.Ord.cmp g.met.K.Ord.total orders.second key

pub returns-clause-test : goal.returns-clause-test
returns-clause-test g c orders key = covers-keep g.C.Ord.cmp g.met.C.Ord.total orders.first g.K.Ord.cmp g.met.K.Ord.total orders.second key

pub returns-clause-no_key : goal.returns-clause-no_key
returns-clause-no_key g c orders key = no_key_from g.C.Ord.cmp g.met.C.Ord.total orders.first g.K.Ord.cmp g.met.K.Ord.total orders.second key

pub returns-clause-no_part : goal.returns-clause-no_part
returns-clause-no_part g c orders key = no_part_from g.C.Ord.cmp g.met.C.Ord.total orders.first g.K.Ord.cmp g.met.K.Ord.total orders.second key

pub returns-clause-part_or_cover : goal.returns-clause-part_or_cover
returns-clause-part_or_cover g c orders key = part_or_covered g.C.Ord.cmp g.met.C.Ord.total orders.first g.K.Ord.cmp g.met.K.Ord.total orders.second key
