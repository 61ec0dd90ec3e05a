use Rattle.sq_algebra.proofs.EntryLemmas.{sum_is_from_pairs}
use Rattle.sq_algebra.proofs.members.sums_collect_entries.Goals as goal

pub returns : goal.returns
returns g c identical = sum_is_from_pairs g.K.Ord.cmp g.met.K.Ord.total identical
