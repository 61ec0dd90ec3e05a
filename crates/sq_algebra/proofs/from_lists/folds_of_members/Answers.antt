use Rattle.sq_algebra.proofs.GroupingLemmas.{fold-in_order}
use Rattle.sq_algebra.proofs.from_lists.folds_of_members.Goals as goal

pub returns : goal.returns
returns g c identical step swaps repeats = fold-in_order step swaps repeats g.K.Ord.cmp identical
