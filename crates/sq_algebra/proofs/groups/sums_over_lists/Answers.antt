use Rattle.sq_algebra.proofs.GroupLemmas.{sum_over-append, sum_over-filter, sum_over-flat_map, sum_over-map, sum_over-swap}
use Rattle.sq_algebra.proofs.groups.sums_over_lists.Goals as goal

pub returns-clause-joined : goal.returns-clause-joined
returns-clause-joined g c G laws = sum_over-append G laws

pub returns-clause-filtered : goal.returns-clause-filtered
returns-clause-filtered g c G laws = sum_over-filter G laws

pub returns-clause-mapped : goal.returns-clause-mapped
returns-clause-mapped g c G = sum_over-map G

pub returns-clause-flat_mapped : goal.returns-clause-flat_mapped
returns-clause-flat_mapped g c G laws = sum_over-flat_map G laws

pub returns-clause-swapped : goal.returns-clause-swapped
returns-clause-swapped g c G laws = sum_over-swap G laws
