-- Accumulators are an abelian group, whose zero lies in the range.
use Rattle.std.proofs.Common.{◌≡◌, None, ap}
use Rattle.std.specs.Cmp.{nat_cmp_total}
use Rattle.std.specs.FinMap.{nat_cmp-IsAntisymmetric}
use Rattle.std.specs.Ordering.{nat_cmp}
use Rattle.sq_algebra.specs.Groups.{IsAbelian, z_sets}
use Rattle.sq_algebra.specs.ZSet.{entries-zero, zero}
use Rattle.sq_algebra.proofs.GroupLemmas.{z_sets-IsAbelian}
use Rattle.sq_agg.specs.Accumulators.{first_number_in, first_number_outside}

pub accumulators_are_abelian : IsAbelian (z_sets nat_cmp)
accumulators_are_abelian = z_sets-IsAbelian nat_cmp nat_cmp_total nat_cmp-IsAntisymmetric

pub nothing_is_in_range : first_number_outside (zero nat_cmp) ≡ None
nothing_is_in_range = ap first_number_in (entries-zero nat_cmp)
