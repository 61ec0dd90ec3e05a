-- The whole numbers and the Z-sets of rows are abelian groups, whose zeros lie in the range.
use Rattle.std.proofs.Common.{◌≡◌, pos, None, refl, ap}
use Rattle.sq_algebra.specs.Groups.{IsAbelian, integers, z_sets}
use Rattle.sq_algebra.specs.ZSet.{entries-zero, zero}
use Rattle.sq_algebra.proofs.GroupLemmas.{integers-IsAbelian, z_sets-IsAbelian}
use Rattle.sq_value.specs.Order.{row_cmp}
use Rattle.sq_value.specs.OrderLaws.{row_cmp-total, row_cmp-antisymmetric}
use Rattle.sq_zset.specs.Range.{IsInRange, first_outside_in, number_outside}

pub integers_are_abelian : IsAbelian integers
integers_are_abelian = integers-IsAbelian

pub rows_are_abelian : IsAbelian (z_sets row_cmp)
rows_are_abelian = z_sets-IsAbelian row_cmp row_cmp-total row_cmp-antisymmetric

pub zero_is_in_range : number_outside (pos 0) ≡ None
zero_is_in_range = refl

pub no_rows_are_in_range : IsInRange (zero row_cmp)
no_rows_are_in_range = ap first_outside_in (entries-zero row_cmp)
