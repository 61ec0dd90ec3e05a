-- Operators on rows extend to Z-sets of rows, and the extensions are additive.
use Rattle.std.specs.Prelude.{ℤ, List, Option}
use Rattle.std.specs.List.{flat_map}
use Rattle.sq_value.specs.declared.value.Value.{Value}
use Rattle.sq_value.specs.Order.{row_cmp}
use Rattle.sq_value.specs.OrderLaws.{row_cmp-total, row_cmp-antisymmetric}
use Rattle.sq_algebra.specs.Groups.{IsAdditive, z_sets}
use Rattle.sq_algebra.specs.Operators.{image}
use Rattle.sq_algebra.specs.ZSet.{ZSet, entries}
use Rattle.sq_algebra.proofs.OperatorLemmas.{image-IsAdditive}
use Rattle.sq_expr.specs.Bigint.{first_not_bigint}

-- of the numbers that are tested of the rows of a Z-set, row by row, the first outside the range of BIGINT
abbrev pub first_value_outside : (List Value → List ℤ) → ZSet (List Value) row_cmp → Option ℤ
first_value_outside tested z = first_not_bigint (flat_map (λ e. tested e.0) (entries z))

pub images_are_additive : (images : List Value → List (List Value)) → IsAdditive (z_sets row_cmp) (z_sets row_cmp) (image row_cmp images)
images_are_additive images = image-IsAdditive row_cmp row_cmp-total row_cmp-antisymmetric row_cmp row_cmp-total row_cmp-antisymmetric images
