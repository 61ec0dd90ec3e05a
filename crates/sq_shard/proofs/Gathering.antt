-- The rows of several Z-sets together are their sum.
use Rattle.std.proofs.Common.{◌≡◌, ℤ, List, [], ◌∷◌, refl, sym, ap₂, ◌∙◌}
use Rattle.std.specs.List.{flat_map}
use Rattle.sq_value.specs.Order.{row_cmp}
use Rattle.sq_value.specs.OrderLaws.{row_cmp-total, row_cmp-antisymmetric}
use Rattle.sq_value.specs.declared.value.Value.{Value}
use Rattle.sq_algebra.specs.Groups.{sum_over, z_sets}
use Rattle.sq_algebra.specs.ZSet.{ZSet, entries, from_pairs}
use Rattle.sq_algebra.proofs.EntryLemmas.{from_pairs-entries}
use Rattle.sq_algebra.proofs.OperatorLemmas.{from_pairs-flat_map}
use Rattle.sq_algebra.proofs.GroupLemmas.{z_sets-IsAbelian}

pub all_together : (parts : List (ZSet (List Value) row_cmp)) → from_pairs row_cmp (flat_map entries parts) ≡ sum_over (z_sets row_cmp) (λ y. y) parts
all_together parts =
    from_pairs-flat_map row_cmp row_cmp-total row_cmp-antisymmetric entries parts
    ∙ each parts
  where
    each : (ps : List (ZSet (List Value) row_cmp)) → sum_over (z_sets row_cmp) (λ z. from_pairs row_cmp (entries z)) ps ≡ sum_over (z_sets row_cmp) (λ y. y) ps
    each [] = refl
    each (z ∷ ps) = ap₂ (z_sets row_cmp).plus (from_pairs-entries row_cmp row_cmp-total z) (each ps)

pub alone : (z : ZSet (List Value) row_cmp) → z ≡ sum_over (z_sets row_cmp) (λ y. y) (z ∷ [])
alone z = let abelian = z_sets-IsAbelian row_cmp row_cmp-total row_cmp-antisymmetric in sym (abelian.commutative z (z_sets row_cmp).zero ∙ abelian.neutral z)
