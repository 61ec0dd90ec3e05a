-- Operators on rows, on lists of rows and on Z-sets of rows.
use Rattle.std.proofs.Common.{◌≡◌, ℕ, List, [], ◌∷◌, ◌++◌, map, Bool, true, false, cond, filter, replicate, refl, sym, ap, ◌∙◌}
use Rattle.std.specs.List.{flat_map}
use Rattle.std.proofs.lemmas.List.{append_cancel_right}
use Rattle.sq_value.specs.declared.value.Value.{Value}
use Rattle.sq_value.specs.declared.value.Value.TheVariants.{Null}
use Rattle.sq_value.specs.Order.{row_cmp}
use Rattle.sq_value.specs.OrderLaws.{row_cmp-total, row_cmp-antisymmetric}
use Rattle.sq_algebra.specs.Groups.{z_sets}
use Rattle.sq_algebra.specs.Operators.{image, keep}
use Rattle.sq_algebra.specs.ZSet.{ZSet, of_list, single, weight, zero}
use Rattle.sq_algebra.proofs.LinearLemmas.{lin_agree}
use Rattle.sq_algebra.proofs.OperatorLemmas.{image-of_list, image-of_list-map, image-zero, image_is, keep_is, of_list-nil, of_list-one, weight-injective}
use Rattle.sq_zset.specs.GroupLaws.{rows_are_abelian}
use Rattle.sq_ops.specs.Rows.{padded}

module _ (images : List Value → List (List Value)) where
  pub image_of_none : image row_cmp images (zero row_cmp) ≡ zero row_cmp
  image_of_none = image-zero row_cmp row_cmp-total row_cmp-antisymmetric row_cmp row_cmp-total row_cmp-antisymmetric images

  pub images_counted : (rows : List (List Value)) → of_list row_cmp (flat_map images rows) ≡ image row_cmp images (of_list row_cmp rows)
  images_counted rows = sym (image-of_list row_cmp row_cmp-total row_cmp-antisymmetric row_cmp row_cmp-total row_cmp-antisymmetric images rows)

pub one_image_counted : (g : List Value → List Value) (rows : List (List Value)) → of_list row_cmp (map g rows) ≡ image row_cmp (λ row. g row ∷ []) (of_list row_cmp rows)
one_image_counted g rows = sym (image-of_list-map row_cmp row_cmp-total row_cmp-antisymmetric row_cmp row_cmp-total row_cmp-antisymmetric g rows)

module _ (p : List Value → Bool) where
  passing_are_filtered : (rows : List (List Value)) → flat_map (λ row. cond (p row) (row ∷ []) []) rows ≡ filter p rows
  passing_are_filtered [] = refl
  passing_are_filtered (row ∷ rows) =
      elim (p row) as (λ b. cond b (row ∷ []) [] ++ flat_map (λ r. cond (p r) (r ∷ []) []) rows ≡ cond b (row ∷ filter p rows) (filter p rows)) [
        | true ↦ ap (λ rs. row ∷ rs) (passing_are_filtered rows)
        | false ↦ passing_are_filtered rows
      ]

  pub test_counted : (rows : List (List Value)) → of_list row_cmp (filter p rows) ≡ image row_cmp (λ row. cond (p row) (row ∷ []) []) (of_list row_cmp rows)
  test_counted rows = ap (of_list row_cmp) (sym (passing_are_filtered rows)) ∙ images_counted (λ row. cond (p row) (row ∷ []) []) rows

  one_passing : (row : List Value) → of_list row_cmp (cond (p row) (row ∷ []) []) ≡ cond (p row) (single row_cmp row) (zero row_cmp)
  one_passing row = elim (p row) as (λ b. of_list row_cmp (cond b (row ∷ []) []) ≡ cond b (single row_cmp row) (zero row_cmp)) [
    | true ↦ of_list-one row_cmp row
    | false ↦ of_list-nil row_cmp row_cmp-total row_cmp-antisymmetric
  ]

  pub test_is_keep : (z : ZSet (List Value) row_cmp) → image row_cmp (λ row. cond (p row) (row ∷ []) []) z ≡ keep p z
  test_is_keep z =
      image_is row_cmp row_cmp-total row_cmp-antisymmetric row_cmp row_cmp-total row_cmp-antisymmetric (λ row. cond (p row) (row ∷ []) []) z
      ∙ lin_agree row_cmp row_cmp-total row_cmp-antisymmetric (z_sets row_cmp) rows_are_abelian (λ row. of_list row_cmp (cond (p row) (row ∷ []) [])) (λ row. cond (p row) (single row_cmp row) (zero row_cmp)) one_passing z
      ∙ sym (keep_is row_cmp row_cmp-total row_cmp-antisymmetric p z)

-- each padded row is the image of one row
pub weight-padded : (n : ℕ) (row : List Value) (z : ZSet (List Value) row_cmp) → weight (padded n row) (image row_cmp (λ r. padded n r ∷ []) z) ≡ weight row z
weight-padded n row z =
    weight-injective row_cmp row_cmp-total row_cmp-antisymmetric row_cmp row_cmp-total row_cmp-antisymmetric (padded n) (λ r s e. append_cancel_right r s (replicate n Null) e) row z
