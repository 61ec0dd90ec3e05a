-- Operators that change nothing.
use Rattle.std.proofs.Common.{◌≡◌, ℕ, List, [], ◌∷◌, map, true, refl, ap, ap₂, ◌∙◌}
use Rattle.sq_algebra.specs.Keyed.{numbers_below}
use Rattle.sq_expr.specs.declared.cond.Cond.TheVariants as condition
use Rattle.sq_ops.specs.Rows.{Row, holds, items_of}
use Rattle.sq_ops.proofs.Extending.{test_is_keep}
use Rattle.sq_ops.proofs.RowColumns.{all_columns, plain_items}
use Rattle.sq_zset.proofs.RowOperators.{image-of_list-map, keep_agree, keep_all}
use Rattle.sq_typed.specs.Laws.{AreOfWidth}
use Rattle.sq_bridge.specs.Joins.{first_columns}
use Rattle.sq_bridge.specs.Rows.{Rows, kept_on_all, listed, projected}
use Rattle.sq_bridge.proofs.Joining.{all_is}

pub kept_on_none : (z : Rows) → kept_on_all [] z ≡ z
kept_on_none z = test_is_keep (holds (condition.All [])) z ∙ keep_agree (holds (condition.All [])) (λ _. true) (all_is []) z ∙ keep_all z

pub projected_all : (w : ℕ) (rows : List Row) → AreOfWidth w rows → projected (first_columns w) (listed rows) ≡ listed rows
projected_all w rows h = image-of_list-map (items_of (first_columns w)) rows ∙ ap listed (each rows h)
  where
    each : (rows : List Row) → AreOfWidth w rows → map (items_of (first_columns w)) rows ≡ rows
    each [] h = refl
    each (row ∷ rows) h = ap₂ (λ r rs. r ∷ rs) (plain_items (numbers_below w) row ∙ all_columns w row h.0) (each rows h.1)
