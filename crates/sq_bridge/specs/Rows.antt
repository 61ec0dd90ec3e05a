-- What the operators of sq_ops make of Z-sets of rows.
--     listed rows        the Z-set of a list of rows.      kept_on c z, projected es z, padded_by n z      the operators
use Rattle.std.specs.Prelude.{ℕ, List, [], ◌∷◌}
use Rattle.sq_value.specs.Order.{row_cmp}
use Rattle.sq_algebra.specs.Operators.{image}
use Rattle.sq_algebra.specs.ZSet.{ZSet, of_list}
use Rattle.sq_expr.specs.declared.cond.Cond.{Cond}
use Rattle.sq_expr.specs.declared.cond.Cond.TheVariants as cond
use Rattle.sq_expr.specs.declared.expr.Expr.{Expr}
use Rattle.sq_ops.specs.declared.bilinear.Pairing.{Pairing}
use Rattle.sq_expr.specs.declared.expr.Kind.{Kind}
use Rattle.sq_ops.specs.JoinLaws.{SuitsPairing}
use Rattle.sq_ops.specs.Rows.{Row, items_of, kept, padded}

abbrev pub Rows : Type 0
Rows = ZSet Row row_cmp

-- the Z-set of a list of rows
abbrev pub listed : List Row → Rows
listed rows = of_list row_cmp rows

-- what Keep, Project and Pad make of Z-sets
abbrev pub kept_on : Cond → Rows → Rows
kept_on c z = image row_cmp (kept c) z

abbrev pub projected : List Expr → Rows → Rows
projected es z = image row_cmp (λ row. items_of es row ∷ []) z

abbrev pub padded_by : ℕ → Rows → Rows
padded_by n z = image row_cmp (λ row. padded n row ∷ []) z

-- the rows on which all of some conditions are True
abbrev pub kept_on_all : List Cond → Rows → Rows
kept_on_all conds z = kept_on (cond.All conds) z

-- a Pairing takes rows of these kinds on the left, and of these on the right
abbrev pub PairingSuits : Pairing → List Kind → List Kind → Type 0
PairingSuits op left right = SuitsPairing op.left op.right op.items op.keep left right
