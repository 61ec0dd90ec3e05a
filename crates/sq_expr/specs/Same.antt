-- Whether two expressions are the same.
use Rattle.std.specs.Prelude.{◌==◌, Bool, true, false, not, ◌&&◌, if◌then◌else◌, List, [], ◌∷◌, bytes_eq}
use Rattle.sq_expr.specs.declared.expr.Expr.{Expr, out-Expr}
use Rattle.sq_expr.specs.declared.expr.Expr.TheFolds.{fold-Expr}
use Rattle.sq_expr.specs.declared.expr.Expr.TheOpen.{Expr-F, Term-F}
use Rattle.sq_expr.specs.declared.expr.Term.{Term}

-- whether each member of a list passes the test at its place, and there are as many
abbrev pub pass_each : {A : Type 0} → List (A → Bool) → List A → Bool
pass_each [] [] = true
pass_each (test ∷ tests) (x ∷ xs) = test x && pass_each tests xs
pass_each tests xs = false

-- one level of an expression, with the test for being the same in the place of each part, against one level of another
abbrev pub same_level : Expr-F (Expr → Bool) (Term → Bool) → Expr-F Expr Term → Bool
same_level (Expr-F.Column n) (Expr-F.Column m) = n == m
same_level (Expr-F.Number n) (Expr-F.Number m) = n == m
same_level (Expr-F.Text s) (Expr-F.Text t) = bytes_eq s t
same_level (Expr-F.Neg same) (Expr-F.Neg e) = same e
same_level (Expr-F.Sum same) (Expr-F.Sum ts) = pass_each same ts
same_level (Expr-F.Product same) (Expr-F.Product es) = pass_each same es
same_level x y = false

abbrev pub same_step : Expr-F (Expr → Bool) (Term → Bool) → Expr → Bool
same_step x e = same_level x (out-Expr e)

abbrev pub same_term : Term-F (Expr → Bool) (Term → Bool) → Term → Bool
same_term t u = (if t.minus then u.minus else not u.minus) && t.expr u.expr

unfoldable pub is_same_expr : Expr → Expr → Bool
is_same_expr e other = fold-Expr (Expr → Bool) (Term → Bool) same_step same_term e other
