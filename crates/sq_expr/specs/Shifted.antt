-- Expressions and conditions with the number of each column raised.
use Rattle.std.specs.Prelude.{ℕ, ◌+◌, ◌<◌, ◌^◌, List}
use Rattle.std.specs.List.{AllByRecursion}
use Rattle.sq_expr.specs.declared.cond.Cond.{Cond}
use Rattle.sq_expr.specs.declared.cond.Cond.TheFolds.{fold-Cond}
use Rattle.sq_expr.specs.declared.cond.Cond.TheOpen.{Cond-F}
use Rattle.sq_expr.specs.declared.cond.Cond.TheVariants as cond
use Rattle.sq_expr.specs.declared.expr.Expr.{Expr}
use Rattle.sq_expr.specs.declared.expr.Expr.TheFolds.{fold-Expr, fold-Term}
use Rattle.sq_expr.specs.declared.expr.Expr.TheOpen.{Expr-F}
use Rattle.sq_expr.specs.declared.expr.Expr.TheVariants as expr
use Rattle.sq_expr.specs.declared.expr.Term.{Term, roll-Term}

-- one level of an expression, with each part shifted
abbrev pub shift_step : ℕ → Expr-F Expr Term → Expr
shift_step by (Expr-F.Column n) = expr.Column (by + n)
shift_step by (Expr-F.Number n) = expr.Number n
shift_step by (Expr-F.Text t) = expr.Text t
shift_step by (Expr-F.Neg e) = expr.Neg e
shift_step by (Expr-F.Sum ts) = expr.Sum ts
shift_step by (Expr-F.Product es) = expr.Product es

-- the expression that names of a row behind another what this one names of the row alone
unfoldable pub shifted : ℕ → Expr → Expr
shifted by e = fold-Expr Expr Term (shift_step by) roll-Term e

unfoldable pub shifted_term : ℕ → Term → Term
shifted_term by t = fold-Term Expr Term (shift_step by) roll-Term t

-- one level of a condition
abbrev pub shift_cond_step : ℕ → Cond-F Cond → Cond
shift_cond_step by (Cond-F.Compare cmp left right) = cond.Compare cmp (shifted by left) (shifted by right)
shift_cond_step by (Cond-F.Null e negated) = cond.Null (shifted by e) negated
shift_cond_step by (Cond-F.Not c) = cond.Not c
shift_cond_step by (Cond-F.All cs) = cond.All cs
shift_cond_step by (Cond-F.Any cs) = cond.Any cs

unfoldable pub shifted_cond : ℕ → Cond → Cond
shifted_cond by c = fold-Cond Cond (shift_cond_step by) c

-- the shifted numbers of columns have 32 bits
abbrev pub HasRoom : ℕ → List ℕ → Type 0
HasRoom by ns = AllByRecursion (λ n. by + n < 2 ^ 32) ns
