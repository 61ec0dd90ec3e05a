-- Which columns an expression or a condition names, and the members of a conjunction.
use Rattle.std.specs.Prelude.{ℕ, ◌+◌, max, List, [], ◌∷◌, ◌++◌, fold}
use Rattle.std.specs.List.{flat_map}
use Rattle.sq_expr.specs.declared.cond.Cond.{Cond, out-Cond}
use Rattle.sq_expr.specs.declared.cond.Cond.TheFolds.{fold-Cond}
use Rattle.sq_expr.specs.declared.cond.Cond.TheOpen.{Cond-F}
use Rattle.sq_expr.specs.declared.expr.Expr.{Expr}
use Rattle.sq_expr.specs.declared.expr.Expr.TheFolds.{fold-Expr}
use Rattle.sq_expr.specs.declared.expr.Expr.TheOpen.{Expr-F}

-- one level of an expression, with the columns of each part in its place
abbrev pub columns_step : Expr-F (List ℕ) (List ℕ) → List ℕ
columns_step (Expr-F.Column n) = n ∷ []
columns_step (Expr-F.Number n) = []
columns_step (Expr-F.Text t) = []
columns_step (Expr-F.Neg ns) = ns
columns_step (Expr-F.Sum nss) = flat_map (λ ns. ns) nss
columns_step (Expr-F.Product nss) = flat_map (λ ns. ns) nss

-- the numbers of the columns that an expression names, from left to right
unfoldable pub columns : Expr → List ℕ
columns e = fold-Expr (List ℕ) (List ℕ) columns_step (λ t. t.expr) e

-- one level of a condition
abbrev pub cond_columns_step : Cond-F (List ℕ) → List ℕ
cond_columns_step (Cond-F.Compare cmp left right) = columns left ++ columns right
cond_columns_step (Cond-F.Null e negated) = columns e
cond_columns_step (Cond-F.Not ns) = ns
cond_columns_step (Cond-F.All nss) = flat_map (λ ns. ns) nss
cond_columns_step (Cond-F.Any nss) = flat_map (λ ns. ns) nss

-- those that a condition names
unfoldable pub cond_columns : Cond → List ℕ
cond_columns c = fold-Cond (List ℕ) cond_columns_step c

-- the members of a conjunction: those of an `All`, else the one condition
abbrev pub members_step : Cond → Cond-F Cond → List Cond
members_step c (Cond-F.Compare cmp left right) = c ∷ []
members_step c (Cond-F.Null e negated) = c ∷ []
members_step c (Cond-F.Not a) = c ∷ []
members_step c (Cond-F.All cs) = cs
members_step c (Cond-F.Any cs) = c ∷ []

unfoldable pub members : Cond → List Cond
members c = members_step c (out-Cond c)

-- how many columns a row has that has all of these: one more than the greatest, and 0 for none
abbrev pub width_of : List ℕ → ℕ
width_of ns = fold (λ w n. max w (n + 1)) 0 ns
