-- How large the value of an expression can become, whatever the row.
use Rattle.std.specs.Prelude.{ℕ, ◌*◌, ◌^◌, ◌<◌, max, List, [], ◌∷◌, ◌++◌, map, sum, fold, slice_get, unwrap_or}
use Rattle.std.specs.List.{flat_map, AllByRecursion}
use Rattle.std.specs.Option.{option_map}
use Rattle.sq_expr.specs.declared.cond.Cond.{Cond}
use Rattle.sq_expr.specs.declared.cond.Cond.TheFolds.{fold-Cond}
use Rattle.sq_expr.specs.declared.cond.Cond.TheOpen.{Cond-F}
use Rattle.sq_expr.specs.declared.expr.Expr.{Expr}
use Rattle.sq_expr.specs.declared.expr.Expr.TheFolds.{fold-Expr, para-Expr}
use Rattle.sq_expr.specs.declared.expr.Expr.TheOpen.{Expr-F}
use Rattle.sq_expr.specs.declared.expr.Expr.TheVariants as expr
use Rattle.sq_expr.specs.declared.expr.Term.{Term}
use Rattle.sq_expr.specs.declared.expr.Kind.{Kind}
use Rattle.sq_expr.specs.declared.expr.Kind.TheVariants.{Integer, Bigint, Text}

-- the greatest absolute value that a column of this kind can hold; a text counts as 0
abbrev pub kind_bound : Kind → ℕ
kind_bound Integer = 2 ^ 31
kind_bound Bigint = 2 ^ 63
kind_bound Text = 0

-- one level of an expression, with the bound of each part in its place
abbrev pub bound_step : List Kind → Expr-F ℕ ℕ → ℕ
bound_step kinds (Expr-F.Column n) = unwrap_or (option_map kind_bound (slice_get kinds n)) 0
bound_step kinds (Expr-F.Number n) = max n 1
bound_step kinds (Expr-F.Text t) = 0
bound_step kinds (Expr-F.Neg b) = b
bound_step kinds (Expr-F.Sum bs) = sum bs
bound_step kinds (Expr-F.Product bs) = fold (λ a b. a * b) 1 bs

-- the static bound: bounds of a sum add, those of a product multiply
unfoldable pub bound_of : List Kind → Expr → ℕ
bound_of kinds e = fold-Expr ℕ ℕ (bound_step kinds) (λ t. t.expr) e

-- one level of an expression, with each part and the parts of that in its place
abbrev pub parts_step : Expr-F (Expr × List Expr) (Term × List Expr) → List Expr
parts_step (Expr-F.Column n) = expr.Column n ∷ []
parts_step (Expr-F.Number n) = expr.Number n ∷ []
parts_step (Expr-F.Text t) = expr.Text t ∷ []
parts_step (Expr-F.Neg p) = expr.Neg p.0 ∷ p.1
parts_step (Expr-F.Sum ps) = expr.Sum (map (λ p. p.0) ps) ∷ flat_map (λ p. p.1) ps
parts_step (Expr-F.Product ps) = expr.Product (map (λ p. p.0) ps) ∷ flat_map (λ p. p.1) ps

-- the expression itself and all expressions in it
unfoldable pub parts : Expr → List Expr
parts e = para-Expr (List Expr) (List Expr) parts_step (λ t. t.expr.1) e

-- one level of a condition
abbrev pub cond_parts_step : Cond-F (List Expr) → List Expr
cond_parts_step (Cond-F.Compare cmp left right) = parts left ++ parts right
cond_parts_step (Cond-F.Null e negated) = parts e
cond_parts_step (Cond-F.Not ps) = ps
cond_parts_step (Cond-F.All pss) = flat_map (λ ps. ps) pss
cond_parts_step (Cond-F.Any pss) = flat_map (λ ps. ps) pss

-- all expressions in a condition
unfoldable pub cond_parts : Cond → List Expr
cond_parts c = fold-Cond (List Expr) cond_parts_step c

-- each expression in this one, itself included, has a bound of at most 2^127 - 1
abbrev pub IsBounded : List Kind → Expr → Type 0
IsBounded kinds e = AllByRecursion (λ part. bound_of kinds part < 2 ^ 127) (parts e)

abbrev pub IsBoundedCond : List Kind → Cond → Type 0
IsBoundedCond kinds c = AllByRecursion (λ part. bound_of kinds part < 2 ^ 127) (cond_parts c)
