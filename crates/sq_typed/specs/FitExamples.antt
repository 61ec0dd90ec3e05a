-- Small queries that fit a table of an INTEGER and a text, or don't, and the kinds of their columns.
use Rattle.std.specs.Prelude.{◌≡◌, Bool, true, false, List, [], ◌∷◌, Some, None}
use Rattle.sq_ast.specs.declared.query.SetOp.TheVariants.{UnionAll}
use Rattle.sq_expr.specs.declared.cond.Cond.TheVariants as cond
use Rattle.sq_expr.specs.declared.cond.Cmp.TheVariants.{Lt}
use Rattle.sq_expr.specs.declared.expr.Expr.TheVariants as expr
use Rattle.sq_expr.specs.declared.expr.Func.TheVariants.{Sum, Max}
use Rattle.sq_expr.specs.declared.expr.Kind.{Kind}
use Rattle.sq_expr.specs.declared.expr.Kind.TheVariants.{Integer, Bigint, Text}
use Rattle.sq_typed.specs.declared.query.FromJoin.TheVariants.{Comma, Left}
use Rattle.sq_typed.specs.declared.query.Query.{Query}
use Rattle.sq_typed.specs.Examples.{source, block, select, grouped, call, count_all, chain, equal}
use Rattle.sq_typed.specs.Fit.{kinded}

abbrev pub HasKinds : Query → Bool → List Kind → Type 0
HasKinds q fits kinds = kinded ((Integer ∷ Text ∷ []) ∷ []) q ≡ record { kinds = kinds; fits = fits }

-- a, s FROM t
abbrev pub columns_fit : Type 0
columns_fit = HasKinds (select (source Comma 0 ∷ []) (expr.Column 0 ∷ expr.Column 1 ∷ [])) true (Integer ∷ Text ∷ [])

-- x.a, COUNT(*), MAX(y.s) FROM t x LEFT JOIN t y ON x.a = y.a GROUP BY x.a HAVING x.a < 3
abbrev pub a_group_fits : Type 0
a_group_fits =
    HasKinds
    (block false (source Comma 0 ∷ source (Left (equal 0 2)) 0 ∷ []) None
    (grouped (0 ∷ []) (count_all ∷ call Max 3 ∷ []) (Some (cond.Compare Lt (expr.Column 0) (expr.Number 3)))) (expr.Column 0 ∷ expr.Column 1 ∷ expr.Column 2 ∷ []))
    true (Integer ∷ Bigint ∷ Text ∷ [])

-- a FROM t UNION ALL 1 FROM t
abbrev pub a_union_is_wider : Type 0
a_union_is_wider = HasKinds (chain UnionAll (select (source Comma 0 ∷ []) (expr.Column 0 ∷ [])) (select (source Comma 0 ∷ []) (expr.Number 1 ∷ []))) true (Bigint ∷ [])

abbrev pub no_such_relation : Type 0
no_such_relation = HasKinds (select (source Comma 1 ∷ []) []) false []

abbrev pub no_such_column : Type 0
no_such_column = HasKinds (select (source Comma 0 ∷ []) (expr.Column 2 ∷ [])) false (Bigint ∷ [])

abbrev pub no_source : Type 0
no_source = HasKinds (select [] []) false []

-- a condition of ON that names a column of a later source
abbrev pub a_later_source : Type 0
a_later_source = HasKinds (select (source Comma 0 ∷ source (Left (equal 0 4)) 0 ∷ source Comma 0 ∷ []) (expr.Column 0 ∷ [])) false (Integer ∷ [])

abbrev pub a_sum_of_texts : Type 0
a_sum_of_texts = HasKinds (block false (source Comma 0 ∷ []) None (grouped [] (call Sum 1 ∷ []) None) (expr.Column 0 ∷ [])) false (Bigint ∷ [])

abbrev pub numbers_and_texts : Type 0
numbers_and_texts = HasKinds (chain UnionAll (select (source Comma 0 ∷ []) (expr.Column 0 ∷ [])) (select (source Comma 0 ∷ []) (expr.Column 1 ∷ []))) false (Integer ∷ [])

abbrev pub one_column_and_two : Type 0
one_column_and_two = HasKinds (chain UnionAll (select (source Comma 0 ∷ []) (expr.Column 0 ∷ [])) (select (source Comma 0 ∷ []) (expr.Column 0 ∷ expr.Column 1 ∷ []))) false (Integer ∷ [])
