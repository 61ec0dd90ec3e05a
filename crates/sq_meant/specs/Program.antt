-- The program: its relations, and the query of each view. The relation 0 is the table d, and the relation 1 is the table e.
use Rattle.std.specs.Prelude.{true, false, List, [], ◌∷◌, codes, Some, None}
use Rattle.sq_catalog.specs.declared.relation.Column.{Column}
use Rattle.sq_catalog.specs.declared.relation.Relation.{Relation}
use Rattle.sq_catalog.specs.declared.relation.RelationKind.TheVariants.{Table, View}
use Rattle.sq_expr.specs.declared.cond.Cond.TheVariants as cond
use Rattle.sq_expr.specs.declared.expr.Expr.TheVariants as expr
use Rattle.sq_expr.specs.declared.expr.Func.TheVariants.{Sum, Min, Max}
use Rattle.sq_expr.specs.declared.expr.Kind.{Kind}
use Rattle.sq_expr.specs.declared.expr.Kind.TheVariants.{Integer, Bigint}
use Rattle.sq_typed.specs.Examples.{source, block, grouped, call, count_all, equal}
use Rattle.sq_typed.specs.Scopes.{Text}
use Rattle.sq_typed.specs.Views.{Meant}
use Rattle.sq_typed.specs.declared.query.FromJoin.TheVariants.{Comma, Inner, Left}
use Rattle.sq_typed.specs.declared.query.Query.{Query}

-- ---- the relations

-- INTEGER NOT NULL
abbrev pub kept_column : Text → Column
kept_column name = record { name = name; kind = Integer; nullable = false }

-- a column of a view may be NULL
abbrev pub shown_column : Text → Kind → Column
shown_column name kind = record { name = name; kind = kind; nullable = true }

abbrev pub table : Text → List Column → Relation
table name columns = record { name = name; kind = Table; columns = columns }

abbrev pub view : Text → List Column → Relation
view name columns = record { name = name; kind = View true; columns = columns }

abbrev pub relations : List Relation
relations =
    table (codes "d") (kept_column (codes "k") ∷ kept_column (codes "g") ∷ [])
    ∷ table (codes "e") (kept_column (codes "id") ∷ kept_column (codes "k") ∷ kept_column (codes "n") ∷ [])
    ∷ view (codes "totals") (shown_column (codes "c") Bigint ∷ shown_column (codes "s") Bigint ∷ [])
    ∷ view (codes "by_key") (shown_column (codes "k") Integer ∷ shown_column (codes "c") Bigint ∷ shown_column (codes "lo") Integer ∷ shown_column (codes "hi") Integer ∷ [])
    ∷ view (codes "by_group") (shown_column (codes "g") Integer ∷ shown_column (codes "s") Bigint ∷ [])
    ∷ view (codes "unused") (shown_column (codes "k") Integer ∷ [])
    ∷ view (codes "seen") (shown_column (codes "n") Integer ∷ [])
    ∷ []

-- ---- the queries

-- SELECT COUNT(*) AS c, SUM(n) AS s FROM e
abbrev pub totals : Query
totals = block false (source Comma 1 ∷ []) None (grouped [] (count_all ∷ call Sum 2 ∷ []) None) (expr.Column 0 ∷ expr.Column 1 ∷ [])

-- SELECT k, COUNT(*) AS c, MIN(n) AS lo, MAX(n) AS hi FROM e GROUP BY k
abbrev pub by_key : Query
by_key = block false (source Comma 1 ∷ []) None (grouped (1 ∷ []) (count_all ∷ call Min 2 ∷ call Max 2 ∷ []) None)
    (expr.Column 0 ∷ expr.Column 1 ∷ expr.Column 2 ∷ expr.Column 3 ∷ [])

-- SELECT d.g, SUM(e.n) AS s FROM e JOIN d ON e.k = d.k GROUP BY d.g
abbrev pub by_group : Query
by_group = block false (source Comma 1 ∷ source (Inner (equal 1 3)) 0 ∷ []) None (grouped (4 ∷ []) (call Sum 2 ∷ []) None) (expr.Column 0 ∷ expr.Column 1 ∷ [])

-- SELECT d.k FROM d LEFT JOIN e ON d.k = e.k WHERE e.id IS NULL
abbrev pub unused : Query
unused = block false (source Comma 0 ∷ source (Left (equal 0 3)) 1 ∷ []) (Some (cond.Null (expr.Column 2) false)) None (expr.Column 0 ∷ [])

-- SELECT DISTINCT n FROM e
abbrev pub seen : Query
seen = block true (source Comma 1 ∷ []) None None (expr.Column 2 ∷ [])

abbrev pub program : Meant
program = record { catalog = relations; queries = totals ∷ by_key ∷ by_group ∷ unused ∷ seen ∷ [] }
