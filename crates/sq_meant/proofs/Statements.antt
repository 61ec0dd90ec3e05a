-- The statements that the text of the program spells.
use Rattle.std.specs.Prelude.{ℕ, true, false, List, [], ◌∷◌, codes, Some, None}
use Rattle.sq_ast.specs.Trees.{joined, block_of}
use Rattle.sq_ast.specs.declared.cond.CmpTree.TheVariants.{Eq}
use Rattle.sq_ast.specs.declared.cond.CondTree.{CondTree}
use Rattle.sq_ast.specs.declared.cond.CondTree.TheVariants as cond
use Rattle.sq_ast.specs.declared.expr.ColRef.{ColRef}
use Rattle.sq_ast.specs.declared.expr.ExprTree.{ExprTree}
use Rattle.sq_ast.specs.declared.expr.ExprTree.TheVariants as expr
use Rattle.sq_ast.specs.declared.expr.FuncTree.TheVariants.{Count, Sum, Min, Max}
use Rattle.sq_ast.specs.declared.query.ItemTree.{ItemTree}
use Rattle.sq_ast.specs.declared.query.ItemTree.TheVariants as item
use Rattle.sq_ast.specs.declared.query.JoinTree.{JoinTree}
use Rattle.sq_ast.specs.declared.query.JoinTree.TheVariants as join
use Rattle.sq_ast.specs.declared.query.JoinedTree.{JoinedTree}
use Rattle.sq_ast.specs.declared.query.QueryTree.{QueryTree}
use Rattle.sq_ast.specs.declared.query.SourceTree.TheVariants as from
use Rattle.sq_ast.specs.declared.statement.Body.TheVariants as body
use Rattle.sq_ast.specs.declared.statement.ColumnTree.{ColumnTree}
use Rattle.sq_ast.specs.declared.statement.Statement.{Statement}
use Rattle.sq_ast.specs.declared.statement.TypeName.TheVariants.{Integer}
use Rattle.sq_typed.specs.Scopes.{Text}

-- ---- how statements are written out

-- INTEGER NOT NULL
abbrev pub column : Text → ColumnTree
column name = record { name = name; kind = Integer; not_null = true }

abbrev pub table : ℕ → Text → List ColumnTree → Statement
table number name columns = record { number = number; body = body.Table name columns }

abbrev pub view : ℕ → Text → QueryTree → Statement
view number name q = record { number = number; body = body.View name None q }

abbrev pub plain : Text → ColRef
plain name = record { qualifier = None; name = name }

abbrev pub of : Text → Text → ColRef
of source name = record { qualifier = Some source; name = name }

abbrev pub shown : ColRef → ItemTree
shown c = item.Expr (expr.Column c) None

abbrev pub named : ExprTree → Text → ItemTree
named e name = item.Expr e (Some name)

abbrev pub relation : JoinTree → Text → JoinedTree
relation how name = joined how (from.Relation name None)

abbrev pub equal : ColRef → ColRef → CondTree
equal a b = cond.Compare Eq (expr.Column a) (expr.Column b)

-- ---- the statements

-- CREATE TABLE d (k INTEGER NOT NULL, g INTEGER NOT NULL)
abbrev pub table_d : Statement
table_d = table 1 (codes "d") (column (codes "k") ∷ column (codes "g") ∷ [])

-- CREATE TABLE e (id INTEGER NOT NULL, k INTEGER NOT NULL, n INTEGER NOT NULL)
abbrev pub table_e : Statement
table_e = table 2 (codes "e") (column (codes "id") ∷ column (codes "k") ∷ column (codes "n") ∷ [])

-- SELECT COUNT(*) AS c, SUM(n) AS s FROM e
abbrev pub totals : Statement
totals = view 3 (codes "totals") (block_of false
    (named (expr.Call Count None) (codes "c") ∷ named (expr.Call Sum (Some (expr.Column (plain (codes "n"))))) (codes "s") ∷ [])
    (relation join.Comma (codes "e") ∷ []) None [] None)

-- SELECT k, COUNT(*) AS c, MIN(n) AS lo, MAX(n) AS hi FROM e GROUP BY k
abbrev pub by_key : Statement
by_key = view 4 (codes "by_key") (block_of false
    (shown (plain (codes "k")) ∷ named (expr.Call Count None) (codes "c") ∷ named (expr.Call Min (Some (expr.Column (plain (codes "n"))))) (codes "lo") ∷
    named (expr.Call Max (Some (expr.Column (plain (codes "n"))))) (codes "hi") ∷ [])
    (relation join.Comma (codes "e") ∷ []) None (plain (codes "k") ∷ []) None)

-- SELECT d.g, SUM(e.n) AS s FROM e JOIN d ON e.k = d.k GROUP BY d.g
abbrev pub by_group : Statement
by_group = view 5 (codes "by_group") (block_of false
    (shown (of (codes "d") (codes "g")) ∷ named (expr.Call Sum (Some (expr.Column (of (codes "e") (codes "n"))))) (codes "s") ∷ [])
    (relation join.Comma (codes "e") ∷ relation (join.Inner (equal (of (codes "e") (codes "k")) (of (codes "d") (codes "k")))) (codes "d") ∷ [])
    None (of (codes "d") (codes "g") ∷ []) None)

-- SELECT d.k FROM d LEFT JOIN e ON d.k = e.k WHERE e.id IS NULL
abbrev pub unused : Statement
unused = view 6 (codes "unused") (block_of false
    (shown (of (codes "d") (codes "k")) ∷ [])
    (relation join.Comma (codes "d") ∷ relation (join.Left (equal (of (codes "d") (codes "k")) (of (codes "e") (codes "k")))) (codes "e") ∷ [])
    (Some (cond.Null (expr.Column (of (codes "e") (codes "id"))) false)) [] None)

-- SELECT DISTINCT n FROM e
abbrev pub seen : Statement
seen = view 7 (codes "seen") (block_of true (shown (plain (codes "n")) ∷ []) (relation join.Comma (codes "e") ∷ []) None [] None)

abbrev pub statements : List Statement
statements = table_d ∷ table_e ∷ totals ∷ by_key ∷ by_group ∷ unused ∷ seen ∷ []
