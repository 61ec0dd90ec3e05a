-- What small statements behind `CREATE TABLE t (a INTEGER, s VARCHAR)` mean.
use Rattle.std.specs.Prelude.{true, false, List, [], ◌∷◌, codes, Some}
use Rattle.sq_ast.specs.Trees.{joined, block_of}
use Rattle.sq_ast.specs.declared.cond.CmpTree.TheVariants.{Lt}
use Rattle.sq_ast.specs.declared.cond.CondTree.TheVariants as condition
use Rattle.sq_ast.specs.declared.expr.ExprTree.TheVariants as tree
use Rattle.sq_ast.specs.declared.expr.FuncTree.TheVariants as func_tree
use Rattle.sq_ast.specs.declared.query.ItemTree.TheVariants as item
use Rattle.sq_ast.specs.declared.query.JoinTree.TheVariants as join
use Rattle.sq_ast.specs.declared.query.QueryTree.{QueryTree}
use Rattle.sq_ast.specs.declared.query.SetOp.TheVariants.{Union}
use Rattle.sq_ast.specs.declared.query.SourceTree.TheVariants as from
use Rattle.sq_catalog.specs.declared.relation.Column.{Column}
use Rattle.sq_catalog.specs.declared.relation.Relation.{Relation}
use Rattle.sq_catalog.specs.declared.relation.RelationKind.TheVariants.{Table, View}
use Rattle.sq_expr.specs.declared.cond.Cmp.TheVariants as cmp
use Rattle.sq_expr.specs.declared.cond.Cond.TheVariants as cond
use Rattle.sq_expr.specs.declared.expr.Expr.TheVariants as expr
use Rattle.sq_expr.specs.declared.expr.Func.TheVariants.{Max}
use Rattle.sq_expr.specs.declared.expr.Kind.{Kind}
use Rattle.sq_expr.specs.declared.expr.Kind.TheVariants.{Integer, Bigint, Text}
use Rattle.sq_expr.specs.declared.expr.Term.{roll-Term}
use Rattle.sq_typed.specs.Examples as typed
use Rattle.sq_typed.specs.FaultExamples as e
use Rattle.sq_typed.specs.Programs.{Typed}
use Rattle.sq_typed.specs.Scopes as scopes
use Rattle.sq_typed.specs.declared.query.FromItem.{roll-FromItem}
use Rattle.sq_typed.specs.declared.query.FromJoin.TheVariants as joined_by
use Rattle.sq_typed.specs.declared.query.Origin.TheVariants as origin
use Rattle.sq_typed.specs.declared.query.Query.{Query}

-- a column that may be NULL
abbrev pub column : scopes.Text → Kind → Column
column name kind = record { name = name; kind = kind; nullable = true }

abbrev pub relation_t : Relation
relation_t = record { name = codes "t"; kind = Table; columns = column (codes "a") Integer ∷ column (codes "s") Text ∷ [] }

-- CREATE VIEW v AS a query: its columns, and the query that it means
abbrev pub Means : QueryTree → List Column → Query → Type 0
Means tree columns q = Typed (e.table_t ∷ e.view tree ∷ []) (record {
  catalog = relation_t ∷ record { name = codes "v"; kind = View true; columns = columns } ∷ [];
  queries = q ∷ [];
})

-- SELECT x.a, COUNT(*) AS c FROM t x LEFT JOIN t y ON x.a = y.a WHERE x.s IS NOT NULL GROUP BY x.a HAVING MAX(y.a) < 3:
-- the group row is x.a, COUNT(*) and MAX(y.a)
abbrev pub a_grouped_block : Type 0
a_grouped_block = Means
    (block_of false (e.plain (e.name_in (codes "x") (codes "a")) ∷ e.as_c e.count_all ∷ [])
    (e.t_as (codes "x") ∷ joined (join.Left (e.equal (e.name_in (codes "x") (codes "a")) (e.name_in (codes "y") (codes "a")))) (from.Relation (codes "t") (Some (codes "y"))) ∷ [])
    (Some (condition.Null (e.name_in (codes "x") (codes "s")) true))
    (record { qualifier = Some (codes "x"); name = codes "a" } ∷ [])
    (Some (condition.Compare Lt (e.call func_tree.Max (e.name_in (codes "y") (codes "a"))) (tree.Number 3))))
    (column (codes "a") Integer ∷ column (codes "c") Bigint ∷ [])
    (typed.block false (typed.source joined_by.Comma 0 ∷ typed.source (joined_by.Left (typed.equal 0 2)) 0 ∷ []) (Some (cond.Null (expr.Column 1) true))
    (typed.grouped (0 ∷ []) (typed.count_all ∷ typed.call Max 2 ∷ []) (Some (cond.Compare cmp.Lt (expr.Column 2) (expr.Number 3))))
    (expr.Column 0 ∷ expr.Column 1 ∷ []))

-- SELECT * FROM (SELECT a FROM t UNION SELECT a + 1 AS c FROM t) x: the column is BIGINT, since an operand's is
abbrev pub a_star_over_a_union : Type 0
a_star_over_a_union = Means
    (e.select (item.Star ∷ []) (joined join.Comma (from.Query (e.union (e.select (e.plain e.a ∷ []) (e.t ∷ [])) (e.select (e.as_c (e.plus e.a (tree.Number 1)) ∷ []) (e.t ∷ []))) (codes "x")) ∷ []))
    (column (codes "a") Bigint ∷ [])
    (typed.select
    (roll-FromItem (record {
      join = joined_by.Comma;
      source = origin.Query (typed.chain Union
          (typed.select (typed.source joined_by.Comma 0 ∷ []) (expr.Column 0 ∷ []))
          (typed.select (typed.source joined_by.Comma 0 ∷ [])
          (expr.Sum (roll-Term (record { minus = false; expr = expr.Column 0 }) ∷ roll-Term (record { minus = false; expr = expr.Number 1 }) ∷ []) ∷ [])));
    }) ∷ [])
    (expr.Column 0 ∷ []))
