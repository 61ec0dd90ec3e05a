-- Small statements behind `CREATE TABLE t (a INTEGER, s VARCHAR)`, and whether they are refused.
use Rattle.std.specs.Prelude.{◌≡◌, ℕ, zero, suc, false, List, [], ◌∷◌, replicate, codes, Some, None}
use Rattle.sq_ast.specs.Trees.{term, step, joined, block_of}
use Rattle.sq_ast.specs.declared.cond.CmpTree.TheVariants.{Eq}
use Rattle.sq_ast.specs.declared.cond.CondTree.{CondTree}
use Rattle.sq_ast.specs.declared.cond.CondTree.TheVariants as condition
use Rattle.sq_ast.specs.declared.expr.ExprTree.{ExprTree}
use Rattle.sq_ast.specs.declared.expr.ExprTree.TheVariants as tree
use Rattle.sq_ast.specs.declared.expr.FuncTree.{FuncTree}
use Rattle.sq_ast.specs.declared.expr.FuncTree.TheVariants.{Count, Sum}
use Rattle.sq_ast.specs.declared.query.ItemTree.{ItemTree}
use Rattle.sq_ast.specs.declared.query.ItemTree.TheVariants as item
use Rattle.sq_ast.specs.declared.query.JoinTree.TheVariants as join
use Rattle.sq_ast.specs.declared.query.JoinedTree.{JoinedTree}
use Rattle.sq_ast.specs.declared.query.QueryTree.{QueryTree}
use Rattle.sq_ast.specs.declared.query.QueryTree.TheVariants as query
use Rattle.sq_ast.specs.declared.query.SetOp.TheVariants.{Union}
use Rattle.sq_ast.specs.declared.query.SourceTree.TheVariants as from
use Rattle.sq_ast.specs.declared.statement.Body.TheVariants as body
use Rattle.sq_ast.specs.declared.statement.ColumnTree.{ColumnTree}
use Rattle.sq_ast.specs.declared.statement.Statement.{Statement}
use Rattle.sq_ast.specs.declared.statement.TypeName.{TypeName}
use Rattle.sq_ast.specs.declared.statement.TypeName.TheVariants as type
use Rattle.sq_typed.specs.Faults.{refused}
use Rattle.sq_typed.specs.Scopes.{Text}
use Rattle.sq_typed.specs.declared.check_kind.CheckKind.{CheckKind}
use Rattle.sq_typed.specs.declared.check_kind.CheckKind.TheVariants.{DuplicateName, UnknownRelation, UnnamedColumn, DuplicateColumn, UnknownColumn, AmbiguousColumn}
use Rattle.sq_typed.specs.declared.check_kind.CheckKind.TheVariants.{NestedAggregate, NotGrouped, ColumnCount, TypeMismatch, TooWide, Limit}

-- ---- how statements are written out

abbrev pub column_of : Text → TypeName → ColumnTree
column_of name kind = record { name = name; kind = kind; not_null = false }

-- CREATE TABLE t (a INTEGER, s VARCHAR)
abbrev pub table_t : Statement
table_t = record { number = 1; body = body.Table (codes "t") (column_of (codes "a") type.Integer ∷ column_of (codes "s") type.Varchar ∷ []) }

abbrev pub table : Text → List ColumnTree → Statement
table name columns = record { number = 2; body = body.Table name columns }

-- CREATE VIEW v AS a query
abbrev pub view : QueryTree → Statement
view q = record { number = 2; body = body.View (codes "v") None q }

abbrev pub name : Text → ExprTree
name n = tree.Column (record { qualifier = None; name = n })

abbrev pub name_in : Text → Text → ExprTree
name_in qualifier n = tree.Column (record { qualifier = Some qualifier; name = n })

abbrev pub a : ExprTree
a = name (codes "a")

abbrev pub b : ExprTree
b = name (codes "b")

abbrev pub s : ExprTree
s = name (codes "s")

abbrev pub call : FuncTree → ExprTree → ExprTree
call func e = tree.Call func (Some e)

abbrev pub count_all : ExprTree
count_all = tree.Call Count None

abbrev pub plus : ExprTree → ExprTree → ExprTree
plus e other = tree.Sum (term false e ∷ term false other ∷ [])

abbrev pub plain : ExprTree → ItemTree
plain e = item.Expr e None

-- an item that is named c
abbrev pub as_c : ExprTree → ItemTree
as_c e = item.Expr e (Some (codes "c"))

abbrev pub source : Text → JoinedTree
source relation = joined join.Comma (from.Relation relation None)

-- the table t under another name
abbrev pub t_as : Text → JoinedTree
t_as alias = joined join.Comma (from.Relation (codes "t") (Some alias))

abbrev pub t : JoinedTree
t = source (codes "t")

-- t x, t y
abbrev pub x_and_y : List JoinedTree
x_and_y = t_as (codes "x") ∷ t_as (codes "y") ∷ []

abbrev pub select : List ItemTree → List JoinedTree → QueryTree
select items sources = block_of false items sources None [] None

abbrev pub select_where : List ItemTree → CondTree → QueryTree
select_where items cond = block_of false items (t ∷ []) (Some cond) [] None

abbrev pub union : QueryTree → QueryTree → QueryTree
union q other = query.Chain q (step Union other ∷ [])

abbrev pub equal : ExprTree → ExprTree → CondTree
equal e other = condition.Compare Eq e other

-- the statement behind that of t is refused for this kind, or is not
abbrev pub IsRefused : Statement → CheckKind → Type 0
IsRefused statement kind = refused (table_t ∷ statement ∷ []) ≡ Some (2, kind)

abbrev pub IsAccepted : Statement → Type 0
IsAccepted statement = refused (table_t ∷ statement ∷ []) ≡ None

-- ---- names

-- CREATE TABLE t (b INT)
abbrev pub the_same_relation : Type 0
the_same_relation = IsRefused (table (codes "t") (column_of (codes "b") type.Int ∷ [])) DuplicateName

-- SELECT x.a FROM t x, t x
abbrev pub the_same_source : Type 0
the_same_source = IsRefused (view (select (plain (name_in (codes "x") (codes "a")) ∷ []) (t_as (codes "x") ∷ t_as (codes "x") ∷ []))) DuplicateName

-- SELECT a FROM q
abbrev pub no_such_relation : Type 0
no_such_relation = IsRefused (view (select (plain a ∷ []) (source (codes "q") ∷ []))) UnknownRelation

-- SELECT a + 1 FROM t
abbrev pub no_name : Type 0
no_name = IsRefused (view (select (plain (plus a (tree.Number 1)) ∷ []) (t ∷ []))) UnnamedColumn

-- SELECT a, a FROM t
abbrev pub the_same_column : Type 0
the_same_column = IsRefused (view (select (plain a ∷ plain a ∷ []) (t ∷ []))) DuplicateColumn

-- CREATE TABLE u (a INTEGER, a BIGINT)
abbrev pub the_same_column_of_a_table : Type 0
the_same_column_of_a_table = IsRefused (table (codes "u") (column_of (codes "a") type.Integer ∷ column_of (codes "a") type.Bigint ∷ [])) DuplicateColumn

-- SELECT x.a FROM (SELECT *, a FROM t) x
abbrev pub the_same_column_behind_a_star : Type 0
the_same_column_behind_a_star =
    IsRefused (view (select (plain (name_in (codes "x") (codes "a")) ∷ []) (joined join.Comma (from.Query (select (item.Star ∷ plain a ∷ []) (t ∷ [])) (codes "x")) ∷ []))) DuplicateColumn

-- SELECT b FROM t
abbrev pub no_such_column : Type 0
no_such_column = IsRefused (view (select (plain b ∷ []) (t ∷ []))) UnknownColumn

-- SELECT q.* FROM t
abbrev pub no_such_source : Type 0
no_such_source = IsRefused (view (select (item.StarOf (codes "q") ∷ []) (t ∷ []))) UnknownColumn

-- SELECT x.a FROM t x JOIN t y ON x.a = z.a, t z: z is not in scope yet
abbrev pub a_later_source : Type 0
a_later_source = IsRefused (view (select (plain (name_in (codes "x") (codes "a")) ∷ [])
    (t_as (codes "x") ∷ joined (join.Inner (equal (name_in (codes "x") (codes "a")) (name_in (codes "z") (codes "a")))) (from.Relation (codes "t") (Some (codes "y"))) ∷ t_as (codes "z") ∷ []))) UnknownColumn

-- SELECT a FROM t x, t y
abbrev pub in_two_sources : Type 0
in_two_sources = IsRefused (view (select (plain a ∷ []) x_and_y)) AmbiguousColumn

-- ---- groups

-- SELECT SUM(SUM(a)) AS c FROM t
abbrev pub a_call_in_a_call : Type 0
a_call_in_a_call = IsRefused (view (select (as_c (call Sum (call Sum a)) ∷ []) (t ∷ []))) NestedAggregate

-- SELECT a FROM t WHERE SUM(a) = 1
abbrev pub a_call_in_where : Type 0
a_call_in_where = IsRefused (view (select_where (plain a ∷ []) (equal (call Sum a) (tree.Number 1)))) NestedAggregate

-- SELECT s, COUNT(*) AS c FROM t
abbrev pub outside_groups : Type 0
outside_groups = IsRefused (view (select (plain s ∷ as_c count_all ∷ []) (t ∷ []))) NotGrouped

-- SELECT *, COUNT(*) AS c FROM t GROUP BY a
abbrev pub a_star_outside_groups : Type 0
a_star_outside_groups = IsRefused (view (block_of false (item.Star ∷ as_c count_all ∷ []) (t ∷ []) None (record { qualifier = None; name = codes "a" } ∷ []) None)) NotGrouped

-- ---- set operations, types, bounds

-- SELECT a FROM t UNION SELECT a, s FROM t
abbrev pub one_column_and_two : Type 0
one_column_and_two = IsRefused (view (union (select (plain a ∷ []) (t ∷ [])) (select (plain a ∷ plain s ∷ []) (t ∷ [])))) ColumnCount

-- SELECT a FROM t WHERE a = s
abbrev pub a_number_compared_with_a_text : Type 0
a_number_compared_with_a_text = IsRefused (view (select_where (plain a ∷ []) (equal a s))) TypeMismatch

-- SELECT a FROM t UNION SELECT s FROM t
abbrev pub numbers_and_texts : Type 0
numbers_and_texts = IsRefused (view (union (select (plain a ∷ []) (t ∷ [])) (select (plain s ∷ []) (t ∷ [])))) TypeMismatch

-- SELECT s + 1 AS c FROM t
abbrev pub a_sum_with_a_text : Type 0
a_sum_with_a_text = IsRefused (view (select (as_c (plus s (tree.Number 1)) ∷ []) (t ∷ []))) TypeMismatch

-- SELECT SUM(s) AS c FROM t
abbrev pub a_sum_of_texts : Type 0
a_sum_of_texts = IsRefused (view (select (as_c (call Sum s) ∷ []) (t ∷ []))) TypeMismatch

-- 9223372036854775808 * 9223372036854775808 * n
abbrev pub wide : ℕ → ExprTree
wide n = tree.Product (tree.Number 9223372036854775808 ∷ tree.Number 9223372036854775808 ∷ tree.Number n ∷ [])

-- SELECT 9223372036854775808 * 9223372036854775808 * 2 AS c FROM t
abbrev pub too_wide : Type 0
too_wide = IsRefused (view (select (as_c (wide 2) ∷ []) (t ∷ []))) TooWide

-- the same with * 1
abbrev pub as_wide_as_it_goes : Type 0
as_wide_as_it_goes = IsAccepted (view (select (as_c (wide 1) ∷ []) (t ∷ [])))

-- ---- limits

-- t x, t xx and so on: so many sources, the first with a name of so many letters x
abbrev pub sources : ℕ → ℕ → List JoinedTree
sources letters zero = []
sources letters (suc n) = t_as (replicate letters 120) ∷ sources (suc letters) n

-- SELECT x.a FROM t x, t xx and so on, with 17 sources
abbrev pub too_many_sources : Type 0
too_many_sources = IsRefused (view (select (plain (name_in (codes "x") (codes "a")) ∷ []) (sources 1 17))) Limit

-- and with 16
abbrev pub as_many_sources_as_there_may_be : Type 0
as_many_sources_as_there_may_be = IsAccepted (view (select (plain (name_in (codes "x") (codes "a")) ∷ []) (sources 1 16)))

-- ---- statements that have two kinds are refused for the first

-- CREATE VIEW t AS SELECT a FROM q
abbrev pub name_before_relation : Type 0
name_before_relation = IsRefused (record { number = 2; body = body.View (codes "t") None (select (plain a ∷ []) (source (codes "q") ∷ [])) }) DuplicateName

-- SELECT a + 1 FROM q
abbrev pub relation_before_unnamed : Type 0
relation_before_unnamed = IsRefused (view (select (plain (plus a (tree.Number 1)) ∷ []) (source (codes "q") ∷ []))) UnknownRelation

-- SELECT a, a, a + 1 FROM t
abbrev pub unnamed_before_duplicate : Type 0
unnamed_before_duplicate = IsRefused (view (select (plain a ∷ plain a ∷ plain (plus a (tree.Number 1)) ∷ []) (t ∷ []))) UnnamedColumn

-- SELECT b, b FROM t
abbrev pub duplicate_before_unknown : Type 0
duplicate_before_unknown = IsRefused (view (select (plain b ∷ plain b ∷ []) (t ∷ []))) DuplicateColumn

-- SELECT a, b FROM t x, t y
abbrev pub unknown_before_ambiguous : Type 0
unknown_before_ambiguous = IsRefused (view (select (plain a ∷ plain b ∷ []) x_and_y)) UnknownColumn

-- SELECT SUM(SUM(a)) AS c FROM t x, t y
abbrev pub ambiguous_before_nested : Type 0
ambiguous_before_nested = IsRefused (view (select (as_c (call Sum (call Sum a)) ∷ []) x_and_y)) AmbiguousColumn

-- SELECT s, SUM(SUM(a)) AS c FROM t
abbrev pub nested_before_grouped : Type 0
nested_before_grouped = IsRefused (view (select (plain s ∷ as_c (call Sum (call Sum a)) ∷ []) (t ∷ []))) NestedAggregate

-- SELECT a FROM t UNION SELECT s, COUNT(*) AS c FROM t
abbrev pub grouped_before_count : Type 0
grouped_before_count = IsRefused (view (union (select (plain a ∷ []) (t ∷ [])) (select (plain s ∷ as_c count_all ∷ []) (t ∷ [])))) NotGrouped

-- SELECT a FROM t WHERE a = s UNION SELECT a, s FROM t
abbrev pub count_before_type : Type 0
count_before_type = IsRefused (view (union (select_where (plain a ∷ []) (equal a s)) (select (plain a ∷ plain s ∷ []) (t ∷ [])))) ColumnCount

-- SELECT 9223372036854775808 * 9223372036854775808 * 2 AS c FROM t WHERE a = s
abbrev pub type_before_width : Type 0
type_before_width = IsRefused (view (select_where (as_c (wide 2) ∷ []) (equal a s))) TypeMismatch

-- SELECT 9223372036854775808 * 9223372036854775808 * 2 AS c FROM t x, t xx and so on, with 17 sources
abbrev pub width_before_limit : Type 0
width_before_limit = IsRefused (view (select (as_c (wide 2) ∷ []) (sources 1 17))) TooWide
