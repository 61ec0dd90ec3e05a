-- Small programs, as the tokens of their texts and the statements that these spell, and texts that spell none.
use Rattle.std.specs.Prelude.{ℕ, true, false, List, [], ◌∷◌, ◌++◌, replicate, Some, None, codes}
use Rattle.sq_token.specs.declared.token.TokenKind.{TokenKind}
use Rattle.sq_token.specs.declared.token.TokenKind.TheVariants as token
use Rattle.sq_ast.specs.declared.expr.ExprTree.{ExprTree}
use Rattle.sq_ast.specs.declared.expr.ExprTree.TheVariants as expr
use Rattle.sq_ast.specs.declared.expr.FuncTree.TheVariants.{Count, Sum}
use Rattle.sq_ast.specs.declared.cond.CondTree.{CondTree}
use Rattle.sq_ast.specs.declared.cond.CondTree.TheVariants as condition
use Rattle.sq_ast.specs.declared.cond.CmpTree.TheVariants.{Eq, Lt}
use Rattle.sq_ast.specs.declared.query.SetOp.TheVariants.{UnionAll, Union, Except}
use Rattle.sq_ast.specs.declared.query.QueryTree.{QueryTree}
use Rattle.sq_ast.specs.declared.query.QueryTree.TheVariants as query
use Rattle.sq_ast.specs.declared.query.ItemTree.TheVariants as item
use Rattle.sq_ast.specs.declared.query.ItemTree.{ItemTree}
use Rattle.sq_ast.specs.declared.query.JoinedTree.{JoinedTree}
use Rattle.sq_ast.specs.declared.query.JoinTree.TheVariants as join
use Rattle.sq_ast.specs.declared.query.SourceTree.TheVariants as source
use Rattle.sq_ast.specs.declared.statement.Statement.{Statement}
use Rattle.sq_ast.specs.declared.statement.Body.TheVariants as body
use Rattle.sq_ast.specs.declared.statement.Flavour.TheVariants.{Materialized, Local}
use Rattle.sq_ast.specs.declared.statement.TypeName.TheVariants as type
use Rattle.sq_ast.specs.Words.{Tokens, Text, LEFT_PAREN, RIGHT_PAREN, COMMA, SEMICOLON, DOT, STAR, PLUS, MINUS, EQUAL, LESS, CREATE, TABLE, MATERIALIZED, LOCAL, VIEW, AS, NOT, NULL, INT, INTEGER, VARCHAR, TEXT}
use Rattle.sq_ast.specs.Words.{UNION, ALL, DISTINCT, EXCEPT, INTERSECT, SELECT, FROM, WHERE, GROUP, BY, HAVING, CROSS, JOIN, INNER, LEFT, OUTER, ON, OR, AND, IS, COUNT, SUM, MIN}
use Rattle.sq_ast.specs.Spelling.{SpellsProgram}
use Rattle.sq_ast.specs.Trees.{term, step, joined, block_of}

-- a text and what it spells
pub record Example : Type 0 where
  pub tokens : Tokens
  pub statements : List Statement

abbrev pub IsSpelled : Example → Type 0
IsSpelled example = SpellsProgram example.tokens example.statements

-- no statements have these tokens
abbrev pub IsUnspelled : Tokens → Type 0
IsUnspelled ts = (statements : List Statement) → SpellsProgram ts statements → ⊥

-- ---- tokens and trees of a few names

abbrev pub a : TokenKind
a = token.Word (codes "a")

abbrev pub b : TokenKind
b = token.Word (codes "b")

abbrev pub c : TokenKind
c = token.Word (codes "c")

abbrev pub t : TokenKind
t = token.Word (codes "t")

abbrev pub u : TokenKind
u = token.Word (codes "u")

abbrev pub v : TokenKind
v = token.Word (codes "v")

abbrev pub x : TokenKind
x = token.Word (codes "x")

abbrev pub column : Text → ExprTree
column name = expr.Column (record { qualifier = None; name = name })

abbrev pub a_column : ExprTree
a_column = column (codes "a")

abbrev pub b_column : ExprTree
b_column = column (codes "b")

abbrev pub c_column : ExprTree
c_column = column (codes "c")

abbrev pub source_t : JoinedTree
source_t = joined join.Comma (source.Relation (codes "t") None)

-- SELECT ALL items FROM t
abbrev pub plain_block : List ItemTree → QueryTree
plain_block items = block_of false items (source_t ∷ []) None [] None

abbrev pub view_of : ℕ → QueryTree → Statement
view_of number q = record { number = number; body = body.View (codes "v") None q }

-- the text `CREATE VIEW v AS ..`
abbrev pub view_text : Tokens → Tokens
view_text ts = CREATE ∷ VIEW ∷ v ∷ AS ∷ ts

-- the text `CREATE VIEW v AS SELECT .. AS x FROM t`, and what it spells
abbrev pub computing : Tokens → ExprTree → Example
computing ts e = record {
  tokens = view_text (SELECT ∷ (ts ++ (AS ∷ x ∷ FROM ∷ t ∷ [])));
  statements = view_of 1 (plain_block (item.Expr e (Some (codes "x")) ∷ [])) ∷ [];
}

-- the text `CREATE VIEW v AS SELECT * FROM t WHERE ..`, and what it spells
abbrev pub filtering : Tokens → CondTree → Example
filtering ts cond = record {
  tokens = view_text (SELECT ∷ STAR ∷ FROM ∷ t ∷ WHERE ∷ ts);
  statements = view_of 1 (block_of false (item.Star ∷ []) (source_t ∷ []) (Some cond) [] None) ∷ [];
}

-- ---- programs

-- the empty text
abbrev pub nothing : Example
nothing = record { tokens = []; statements = [] }

-- ;; CREATE TABLE t (a INT NOT NULL, b VARCHAR NULL, c TEXT);
abbrev pub third_statement : Example
third_statement = record {
  tokens = SEMICOLON ∷ SEMICOLON ∷ CREATE ∷ TABLE ∷ t ∷ LEFT_PAREN ∷ a ∷ INT ∷ NOT ∷ NULL ∷ COMMA ∷ b ∷ VARCHAR ∷ NULL ∷ COMMA ∷ c ∷ TEXT ∷ RIGHT_PAREN ∷ SEMICOLON ∷ [];
  statements = record {
    number = 3;
    body = body.Table (codes "t")
        (record { name = codes "a"; kind = type.Int; not_null = true } ∷
        record { name = codes "b"; kind = type.Varchar; not_null = false } ∷
        record { name = codes "c"; kind = type.Text; not_null = false } ∷ []);
  } ∷ [];
}

-- CREATE TABLE count (int INTEGER); CREATE MATERIALIZED VIEW local AS SELECT COUNT(*) AS sum, min FROM count text
abbrev pub words_as_names : Example
words_as_names = record {
  tokens = CREATE ∷ TABLE ∷ COUNT ∷ LEFT_PAREN ∷ INT ∷ INTEGER ∷ RIGHT_PAREN ∷ SEMICOLON ∷
      CREATE ∷ MATERIALIZED ∷ VIEW ∷ LOCAL ∷ AS ∷ SELECT ∷ COUNT ∷ LEFT_PAREN ∷ STAR ∷ RIGHT_PAREN ∷ AS ∷ SUM ∷ COMMA ∷ MIN ∷ FROM ∷ COUNT ∷ TEXT ∷ [];
  statements =
      record { number = 1; body = body.Table (codes "count") (record { name = codes "int"; kind = type.Integer; not_null = false } ∷ []) } ∷
      record {
        number = 2;
        body = body.View (codes "local") (Some Materialized)
            (block_of false (item.Expr (expr.Call Count None) (Some (codes "sum")) ∷ item.Expr (column (codes "min")) None ∷ [])
            (joined join.Comma (source.Relation (codes "count") (Some (codes "text"))) ∷ []) None [] None);
      } ∷ [];
}

-- CREATE VIEW v AS SELECT ALL "select" FROM t
abbrev pub quoted_word : Example
quoted_word = record {
  tokens = view_text (SELECT ∷ ALL ∷ token.Name (codes "select") ∷ FROM ∷ t ∷ []);
  statements = view_of 1 (plain_block (item.Expr (column (codes "select")) None ∷ [])) ∷ [];
}

-- a + b - c * 2
abbrev pub chain : Example
chain = computing (a ∷ PLUS ∷ b ∷ MINUS ∷ c ∷ STAR ∷ token.Number 2 ∷ [])
    (expr.Sum (term false a_column ∷ term false b_column ∷ term true (expr.Product (c_column ∷ expr.Number 2 ∷ [])) ∷ []))

-- (a + b) + ((c)): the inner sum stays one member, and the other parentheses leave no trace
abbrev pub chain_in_chain : Example
chain_in_chain = computing (LEFT_PAREN ∷ a ∷ PLUS ∷ b ∷ RIGHT_PAREN ∷ PLUS ∷ LEFT_PAREN ∷ LEFT_PAREN ∷ c ∷ RIGHT_PAREN ∷ RIGHT_PAREN ∷ [])
    (expr.Sum (term false (expr.Sum (term false a_column ∷ term false b_column ∷ [])) ∷ term false c_column ∷ []))

-- -SUM(-t.a)
abbrev pub signs : Example
signs = computing (MINUS ∷ SUM ∷ LEFT_PAREN ∷ MINUS ∷ t ∷ DOT ∷ a ∷ RIGHT_PAREN ∷ [])
    (expr.Neg (expr.Call Sum (Some (expr.Neg (expr.Column (record { qualifier = Some (codes "t"); name = codes "a" }))))))

-- a = 'a' AND NOT b < c OR c IS NOT NULL
abbrev pub precedence : Example
precedence = filtering (a ∷ EQUAL ∷ token.Text (codes "a") ∷ AND ∷ NOT ∷ b ∷ LESS ∷ c ∷ OR ∷ c ∷ IS ∷ NOT ∷ NULL ∷ [])
    (condition.Any (condition.All (condition.Compare Eq a_column (expr.Text (codes "a")) ∷ condition.Not (condition.Compare Lt b_column c_column) ∷ []) ∷
    condition.Null c_column true ∷ []))

-- ((a)) = b AND ((a = b AND c IS NULL)): the first parentheses hold an expression, the last a condition
abbrev pub either_parenthesis : Example
either_parenthesis = filtering
    (LEFT_PAREN ∷ LEFT_PAREN ∷ a ∷ RIGHT_PAREN ∷ RIGHT_PAREN ∷ EQUAL ∷ b ∷ AND ∷
    LEFT_PAREN ∷ LEFT_PAREN ∷ a ∷ EQUAL ∷ b ∷ AND ∷ c ∷ IS ∷ NULL ∷ RIGHT_PAREN ∷ RIGHT_PAREN ∷ [])
    (condition.All (condition.Compare Eq a_column b_column ∷ condition.All (condition.Compare Eq a_column b_column ∷ condition.Null c_column false ∷ []) ∷ []))

-- CREATE VIEW v AS SELECT u.* FROM t AS u, t CROSS JOIN t a INNER JOIN t ON a = b LEFT OUTER JOIN (SELECT * FROM t) x ON a = c
abbrev pub joins : Example
joins = record {
  tokens = view_text (SELECT ∷ u ∷ DOT ∷ STAR ∷ FROM ∷ t ∷ AS ∷ u ∷ COMMA ∷ t ∷ CROSS ∷ JOIN ∷ t ∷ a ∷ INNER ∷ JOIN ∷ t ∷ ON ∷ a ∷ EQUAL ∷ b ∷
      LEFT ∷ OUTER ∷ JOIN ∷ LEFT_PAREN ∷ SELECT ∷ STAR ∷ FROM ∷ t ∷ RIGHT_PAREN ∷ x ∷ ON ∷ a ∷ EQUAL ∷ c ∷ []);
  statements = view_of 1 (block_of false (item.StarOf (codes "u") ∷ [])
      (joined join.Comma (source.Relation (codes "t") (Some (codes "u"))) ∷ source_t ∷ joined join.Comma (source.Relation (codes "t") (Some (codes "a"))) ∷
      joined (join.Inner (condition.Compare Eq a_column b_column)) (source.Relation (codes "t") None) ∷
      joined (join.Left (condition.Compare Eq a_column c_column)) (source.Query (plain_block (item.Star ∷ [])) (codes "x")) ∷ []) None [] None) ∷ [];
}

-- CREATE LOCAL VIEW v AS SELECT DISTINCT a FROM t GROUP BY a, t.b HAVING COUNT(a) = 1
abbrev pub groups : Example
groups = record {
  tokens = CREATE ∷ LOCAL ∷ VIEW ∷ v ∷ AS ∷ SELECT ∷ DISTINCT ∷ a ∷ FROM ∷ t ∷ GROUP ∷ BY ∷ a ∷ COMMA ∷ t ∷ DOT ∷ b ∷ HAVING ∷
      COUNT ∷ LEFT_PAREN ∷ a ∷ RIGHT_PAREN ∷ EQUAL ∷ token.Number 1 ∷ [];
  statements = record {
    number = 1;
    body = body.View (codes "v") (Some Local) (block_of true (item.Expr a_column None ∷ []) (source_t ∷ []) None
        (record { qualifier = None; name = codes "a" } ∷ record { qualifier = Some (codes "t"); name = codes "b" } ∷ [])
        (Some (condition.Compare Eq (expr.Call Count (Some a_column)) (expr.Number 1))));
  } ∷ [];
}

-- SELECT * FROM t
abbrev pub all_of_t : Tokens
all_of_t = SELECT ∷ STAR ∷ FROM ∷ t ∷ []

abbrev pub whole_t : QueryTree
whole_t = plain_block (item.Star ∷ [])

-- CREATE VIEW v AS q UNION ALL q INTERSECT DISTINCT q EXCEPT DISTINCT (q UNION q), where q is SELECT * FROM t
abbrev pub set_operations : Example
set_operations = record {
  tokens = view_text (all_of_t ++ (UNION ∷ ALL ∷ (all_of_t ++ (INTERSECT ∷ DISTINCT ∷ (all_of_t ++ (EXCEPT ∷ DISTINCT ∷ LEFT_PAREN ∷
      (all_of_t ++ (UNION ∷ (all_of_t ++ (RIGHT_PAREN ∷ []))))))))));
  statements = view_of 1 (query.Chain whole_t
      (step UnionAll (query.Intersect (whole_t ∷ whole_t ∷ [])) ∷ step Except (query.Chain whole_t (step Union whole_t ∷ [])) ∷ [])) ∷ [];
}

-- a in so many parentheses
abbrev pub in_parentheses : ℕ → Tokens
in_parentheses n = replicate n LEFT_PAREN ++ (a ∷ replicate n RIGHT_PAREN)

abbrev pub as_deep_as_it_goes : Example
as_deep_as_it_goes = computing (in_parentheses 64) a_column

-- ---- texts that spell nothing

-- CREATE VIEW v AS SELECT .. AS x FROM t, with 65 parentheses
abbrev pub too_deep : Tokens
too_deep = view_text (SELECT ∷ (in_parentheses 65 ++ (AS ∷ x ∷ FROM ∷ t ∷ [])))

-- CREATE TABLE order (a INT), where the name is a reserved word
abbrev pub reserved_name : Tokens
reserved_name = CREATE ∷ TABLE ∷ token.Word (codes "order") ∷ LEFT_PAREN ∷ a ∷ INT ∷ RIGHT_PAREN ∷ []

-- CREATE VIEW v AS SELECT a FROM t RIGHT JOIN u ON a = b
abbrev pub right_join : Tokens
right_join = view_text (SELECT ∷ a ∷ FROM ∷ t ∷ token.Word (codes "right") ∷ JOIN ∷ u ∷ ON ∷ a ∷ EQUAL ∷ b ∷ [])

-- CREATE VIEW v AS SELECT a FROM t JOIN u
abbrev pub join_without_on : Tokens
join_without_on = view_text (SELECT ∷ a ∷ FROM ∷ t ∷ JOIN ∷ u ∷ [])

-- CREATE VIEW v AS SELECT * FROM t WHERE (a)
abbrev pub expression_as_condition : Tokens
expression_as_condition = view_text (SELECT ∷ STAR ∷ FROM ∷ t ∷ WHERE ∷ LEFT_PAREN ∷ a ∷ RIGHT_PAREN ∷ [])

-- CREATE VIEW v AS SELECT * FROM t WHERE NOT NOT a = b
abbrev pub not_twice : Tokens
not_twice = view_text (SELECT ∷ STAR ∷ FROM ∷ t ∷ WHERE ∷ NOT ∷ NOT ∷ a ∷ EQUAL ∷ b ∷ [])

-- CREATE VIEW v AS SELECT SUM(*) AS x FROM t
abbrev pub sum_of_star : Tokens
sum_of_star = view_text (SELECT ∷ SUM ∷ LEFT_PAREN ∷ STAR ∷ RIGHT_PAREN ∷ AS ∷ x ∷ FROM ∷ t ∷ [])

-- CREATE VIEW v AS SELECT * FROM t INTERSECT ALL SELECT * FROM t
abbrev pub intersect_all : Tokens
intersect_all = view_text (all_of_t ++ (INTERSECT ∷ ALL ∷ all_of_t))

-- CREATE TABLE t (a INT) CREATE TABLE u (a INT), without a semicolon
abbrev pub no_semicolon : Tokens
no_semicolon = CREATE ∷ TABLE ∷ t ∷ LEFT_PAREN ∷ a ∷ INT ∷ RIGHT_PAREN ∷ CREATE ∷ TABLE ∷ u ∷ LEFT_PAREN ∷ a ∷ INT ∷ RIGHT_PAREN ∷ []
