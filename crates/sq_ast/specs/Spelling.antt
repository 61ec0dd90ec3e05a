-- Which tokens spell which statements: one case for each line of the grammar, from trees to tokens.
--
-- Most relations say that a list of tokens spells a tree and then goes on with a rest: `SpellsExpr ts e rest`
-- holds where `ts` is the tokens of `e` followed by `rest`.
use Rattle.std.specs.Prelude.{◌≡◌, ℕ, suc, ◌+◌, ◌≤◌, Bool, true, false, List, [], ◌∷◌, ◌++◌, map, take, Option, Some, None}
use Rattle.sq_token.specs.declared.token.Token.{Token}
use Rattle.sq_token.specs.declared.token.TokenKind.{TokenKind}
use Rattle.sq_token.specs.declared.token.TokenKind.TheVariants as token
use Rattle.sq_ast.specs.declared.expr.ExprTree.{ExprTree}
use Rattle.sq_ast.specs.declared.expr.ExprTree.TheVariants as expr
use Rattle.sq_ast.specs.declared.expr.TermTree.{TermTree}
use Rattle.sq_ast.specs.declared.expr.FuncTree.{FuncTree}
use Rattle.sq_ast.specs.declared.expr.FuncTree.TheVariants.{Count, Sum, Min, Max}
use Rattle.sq_ast.specs.declared.expr.ColRef.{ColRef}
use Rattle.sq_ast.specs.declared.cond.CondTree.{CondTree}
use Rattle.sq_ast.specs.declared.cond.CondTree.TheVariants as cond
use Rattle.sq_ast.specs.declared.cond.CmpTree.{CmpTree}
use Rattle.sq_ast.specs.declared.cond.CmpTree.TheVariants.{Eq, Ne, Lt, Le, Gt, Ge}
use Rattle.sq_ast.specs.declared.query.SetOp.{SetOp}
use Rattle.sq_ast.specs.declared.query.SetOp.TheVariants.{UnionAll, Union, Except}
use Rattle.sq_ast.specs.declared.query.QueryTree.{QueryTree}
use Rattle.sq_ast.specs.declared.query.StepTree.{StepTree}
use Rattle.sq_ast.specs.declared.query.ItemTree.{ItemTree}
use Rattle.sq_ast.specs.declared.query.ItemTree.TheVariants as item
use Rattle.sq_ast.specs.declared.query.JoinedTree.{JoinedTree}
use Rattle.sq_ast.specs.declared.query.JoinTree.TheVariants as join
use Rattle.sq_ast.specs.declared.query.SourceTree.{SourceTree}
use Rattle.sq_ast.specs.declared.query.SourceTree.TheVariants as source
use Rattle.sq_ast.specs.declared.statement.Statement.{Statement}
use Rattle.sq_ast.specs.declared.statement.Body.{Body}
use Rattle.sq_ast.specs.declared.statement.Body.TheVariants as body
use Rattle.sq_ast.specs.declared.statement.Flavour.{Flavour}
use Rattle.sq_ast.specs.declared.statement.Flavour.TheVariants.{Materialized, Local}
use Rattle.sq_ast.specs.declared.statement.ColumnTree.{ColumnTree}
use Rattle.sq_ast.specs.declared.statement.TypeName.{TypeName}
use Rattle.sq_ast.specs.declared.statement.TypeName.TheVariants as type
use Rattle.sq_ast.specs.Words as w
use Rattle.sq_ast.specs.Words.{Tokens, Text}
use Rattle.sq_ast.specs.Trees.{term, step, joined, block_of, sum_of, product_of, any_of, all_of, chain_of, intersect_of}

-- ---- names

-- a quoted name, or a word that is not reserved
pub data SpellsName : TokenKind → Text → Type 0 where
  quoted_name : {name : Text} → SpellsName (token.Name name) name
  word_name : {word : Text} → w.is_reserved word ≡ false → SpellsName (token.Word word) word

-- [ AS ] name
pub data SpellsAlias : Tokens → Text → Tokens → Type 0 where
  bare_alias : {t : TokenKind} {name : Text} {rest : Tokens} → SpellsName t name → SpellsAlias (t ∷ rest) name rest
  as_alias : {t : TokenKind} {name : Text} {rest : Tokens} → SpellsName t name → SpellsAlias (w.AS ∷ t ∷ rest) name rest

-- [ [ AS ] name ]
pub data SpellsMaybeAlias : Tokens → Option Text → Tokens → Type 0 where
  no_alias : {rest : Tokens} → SpellsMaybeAlias rest None rest
  an_alias : {ts rest : Tokens} {name : Text} → SpellsAlias ts name rest → SpellsMaybeAlias ts (Some name) rest

-- colref = name [ "." name ]
pub data SpellsColRef : Tokens → ColRef → Tokens → Type 0 where
  plain_column : {t : TokenKind} {name : Text} {rest : Tokens} → SpellsName t name → SpellsColRef (t ∷ rest) (record { qualifier = None; name = name }) rest
  qualified_column : {s t : TokenKind} {source name : Text} {rest : Tokens} → SpellsName s source → SpellsName t name →
      SpellsColRef (s ∷ w.DOT ∷ t ∷ rest) (record { qualifier = Some source; name = name }) rest

-- ---- expressions and conditions

-- COUNT | SUM | MIN | MAX
pub data SpellsFunction : TokenKind → FuncTree → Type 0 where
  count_function : SpellsFunction w.COUNT Count
  sum_function : SpellsFunction w.SUM Sum
  min_function : SpellsFunction w.MIN Min
  max_function : SpellsFunction w.MAX Max

-- compare = "=" | "<>" | "<" | "<=" | ">" | ">="
pub data SpellsComparison : TokenKind → CmpTree → Type 0 where
  equal : SpellsComparison w.EQUAL Eq
  not_equal : SpellsComparison w.NOT_EQUAL Ne
  less : SpellsComparison w.LESS Lt
  less_equal : SpellsComparison w.LESS_EQUAL Le
  greater : SpellsComparison w.GREATER Gt
  greater_equal : SpellsComparison w.GREATER_EQUAL Ge

mutual
  -- expr = prod { ( "+" | "-" ) prod }
  pub data SpellsExpr : Tokens → ExprTree → Tokens → Type 0 where
    sum : {ts mid rest : Tokens} {first : ExprTree} {more : List TermTree} → SpellsProduct ts first mid → SpellsTerms mid more rest →
        SpellsExpr ts (sum_of first more) rest

  pub data SpellsTerms : Tokens → List TermTree → Tokens → Type 0 where
    no_term : {rest : Tokens} → SpellsTerms rest [] rest
    added : {ts mid rest : Tokens} {e : ExprTree} {more : List TermTree} → SpellsProduct ts e mid → SpellsTerms mid more rest →
        SpellsTerms (w.PLUS ∷ ts) (term false e ∷ more) rest
    subtracted : {ts mid rest : Tokens} {e : ExprTree} {more : List TermTree} → SpellsProduct ts e mid → SpellsTerms mid more rest →
        SpellsTerms (w.MINUS ∷ ts) (term true e ∷ more) rest

  -- prod = sign { "*" sign }
  pub data SpellsProduct : Tokens → ExprTree → Tokens → Type 0 where
    product : {ts mid rest : Tokens} {first : ExprTree} {more : List ExprTree} → SpellsSign ts first mid → SpellsFactors mid more rest →
        SpellsProduct ts (product_of first more) rest

  pub data SpellsFactors : Tokens → List ExprTree → Tokens → Type 0 where
    no_factor : {rest : Tokens} → SpellsFactors rest [] rest
    factor : {ts mid rest : Tokens} {e : ExprTree} {more : List ExprTree} → SpellsSign ts e mid → SpellsFactors mid more rest →
        SpellsFactors (w.STAR ∷ ts) (e ∷ more) rest

  -- sign = [ "-" ] prim
  pub data SpellsSign : Tokens → ExprTree → Tokens → Type 0 where
    unsigned : {ts rest : Tokens} {e : ExprTree} → SpellsPrim ts e rest → SpellsSign ts e rest
    negative : {ts rest : Tokens} {e : ExprTree} → SpellsPrim ts e rest → SpellsSign (w.MINUS ∷ ts) (expr.Neg e) rest

  -- prim = number | text | colref | call | "(" expr ")"
  -- call = COUNT "(" "*" ")" | ( COUNT | SUM | MIN | MAX ) "(" expr ")"
  pub data SpellsPrim : Tokens → ExprTree → Tokens → Type 0 where
    number : {n : ℕ} {rest : Tokens} → SpellsPrim (token.Number n ∷ rest) (expr.Number n) rest
    text : {s : Text} {rest : Tokens} → SpellsPrim (token.Text s ∷ rest) (expr.Text s) rest
    column : {ts rest : Tokens} {c : ColRef} → SpellsColRef ts c rest → SpellsPrim ts (expr.Column c) rest
    count_all : {rest : Tokens} → SpellsPrim (w.COUNT ∷ w.LEFT_PAREN ∷ w.STAR ∷ w.RIGHT_PAREN ∷ rest) (expr.Call Count None) rest
    call : {t : TokenKind} {f : FuncTree} {ts rest : Tokens} {e : ExprTree} → SpellsFunction t f → SpellsExpr ts e (w.RIGHT_PAREN ∷ rest) →
        SpellsPrim (t ∷ w.LEFT_PAREN ∷ ts) (expr.Call f (Some e)) rest
    nested_expr : {ts rest : Tokens} {e : ExprTree} → SpellsExpr ts e (w.RIGHT_PAREN ∷ rest) → SpellsPrim (w.LEFT_PAREN ∷ ts) e rest

  -- cond = conj { OR conj }
  pub data SpellsCond : Tokens → CondTree → Tokens → Type 0 where
    any : {ts mid rest : Tokens} {first : CondTree} {more : List CondTree} → SpellsConj ts first mid → SpellsOrs mid more rest →
        SpellsCond ts (any_of first more) rest

  pub data SpellsOrs : Tokens → List CondTree → Tokens → Type 0 where
    no_or : {rest : Tokens} → SpellsOrs rest [] rest
    or : {ts mid rest : Tokens} {c : CondTree} {more : List CondTree} → SpellsConj ts c mid → SpellsOrs mid more rest →
        SpellsOrs (w.OR ∷ ts) (c ∷ more) rest

  -- conj = neg { AND neg }
  pub data SpellsConj : Tokens → CondTree → Tokens → Type 0 where
    all : {ts mid rest : Tokens} {first : CondTree} {more : List CondTree} → SpellsNeg ts first mid → SpellsAnds mid more rest →
        SpellsConj ts (all_of first more) rest

  pub data SpellsAnds : Tokens → List CondTree → Tokens → Type 0 where
    no_and : {rest : Tokens} → SpellsAnds rest [] rest
    and : {ts mid rest : Tokens} {c : CondTree} {more : List CondTree} → SpellsNeg ts c mid → SpellsAnds mid more rest →
        SpellsAnds (w.AND ∷ ts) (c ∷ more) rest

  -- neg = [ NOT ] test
  pub data SpellsNeg : Tokens → CondTree → Tokens → Type 0 where
    positive : {ts rest : Tokens} {c : CondTree} → SpellsTest ts c rest → SpellsNeg ts c rest
    negated : {ts rest : Tokens} {c : CondTree} → SpellsTest ts c rest → SpellsNeg (w.NOT ∷ ts) (cond.Not c) rest

  -- test = expr compare expr | expr IS [ NOT ] NULL | "(" cond ")"
  pub data SpellsTest : Tokens → CondTree → Tokens → Type 0 where
    compare : {t : TokenKind} {cmp : CmpTree} {ts mid rest : Tokens} {left right : ExprTree} →
        SpellsExpr ts left (t ∷ mid) → SpellsComparison t cmp → SpellsExpr mid right rest → SpellsTest ts (cond.Compare cmp left right) rest
    is_null : {ts rest : Tokens} {e : ExprTree} → SpellsExpr ts e (w.IS ∷ w.NULL ∷ rest) → SpellsTest ts (cond.Null e false) rest
    is_not_null : {ts rest : Tokens} {e : ExprTree} → SpellsExpr ts e (w.IS ∷ w.NOT ∷ w.NULL ∷ rest) → SpellsTest ts (cond.Null e true) rest
    nested_cond : {ts rest : Tokens} {c : CondTree} → SpellsCond ts c (w.RIGHT_PAREN ∷ rest) → SpellsTest (w.LEFT_PAREN ∷ ts) c rest

-- ---- queries

-- UNION [ ALL | DISTINCT ] | EXCEPT [ DISTINCT ]
pub data SpellsSetOp : Tokens → SetOp → Tokens → Type 0 where
  union : {rest : Tokens} → SpellsSetOp (w.UNION ∷ rest) Union rest
  union_all : {rest : Tokens} → SpellsSetOp (w.UNION ∷ w.ALL ∷ rest) UnionAll rest
  union_distinct : {rest : Tokens} → SpellsSetOp (w.UNION ∷ w.DISTINCT ∷ rest) Union rest
  except : {rest : Tokens} → SpellsSetOp (w.EXCEPT ∷ rest) Except rest
  except_distinct : {rest : Tokens} → SpellsSetOp (w.EXCEPT ∷ w.DISTINCT ∷ rest) Except rest

-- INTERSECT [ DISTINCT ]
pub data SpellsIntersect : Tokens → Tokens → Type 0 where
  intersect : {rest : Tokens} → SpellsIntersect (w.INTERSECT ∷ rest) rest
  intersect_distinct : {rest : Tokens} → SpellsIntersect (w.INTERSECT ∷ w.DISTINCT ∷ rest) rest

-- SELECT [ DISTINCT | ALL ]
pub data SpellsSelect : Tokens → Bool → Tokens → Type 0 where
  select : {rest : Tokens} → SpellsSelect (w.SELECT ∷ rest) false rest
  select_all : {rest : Tokens} → SpellsSelect (w.SELECT ∷ w.ALL ∷ rest) false rest
  select_distinct : {rest : Tokens} → SpellsSelect (w.SELECT ∷ w.DISTINCT ∷ rest) true rest

-- item = "*" | name "." "*" | expr [ [ AS ] name ]
pub data SpellsItem : Tokens → ItemTree → Tokens → Type 0 where
  star : {rest : Tokens} → SpellsItem (w.STAR ∷ rest) item.Star rest
  star_of : {t : TokenKind} {name : Text} {rest : Tokens} → SpellsName t name → SpellsItem (t ∷ w.DOT ∷ w.STAR ∷ rest) (item.StarOf name) rest
  computed : {ts mid rest : Tokens} {e : ExprTree} {alias : Option Text} → SpellsExpr ts e mid → SpellsMaybeAlias mid alias rest →
      SpellsItem ts (item.Expr e alias) rest

-- { "," item }
pub data SpellsItems : Tokens → List ItemTree → Tokens → Type 0 where
  no_item : {rest : Tokens} → SpellsItems rest [] rest
  an_item : {ts mid rest : Tokens} {i : ItemTree} {more : List ItemTree} → SpellsItem ts i mid → SpellsItems mid more rest →
      SpellsItems (w.COMMA ∷ ts) (i ∷ more) rest

-- { "," colref }
pub data SpellsColRefs : Tokens → List ColRef → Tokens → Type 0 where
  no_column : {rest : Tokens} → SpellsColRefs rest [] rest
  a_column : {ts mid rest : Tokens} {c : ColRef} {more : List ColRef} → SpellsColRef ts c mid → SpellsColRefs mid more rest →
      SpellsColRefs (w.COMMA ∷ ts) (c ∷ more) rest

-- [ WHERE cond ]
pub data SpellsWhere : Tokens → Option CondTree → Tokens → Type 0 where
  no_where : {rest : Tokens} → SpellsWhere rest None rest
  a_where : {ts rest : Tokens} {c : CondTree} → SpellsCond ts c rest → SpellsWhere (w.WHERE ∷ ts) (Some c) rest

-- [ GROUP BY colref { "," colref } ]
pub data SpellsGroup : Tokens → List ColRef → Tokens → Type 0 where
  no_group : {rest : Tokens} → SpellsGroup rest [] rest
  a_group : {ts mid rest : Tokens} {c : ColRef} {more : List ColRef} → SpellsColRef ts c mid → SpellsColRefs mid more rest →
      SpellsGroup (w.GROUP ∷ w.BY ∷ ts) (c ∷ more) rest

-- [ HAVING cond ]
pub data SpellsHaving : Tokens → Option CondTree → Tokens → Type 0 where
  no_having : {rest : Tokens} → SpellsHaving rest None rest
  a_having : {ts rest : Tokens} {c : CondTree} → SpellsCond ts c rest → SpellsHaving (w.HAVING ∷ ts) (Some c) rest

-- "," | CROSS JOIN
pub data SpellsComma : Tokens → Tokens → Type 0 where
  comma : {rest : Tokens} → SpellsComma (w.COMMA ∷ rest) rest
  cross_join : {rest : Tokens} → SpellsComma (w.CROSS ∷ w.JOIN ∷ rest) rest

-- [ INNER ] JOIN
pub data SpellsJoin : Tokens → Tokens → Type 0 where
  plain_join : {rest : Tokens} → SpellsJoin (w.JOIN ∷ rest) rest
  inner_join : {rest : Tokens} → SpellsJoin (w.INNER ∷ w.JOIN ∷ rest) rest

-- LEFT [ OUTER ] JOIN
pub data SpellsLeftJoin : Tokens → Tokens → Type 0 where
  left_join : {rest : Tokens} → SpellsLeftJoin (w.LEFT ∷ w.JOIN ∷ rest) rest
  left_outer_join : {rest : Tokens} → SpellsLeftJoin (w.LEFT ∷ w.OUTER ∷ w.JOIN ∷ rest) rest

mutual
  -- query = term { ( UNION [ ALL | DISTINCT ] | EXCEPT [ DISTINCT ] ) term }
  pub data SpellsQuery : Tokens → QueryTree → Tokens → Type 0 where
    chain : {ts mid rest : Tokens} {first : QueryTree} {more : List StepTree} → SpellsTerm ts first mid → SpellsSteps mid more rest →
        SpellsQuery ts (chain_of first more) rest

  pub data SpellsSteps : Tokens → List StepTree → Tokens → Type 0 where
    no_step : {rest : Tokens} → SpellsSteps rest [] rest
    a_step : {ts us mid rest : Tokens} {op : SetOp} {q : QueryTree} {more : List StepTree} →
        SpellsSetOp ts op us → SpellsTerm us q mid → SpellsSteps mid more rest → SpellsSteps ts (step op q ∷ more) rest

  -- term = operand { INTERSECT [ DISTINCT ] operand }
  pub data SpellsTerm : Tokens → QueryTree → Tokens → Type 0 where
    intersection : {ts mid rest : Tokens} {first : QueryTree} {more : List QueryTree} → SpellsOperand ts first mid → SpellsOperands mid more rest →
        SpellsTerm ts (intersect_of first more) rest

  pub data SpellsOperands : Tokens → List QueryTree → Tokens → Type 0 where
    no_operand : {rest : Tokens} → SpellsOperands rest [] rest
    an_operand : {ts us mid rest : Tokens} {q : QueryTree} {more : List QueryTree} →
        SpellsIntersect ts us → SpellsOperand us q mid → SpellsOperands mid more rest → SpellsOperands ts (q ∷ more) rest

  -- operand = block | "(" query ")"
  -- block = SELECT [ DISTINCT | ALL ] item { "," item } FROM source { joined }
  --         [ WHERE cond ] [ GROUP BY colref { "," colref } ] [ HAVING cond ]
  pub data SpellsOperand : Tokens → QueryTree → Tokens → Type 0 where
    block : {ts items more_items sources more_sources filtered grouped had rest : Tokens} {distinct : Bool} {i : ItemTree} {is : List ItemTree}
        {s : SourceTree} {js : List JoinedTree} {filter having : Option CondTree} {group : List ColRef} →
        SpellsSelect ts distinct items → SpellsItem items i more_items → SpellsItems more_items is (w.FROM ∷ sources) →
        SpellsSource sources s more_sources → SpellsJoined more_sources js filtered →
        SpellsWhere filtered filter grouped → SpellsGroup grouped group had → SpellsHaving had having rest →
        SpellsOperand ts (block_of distinct (i ∷ is) (joined join.Comma s ∷ js) filter group having) rest
    nested_query : {ts rest : Tokens} {q : QueryTree} → SpellsQuery ts q (w.RIGHT_PAREN ∷ rest) → SpellsOperand (w.LEFT_PAREN ∷ ts) q rest

  -- source = name [ [ AS ] name ] | "(" query ")" [ AS ] name
  pub data SpellsSource : Tokens → SourceTree → Tokens → Type 0 where
    relation : {t : TokenKind} {name : Text} {alias : Option Text} {ts rest : Tokens} → SpellsName t name → SpellsMaybeAlias ts alias rest →
        SpellsSource (t ∷ ts) (source.Relation name alias) rest
    derived : {ts mid rest : Tokens} {q : QueryTree} {alias : Text} → SpellsQuery ts q (w.RIGHT_PAREN ∷ mid) → SpellsAlias mid alias rest →
        SpellsSource (w.LEFT_PAREN ∷ ts) (source.Query q alias) rest

  -- { joined }, where
  -- joined = "," source | CROSS JOIN source | [ INNER ] JOIN source ON cond | LEFT [ OUTER ] JOIN source ON cond
  pub data SpellsJoined : Tokens → List JoinedTree → Tokens → Type 0 where
    no_source : {rest : Tokens} → SpellsJoined rest [] rest
    every_pair : {ts us mid rest : Tokens} {s : SourceTree} {more : List JoinedTree} →
        SpellsComma ts us → SpellsSource us s mid → SpellsJoined mid more rest → SpellsJoined ts (joined join.Comma s ∷ more) rest
    inner : {ts us on mid rest : Tokens} {s : SourceTree} {c : CondTree} {more : List JoinedTree} →
        SpellsJoin ts us → SpellsSource us s (w.ON ∷ on) → SpellsCond on c mid → SpellsJoined mid more rest →
        SpellsJoined ts (joined (join.Inner c) s ∷ more) rest
    left : {ts us on mid rest : Tokens} {s : SourceTree} {c : CondTree} {more : List JoinedTree} →
        SpellsLeftJoin ts us → SpellsSource us s (w.ON ∷ on) → SpellsCond on c mid → SpellsJoined mid more rest →
        SpellsJoined ts (joined (join.Left c) s ∷ more) rest

-- ---- statements

-- type = INT | INTEGER | BIGINT | VARCHAR | TEXT
pub data SpellsType : TokenKind → TypeName → Type 0 where
  int : SpellsType w.INT type.Int
  integer : SpellsType w.INTEGER type.Integer
  bigint : SpellsType w.BIGINT type.Bigint
  varchar : SpellsType w.VARCHAR type.Varchar
  text_type : SpellsType w.TEXT type.Text

-- [ NOT NULL | NULL ]
pub data SpellsNullness : Tokens → Bool → Tokens → Type 0 where
  unsaid : {rest : Tokens} → SpellsNullness rest false rest
  nullable : {rest : Tokens} → SpellsNullness (w.NULL ∷ rest) false rest
  not_null : {rest : Tokens} → SpellsNullness (w.NOT ∷ w.NULL ∷ rest) true rest

-- column = name type [ NOT NULL | NULL ]
pub data SpellsColumn : Tokens → ColumnTree → Tokens → Type 0 where
  column_of : {t u : TokenKind} {name : Text} {kind : TypeName} {not_null : Bool} {ts rest : Tokens} →
      SpellsName t name → SpellsType u kind → SpellsNullness ts not_null rest →
      SpellsColumn (t ∷ u ∷ ts) (record { name = name; kind = kind; not_null = not_null }) rest

-- { "," column }
pub data SpellsColumns : Tokens → List ColumnTree → Tokens → Type 0 where
  no_columns : {rest : Tokens} → SpellsColumns rest [] rest
  more_columns : {ts mid rest : Tokens} {c : ColumnTree} {more : List ColumnTree} → SpellsColumn ts c mid → SpellsColumns mid more rest →
      SpellsColumns (w.COMMA ∷ ts) (c ∷ more) rest

-- [ MATERIALIZED | LOCAL ]
pub data SpellsFlavour : Tokens → Option Flavour → Tokens → Type 0 where
  no_flavour : {rest : Tokens} → SpellsFlavour rest None rest
  materialized : {rest : Tokens} → SpellsFlavour (w.MATERIALIZED ∷ rest) (Some Materialized) rest
  local : {rest : Tokens} → SpellsFlavour (w.LOCAL ∷ rest) (Some Local) rest

-- statement = CREATE TABLE name "(" column { "," column } ")" | CREATE [ MATERIALIZED | LOCAL ] VIEW name AS query
pub data SpellsBody : Tokens → Body → Tokens → Type 0 where
  table : {t : TokenKind} {name : Text} {ts mid rest : Tokens} {c : ColumnTree} {more : List ColumnTree} →
      SpellsName t name → SpellsColumn ts c mid → SpellsColumns mid more (w.RIGHT_PAREN ∷ rest) →
      SpellsBody (w.CREATE ∷ w.TABLE ∷ t ∷ w.LEFT_PAREN ∷ ts) (body.Table name (c ∷ more)) rest
  view : {t : TokenKind} {name : Text} {flavour : Option Flavour} {ts us rest : Tokens} {q : QueryTree} →
      SpellsFlavour ts flavour (w.VIEW ∷ t ∷ w.AS ∷ us) → SpellsName t name → SpellsQuery us q rest →
      SpellsBody (w.CREATE ∷ ts) (body.View name flavour q) rest

-- no front of the tokens has more than 64 opening parentheses beyond its closing ones
abbrev pub IsShallow : Tokens → Type 0
IsShallow ts = (n : ℕ) → w.opened (take n ts) ≤ 64 + w.closed (take n ts)

-- [ statement ], with the number of the statement that stands there
pub data SpellsPlace : ℕ → Tokens → List Statement → Type 0 where
  empty_place : {n : ℕ} → SpellsPlace n [] []
  statement : {n : ℕ} {ts : Tokens} {b : Body} → SpellsBody ts b [] → IsShallow ts → SpellsPlace n ts (record { number = n; body = b } ∷ [])

-- [ statement ] { ";" [ statement ] }, where the first place has this number
pub data SpellsFrom : ℕ → Tokens → List Statement → Type 0 where
  last_place : {n : ℕ} {ts : Tokens} {found : List Statement} → SpellsPlace n ts found → SpellsFrom n ts found
  more_places : {n : ℕ} {ts rest : Tokens} {found more : List Statement} → SpellsPlace n ts found → SpellsFrom (suc n) rest more →
      SpellsFrom n (ts ++ (w.SEMICOLON ∷ rest)) (found ++ more)

-- program = [ statement ] { ";" [ statement ] }
abbrev pub SpellsProgram : Tokens → List Statement → Type 0
SpellsProgram = SpellsFrom 1

-- what the tokens say, without the places where they stand
abbrev pub kinds : List Token → Tokens
kinds ts = map (λ t. t.kind) ts

-- the tokens spell these statements
abbrev pub Spells : List Token → List Statement → Type 0
Spells ts statements = SpellsProgram (kinds ts) statements
