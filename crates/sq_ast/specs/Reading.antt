-- How statements are read from tokens: a function, rule by rule, that answers the tree that a front of the tokens
-- spells, as long a front as there is, and the tokens after it.
--
-- A rule goes down into parentheses by the parsers of `inner`, whose own depth is one less; `level` ties the knot.
use Rattle.std.specs.Prelude.{ℕ, zero, suc, ◌+◌, Bool, true, false, ◌&&◌, if◌then◌else◌, nat_le, List, [], ◌∷◌, ◌++◌, length, Option, Some, None, option_map, Result, Ok, Err}
use Rattle.sq_token.specs.declared.token.TokenKind.{TokenKind}
use Rattle.sq_token.specs.declared.token.TokenKind.TheVariants as token
use Rattle.sq_ast.specs.declared.expr.ExprTree.{ExprTree}
use Rattle.sq_ast.specs.declared.expr.ExprTree.TheVariants as expr
use Rattle.sq_ast.specs.declared.expr.TermTree.{TermTree}
use Rattle.sq_ast.specs.declared.expr.FuncTree.{FuncTree}
use Rattle.sq_ast.specs.declared.expr.FuncTree.TheVariants.{Count, Sum, Min, Max}
use Rattle.sq_ast.specs.declared.expr.ColRef.{ColRef}
use Rattle.sq_ast.specs.declared.cond.CondTree.{CondTree}
use Rattle.sq_ast.specs.declared.cond.CondTree.TheVariants as cond
use Rattle.sq_ast.specs.declared.cond.CmpTree.{CmpTree}
use Rattle.sq_ast.specs.declared.cond.CmpTree.TheVariants.{Eq, Ne, Lt, Le, Gt, Ge}
use Rattle.sq_ast.specs.declared.query.SetOp.{SetOp}
use Rattle.sq_ast.specs.declared.query.SetOp.TheVariants.{UnionAll, Union, Except}
use Rattle.sq_ast.specs.declared.query.QueryTree.{QueryTree}
use Rattle.sq_ast.specs.declared.query.StepTree.{StepTree}
use Rattle.sq_ast.specs.declared.query.ItemTree.{ItemTree}
use Rattle.sq_ast.specs.declared.query.ItemTree.TheVariants as item
use Rattle.sq_ast.specs.declared.query.JoinedTree.{JoinedTree}
use Rattle.sq_ast.specs.declared.query.JoinTree.{JoinTree}
use Rattle.sq_ast.specs.declared.query.JoinTree.TheVariants as join
use Rattle.sq_ast.specs.declared.query.SourceTree.{SourceTree}
use Rattle.sq_ast.specs.declared.query.SourceTree.TheVariants as source
use Rattle.sq_ast.specs.declared.statement.Statement.{Statement}
use Rattle.sq_ast.specs.declared.statement.Body.{Body}
use Rattle.sq_ast.specs.declared.statement.Body.TheVariants as body
use Rattle.sq_ast.specs.declared.statement.Flavour.{Flavour}
use Rattle.sq_ast.specs.declared.statement.Flavour.TheVariants.{Materialized, Local}
use Rattle.sq_ast.specs.declared.statement.ColumnTree.{ColumnTree}
use Rattle.sq_ast.specs.declared.statement.TypeName.{TypeName}
use Rattle.sq_ast.specs.declared.statement.TypeName.TheVariants as type
use Rattle.sq_ast.specs.Words as w
use Rattle.sq_ast.specs.Words.{Tokens, Text, is_token, is_reserved}
use Rattle.sq_ast.specs.Trees.{term, step, joined, block_of, sum_of, product_of, any_of, all_of, chain_of, intersect_of}
use Rattle.sq_ast.specs.Refusal.{Refusal, TooDeep, NotGrammar}
use Rattle.sq_ast.specs.Parser.{Parser, ◌>>=◌, ◌>>◌, ◌<$>◌, pure, refuse, sees, eat, expect, or_else, many, clause}

-- ---- single tokens

-- the answer for the next token, where there is one
abbrev pub by_token : {A : Type 0} → (TokenKind → Option A) → Parser A
by_token f [] = None
by_token f (t ∷ ts) = option_map (λ x. (x, ts)) (f t)

unfoldable pub name_of : TokenKind → Option Text
name_of (token.Name name) = Some name
name_of (token.Word word) = if is_reserved word then None else Some word
name_of _ = None

-- what the table says of the token
abbrev pub in_table : {A : Type 0} → List (TokenKind × A) → TokenKind → Option A
in_table [] t = None
in_table ((word, x) ∷ more) t = if is_token word t then Some x else in_table more t

abbrev pub functions : List (TokenKind × FuncTree)
functions = (w.COUNT, Count) ∷ (w.SUM, Sum) ∷ (w.MIN, Min) ∷ (w.MAX, Max) ∷ []

abbrev pub comparisons : List (TokenKind × CmpTree)
comparisons = (w.EQUAL, Eq) ∷ (w.NOT_EQUAL, Ne) ∷ (w.LESS, Lt) ∷ (w.LESS_EQUAL, Le) ∷ (w.GREATER, Gt) ∷ (w.GREATER_EQUAL, Ge) ∷ []

abbrev pub types : List (TokenKind × TypeName)
types = (w.INT, type.Int) ∷ (w.INTEGER, type.Integer) ∷ (w.BIGINT, type.Bigint) ∷ (w.VARCHAR, type.Varchar) ∷ (w.TEXT, type.Text) ∷ []

unfoldable pub function_of : TokenKind → Option FuncTree
function_of = in_table functions

unfoldable pub comparison_of : TokenKind → Option CmpTree
comparison_of = in_table comparisons

unfoldable pub type_of : TokenKind → Option TypeName
type_of = in_table types

-- ---- names

unfoldable pub name : Parser Text
name = by_token name_of

-- [ AS ] name
unfoldable pub alias : Parser Text
alias = eat w.AS >> name

-- [ [ AS ] name ]
unfoldable pub maybe_alias : Parser (Option Text)
maybe_alias = do
  found ← eat w.AS
  if found then Some <$> name else or_else (Some <$> name) (pure None)

unfoldable pub col_ref : Parser ColRef
col_ref = do
  first ← name
  dot ← eat w.DOT
  if dot then (λ second. record { qualifier = Some first; name = second }) <$> name else pure (record { qualifier = None; name = first })

-- ---- parentheses

-- the parsers one level of parentheses further in
pub record Inner : Type 0 where
  pub expr : Parser ExprTree
  pub cond : Parser CondTree
  pub query : Parser QueryTree

-- behind an opening parenthesis: up to the closing one
abbrev pub nested : {A : Type 0} → Parser A → Parser A
nested p = do
  x ← p
  expect w.RIGHT_PAREN
  pure x

-- ---- expressions and conditions

unfoldable pub count_all : FuncTree → Parser ExprTree
count_all Count = expect w.RIGHT_PAREN >> pure (expr.Call Count None)
count_all Sum = refuse
count_all Min = refuse
count_all Max = refuse

module _ (inner : Inner) where
  -- behind the opening parenthesis of a call
  unfoldable pub argument : FuncTree → Parser ExprTree
  argument f = do
    star ← eat w.STAR
    if star then count_all f else (λ e. expr.Call f (Some e)) <$> nested inner.expr

  abbrev pub column : Parser ExprTree
  column = expr.Column <$> col_ref

  abbrev pub call_or_column : TokenKind → Option FuncTree → Parser ExprTree
  call_or_column t None = λ ts. column (t ∷ ts)
  call_or_column t (Some f) = λ ts. if sees w.LEFT_PAREN ts then (eat w.LEFT_PAREN >> argument f) ts else column (t ∷ ts)

  unfoldable pub prim : Parser ExprTree
  prim [] = None
  prim (token.Number n ∷ ts) = Some (expr.Number n, ts)
  prim (token.Text s ∷ ts) = Some (expr.Text s, ts)
  prim (token.Name name ∷ ts) = column (token.Name name ∷ ts)
  prim (token.Word word ∷ ts) = call_or_column (token.Word word) (function_of (token.Word word)) ts
  prim (token.Symbol s ∷ ts) = if is_token w.LEFT_PAREN (token.Symbol s) then nested inner.expr ts else None

  unfoldable pub sign : Parser ExprTree
  sign = do
    minus ← eat w.MINUS
    if minus then expr.Neg <$> prim else prim

  unfoldable pub next_factor : Parser (Option ExprTree)
  next_factor = clause w.STAR sign

  unfoldable pub product : Parser ExprTree
  product = do
    first ← sign
    more ← many next_factor
    pure (product_of first more)

  unfoldable pub next_term : Parser (Option TermTree)
  next_term = do
    plus ← eat w.PLUS
    if plus
        then (λ e. Some (term false e)) <$> product
        else (do
          minus ← eat w.MINUS
          if minus then (λ e. Some (term true e)) <$> product else pure None)

  unfoldable pub sum : Parser ExprTree
  sum = do
    first ← product
    more ← many next_term
    pure (sum_of first more)

  -- IS [ NOT ] NULL
  unfoldable pub null_test : ExprTree → Parser CondTree
  null_test e = do
    expect w.IS
    negated ← eat w.NOT
    expect w.NULL
    pure (cond.Null e negated)

  abbrev pub compare_or_null : ExprTree → TokenKind → Option CmpTree → Parser CondTree
  compare_or_null left t None = λ ts. null_test left (t ∷ ts)
  compare_or_null left t (Some cmp) = cond.Compare cmp left <$> sum

  -- behind the left operand of a test
  unfoldable pub after_operand : ExprTree → Parser CondTree
  after_operand left [] = None
  after_operand left (t ∷ ts) = compare_or_null left t (comparison_of t) ts

  -- a condition in parentheses
  unfoldable pub nested_cond : Parser CondTree
  nested_cond = expect w.LEFT_PAREN >> nested inner.cond

  -- A parenthesis may open an operand or a condition: where no operand is read, a condition is.
  abbrev pub test_by : Option (ExprTree × Tokens) → Parser CondTree
  test_by None = nested_cond
  test_by (Some p) = λ _. after_operand p.0 p.1

  unfoldable pub one_test : Parser CondTree
  one_test = λ ts. test_by (sum ts) ts

  unfoldable pub neg : Parser CondTree
  neg = do
    negated ← eat w.NOT
    if negated then cond.Not <$> one_test else one_test

  unfoldable pub next_and : Parser (Option CondTree)
  next_and = clause w.AND neg

  unfoldable pub conj : Parser CondTree
  conj = do
    first ← neg
    more ← many next_and
    pure (all_of first more)

  unfoldable pub next_or : Parser (Option CondTree)
  next_or = clause w.OR conj

  unfoldable pub disj : Parser CondTree
  disj = do
    first ← conj
    more ← many next_or
    pure (any_of first more)

-- ---- parts of queries

-- a set operation, where one comes next
unfoldable pub set_op : Parser (Option SetOp)
set_op = do
  union ← eat w.UNION
  if union
      then (do
        all ← eat w.ALL
        if all then pure (Some UnionAll) else (eat w.DISTINCT >> pure (Some Union)))
      else (do
        except ← eat w.EXCEPT
        if except then (eat w.DISTINCT >> pure (Some Except)) else pure None)

-- SELECT [ DISTINCT | ALL ]
unfoldable pub select : Parser Bool
select = do
  expect w.SELECT
  distinct ← eat w.DISTINCT
  if distinct then pure true else (eat w.ALL >> pure false)

-- name "." "*"
unfoldable pub star_of : Parser ItemTree
star_of = do
  name ← name
  expect w.DOT
  expect w.STAR
  pure (item.StarOf name)

unfoldable pub next_col_ref : Parser (Option ColRef)
next_col_ref = clause w.COMMA col_ref

-- [ GROUP BY colref { "," colref } ]
unfoldable pub group_by : Parser (List ColRef)
group_by = do
  found ← eat w.GROUP
  if found
      then (do
        expect w.BY
        first ← col_ref
        more ← many next_col_ref
        pure (first ∷ more))
      else pure []

module _ (inner : Inner) where
  unfoldable pub computed_item : Parser ItemTree
  computed_item = do
    e ← sum inner
    alias ← maybe_alias
    pure (item.Expr e alias)

  unfoldable pub select_item : Parser ItemTree
  select_item = do
    star ← eat w.STAR
    if star then pure item.Star else or_else star_of computed_item

  unfoldable pub next_item : Parser (Option ItemTree)
  next_item = clause w.COMMA select_item

  unfoldable pub from_item : Parser SourceTree
  from_item = do
    paren ← eat w.LEFT_PAREN
    if paren
        then (do
          query ← nested inner.query
          source.Query query <$> alias)
        else (do
          name ← name
          source.Relation name <$> maybe_alias)

  abbrev pub every_pair : Parser (Option JoinedTree)
  every_pair = (λ s. Some (joined join.Comma s)) <$> from_item

  -- behind JOIN
  abbrev pub joined_on : (CondTree → JoinTree) → Parser (Option JoinedTree)
  joined_on how = do
    s ← from_item
    expect w.ON
    c ← disj inner
    pure (Some (joined (how c) s))

  abbrev pub left_join : Parser (Option JoinedTree)
  left_join = do
    found ← eat w.LEFT
    if found then (eat w.OUTER >> (expect w.JOIN >> joined_on join.Left)) else pure None

  abbrev pub inner_join : Parser (Option JoinedTree)
  inner_join = do
    found ← eat w.INNER
    if found then (expect w.JOIN >> joined_on join.Inner) else left_join

  abbrev pub plain_join : Parser (Option JoinedTree)
  plain_join = do
    found ← eat w.JOIN
    if found then joined_on join.Inner else inner_join

  abbrev pub cross_join : Parser (Option JoinedTree)
  cross_join = do
    found ← eat w.CROSS
    if found then (expect w.JOIN >> every_pair) else plain_join

  unfoldable pub next_joined : Parser (Option JoinedTree)
  next_joined = do
    found ← eat w.COMMA
    if found then every_pair else cross_join

  unfoldable pub block : Parser QueryTree
  block = do
    distinct ← select
    first ← select_item
    items ← many next_item
    expect w.FROM
    source ← from_item
    sources ← many next_joined
    filter ← clause w.WHERE (disj inner)
    group ← group_by
    having ← clause w.HAVING (disj inner)
    pure (block_of distinct (first ∷ items) (joined join.Comma source ∷ sources) filter group having)

  unfoldable pub operand : Parser QueryTree
  operand = do
    paren ← eat w.LEFT_PAREN
    if paren then nested inner.query else block

  unfoldable pub next_operand : Parser (Option QueryTree)
  next_operand = do
    found ← eat w.INTERSECT
    if found then (eat w.DISTINCT >> (Some <$> operand)) else pure None

  unfoldable pub intersection : Parser QueryTree
  intersection = do
    first ← operand
    more ← many next_operand
    pure (intersect_of first more)

  abbrev pub step_by : Option SetOp → Parser (Option StepTree)
  step_by None = pure None
  step_by (Some op) = (λ q. Some (step op q)) <$> intersection

  unfoldable pub next_step : Parser (Option StepTree)
  next_step = set_op >>= step_by

  unfoldable pub query_chain : Parser QueryTree
  query_chain = do
    first ← intersection
    more ← many next_step
    pure (chain_of first more)

-- the parsers that go so many levels of parentheses deep
unfoldable pub level : ℕ → Inner
level zero = record { expr = refuse; cond = refuse; query = refuse }
level (suc depth) = record { expr = sum (level depth); cond = disj (level depth); query = query_chain (level depth) }

-- ---- statements

-- [ NOT NULL | NULL ]
unfoldable pub nullness : Parser Bool
nullness = do
  null ← eat w.NULL
  if null
      then pure false
      else (do
        not ← eat w.NOT
        if not then (expect w.NULL >> pure true) else pure false)

unfoldable pub column_def : Parser ColumnTree
column_def = do
  name ← name
  kind ← by_token type_of
  not_null ← nullness
  pure (record { name = name; kind = kind; not_null = not_null })

unfoldable pub next_column_def : Parser (Option ColumnTree)
next_column_def = clause w.COMMA column_def

-- behind CREATE TABLE
unfoldable pub table : Parser Body
table = do
  name ← name
  expect w.LEFT_PAREN
  first ← column_def
  more ← many next_column_def
  expect w.RIGHT_PAREN
  pure (body.Table name (first ∷ more))

-- [ MATERIALIZED | LOCAL ]
unfoldable pub flavour : Parser (Option Flavour)
flavour = do
  materialized ← eat w.MATERIALIZED
  if materialized
      then pure (Some Materialized)
      else (do
        local ← eat w.LOCAL
        if local then pure (Some Local) else pure None)

module _ (inner : Inner) where
  -- behind CREATE
  unfoldable pub view : Parser Body
  view = do
    flavour ← flavour
    expect w.VIEW
    name ← name
    expect w.AS
    query ← query_chain inner
    pure (body.View name flavour query)

  unfoldable pub create : Parser Body
  create = do
    expect w.CREATE
    is_table ← eat w.TABLE
    if is_table then table else view

-- what was read, where no token is left
abbrev pub ended : {A : Type 0} → Option (A × Tokens) → Option A
ended None = None
ended (Some (x, [])) = Some x
ended (Some (x, t ∷ ts)) = None

-- the statement that all of the tokens spell; no level of parentheses is out of reach
unfoldable pub statement : Tokens → Option Body
statement ts = ended (create (level (length ts)) ts)

-- ---- programs

-- whether no front has more than 64 opening parentheses beyond its closing ones, behind so many of either
unfoldable pub is_shallow_from : ℕ → ℕ → Tokens → Bool
is_shallow_from left right [] = nat_le left (64 + right)
is_shallow_from left right (t ∷ ts) =
    nat_le left (64 + right) && is_shallow_from (if is_token w.LEFT_PAREN t then suc left else left) (if is_token w.RIGHT_PAREN t then suc right else right) ts

unfoldable pub is_shallow : Tokens → Bool
is_shallow ts = is_shallow_from 0 0 ts

abbrev pub onto_first : TokenKind → List Tokens → List Tokens
onto_first t [] = (t ∷ []) ∷ []
onto_first t (ts ∷ more) = (t ∷ ts) ∷ more

-- the tokens before, between and behind the semicolons
unfoldable pub pieces : Tokens → List Tokens
pieces [] = [] ∷ []
pieces (t ∷ ts) = if is_token w.SEMICOLON t then [] ∷ pieces ts else onto_first t (pieces ts)

abbrev pub numbered : ℕ → Option Body → Result (List Statement) Refusal
numbered n None = Err (NotGrammar n)
numbered n (Some b) = Ok (record { number = n; body = b } ∷ [])

-- the statement of one piece, where it has one, with its number
unfoldable pub place : ℕ → Tokens → Result (List Statement) Refusal
place n [] = Ok []
place n (t ∷ ts) = if is_shallow (t ∷ ts) then numbered n (statement (t ∷ ts)) else Err (TooDeep n)

abbrev pub both : Result (List Statement) Refusal → Result (List Statement) Refusal → Result (List Statement) Refusal
both (Ok found) (Ok more) = Ok (found ++ more)
both (Ok found) (Err why) = Err why
both (Err why) more = Err why

unfoldable pub places : ℕ → List Tokens → Result (List Statement) Refusal
places n [] = Ok []
places n (ts ∷ more) = both (place n ts) (places (suc n) more)

-- the statements that the tokens spell, or the first cause why they spell none
unfoldable pub program : Tokens → Result (List Statement) Refusal
program ts = places 1 (pieces ts)
