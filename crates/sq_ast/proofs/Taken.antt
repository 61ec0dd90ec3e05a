-- What is spelled is a front of the tokens: nothing is left over that was not there, and it holds no semicolon.
use Rattle.std.specs.Prelude.{◌≤◌, ◌<◌, Bool, List, ◌∷◌, length}
use Rattle.std.proofs.Common.{arith}
use Rattle.sq_token.specs.declared.token.TokenKind.{TokenKind}
use Rattle.sq_token.specs.declared.token.TokenKind.TheVariants as token
use Rattle.sq_token.specs.declared.symbol.Symbol.TheVariants as symbol
use Rattle.sq_ast.specs.declared.expr.ExprTree.{ExprTree}
use Rattle.sq_ast.specs.declared.expr.TermTree.{TermTree}
use Rattle.sq_ast.specs.declared.expr.FuncTree.{FuncTree}
use Rattle.sq_ast.specs.declared.cond.CondTree.{CondTree}
use Rattle.sq_ast.specs.declared.query.SetOp.{SetOp}
use Rattle.sq_ast.specs.declared.query.SourceTree.{SourceTree}
use Rattle.sq_ast.specs.declared.query.QueryTree.{QueryTree}
use Rattle.sq_ast.specs.declared.query.StepTree.{StepTree}
use Rattle.sq_ast.specs.declared.statement.Body.{Body}
use Rattle.sq_ast.specs.Words as w
use Rattle.sq_ast.specs.Words.{Tokens, Text}
use Rattle.sq_ast.specs.Spelling as s
use Rattle.sq_ast.specs.Spelling.{SpellsName, SpellsAlias, SpellsMaybeAlias, SpellsColRef, SpellsFunction, SpellsComparison, SpellsExpr, SpellsTerms, SpellsProduct, SpellsFactors, SpellsSign, SpellsPrim, SpellsCond, SpellsOrs, SpellsConj, SpellsAnds, SpellsNeg, SpellsTest, SpellsSetOp, SpellsIntersect, SpellsSelect, SpellsItem, SpellsItems, SpellsColRefs, SpellsWhere, SpellsGroup, SpellsHaving, SpellsComma, SpellsJoin, SpellsLeftJoin, SpellsQuery, SpellsSteps, SpellsTerm, SpellsOperands, SpellsOperand, SpellsSource, SpellsJoined, SpellsType, SpellsNullness, SpellsColumn, SpellsColumns, SpellsFlavour, SpellsBody}

abbrev pub NotSemicolon : TokenKind → Type 0
NotSemicolon (token.Symbol symbol.Semicolon) = ⊥
NotSemicolon _ = Unit {0}

-- the rest is what is left behind a front that holds no semicolon
pub data Taken : Tokens → Tokens → Type 0 where
  kept : {ts : Tokens} → Taken ts ts
  took : {t : TokenKind} {ts rest : Tokens} → NotSemicolon t → Taken ts rest → Taken (t ∷ ts) rest

pub onward : {ts mid rest : Tokens} → Taken ts mid → Taken mid rest → Taken ts rest
onward kept b = b
onward (took h a) b = took h (onward a b)

pub shorter : {ts rest : Tokens} → Taken ts rest → length rest ≤ length ts
shorter kept = omega arith
shorter (took h a) = let less = shorter a in omega arith

-- ---- names

pub name_taken : {t : TokenKind} {name : Text} → SpellsName t name → NotSemicolon t
name_taken s.quoted_name = tt
name_taken (s.word_name h) = tt

pub alias_taken : {ts rest : Tokens} {name : Text} → SpellsAlias ts name rest → Taken ts rest
alias_taken (s.bare_alias n) = took (name_taken n) kept
alias_taken (s.as_alias n) = took tt (took (name_taken n) kept)

pub maybe_alias_taken : {ts rest : Tokens} {name : _} → SpellsMaybeAlias ts name rest → Taken ts rest
maybe_alias_taken s.no_alias = kept
maybe_alias_taken (s.an_alias a) = alias_taken a

pub col_ref_taken : {ts rest : Tokens} {c : _} → SpellsColRef ts c rest → Taken ts rest
col_ref_taken (s.plain_column n) = took (name_taken n) kept
col_ref_taken (s.qualified_column n m) = took (name_taken n) (took tt (took (name_taken m) kept))

-- ---- expressions and conditions

function_taken : {t : TokenKind} {f : FuncTree} → SpellsFunction t f → NotSemicolon t
function_taken s.count_function = tt
function_taken s.sum_function = tt
function_taken s.min_function = tt
function_taken s.max_function = tt

comparison_taken : {t : TokenKind} {c : _} → SpellsComparison t c → NotSemicolon t
comparison_taken s.equal = tt
comparison_taken s.not_equal = tt
comparison_taken s.less = tt
comparison_taken s.less_equal = tt
comparison_taken s.greater = tt
comparison_taken s.greater_equal = tt

mutual
  pub expr_taken : {ts rest : Tokens} {e : ExprTree} → SpellsExpr ts e rest → Taken ts rest
  expr_taken (s.sum d ds) = onward (product_taken d) (terms_taken ds)

  pub terms_taken : {ts rest : Tokens} {es : List TermTree} → SpellsTerms ts es rest → Taken ts rest
  terms_taken s.no_term = kept
  terms_taken (s.added d ds) = took tt (onward (product_taken d) (terms_taken ds))
  terms_taken (s.subtracted d ds) = took tt (onward (product_taken d) (terms_taken ds))

  pub product_taken : {ts rest : Tokens} {e : ExprTree} → SpellsProduct ts e rest → Taken ts rest
  product_taken (s.product d ds) = onward (sign_taken d) (factors_taken ds)

  pub factors_taken : {ts rest : Tokens} {es : List ExprTree} → SpellsFactors ts es rest → Taken ts rest
  factors_taken s.no_factor = kept
  factors_taken (s.factor d ds) = took tt (onward (sign_taken d) (factors_taken ds))

  pub sign_taken : {ts rest : Tokens} {e : ExprTree} → SpellsSign ts e rest → Taken ts rest
  sign_taken (s.unsigned d) = prim_taken d
  sign_taken (s.negative d) = took tt (prim_taken d)

  pub prim_taken : {ts rest : Tokens} {e : ExprTree} → SpellsPrim ts e rest → Taken ts rest
  prim_taken s.number = took tt kept
  prim_taken s.text = took tt kept
  prim_taken (s.column d) = col_ref_taken d
  prim_taken s.count_all = took tt (took tt (took tt (took tt kept)))
  prim_taken (s.call f d) = took (function_taken f) (took tt (onward (expr_taken d) (took tt kept)))
  prim_taken (s.nested_expr d) = took tt (onward (expr_taken d) (took tt kept))

  pub cond_taken : {ts rest : Tokens} {c : CondTree} → SpellsCond ts c rest → Taken ts rest
  cond_taken (s.any d ds) = onward (conj_taken d) (ors_taken ds)

  pub ors_taken : {ts rest : Tokens} {cs : List CondTree} → SpellsOrs ts cs rest → Taken ts rest
  ors_taken s.no_or = kept
  ors_taken (s.or d ds) = took tt (onward (conj_taken d) (ors_taken ds))

  pub conj_taken : {ts rest : Tokens} {c : CondTree} → SpellsConj ts c rest → Taken ts rest
  conj_taken (s.all d ds) = onward (neg_taken d) (ands_taken ds)

  pub ands_taken : {ts rest : Tokens} {cs : List CondTree} → SpellsAnds ts cs rest → Taken ts rest
  ands_taken s.no_and = kept
  ands_taken (s.and d ds) = took tt (onward (neg_taken d) (ands_taken ds))

  pub neg_taken : {ts rest : Tokens} {c : CondTree} → SpellsNeg ts c rest → Taken ts rest
  neg_taken (s.positive d) = test_taken d
  neg_taken (s.negated d) = took tt (test_taken d)

  pub test_taken : {ts rest : Tokens} {c : CondTree} → SpellsTest ts c rest → Taken ts rest
  test_taken (s.compare d c g) = onward (expr_taken d) (took (comparison_taken c) (expr_taken g))
  test_taken (s.is_null d) = onward (expr_taken d) (took tt (took tt kept))
  test_taken (s.is_not_null d) = onward (expr_taken d) (took tt (took tt (took tt kept)))
  test_taken (s.nested_cond d) = took tt (onward (cond_taken d) (took tt kept))

-- ---- parts of queries

pub set_op_taken : {ts rest : Tokens} {op : _} → SpellsSetOp ts op rest → Taken ts rest
set_op_taken s.union = took tt kept
set_op_taken s.union_all = took tt (took tt kept)
set_op_taken s.union_distinct = took tt (took tt kept)
set_op_taken s.except = took tt kept
set_op_taken s.except_distinct = took tt (took tt kept)

pub intersect_taken : {ts rest : Tokens} → SpellsIntersect ts rest → Taken ts rest
intersect_taken s.intersect = took tt kept
intersect_taken s.intersect_distinct = took tt (took tt kept)

pub select_taken : {ts rest : Tokens} {b : Bool} → SpellsSelect ts b rest → Taken ts rest
select_taken s.select = took tt kept
select_taken s.select_all = took tt (took tt kept)
select_taken s.select_distinct = took tt (took tt kept)

pub item_taken : {ts rest : Tokens} {i : _} → SpellsItem ts i rest → Taken ts rest
item_taken s.star = took tt kept
item_taken (s.star_of n) = took (name_taken n) (took tt (took tt kept))
item_taken (s.computed d a) = onward (expr_taken d) (maybe_alias_taken a)

pub items_taken : {ts rest : Tokens} {is : _} → SpellsItems ts is rest → Taken ts rest
items_taken s.no_item = kept
items_taken (s.an_item d ds) = took tt (onward (item_taken d) (items_taken ds))

pub col_refs_taken : {ts rest : Tokens} {cs : _} → SpellsColRefs ts cs rest → Taken ts rest
col_refs_taken s.no_column = kept
col_refs_taken (s.a_column d ds) = took tt (onward (col_ref_taken d) (col_refs_taken ds))

pub where_taken : {ts rest : Tokens} {c : _} → SpellsWhere ts c rest → Taken ts rest
where_taken s.no_where = kept
where_taken (s.a_where d) = took tt (cond_taken d)

pub group_taken : {ts rest : Tokens} {cs : _} → SpellsGroup ts cs rest → Taken ts rest
group_taken s.no_group = kept
group_taken (s.a_group d ds) = took tt (took tt (onward (col_ref_taken d) (col_refs_taken ds)))

pub having_taken : {ts rest : Tokens} {c : _} → SpellsHaving ts c rest → Taken ts rest
having_taken s.no_having = kept
having_taken (s.a_having d) = took tt (cond_taken d)

pub comma_taken : {ts rest : Tokens} → SpellsComma ts rest → Taken ts rest
comma_taken s.comma = took tt kept
comma_taken s.cross_join = took tt (took tt kept)

pub join_taken : {ts rest : Tokens} → SpellsJoin ts rest → Taken ts rest
join_taken s.plain_join = took tt kept
join_taken s.inner_join = took tt (took tt kept)

pub left_join_taken : {ts rest : Tokens} → SpellsLeftJoin ts rest → Taken ts rest
left_join_taken s.left_join = took tt (took tt kept)
left_join_taken s.left_outer_join = took tt (took tt (took tt kept))

-- ---- queries

mutual
  pub query_taken : {ts rest : Tokens} {q : QueryTree} → SpellsQuery ts q rest → Taken ts rest
  query_taken (s.chain d ds) = onward (term_taken d) (steps_taken ds)

  pub steps_taken : {ts rest : Tokens} {qs : List StepTree} → SpellsSteps ts qs rest → Taken ts rest
  steps_taken s.no_step = kept
  steps_taken (s.a_step o d ds) = onward (set_op_taken o) (onward (term_taken d) (steps_taken ds))

  pub term_taken : {ts rest : Tokens} {q : QueryTree} → SpellsTerm ts q rest → Taken ts rest
  term_taken (s.intersection d ds) = onward (operand_taken d) (operands_taken ds)

  pub operands_taken : {ts rest : Tokens} {qs : List QueryTree} → SpellsOperands ts qs rest → Taken ts rest
  operands_taken s.no_operand = kept
  operands_taken (s.an_operand o d ds) = onward (intersect_taken o) (onward (operand_taken d) (operands_taken ds))

  pub operand_taken : {ts rest : Tokens} {q : QueryTree} → SpellsOperand ts q rest → Taken ts rest
  operand_taken (s.block sel e ds d j f g h) =
      onward (select_taken sel) (onward (item_taken e) (onward (items_taken ds) (took tt (onward (source_taken d)
      (onward (joined_taken j) (onward (where_taken f) (onward (group_taken g) (having_taken h))))))))
  operand_taken (s.nested_query d) = took tt (onward (query_taken d) (took tt kept))

  pub source_taken : {ts rest : Tokens} {q : _} → SpellsSource ts q rest → Taken ts rest
  source_taken (s.relation n a) = took (name_taken n) (maybe_alias_taken a)
  source_taken (s.derived d a) = took tt (onward (query_taken d) (took tt (alias_taken a)))

  pub joined_taken : {ts rest : Tokens} {js : _} → SpellsJoined ts js rest → Taken ts rest
  joined_taken s.no_source = kept
  joined_taken (s.every_pair c d ds) = onward (comma_taken c) (onward (source_taken d) (joined_taken ds))
  joined_taken (s.inner c d g ds) = onward (join_taken c) (onward (source_taken d) (took tt (onward (cond_taken g) (joined_taken ds))))
  joined_taken (s.left c d g ds) = onward (left_join_taken c) (onward (source_taken d) (took tt (onward (cond_taken g) (joined_taken ds))))

-- ---- statements

type_taken : {t : TokenKind} {k : _} → SpellsType t k → NotSemicolon t
type_taken s.int = tt
type_taken s.integer = tt
type_taken s.bigint = tt
type_taken s.varchar = tt
type_taken s.text_type = tt

nullness_taken : {ts rest : Tokens} {b : Bool} → SpellsNullness ts b rest → Taken ts rest
nullness_taken s.unsaid = kept
nullness_taken s.nullable = took tt kept
nullness_taken s.not_null = took tt (took tt kept)

pub column_taken : {ts rest : Tokens} {c : _} → SpellsColumn ts c rest → Taken ts rest
column_taken (s.column_of n k d) = took (name_taken n) (took (type_taken k) (nullness_taken d))

pub columns_taken : {ts rest : Tokens} {cs : _} → SpellsColumns ts cs rest → Taken ts rest
columns_taken s.no_columns = kept
columns_taken (s.more_columns d ds) = took tt (onward (column_taken d) (columns_taken ds))

pub flavour_taken : {ts rest : Tokens} {f : _} → SpellsFlavour ts f rest → Taken ts rest
flavour_taken s.no_flavour = kept
flavour_taken s.materialized = took tt kept
flavour_taken s.local = took tt kept

pub body_taken : {ts rest : Tokens} {b : Body} → SpellsBody ts b rest → Taken ts rest
body_taken (s.table n d ds) = took tt (took tt (took (name_taken n) (took tt (onward (column_taken d) (onward (columns_taken ds) (took tt kept))))))
body_taken (s.view f n d) = took tt (onward (flavour_taken f) (took tt (took (name_taken n) (took tt (query_taken d)))))

-- ---- two parts at once

-- a source and its condition
pub on_taken : {us on mid : Tokens} {q : SourceTree} {c : CondTree} → SpellsSource us q (w.ON ∷ on) → SpellsCond on c mid → Taken us mid
on_taken g k = onward (source_taken g) (took tt (cond_taken k))

-- a set operation takes a token
pub set_op_takes : {ts us mid : Tokens} {op : SetOp} → SpellsSetOp ts op us → Taken us mid → length mid < length ts
set_op_takes s.union taken = let less = shorter taken in omega arith
set_op_takes s.union_all taken = let less = shorter taken in omega arith
set_op_takes s.union_distinct taken = let less = shorter taken in omega arith
set_op_takes s.except taken = let less = shorter taken in omega arith
set_op_takes s.except_distinct taken = let less = shorter taken in omega arith
