-- What is read is spelled.
use Rattle.std.specs.Prelude.{◌≡◌, ℕ, zero, suc, Bool, true, false, if◌then◌else◌, [], ◌∷◌, length, Option, Some, None, refl}
use Rattle.std.proofs.Common.{sym, ap, subst}
use Rattle.sq_token.specs.declared.token.TokenKind.{TokenKind}
use Rattle.sq_token.specs.declared.token.TokenKind.TheVariants as token
use Rattle.sq_ast.specs.declared.expr.ExprTree.{ExprTree}
use Rattle.sq_ast.specs.declared.expr.ExprTree.TheVariants as expr
use Rattle.sq_ast.specs.declared.expr.FuncTree.{FuncTree}
use Rattle.sq_ast.specs.declared.expr.FuncTree.TheVariants.{Count, Sum, Min, Max}
use Rattle.sq_ast.specs.declared.cond.CondTree.{CondTree}
use Rattle.sq_ast.specs.declared.cond.CondTree.TheVariants as condition
use Rattle.sq_ast.specs.declared.cond.CmpTree.{CmpTree}
use Rattle.sq_ast.specs.declared.query.SetOp.{SetOp}
use Rattle.sq_ast.specs.declared.query.JoinTree.TheVariants as join
use Rattle.sq_ast.specs.declared.query.SourceTree.TheVariants as source
use Rattle.sq_ast.specs.declared.statement.Body.{Body}
use Rattle.sq_ast.specs.declared.statement.Body.TheVariants as body
use Rattle.sq_ast.specs.declared.statement.TypeName.{TypeName}
use Rattle.sq_ast.specs.Words as w
use Rattle.sq_ast.specs.Words.{Tokens, Text, is_token, is_reserved}
use Rattle.sq_ast.specs.Trees.{term, step, joined, block_of, sum_of, product_of, any_of, all_of, chain_of, intersect_of}
use Rattle.sq_ast.specs.Spelling as s
use Rattle.sq_ast.specs.Spelling.{SpellsName, SpellsAlias, SpellsMaybeAlias, SpellsColRef, SpellsFunction, SpellsComparison, SpellsExpr, SpellsTerms, SpellsProduct, SpellsFactors, SpellsSign, SpellsPrim, SpellsCond, SpellsOrs, SpellsConj, SpellsAnds, SpellsNeg, SpellsTest, SpellsSetOp, SpellsIntersect, SpellsSelect, SpellsItem, SpellsItems, SpellsColRefs, SpellsWhere, SpellsGroup, SpellsHaving, SpellsComma, SpellsJoin, SpellsLeftJoin, SpellsQuery, SpellsSteps, SpellsTerm, SpellsOperands, SpellsOperand, SpellsSource, SpellsJoined, SpellsNullness, SpellsColumn, SpellsColumns, SpellsFlavour, SpellsBody}
use Rattle.sq_ast.specs.Parser.{Parser, and_then, go_on, sees, after, clause}
use Rattle.sq_ast.specs.Reading as r
use Rattle.sq_ast.specs.Reading.{Inner, name_of, function_of, comparison_of, type_of, in_table, functions, comparisons, types, call_or_column, compare_or_null, test_by}
use Rattle.sq_ast.proofs.TokenLemmas.{is_same}
use Rattle.sq_ast.proofs.ParserLemmas.{Shape, Yields, Adds, seen, y_pure, y_refuse, y_bind, y_map, y_eat, y_expect, y_maybe, y_flag, y_token, y_last, y_nested, y_or, y_weaken, y_many, y_clause, by_lines}

-- ---- single tokens

name_cases : (word : Text) (name : Text) (b : Bool) → is_reserved word ≡ b → (if b then None else Some word) ≡ Some name → SpellsName (token.Word word) name
name_cases word name true was e = cc
name_cases word name false was e = let same : word ≡ name = cc in subst (λ n. SpellsName (token.Word word) n) same (s.word_name was)

pub name_sound : (t : TokenKind) (name : Text) → name_of t ≡ Some name → SpellsName t name
unfolding name_of
name_sound (token.Name n) name e = let same : n ≡ name = cc in subst (λ m. SpellsName (token.Name n) m) same s.quoted_name
name_sound (token.Word word) name e = name_cases word name (is_reserved word) refl e
name_sound (token.Text _) name e = cc
name_sound (token.Number _) name e = cc
name_sound (token.Symbol _) name e = cc

pub function_sound : (t : TokenKind) (f : FuncTree) → function_of t ≡ Some f → SpellsFunction t f
unfolding function_of
function_sound = by_lines SpellsFunction functions (s.count_function, (s.sum_function, (s.min_function, (s.max_function, tt))))

pub comparison_sound : (t : TokenKind) (c : CmpTree) → comparison_of t ≡ Some c → SpellsComparison t c
unfolding comparison_of
comparison_sound = by_lines SpellsComparison comparisons (s.equal, (s.not_equal, (s.less, (s.less_equal, (s.greater, (s.greater_equal, tt))))))

pub type_sound : (t : TokenKind) (k : TypeName) → type_of t ≡ Some k → s.SpellsType t k
unfolding type_of
type_sound = by_lines s.SpellsType types (s.int, (s.integer, (s.bigint, (s.varchar, (s.text_type, tt)))))

-- ---- names

pub y_name : {B : Type 0} {Q : Shape B} {f : Text → Parser B} →
    ((x : Text) → Yields (λ mid y rest. (t : TokenKind) → SpellsName t x → Q (t ∷ mid) y rest) (f x)) → Yields Q (λ ts. and_then (r.name ts) f)
unfolding r.name
y_name {B} {Q} {f} next = y_token name_of name_sound next

pub y_last_name : {Q : Shape Text} → ((t : TokenKind) (x : Text) → SpellsName t x → (rest : Tokens) → Q (t ∷ rest) x rest) → Yields Q r.name
unfolding r.name
y_last_name h = y_last name_of (λ t x e. h t x (name_sound t x e))

pub alias_sound : Yields SpellsAlias r.alias
unfolding r.alias
alias_sound = y_maybe w.AS (y_last_name (λ t x n rest. s.as_alias n)) (y_last_name (λ t x n rest. s.bare_alias n))

pub maybe_alias_sound : Yields SpellsMaybeAlias r.maybe_alias
unfolding r.maybe_alias
maybe_alias_sound =
    y_eat w.AS (y_name (λ x. y_pure (λ rest t n. s.an_alias (s.as_alias n)))) (y_or (y_name (λ x. y_pure (λ rest t n. s.an_alias (s.bare_alias n)))) (y_pure (λ ts. s.no_alias)))

pub col_ref_sound : Yields SpellsColRef r.col_ref
unfolding r.col_ref
col_ref_sound = y_name (λ first. y_eat w.DOT (y_name (λ second. y_pure (λ rest u m t n. s.qualified_column n m))) (y_pure (λ rest t n. s.plain_column n)))

-- ---- expressions and conditions

-- the parsers of the next depth read only what is spelled
pub record Sound (inner : Inner) : Type 0 where
  pub expr : Yields SpellsExpr inner.expr
  pub cond : Yields SpellsCond inner.cond
  pub query : Yields SpellsQuery inner.query

count_only : (t : TokenKind) (rest : Tokens) → SpellsFunction t Count → SpellsPrim (t ∷ w.LEFT_PAREN ∷ w.STAR ∷ w.RIGHT_PAREN ∷ rest) (expr.Call Count None) rest
count_only _ rest s.count_function = s.count_all

count_all_sound : (f : FuncTree) → Yields (λ ts e rest. (t : TokenKind) → SpellsFunction t f → SpellsPrim (t ∷ w.LEFT_PAREN ∷ w.STAR ∷ ts) e rest) (r.count_all f)
unfolding r.count_all
count_all_sound Count = y_expect w.RIGHT_PAREN (y_pure (λ rest t d. count_only t rest d))
count_all_sound Sum = y_refuse
count_all_sound Min = y_refuse
count_all_sound Max = y_refuse

module _ (inner : Inner) (sound : Sound inner) where
  argument_sound : (f : FuncTree) → Yields (λ ts e rest. (t : TokenKind) → SpellsFunction t f → SpellsPrim (t ∷ w.LEFT_PAREN ∷ ts) e rest) (r.argument inner f)
  unfolding r.argument
  argument_sound f = y_eat w.STAR (count_all_sound f) (y_map (λ e. expr.Call f (Some e)) (y_nested sound.expr) (λ ts e rest d t name. s.call name d))

  column_at : (ts : Tokens) (e : ExprTree) (rest : Tokens) → r.column inner ts ≡ Some (e, rest) → SpellsPrim ts e rest
  column_at ts e rest h = (y_map {P = SpellsColRef} {Q = SpellsPrim} expr.Column col_ref_sound (λ ts c rest d. s.column d)).run ts e rest h

  call_at : (t : TokenKind) (f : FuncTree) (ts : Tokens) (e : ExprTree) (rest : Tokens) (b : Bool) → SpellsFunction t f → sees w.LEFT_PAREN ts ≡ b →
      (if b then r.argument inner f (after w.LEFT_PAREN ts) else r.column inner (t ∷ ts)) ≡ Some (e, rest) → SpellsPrim (t ∷ ts) e rest
  call_at t f ts e rest true name was h =
      subst (λ us. SpellsPrim (t ∷ us) e rest) (sym (seen w.LEFT_PAREN ts was)) ((argument_sound f).run (after w.LEFT_PAREN ts) e rest h t name)
  call_at t f ts e rest false name was h = column_at (t ∷ ts) e rest h

  word_at : (t : TokenKind) (o : Option FuncTree) (ts : Tokens) (e : ExprTree) (rest : Tokens) → function_of t ≡ o → call_or_column inner t o ts ≡ Some (e, rest) → SpellsPrim (t ∷ ts) e rest
  word_at t None ts e rest was h = column_at (t ∷ ts) e rest h
  word_at t (Some f) ts e rest was h = call_at t f ts e rest (sees w.LEFT_PAREN ts) (function_sound t f was) refl h

  paren_at : (t : TokenKind) (ts : Tokens) (e : ExprTree) (rest : Tokens) (b : Bool) → is_token w.LEFT_PAREN t ≡ b →
      (if b then r.nested inner.expr ts else None) ≡ Some (e, rest) → SpellsPrim (t ∷ ts) e rest
  paren_at t ts e rest true was h =
      subst (λ u. SpellsPrim (u ∷ ts) e rest) (sym (is_same w.LEFT_PAREN t was))
      ((y_weaken {Q = λ us x more. SpellsPrim (w.LEFT_PAREN ∷ us) x more} (λ us x more d. s.nested_expr d) (y_nested sound.expr)).run ts e rest h)
  paren_at t ts e rest false was h = cc

  prim_at : (ts : Tokens) (e : ExprTree) (rest : Tokens) → r.prim inner ts ≡ Some (e, rest) → SpellsPrim ts e rest
  unfolding r.prim
  prim_at [] e rest h = cc
  prim_at (token.Number n ∷ ts) e rest h = (y_pure {P = λ us x rest. SpellsPrim (token.Number n ∷ us) x rest} {x = expr.Number n} (λ us. s.number)).run ts e rest h
  prim_at (token.Text t ∷ ts) e rest h = (y_pure {P = λ us x rest. SpellsPrim (token.Text t ∷ us) x rest} {x = expr.Text t} (λ us. s.text)).run ts e rest h
  prim_at (token.Name name ∷ ts) e rest h = column_at (token.Name name ∷ ts) e rest h
  prim_at (token.Word word ∷ ts) e rest h = word_at (token.Word word) (function_of (token.Word word)) ts e rest refl h
  prim_at (token.Symbol symbol ∷ ts) e rest h = paren_at (token.Symbol symbol) ts e rest (is_token w.LEFT_PAREN (token.Symbol symbol)) refl h

  prim_sound : Yields SpellsPrim (r.prim inner)
  prim_sound = record { run = prim_at }

  sign_sound : Yields SpellsSign (r.sign inner)
  unfolding r.sign
  sign_sound = y_eat w.MINUS (y_map expr.Neg prim_sound (λ ts e rest d. s.negative d)) (y_weaken (λ ts e rest d. s.unsigned d) prim_sound)

  pub factors_sound : Yields (Adds SpellsFactors) (r.next_factor inner)
  unfolding r.next_factor
  factors_sound = y_clause w.STAR sign_sound (λ ts mid rest e more d ds. s.factor d ds)

  product_sound : Yields SpellsProduct (r.product inner)
  unfolding r.product
  product_sound = y_bind sign_sound (λ first. y_map (product_of first) (y_many (λ ts. s.no_factor) factors_sound) (λ mid more rest ds ts d. s.product d ds))

  pub terms_sound : Yields (Adds SpellsTerms) (r.next_term inner)
  unfolding r.next_term
  terms_sound = y_eat w.PLUS (y_map (λ e. Some (term false e)) product_sound (λ ts e mid d more rest ds. s.added d ds))
      (y_eat w.MINUS (y_map (λ e. Some (term true e)) product_sound (λ ts e mid d more rest ds. s.subtracted d ds)) (y_pure (λ ts. refl)))

  pub sum_sound : Yields SpellsExpr (r.sum inner)
  unfolding r.sum
  sum_sound = y_bind product_sound (λ first. y_map (sum_of first) (y_many (λ ts. s.no_term) terms_sound) (λ mid more rest ds ts d. s.sum d ds))

  null_sound : (e : ExprTree) → Yields (λ ts c rest. (us : Tokens) → SpellsExpr us e ts → SpellsTest us c rest) (r.null_test inner e)
  unfolding r.null_test
  null_sound e = y_expect w.IS (y_flag w.NOT (λ negated ts. and_then (go_on (sees w.NULL ts) (after w.NULL ts)) (λ _ rest. Some (condition.Null e negated, rest)))
      (y_expect w.NULL (y_pure (λ rest us d. s.is_not_null d))) (y_expect w.NULL (y_pure (λ rest us d. s.is_null d))))

  -- what stands behind the left operand makes it a test
  After : ExprTree → Tokens → CondTree → Tokens → Type 0
  After left ts c rest = (us : Tokens) → SpellsExpr us left ts → SpellsTest us c rest

  compare_at : (left : ExprTree) (t : TokenKind) (o : Option CmpTree) (ts : Tokens) (c : CondTree) (rest : Tokens) → comparison_of t ≡ o →
      compare_or_null inner left t o ts ≡ Some (c, rest) → After left (t ∷ ts) c rest
  unfolding After
  compare_at left t None ts c rest was h = (null_sound left).run (t ∷ ts) c rest h
  compare_at left t (Some cmp) ts c rest was h =
      (y_map {P = SpellsExpr} {Q = λ us x more. (vs : Tokens) → SpellsExpr vs left (t ∷ us) → SpellsTest vs x more} (λ right. condition.Compare cmp left right) sum_sound
      (λ us right more d vs g. s.compare g (comparison_sound t cmp was) d)).run ts c rest h

  operand_at : (left : ExprTree) (ts : Tokens) (c : CondTree) (rest : Tokens) → r.after_operand inner left ts ≡ Some (c, rest) → After left ts c rest
  unfolding r.after_operand
  operand_at left [] c rest h = cc
  operand_at left (t ∷ ts) c rest h = compare_at left t (comparison_of t) ts c rest refl h

  nested_cond_sound : Yields SpellsTest (r.nested_cond inner)
  unfolding r.nested_cond
  nested_cond_sound = y_expect w.LEFT_PAREN (y_weaken (λ ts c rest d. s.nested_cond d) (y_nested sound.cond))

  test_at : (ts : Tokens) (o : Option (ExprTree × Tokens)) (c : CondTree) (rest : Tokens) → r.sum inner ts ≡ o → test_by inner o ts ≡ Some (c, rest) → SpellsTest ts c rest
  unfolding After
  test_at ts None c rest was h = nested_cond_sound.run ts c rest h
  test_at ts (Some (left, mid)) c rest was h = operand_at left mid c rest h ts (sum_sound.run ts left mid was)

  test_sound : Yields SpellsTest (r.one_test inner)
  unfolding r.one_test
  test_sound = record { run = λ ts c rest h. test_at ts (r.sum inner ts) c rest refl h }

  neg_sound : Yields SpellsNeg (r.neg inner)
  unfolding r.neg
  neg_sound = y_eat w.NOT (y_map condition.Not test_sound (λ ts c rest d. s.negated d)) (y_weaken (λ ts c rest d. s.positive d) test_sound)

  pub ands_sound : Yields (Adds SpellsAnds) (r.next_and inner)
  unfolding r.next_and
  ands_sound = y_clause w.AND neg_sound (λ ts mid rest c more d ds. s.and d ds)

  conj_sound : Yields SpellsConj (r.conj inner)
  unfolding r.conj
  conj_sound = y_bind neg_sound (λ first. y_map (all_of first) (y_many (λ ts. s.no_and) ands_sound) (λ mid more rest ds ts d. s.all d ds))

  pub ors_sound : Yields (Adds SpellsOrs) (r.next_or inner)
  unfolding r.next_or
  ors_sound = y_clause w.OR conj_sound (λ ts mid rest c more d ds. s.or d ds)

  pub disj_sound : Yields SpellsCond (r.disj inner)
  unfolding r.disj
  disj_sound = y_bind conj_sound (λ first. y_map (any_of first) (y_many (λ ts. s.no_or) ors_sound) (λ mid more rest ds ts d. s.any d ds))

-- ---- parts of queries

abbrev pub MaybeOp : Tokens → Option SetOp → Tokens → Type 0
MaybeOp ts None rest = ts ≡ rest
MaybeOp ts (Some op) rest = SpellsSetOp ts op rest

set_op_sound : Yields MaybeOp r.set_op
unfolding r.set_op
set_op_sound = y_eat w.UNION (y_eat w.ALL (y_pure (λ ts. s.union_all)) (y_maybe w.DISTINCT (y_pure (λ ts. s.union_distinct)) (y_pure (λ ts. s.union))))
    (y_eat w.EXCEPT (y_maybe w.DISTINCT (y_pure (λ ts. s.except_distinct)) (y_pure (λ ts. s.except))) (y_pure (λ ts. refl)))

select_sound : Yields SpellsSelect r.select
unfolding r.select
select_sound = y_expect w.SELECT (y_eat w.DISTINCT (y_pure (λ ts. s.select_distinct)) (y_maybe w.ALL (y_pure (λ ts. s.select_all)) (y_pure (λ ts. s.select))))

star_of_sound : Yields SpellsItem r.star_of
unfolding r.star_of
star_of_sound = y_name (λ name. y_expect w.DOT (y_expect w.STAR (y_pure (λ rest t n. s.star_of n))))

pub col_refs_sound : Yields (Adds SpellsColRefs) r.next_col_ref
unfolding r.next_col_ref
col_refs_sound = y_clause w.COMMA col_ref_sound (λ ts mid rest c more d ds. s.a_column d ds)

group_sound : Yields SpellsGroup r.group_by
unfolding r.group_by
group_sound = y_eat w.GROUP (y_expect w.BY (y_bind col_ref_sound (λ first. y_map (λ more. first ∷ more) (y_many (λ ts. s.no_column) col_refs_sound) (λ mid more rest ds ts d. s.a_group d ds))))
    (y_pure (λ ts. s.no_group))

module _ (inner : Inner) (sound : Sound inner) where
  computed_sound : Yields SpellsItem (r.computed_item inner)
  unfolding r.computed_item
  computed_sound = y_bind (sum_sound inner sound) (λ e. y_bind maybe_alias_sound (λ alias. y_pure (λ rest mid a ts d. s.computed d a)))

  item_sound : Yields SpellsItem (r.select_item inner)
  unfolding r.select_item
  item_sound = y_eat w.STAR (y_pure (λ ts. s.star)) (y_or star_of_sound computed_sound)

  pub items_sound : Yields (Adds SpellsItems) (r.next_item inner)
  unfolding r.next_item
  items_sound = y_clause w.COMMA item_sound (λ ts mid rest c more d ds. s.an_item d ds)

  source_sound : Yields SpellsSource (r.from_item inner)
  unfolding r.from_item
  source_sound = y_eat w.LEFT_PAREN
      (y_bind (y_nested sound.query) (λ q. y_map (λ a. source.Query q a) alias_sound (λ mid a rest g ts d. s.derived d g)))
      (y_name (λ name. y_map (λ a. source.Relation name a) maybe_alias_sound (λ mid a rest g t n. s.relation n g)))

  pairs_sound : (front : Tokens → Tokens) → ((us : Tokens) → SpellsComma (front us) us) → Yields (λ us o mid. Adds SpellsJoined (front us) o mid) (r.every_pair inner)
  pairs_sound front comma = y_map (λ from. Some (joined join.Comma from)) source_sound (λ us from mid d more rest ds. s.every_pair (comma us) d ds)

  inner_sound : (front : Tokens → Tokens) → ((us : Tokens) → SpellsJoin (front us) us) → Yields (λ us o mid. Adds SpellsJoined (front us) o mid) (r.joined_on inner join.Inner)
  inner_sound front joins = y_bind source_sound (λ from. y_expect w.ON (y_map (λ c. Some (joined (join.Inner c) from)) (disj_sound inner sound)
      (λ on c mid d us g more rest ds. s.inner (joins us) g d ds)))

  left_sound : (front : Tokens → Tokens) → ((us : Tokens) → SpellsLeftJoin (front us) us) → Yields (λ us o mid. Adds SpellsJoined (front us) o mid) (r.joined_on inner join.Left)
  left_sound front joins = y_bind source_sound (λ from. y_expect w.ON (y_map (λ c. Some (joined (join.Left c) from)) (disj_sound inner sound)
      (λ on c mid d us g more rest ds. s.left (joins us) g d ds)))

  pub joined_sound : Yields (Adds SpellsJoined) (r.next_joined inner)
  unfolding r.next_joined
  joined_sound =
      y_eat w.COMMA (pairs_sound (λ us. w.COMMA ∷ us) (λ us. s.comma))
      (y_eat w.CROSS (y_expect w.JOIN (pairs_sound (λ us. w.CROSS ∷ w.JOIN ∷ us) (λ us. s.cross_join)))
      (y_eat w.JOIN (inner_sound (λ us. w.JOIN ∷ us) (λ us. s.plain_join))
      (y_eat w.INNER (y_expect w.JOIN (inner_sound (λ us. w.INNER ∷ w.JOIN ∷ us) (λ us. s.inner_join)))
      (y_eat w.LEFT
      (y_maybe w.OUTER (y_expect w.JOIN (left_sound (λ us. w.LEFT ∷ w.OUTER ∷ w.JOIN ∷ us) (λ us. s.left_outer_join)))
      (y_expect w.JOIN (left_sound (λ us. w.LEFT ∷ w.JOIN ∷ us) (λ us. s.left_join))))
      (y_pure (λ ts. refl))))))

  where_sound : Yields SpellsWhere (clause w.WHERE (r.disj inner))
  where_sound = y_eat w.WHERE (y_map Some (disj_sound inner sound) (λ ts c rest d. s.a_where d)) (y_pure (λ ts. s.no_where))

  having_sound : Yields SpellsHaving (clause w.HAVING (r.disj inner))
  having_sound = y_eat w.HAVING (y_map Some (disj_sound inner sound) (λ ts c rest d. s.a_having d)) (y_pure (λ ts. s.no_having))

  block_sound : Yields SpellsOperand (r.block inner)
  unfolding r.block
  block_sound =
      y_bind select_sound (λ distinct.
      y_bind item_sound (λ i.
      y_bind (y_many (λ ts. s.no_item) items_sound) (λ is.
      y_expect w.FROM (
      y_bind source_sound (λ from.
      y_bind (y_many (λ ts. s.no_source) joined_sound) (λ js.
      y_bind where_sound (λ filter.
      y_bind group_sound (λ group.
      y_map (λ having. block_of distinct (i ∷ is) (joined join.Comma from ∷ js) filter group having) having_sound
      (λ had having rest h grouped g filtered f more_sources j sources d more_items ds items e ts sel. s.block sel e ds d j f g h)))))))))

  operand_sound : Yields SpellsOperand (r.operand inner)
  unfolding r.operand
  operand_sound = y_eat w.LEFT_PAREN (y_weaken (λ ts q rest d. s.nested_query d) (y_nested sound.query)) block_sound

  pub operands_sound : Yields (Adds SpellsOperands) (r.next_operand inner)
  unfolding r.next_operand
  operands_sound = y_eat w.INTERSECT
      (y_flag w.DISTINCT (λ _ ts. and_then (r.operand inner ts) (λ q rest. Some (Some q, rest)))
      (y_map Some operand_sound (λ us q mid d more rest ds. s.an_operand s.intersect_distinct d ds))
      (y_map Some operand_sound (λ us q mid d more rest ds. s.an_operand s.intersect d ds)))
      (y_pure (λ ts. refl))

  intersection_sound : Yields SpellsTerm (r.intersection inner)
  unfolding r.intersection
  intersection_sound = y_bind operand_sound (λ first. y_map (intersect_of first) (y_many (λ ts. s.no_operand) operands_sound) (λ mid more rest ds ts d. s.intersection d ds))

  steps_by : (o : Option SetOp) → Yields (λ us found mid. (ts : Tokens) → MaybeOp ts o us → Adds SpellsSteps ts found mid) (r.step_by inner o)
  steps_by None = y_pure (λ rest ts same. same)
  steps_by (Some op) = y_map (λ q. Some (step op q)) intersection_sound (λ us q mid d ts o more rest ds. s.a_step o d ds)

  pub steps_sound : Yields (Adds SpellsSteps) (r.next_step inner)
  unfolding r.next_step
  steps_sound = y_bind set_op_sound steps_by

  pub query_sound : Yields SpellsQuery (r.query_chain inner)
  unfolding r.query_chain
  query_sound = y_bind intersection_sound (λ first. y_map (chain_of first) (y_many (λ ts. s.no_step) steps_sound) (λ mid more rest ds ts d. s.chain d ds))

-- whatever the depth, only what is spelled is read
pub level_sound : (depth : ℕ) → Sound (r.level depth)
unfolding r.level
level_sound zero = record { expr = y_refuse; cond = y_refuse; query = y_refuse }
level_sound (suc depth) =
    let deeper = level_sound depth in
    record { expr = sum_sound (r.level depth) deeper; cond = disj_sound (r.level depth) deeper; query = query_sound (r.level depth) deeper }

-- ---- statements

nullness_sound : Yields SpellsNullness r.nullness
unfolding r.nullness
nullness_sound = y_eat w.NULL (y_pure (λ ts. s.nullable)) (y_eat w.NOT (y_expect w.NULL (y_pure (λ ts. s.not_null))) (y_pure (λ ts. s.unsaid)))

column_sound : Yields SpellsColumn r.column_def
unfolding r.column_def
column_sound = y_name (λ name. y_token type_of type_sound (λ kind.
    y_map (λ not_null. record { name = name; kind = kind; not_null = not_null }) nullness_sound (λ ts b rest d u k t n. s.column_of n k d)))

pub columns_sound : Yields (Adds SpellsColumns) r.next_column_def
unfolding r.next_column_def
columns_sound = y_clause w.COMMA column_sound (λ ts mid rest c more d ds. s.more_columns d ds)

table_sound : Yields (λ ts b rest. SpellsBody (w.CREATE ∷ w.TABLE ∷ ts) b rest) r.table
unfolding r.table
table_sound = y_name (λ name. y_expect w.LEFT_PAREN (y_bind column_sound (λ first. y_bind (y_many (λ ts. s.no_columns) columns_sound) (λ more.
    y_expect w.RIGHT_PAREN (y_pure (λ rest mid ds ts d t n. s.table n d ds))))))

flavour_sound : Yields SpellsFlavour r.flavour
unfolding r.flavour
flavour_sound = y_eat w.MATERIALIZED (y_pure (λ ts. s.materialized)) (y_eat w.LOCAL (y_pure (λ ts. s.local)) (y_pure (λ ts. s.no_flavour)))

module _ (inner : Inner) (sound : Sound inner) where
  view_sound : Yields (λ ts b rest. SpellsBody (w.CREATE ∷ ts) b rest) (r.view inner)
  unfolding r.view
  view_sound = y_bind flavour_sound (λ flavour. y_expect w.VIEW (y_name (λ name. y_expect w.AS (
      y_map (λ q. body.View name flavour q) (query_sound inner sound) (λ us q rest d t n ts f. s.view f n d)))))

  pub create_sound : Yields SpellsBody (r.create inner)
  unfolding r.create
  create_sound = y_expect w.CREATE (y_eat w.TABLE table_sound view_sound)

ended_sound : (ts : Tokens) (o : Option (Body × Tokens)) (b : Body) → ((rest : Tokens) → o ≡ Some (b, rest) → SpellsBody ts b rest) → r.ended o ≡ Some b → SpellsBody ts b []
ended_sound ts None b h e = cc
ended_sound ts (Some (c, [])) b h e = let same : c ≡ b = cc in h [] (ap (λ x. Some (x, [])) same)
ended_sound ts (Some (c, t ∷ us)) b h e = cc

pub statement_sound : (ts : Tokens) (b : Body) → r.statement ts ≡ Some b → SpellsBody ts b []
unfolding r.statement
statement_sound ts b e =
    ended_sound ts (r.create (r.level (length ts)) ts) b (λ rest h. (create_sound (r.level (length ts)) (level_sound (length ts))).run ts b rest h) e
