-- What is spelled is read, where nothing follows that goes on with it.
use Rattle.std.specs.Prelude.{◌≡◌, ℕ, zero, suc, ◌≤◌, ◌<◌, Bool, true, false, if◌then◌else◌, List, [], ◌∷◌, length, Option, Some, None, refl}
use Rattle.std.proofs.Common.{ap, ◌∙◌, arith}
use Rattle.sq_token.specs.declared.token.TokenKind.{TokenKind}
use Rattle.sq_token.specs.declared.token.TokenKind.TheVariants as token
use Rattle.sq_ast.specs.declared.expr.ExprTree.{ExprTree}
use Rattle.sq_ast.specs.declared.expr.ExprTree.TheVariants as expr
use Rattle.sq_ast.specs.declared.expr.TermTree.{TermTree}
use Rattle.sq_ast.specs.declared.expr.FuncTree.{FuncTree}
use Rattle.sq_ast.specs.declared.expr.FuncTree.TheVariants.{Count, Sum, Min, Max}
use Rattle.sq_ast.specs.declared.expr.ColRef.{ColRef}
use Rattle.sq_ast.specs.declared.cond.CondTree.{CondTree}
use Rattle.sq_ast.specs.declared.cond.CondTree.TheVariants as condition
use Rattle.sq_ast.specs.declared.cond.CmpTree.{CmpTree}
use Rattle.sq_ast.specs.declared.query.SetOp.{SetOp}
use Rattle.sq_ast.specs.declared.query.QueryTree.{QueryTree}
use Rattle.sq_ast.specs.declared.query.StepTree.{StepTree}
use Rattle.sq_ast.specs.declared.query.ItemTree.{ItemTree}
use Rattle.sq_ast.specs.declared.query.ItemTree.TheVariants as item
use Rattle.sq_ast.specs.declared.query.JoinTree.{JoinTree}
use Rattle.sq_ast.specs.declared.query.JoinTree.TheVariants as join
use Rattle.sq_ast.specs.Trees.{joined}
use Rattle.sq_ast.specs.declared.statement.TypeName.{TypeName}
use Rattle.sq_ast.specs.declared.query.SourceTree.{SourceTree}
use Rattle.sq_ast.specs.declared.query.JoinedTree.{JoinedTree}
use Rattle.sq_ast.specs.declared.statement.Body.{Body}
use Rattle.sq_ast.specs.declared.statement.ColumnTree.{ColumnTree}
use Rattle.sq_ast.specs.declared.statement.Flavour.{Flavour}
use Rattle.sq_ast.specs.Words as w
use Rattle.sq_ast.specs.Words.{Tokens, Text, is_token, is_reserved}
use Rattle.sq_ast.specs.Spelling as s
use Rattle.sq_ast.specs.Spelling.{SpellsName, SpellsAlias, SpellsMaybeAlias, SpellsColRef, SpellsFunction, SpellsComparison, SpellsExpr, SpellsTerms, SpellsProduct, SpellsFactors, SpellsSign, SpellsPrim, SpellsCond, SpellsOrs, SpellsConj, SpellsAnds, SpellsNeg, SpellsTest, SpellsSetOp, SpellsIntersect, SpellsSelect, SpellsItem, SpellsItems, SpellsColRefs, SpellsWhere, SpellsGroup, SpellsHaving, SpellsComma, SpellsJoin, SpellsLeftJoin, SpellsQuery, SpellsSteps, SpellsTerm, SpellsOperands, SpellsOperand, SpellsSource, SpellsJoined, SpellsType, SpellsNullness, SpellsColumn, SpellsColumns, SpellsFlavour, SpellsBody}
use Rattle.sq_ast.specs.Parser.{Parser, sees, after, many_for, clause}
use Rattle.sq_ast.specs.Reading as r
use Rattle.sq_ast.specs.Reading.{Inner, name_of, function_of, comparison_of, type_of}
use Rattle.sq_ast.proofs.ParserReads.{Reads, Refuses, r_pure, r_bind, r_eat, r_skip, r_expect, r_maybe, r_maybe_not, r_first, r_second, r_token, r_nested, n_bind, n_then, n_expect, n_past, n_skip, n_end, n_token, many_done, many_more, r_many, absent, behind, past, fewer}
use Rattle.sq_ast.proofs.Soundness.{name_sound}
use Rattle.sq_ast.proofs.Taken
use Rattle.sq_ast.proofs.Taken.{Taken, took, onward, shorter, on_taken, set_op_takes}
use Rattle.sq_ast.proofs.Follow.{rank, Stops, Begins, stop, sooner, missed, unbegun, name_rank, name_not_as, comparison_stops, factors_stop, terms_stop, ands_stop, ors_stop, alias_stops, items_stop, col_refs_stop, joined_stop, where_stops, group_stops, having_stops, operands_stop, steps_stop, name_no_star, prim_no_minus, expr_no_star, test_begins, item_begins, operand_begins, term_begins, columns_begin, begin}

-- ---- names

seven_above : (k : ℕ) → k ≡ 7 → 8 < k → ⊥
seven_above k a b = omega arith

not_named : (t : TokenKind) (ts : Tokens) → Stops 8 (t ∷ ts) → (o : Option Text) → name_of t ≡ o → o ≡ None
not_named t ts h None was = refl
not_named t ts h (Some name) was = absurd (seven_above (rank t) (name_rank (name_sound t name was)) h.above)

name_by : {t : TokenKind} {name : Text} → SpellsName t name → name_of t ≡ Some name
unfolding name_of
name_by s.quoted_name = refl
name_by (s.word_name h) = rw h refl

name_reads : {t : TokenKind} {name : Text} {rest : Tokens} → SpellsName t name → Reads r.name (t ∷ rest) name rest
unfolding r.name
name_reads n = r_token name_of (name_by n)

name_refused : {ts : Tokens} → Stops 8 ts → Refuses r.name ts
unfolding r.name
name_refused {ts = []} h = n_end name_of
name_refused {ts = t ∷ ts} h = n_token name_of (not_named t ts h (name_of t) refl)

alias_reads : {ts rest : Tokens} {name : Text} → SpellsAlias ts name rest → Reads r.alias ts name rest
unfolding r.alias
alias_reads (s.bare_alias n) = r_maybe_not w.AS (name_not_as _ n) (name_reads n)
alias_reads (s.as_alias n) = r_maybe w.AS tt (name_reads n)

maybe_alias_reads : {ts rest : Tokens} {a : Option Text} → SpellsMaybeAlias ts a rest → Stops 8 rest → Reads r.maybe_alias ts a rest
unfolding r.maybe_alias
maybe_alias_reads s.no_alias h = r_skip w.AS _ (missed w.AS h tt) (r_second (n_bind _ (name_refused h)) r_pure)
maybe_alias_reads (s.an_alias (s.bare_alias n)) h = r_skip w.AS _ (name_not_as _ n) (r_first _ (r_bind _ (name_reads n) r_pure))
maybe_alias_reads (s.an_alias (s.as_alias n)) h = r_eat w.AS _ tt (r_bind _ (name_reads n) r_pure)

col_ref_reads : {ts rest : Tokens} {c : ColRef} → SpellsColRef ts c rest → Stops 1 rest → Reads r.col_ref ts c rest
unfolding r.col_ref
col_ref_reads (s.plain_column n) h = r_bind _ (name_reads n) (r_skip w.DOT _ (missed w.DOT h tt) r_pure)
col_ref_reads (s.qualified_column n m) h = r_bind _ (name_reads n) (r_eat w.DOT _ tt (r_bind _ (name_reads m) r_pure))

-- ---- expressions and conditions

-- The parsers of the next depth read what fewer tokens than `d` spell, and read no expression in parentheses where a
-- condition stands.
pub record Whole (inner : Inner) (d : ℕ) : Type 0 where
  pub expr : (ts rest : Tokens) (e : ExprTree) → SpellsExpr ts e rest → length ts < d → Stops 3 rest → Reads inner.expr ts e rest
  pub cond : (ts rest : Tokens) (c : CondTree) → SpellsCond ts c rest → length ts < d → Stops 6 rest → Reads inner.cond ts c rest
  pub query : (ts rest : Tokens) (q : QueryTree) → SpellsQuery ts q rest → length ts < d → Stops 14 rest → Reads inner.query ts q rest
  pub no_expr : (ts rest : Tokens) (c : CondTree) → SpellsCond ts c rest → length ts < d → Refuses (r.nested inner.expr) ts

-- a rule that goes by the first token
pub by_first : {A : Type 0} {p q : Parser A} {t : TokenKind} {ts us rest : Tokens} {x : A} → p (t ∷ ts) ≡ q us → Reads q us x rest → Reads p (t ∷ ts) x rest
by_first e h = record { read = e ∙ h.read }

module _ (inner : Inner) (d : ℕ) (whole : Whole inner d) where
  argument_reads : (f : FuncTree) {ts rest : Tokens} {e : ExprTree} → SpellsExpr ts e (w.RIGHT_PAREN ∷ rest) → length ts < d →
      Reads (r.argument inner f) ts (expr.Call f (Some e)) rest
  unfolding r.argument
  argument_reads f g le = r_skip w.STAR _ (expr_no_star g) (r_bind _ (r_nested (whole.expr _ _ _ g le (stop tt))) r_pure)

  column_reads : {ts rest : Tokens} {c : ColRef} → SpellsColRef ts c rest → Stops 1 rest → Reads (r.column inner) ts (expr.Column c) rest
  column_reads g h = r_bind _ (col_ref_reads g h) r_pure

  word_reads : (t : TokenKind) (o : Option FuncTree) {ts rest : Tokens} {c : ColRef} → sees w.LEFT_PAREN ts ≡ false → SpellsColRef (t ∷ ts) c rest → Stops 1 rest →
      Reads (r.call_or_column inner t o) ts (expr.Column c) rest
  word_reads t None no_paren g h = record { read = (column_reads g h).read }
  word_reads t (Some f) {ts} no_paren g h = record {
    read = ap (λ (b : Bool). if b then r.argument inner f (after w.LEFT_PAREN ts) else r.column inner (t ∷ ts)) no_paren ∙ (column_reads g h).read;
  }

  -- a column by its first name
  first_reads : {t : TokenKind} {name : Text} {ts rest : Tokens} {c : ColRef} → SpellsName t name → sees w.LEFT_PAREN ts ≡ false →
      SpellsColRef (t ∷ ts) c rest → Stops 1 rest → Reads (r.prim inner) (t ∷ ts) (expr.Column c) rest
  unfolding r.prim
  first_reads s.quoted_name no_paren g h = record { read = (column_reads g h).read }
  first_reads (s.word_name {word} n) no_paren g h = record { read = (word_reads (token.Word word) (function_of (token.Word word)) no_paren g h).read }

  prim_reads : {ts rest : Tokens} {e : ExprTree} → SpellsPrim ts e rest → length ts ≤ d → Stops 1 rest → Reads (r.prim inner) ts e rest
  unfolding r.prim r.argument r.count_all function_of sees after w.same_symbol
  prim_reads s.number le h = record { read = refl }
  prim_reads s.text le h = record { read = refl }
  prim_reads (s.column (s.plain_column n)) le h = first_reads n (missed w.LEFT_PAREN h tt) (s.plain_column n) h
  prim_reads (s.column (s.qualified_column n m)) le h = first_reads n refl (s.qualified_column n m) h
  prim_reads s.count_all le h = record { read = refl }
  prim_reads (s.call s.count_function g) le h = record { read = (argument_reads Count g (behind le)).read }
  prim_reads (s.call s.sum_function g) le h = record { read = (argument_reads Sum g (behind le)).read }
  prim_reads (s.call s.min_function g) le h = record { read = (argument_reads Min g (behind le)).read }
  prim_reads (s.call s.max_function g) le h = record { read = (argument_reads Max g (behind le)).read }
  prim_reads (s.nested_expr g) le h = record { read = (r_nested (whole.expr _ _ _ g le (stop tt))).read }

  sign_reads : {ts rest : Tokens} {e : ExprTree} → SpellsSign ts e rest → length ts ≤ d → Stops 1 rest → Reads (r.sign inner) ts e rest
  unfolding r.sign
  sign_reads (s.unsigned g) le h = r_skip w.MINUS _ (prim_no_minus g) (prim_reads g le h)
  sign_reads (s.negative g) le h = r_eat w.MINUS _ tt (r_bind _ (prim_reads g (behind le) h) r_pure)

  factors_read : {ts rest : Tokens} {es : List ExprTree} → SpellsFactors ts es rest → length ts ≤ d → Stops 2 rest →
      (n : ℕ) → length ts ≤ n → Reads (many_for n (r.next_factor inner)) ts es rest
  unfolding r.next_factor
  factors_read s.no_factor le h n few = many_done n (r_skip w.STAR _ (missed w.STAR h tt) r_pure)
  factors_read (s.factor g gs) le h n few =
      many_more n (r_eat w.STAR _ tt (r_bind _ (sign_reads g (behind le) (factors_stop gs h)) r_pure)) (fewer w.STAR (Taken.sign_taken g)) few
      (factors_read gs (past (Taken.sign_taken g) (behind le)) h)

  product_reads : {ts rest : Tokens} {e : ExprTree} → SpellsProduct ts e rest → length ts ≤ d → Stops 2 rest → Reads (r.product inner) ts e rest
  unfolding r.product
  product_reads (s.product g gs) le h =
      r_bind _ (sign_reads g le (factors_stop gs h)) (r_bind _ (r_many _ (factors_read gs (past (Taken.sign_taken g) le) h)) r_pure)

  terms_read : {ts rest : Tokens} {es : List TermTree} → SpellsTerms ts es rest → length ts ≤ d → Stops 3 rest →
      (n : ℕ) → length ts ≤ n → Reads (many_for n (r.next_term inner)) ts es rest
  unfolding r.next_term w.same_symbol
  terms_read s.no_term le h n few = many_done n (r_skip w.PLUS _ (missed w.PLUS h tt) (r_skip w.MINUS _ (missed w.MINUS h tt) r_pure))
  terms_read (s.added g gs) le h n few =
      many_more n (r_eat w.PLUS _ tt (r_bind _ (product_reads g (behind le) (terms_stop gs h)) r_pure)) (fewer w.PLUS (Taken.product_taken g)) few
      (terms_read gs (past (Taken.product_taken g) (behind le)) h)
  terms_read (s.subtracted g gs) le h n few =
      many_more n (r_skip w.PLUS _ (absent w.PLUS w.MINUS _ refl) (r_eat w.MINUS _ tt (r_bind _ (product_reads g (behind le) (terms_stop gs h)) r_pure)))
      (fewer w.MINUS (Taken.product_taken g)) few (terms_read gs (past (Taken.product_taken g) (behind le)) h)

  sum_reads : {ts rest : Tokens} {e : ExprTree} → SpellsExpr ts e rest → length ts ≤ d → Stops 3 rest → Reads (r.sum inner) ts e rest
  unfolding r.sum
  sum_reads (s.sum g gs) le h =
      r_bind _ (product_reads g le (terms_stop gs h)) (r_bind _ (r_many _ (terms_read gs (past (Taken.product_taken g) le) h)) r_pure)

  compare_reads : {t : TokenKind} {cmp : CmpTree} {ts rest : Tokens} {left right : ExprTree} → SpellsComparison t cmp → Reads (r.sum inner) ts right rest →
      Reads (r.after_operand inner left) (t ∷ ts) (condition.Compare cmp left right) rest
  unfolding r.after_operand comparison_of w.same_symbol
  compare_reads s.equal g = record { read = (r_bind _ g r_pure).read }
  compare_reads s.not_equal g = record { read = (r_bind _ g r_pure).read }
  compare_reads s.less g = record { read = (r_bind _ g r_pure).read }
  compare_reads s.less_equal g = record { read = (r_bind _ g r_pure).read }
  compare_reads s.greater g = record { read = (r_bind _ g r_pure).read }
  compare_reads s.greater_equal g = record { read = (r_bind _ g r_pure).read }

  is_null_reads : {rest : Tokens} {e : ExprTree} → Reads (r.after_operand inner e) (w.IS ∷ w.NULL ∷ rest) (condition.Null e false) rest
  unfolding r.after_operand comparison_of r.null_test sees after
  is_null_reads = record { read = refl }

  is_not_null_reads : {rest : Tokens} {e : ExprTree} → Reads (r.after_operand inner e) (w.IS ∷ w.NOT ∷ w.NULL ∷ rest) (condition.Null e true) rest
  unfolding r.after_operand comparison_of r.null_test sees after
  is_not_null_reads = record { read = refl }

  operand_then : {ts mid rest : Tokens} {e : ExprTree} {c : CondTree} → Reads (r.sum inner) ts e mid → Reads (r.after_operand inner e) mid c rest → Reads (r.one_test inner) ts c rest
  unfolding r.one_test
  operand_then {ts} g h = record { read = ap (λ o. r.test_by inner o ts) g.read ∙ h.read }

  no_operand_then : {ts rest : Tokens} {c : CondTree} → Refuses (r.sum inner) ts → Reads (r.nested_cond inner) ts c rest → Reads (r.one_test inner) ts c rest
  unfolding r.one_test
  no_operand_then {ts} g h = record { read = ap (λ o. r.test_by inner o ts) g.refused ∙ h.read }

  -- what is no expression in parentheses is none behind an opening parenthesis
  paren_refused : {ts : Tokens} → Refuses (r.nested inner.expr) ts → Refuses (r.sum inner) (w.LEFT_PAREN ∷ ts)
  unfolding r.sum r.product r.sign r.prim w.same_symbol
  paren_refused {ts} h = n_bind _ (n_bind _ (n_skip w.MINUS _ (absent w.MINUS w.LEFT_PAREN ts refl) (record { refused = h.refused })))

  nested_cond_reads : {ts rest : Tokens} {c : CondTree} → SpellsCond ts c (w.RIGHT_PAREN ∷ rest) → length ts < d → Reads (r.nested_cond inner) (w.LEFT_PAREN ∷ ts) c rest
  unfolding r.nested_cond
  nested_cond_reads g le = r_expect w.LEFT_PAREN tt (r_nested (whole.cond _ _ _ g le (stop tt)))

  test_reads : {ts rest : Tokens} {c : CondTree} → SpellsTest ts c rest → length ts ≤ d → Stops 3 rest → Reads (r.one_test inner) ts c rest
  test_reads (s.compare g c k) le h =
      operand_then (sum_reads g le (comparison_stops c)) (compare_reads c (sum_reads k (behind (past (Taken.expr_taken g) le)) h))
  test_reads (s.is_null g) le h = operand_then (sum_reads g le (stop tt)) is_null_reads
  test_reads (s.is_not_null g) le h = operand_then (sum_reads g le (stop tt)) is_not_null_reads
  test_reads (s.nested_cond g) le h = no_operand_then (paren_refused (whole.no_expr _ _ _ g le)) (nested_cond_reads g le)

  neg_reads : {ts rest : Tokens} {c : CondTree} → SpellsNeg ts c rest → length ts ≤ d → Stops 3 rest → Reads (r.neg inner) ts c rest
  unfolding r.neg
  neg_reads (s.positive g) le h = r_skip w.NOT _ (unbegun w.NOT (test_begins g) tt) (test_reads g le h)
  neg_reads (s.negated g) le h = r_eat w.NOT _ tt (r_bind _ (test_reads g (behind le) h) r_pure)

  ands_read : {ts rest : Tokens} {cs : List CondTree} → SpellsAnds ts cs rest → length ts ≤ d → Stops 5 rest →
      (n : ℕ) → length ts ≤ n → Reads (many_for n (r.next_and inner)) ts cs rest
  unfolding r.next_and
  ands_read s.no_and le h n few = many_done n (r_skip w.AND _ (missed w.AND h tt) r_pure)
  ands_read (s.and g gs) le h n few =
      many_more n (r_eat w.AND _ tt (r_bind _ (neg_reads g (behind le) (ands_stop gs h)) r_pure)) (fewer w.AND (Taken.neg_taken g)) few
      (ands_read gs (past (Taken.neg_taken g) (behind le)) h)

  conj_reads : {ts rest : Tokens} {c : CondTree} → SpellsConj ts c rest → length ts ≤ d → Stops 5 rest → Reads (r.conj inner) ts c rest
  unfolding r.conj
  conj_reads (s.all g gs) le h =
      r_bind _ (neg_reads g le (ands_stop gs h)) (r_bind _ (r_many _ (ands_read gs (past (Taken.neg_taken g) le) h)) r_pure)

  ors_read : {ts rest : Tokens} {cs : List CondTree} → SpellsOrs ts cs rest → length ts ≤ d → Stops 6 rest →
      (n : ℕ) → length ts ≤ n → Reads (many_for n (r.next_or inner)) ts cs rest
  unfolding r.next_or
  ors_read s.no_or le h n few = many_done n (r_skip w.OR _ (missed w.OR h tt) r_pure)
  ors_read (s.or g gs) le h n few =
      many_more n (r_eat w.OR _ tt (r_bind _ (conj_reads g (behind le) (ors_stop gs h)) r_pure)) (fewer w.OR (Taken.conj_taken g)) few
      (ors_read gs (past (Taken.conj_taken g) (behind le)) h)

  disj_reads : {ts rest : Tokens} {c : CondTree} → SpellsCond ts c rest → length ts ≤ d → Stops 6 rest → Reads (r.disj inner) ts c rest
  unfolding r.disj
  disj_reads (s.any g gs) le h =
      r_bind _ (conj_reads g le (ors_stop gs h)) (r_bind _ (r_many _ (ors_read gs (past (Taken.conj_taken g) le) h)) r_pure)

  comparison_not_paren : {t : TokenKind} {cmp : CmpTree} (ts : Tokens) → SpellsComparison t cmp → sees w.RIGHT_PAREN (t ∷ ts) ≡ false
  unfolding w.same_symbol
  comparison_not_paren ts s.equal = absent w.RIGHT_PAREN w.EQUAL ts refl
  comparison_not_paren ts s.not_equal = absent w.RIGHT_PAREN w.NOT_EQUAL ts refl
  comparison_not_paren ts s.less = absent w.RIGHT_PAREN w.LESS ts refl
  comparison_not_paren ts s.less_equal = absent w.RIGHT_PAREN w.LESS_EQUAL ts refl
  comparison_not_paren ts s.greater = absent w.RIGHT_PAREN w.GREATER ts refl
  comparison_not_paren ts s.greater_equal = absent w.RIGHT_PAREN w.GREATER_EQUAL ts refl

  -- where a condition stands in parentheses, no expression does
  test_no_expr : {ts rest : Tokens} {c : CondTree} → SpellsTest ts c rest → length ts ≤ d → Refuses (r.nested (r.sum inner)) ts
  test_no_expr (s.compare g c k) le = n_then _ (sum_reads g le (comparison_stops c)) (n_expect w.RIGHT_PAREN _ (comparison_not_paren _ c))
  test_no_expr (s.is_null g) le = n_then _ (sum_reads g le (stop tt)) (n_expect w.RIGHT_PAREN _ (absent w.RIGHT_PAREN w.IS _ refl))
  test_no_expr (s.is_not_null g) le = n_then _ (sum_reads g le (stop tt)) (n_expect w.RIGHT_PAREN _ (absent w.RIGHT_PAREN w.IS _ refl))
  test_no_expr (s.nested_cond g) le = n_bind _ (paren_refused (whole.no_expr _ _ _ g le))

  not_no_expr : {ts : Tokens} → Refuses (r.nested (r.sum inner)) (w.NOT ∷ ts)
  unfolding r.sum r.product r.sign r.prim r.col_ref r.name name_of function_of is_reserved sees after
  not_no_expr = record { refused = refl }

  cond_no_expr : {ts rest : Tokens} {c : CondTree} → SpellsCond ts c rest → length ts ≤ d → Refuses (r.nested (r.sum inner)) ts
  cond_no_expr (s.any (s.all (s.positive g) gs) ks) le = test_no_expr g le
  cond_no_expr (s.any (s.all (s.negated g) gs) ks) le = not_no_expr

-- ---- parts of queries

set_op_reads : {ts us : Tokens} {op : SetOp} → SpellsSetOp ts op us → Begins us → Reads r.set_op ts (Some op) us
unfolding r.set_op
set_op_reads s.union h = r_eat w.UNION _ tt (r_skip w.ALL _ (unbegun w.ALL h tt) (r_maybe_not w.DISTINCT (unbegun w.DISTINCT h tt) r_pure))
set_op_reads s.union_all h = r_eat w.UNION _ tt (r_eat w.ALL _ tt r_pure)
set_op_reads s.union_distinct h = r_eat w.UNION _ tt (r_skip w.ALL _ (absent w.ALL w.DISTINCT _ refl) (r_maybe w.DISTINCT tt r_pure))
set_op_reads s.except h = r_skip w.UNION _ (absent w.UNION w.EXCEPT _ refl) (r_eat w.EXCEPT _ tt (r_maybe_not w.DISTINCT (unbegun w.DISTINCT h tt) r_pure))
set_op_reads s.except_distinct h = r_skip w.UNION _ (absent w.UNION w.EXCEPT _ refl) (r_eat w.EXCEPT _ tt (r_maybe w.DISTINCT tt r_pure))

no_set_op : {ts : Tokens} → Stops 14 ts → Reads r.set_op ts None ts
unfolding r.set_op
no_set_op h = r_skip w.UNION _ (missed w.UNION h tt) (r_skip w.EXCEPT _ (missed w.EXCEPT h tt) r_pure)

select_reads : {ts us : Tokens} {distinct : Bool} → SpellsSelect ts distinct us → Begins us → Reads r.select ts distinct us
unfolding r.select
select_reads s.select h = r_expect w.SELECT tt (r_skip w.DISTINCT _ (unbegun w.DISTINCT h tt) (r_maybe_not w.ALL (unbegun w.ALL h tt) r_pure))
select_reads s.select_all h = r_expect w.SELECT tt (r_skip w.DISTINCT _ (absent w.DISTINCT w.ALL _ refl) (r_maybe w.ALL tt r_pure))
select_reads s.select_distinct h = r_expect w.SELECT tt (r_eat w.DISTINCT _ tt r_pure)

star_of_reads : {t : TokenKind} {name : Text} {rest : Tokens} → SpellsName t name → Reads r.star_of (t ∷ w.DOT ∷ w.STAR ∷ rest) (item.StarOf name) rest
unfolding r.star_of
star_of_reads n = r_bind _ (name_reads n) (r_expect w.DOT tt (r_expect w.STAR tt r_pure))

qualified_no_star_of : {t u : TokenKind} {source name : Text} {rest : Tokens} → SpellsName t source → SpellsName u name → Refuses r.star_of (t ∷ w.DOT ∷ u ∷ rest)
unfolding r.star_of
qualified_no_star_of n m = n_then _ (name_reads n) (n_past w.DOT tt (n_expect w.STAR _ (name_no_star _ m)))

-- an expression does not begin as `name . *` does
prim_no_star_of : {ts rest : Tokens} {e : ExprTree} → SpellsPrim ts e rest → Stops 1 rest → Refuses r.star_of ts
unfolding r.star_of r.name name_of is_reserved sees after w.same_symbol
prim_no_star_of s.number h = record { refused = refl }
prim_no_star_of s.text h = record { refused = refl }
prim_no_star_of (s.column (s.plain_column n)) h = n_then _ (name_reads n) (n_expect w.DOT _ (missed w.DOT h tt))
prim_no_star_of (s.column (s.qualified_column n m)) h = qualified_no_star_of n m
prim_no_star_of s.count_all h = record { refused = refl }
prim_no_star_of (s.call s.count_function g) h = record { refused = refl }
prim_no_star_of (s.call s.sum_function g) h = record { refused = refl }
prim_no_star_of (s.call s.min_function g) h = record { refused = refl }
prim_no_star_of (s.call s.max_function g) h = record { refused = refl }
prim_no_star_of (s.nested_expr g) h = record { refused = refl }

minus_no_star_of : {ts : Tokens} → Refuses r.star_of (w.MINUS ∷ ts)
unfolding r.star_of r.name name_of
minus_no_star_of = record { refused = refl }

expr_no_star_of : {ts rest : Tokens} {e : ExprTree} → SpellsExpr ts e rest → Stops 3 rest → Refuses r.star_of ts
expr_no_star_of (s.sum (s.product (s.unsigned g) gs) ks) h = prim_no_star_of g (factors_stop gs (terms_stop ks h))
expr_no_star_of (s.sum (s.product (s.negative g) gs) ks) h = minus_no_star_of

col_refs_read : {ts rest : Tokens} {cs : List ColRef} → SpellsColRefs ts cs rest → Stops 9 rest → (n : ℕ) → length ts ≤ n → Reads (many_for n r.next_col_ref) ts cs rest
unfolding r.next_col_ref
col_refs_read s.no_column h n few = many_done n (r_skip w.COMMA _ (missed w.COMMA h tt) r_pure)
col_refs_read (s.a_column g gs) h n few =
    many_more n (r_eat w.COMMA _ tt (r_bind _ (col_ref_reads g (col_refs_stop gs h)) r_pure)) (fewer w.COMMA (Taken.col_ref_taken g)) few (col_refs_read gs h)

group_reads : {ts rest : Tokens} {cs : List ColRef} → SpellsGroup ts cs rest → Stops 11 rest → Reads r.group_by ts cs rest
unfolding r.group_by
group_reads s.no_group h = r_skip w.GROUP _ (missed w.GROUP h tt) r_pure
group_reads (s.a_group g gs) h =
    let before : Stops 9 _ = sooner h tt in
    r_eat w.GROUP _ tt (r_expect w.BY tt (r_bind _ (col_ref_reads g (col_refs_stop gs before)) (r_bind _ (r_many _ (col_refs_read gs before)) r_pure)))

name_no_paren : {t : TokenKind} {name : Text} (ts : Tokens) → SpellsName t name → sees w.LEFT_PAREN (t ∷ ts) ≡ false
unfolding sees
name_no_paren ts s.quoted_name = refl
name_no_paren ts (s.word_name h) = refl

select_no_paren : {ts us : Tokens} {distinct : Bool} → SpellsSelect ts distinct us → sees w.LEFT_PAREN ts ≡ false
select_no_paren s.select = absent w.LEFT_PAREN w.SELECT _ refl
select_no_paren s.select_all = absent w.LEFT_PAREN w.SELECT _ refl
select_no_paren s.select_distinct = absent w.LEFT_PAREN w.SELECT _ refl

-- ---- queries

module _ (inner : Inner) (d : ℕ) (whole : Whole inner d) where
  item_reads : {ts rest : Tokens} {i : ItemTree} → SpellsItem ts i rest → length ts ≤ d → Stops 8 rest → Reads (r.select_item inner) ts i rest
  unfolding r.select_item r.computed_item
  item_reads s.star le h = r_eat w.STAR _ tt r_pure
  item_reads (s.star_of n) le h = r_skip w.STAR _ (name_no_star _ n) (r_first _ (star_of_reads n))
  item_reads (s.computed g a) le h =
      r_skip w.STAR _ (expr_no_star g) (r_second (expr_no_star_of g (alias_stops a h))
      (r_bind _ (sum_reads inner d whole g le (alias_stops a h)) (r_bind _ (maybe_alias_reads a h) r_pure)))

  items_read : {ts rest : Tokens} {is : List ItemTree} → SpellsItems ts is rest → length ts ≤ d → Stops 9 rest →
      (n : ℕ) → length ts ≤ n → Reads (many_for n (r.next_item inner)) ts is rest
  unfolding r.next_item
  items_read s.no_item le h n few = many_done n (r_skip w.COMMA _ (missed w.COMMA h tt) r_pure)
  items_read (s.an_item g gs) le h n few =
      many_more n (r_eat w.COMMA _ tt (r_bind _ (item_reads g (behind le) (items_stop gs h)) r_pure)) (fewer w.COMMA (Taken.item_taken g)) few
      (items_read gs (past (Taken.item_taken g) (behind le)) h)

  source_reads : {ts rest : Tokens} {q : SourceTree} → SpellsSource ts q rest → length ts ≤ d → Stops 8 rest → Reads (r.from_item inner) ts q rest
  unfolding r.from_item
  source_reads (s.relation n a) le h = r_skip w.LEFT_PAREN _ (name_no_paren _ n) (r_bind _ (name_reads n) (r_bind _ (maybe_alias_reads a h) r_pure))
  source_reads (s.derived g a) le h =
      r_eat w.LEFT_PAREN _ tt (r_bind _ (r_nested (whole.query _ _ _ g le (stop tt))) (r_bind _ (alias_reads a) r_pure))

  pairs_read : {us mid : Tokens} {q : SourceTree} → SpellsSource us q mid → length us ≤ d → Stops 8 mid → Reads (r.every_pair inner) us (Some (joined join.Comma q)) mid
  pairs_read g le h = r_bind _ (source_reads g le h) r_pure

  on_reads : (how : CondTree → JoinTree) {us on mid : Tokens} {q : SourceTree} {c : CondTree} → SpellsSource us q (w.ON ∷ on) → SpellsCond on c mid → length us ≤ d → Stops 8 mid →
      Reads (r.joined_on inner how) us (Some (joined (how c) q)) mid
  on_reads how g k le h =
      r_bind _ (source_reads g le (stop tt)) (r_expect w.ON tt (r_bind _ (disj_reads inner d whole k (behind (past (Taken.source_taken g) le)) (sooner h tt)) r_pure))

  joined_read : {ts rest : Tokens} {js : List JoinedTree} → SpellsJoined ts js rest → length ts ≤ d → Stops 9 rest →
      (n : ℕ) → length ts ≤ n → Reads (many_for n (r.next_joined inner)) ts js rest
  unfolding r.next_joined
  joined_read s.no_source le h n few =
      many_done n (r_skip w.COMMA _ (missed w.COMMA h tt) (r_skip w.CROSS _ (missed w.CROSS h tt) (r_skip w.JOIN _ (missed w.JOIN h tt)
      (r_skip w.INNER _ (missed w.INNER h tt) (r_skip w.LEFT _ (missed w.LEFT h tt) r_pure)))))
  joined_read (s.every_pair s.comma g gs) le h n few =
      many_more n (r_eat w.COMMA _ tt (pairs_read g (behind le) (joined_stop gs h)))
      (fewer w.COMMA (Taken.source_taken g)) few (joined_read gs (past (Taken.source_taken g) (behind le)) h)
  joined_read (s.every_pair s.cross_join g gs) le h n few =
      many_more n (r_skip w.COMMA _ (absent w.COMMA w.CROSS _ refl) (r_eat w.CROSS _ tt (r_expect w.JOIN tt (pairs_read g (behind (behind le)) (joined_stop gs h)))))
      (fewer w.CROSS (took {t = w.JOIN} tt (Taken.source_taken g))) few (joined_read gs (past (Taken.source_taken g) (behind (behind le))) h)
  joined_read (s.inner s.plain_join g k gs) le h n few =
      many_more n (r_skip w.COMMA _ (absent w.COMMA w.JOIN _ refl) (r_skip w.CROSS _ (absent w.CROSS w.JOIN _ refl) (r_eat w.JOIN _ tt
      (on_reads join.Inner g k (behind le) (joined_stop gs h)))))
      (fewer w.JOIN (on_taken g k)) few (joined_read gs (past (on_taken g k) (behind le)) h)
  joined_read (s.inner s.inner_join g k gs) le h n few =
      many_more n (r_skip w.COMMA _ (absent w.COMMA w.INNER _ refl) (r_skip w.CROSS _ (absent w.CROSS w.INNER _ refl) (r_skip w.JOIN _ (absent w.JOIN w.INNER _ refl) (r_eat w.INNER _ tt
      (r_expect w.JOIN tt (on_reads join.Inner g k (behind (behind le)) (joined_stop gs h)))))))
      (fewer w.INNER (took {t = w.JOIN} tt (on_taken g k))) few (joined_read gs (past (on_taken g k) (behind (behind le))) h)
  joined_read (s.left s.left_join g k gs) le h n few =
      many_more n (r_skip w.COMMA _ (absent w.COMMA w.LEFT _ refl) (r_skip w.CROSS _ (absent w.CROSS w.LEFT _ refl) (r_skip w.JOIN _ (absent w.JOIN w.LEFT _ refl)
      (r_skip w.INNER _ (absent w.INNER w.LEFT _ refl) (r_eat w.LEFT _ tt (r_maybe_not w.OUTER (absent w.OUTER w.JOIN _ refl)
      (r_expect w.JOIN tt (on_reads join.Left g k (behind (behind le)) (joined_stop gs h)))))))))
      (fewer w.LEFT (took {t = w.JOIN} tt (on_taken g k))) few (joined_read gs (past (on_taken g k) (behind (behind le))) h)
  joined_read (s.left s.left_outer_join g k gs) le h n few =
      many_more n (r_skip w.COMMA _ (absent w.COMMA w.LEFT _ refl) (r_skip w.CROSS _ (absent w.CROSS w.LEFT _ refl) (r_skip w.JOIN _ (absent w.JOIN w.LEFT _ refl)
      (r_skip w.INNER _ (absent w.INNER w.LEFT _ refl) (r_eat w.LEFT _ tt (r_maybe w.OUTER tt
      (r_expect w.JOIN tt (on_reads join.Left g k (behind (behind (behind le))) (joined_stop gs h)))))))))
      (fewer w.LEFT (took {t = w.OUTER} tt (took {t = w.JOIN} tt (on_taken g k)))) few (joined_read gs (past (on_taken g k) (behind (behind (behind le)))) h)

  where_reads : {ts rest : Tokens} {c : Option CondTree} → SpellsWhere ts c rest → length ts ≤ d → Stops 10 rest → Reads (clause w.WHERE (r.disj inner)) ts c rest
  where_reads s.no_where le h = r_skip w.WHERE _ (missed w.WHERE h tt) r_pure
  where_reads (s.a_where g) le h = r_eat w.WHERE _ tt (r_bind _ (disj_reads inner d whole g (behind le) (sooner h tt)) r_pure)

  having_reads : {ts rest : Tokens} {c : Option CondTree} → SpellsHaving ts c rest → length ts ≤ d → Stops 12 rest → Reads (clause w.HAVING (r.disj inner)) ts c rest
  having_reads s.no_having le h = r_skip w.HAVING _ (missed w.HAVING h tt) r_pure
  having_reads (s.a_having g) le h = r_eat w.HAVING _ tt (r_bind _ (disj_reads inner d whole g (behind le) (sooner h tt)) r_pure)

  operand_reads : {ts rest : Tokens} {q : QueryTree} → SpellsOperand ts q rest → length ts ≤ d → Stops 12 rest → Reads (r.operand inner) ts q rest
  unfolding r.operand r.block
  operand_reads (s.block sel e ds g j f k v) le h =
      let a = past (Taken.select_taken sel) le in
      let b = past (Taken.item_taken e) a in
      let c = behind (past (Taken.items_taken ds) b) in
      let m = past (Taken.source_taken g) c in
      let n = past (Taken.joined_taken j) m in
      let o = past (Taken.where_taken f) n in
      let p = past (Taken.group_taken k) o in
      let at_having : Stops 11 _ = having_stops v h in
      let at_group : Stops 10 _ = group_stops k at_having in
      let at_where : Stops 9 _ = where_stops f at_group in
      r_skip w.LEFT_PAREN _ (select_no_paren sel)
      (r_bind _ (select_reads sel (item_begins e))
      (r_bind _ (item_reads e a (items_stop ds (stop tt)))
      (r_bind _ (r_many _ (items_read ds b (stop tt)))
      (r_expect w.FROM tt
      (r_bind _ (source_reads g c (joined_stop j at_where))
      (r_bind _ (r_many _ (joined_read j m at_where))
      (r_bind _ (where_reads f n at_group)
      (r_bind _ (group_reads k at_having)
      (r_bind _ (having_reads v p h) r_pure)))))))))
  operand_reads (s.nested_query g) le h = r_eat w.LEFT_PAREN _ tt (r_nested (whole.query _ _ _ g le (stop tt)))

  operands_read : {ts rest : Tokens} {qs : List QueryTree} → SpellsOperands ts qs rest → length ts ≤ d → Stops 13 rest →
      (n : ℕ) → length ts ≤ n → Reads (many_for n (r.next_operand inner)) ts qs rest
  unfolding r.next_operand
  operands_read s.no_operand le h n few = many_done n (r_skip w.INTERSECT _ (missed w.INTERSECT h tt) r_pure)
  operands_read (s.an_operand s.intersect g gs) le h n few =
      many_more n (r_eat w.INTERSECT _ tt (r_maybe_not w.DISTINCT (unbegun w.DISTINCT (operand_begins g) tt) (r_bind _ (operand_reads g (behind le) (operands_stop gs h)) r_pure)))
      (fewer w.INTERSECT (Taken.operand_taken g)) few (operands_read gs (past (Taken.operand_taken g) (behind le)) h)
  operands_read (s.an_operand s.intersect_distinct g gs) le h n few =
      many_more n (r_eat w.INTERSECT _ tt (r_maybe w.DISTINCT tt (r_bind _ (operand_reads g (behind (behind le)) (operands_stop gs h)) r_pure)))
      (fewer w.INTERSECT (took {t = w.DISTINCT} tt (Taken.operand_taken g))) few (operands_read gs (past (Taken.operand_taken g) (behind (behind le))) h)

  term_reads : {ts rest : Tokens} {q : QueryTree} → SpellsTerm ts q rest → length ts ≤ d → Stops 13 rest → Reads (r.intersection inner) ts q rest
  unfolding r.intersection
  term_reads (s.intersection g gs) le h =
      r_bind _ (operand_reads g le (operands_stop gs h)) (r_bind _ (r_many _ (operands_read gs (past (Taken.operand_taken g) le) h)) r_pure)

  steps_read : {ts rest : Tokens} {qs : List StepTree} → SpellsSteps ts qs rest → length ts ≤ d → Stops 14 rest →
      (n : ℕ) → length ts ≤ n → Reads (many_for n (r.next_step inner)) ts qs rest
  unfolding r.next_step
  steps_read s.no_step le h n few = many_done n (r_bind _ (no_set_op h) r_pure)
  steps_read (s.a_step o g gs) le h n few =
      many_more n (r_bind _ (set_op_reads o (term_begins g)) (r_bind _ (term_reads g (past (Taken.set_op_taken o) le) (steps_stop gs h)) r_pure))
      (set_op_takes o (Taken.term_taken g)) few (steps_read gs (past (Taken.term_taken g) (past (Taken.set_op_taken o) le)) h)

  query_reads : {ts rest : Tokens} {q : QueryTree} → SpellsQuery ts q rest → length ts ≤ d → Stops 14 rest → Reads (r.query_chain inner) ts q rest
  unfolding r.query_chain
  query_reads (s.chain g gs) le h =
      r_bind _ (term_reads g le (steps_stop gs h)) (r_bind _ (r_many _ (steps_read gs (past (Taken.term_taken g) le) h)) r_pure)

-- ---- levels

in_front : (n d : ℕ) → n < suc d → n ≤ d
in_front n d le = omega arith

-- so many levels read whatever fewer tokens spell
pub level_whole : (d : ℕ) → Whole (r.level d) d
unfolding r.level
level_whole zero = record {
  expr = λ ts rest e g le h. absurd (omega arith);
  cond = λ ts rest c g le h. absurd (omega arith);
  query = λ ts rest q g le h. absurd (omega arith);
  no_expr = λ ts rest c g le. absurd (omega arith);
}
level_whole (suc d) =
    let deeper = level_whole d in record {
      expr = λ ts rest e g le h. sum_reads (r.level d) d deeper g (in_front (length ts) d le) h;
      cond = λ ts rest c g le h. disj_reads (r.level d) d deeper g (in_front (length ts) d le) h;
      query = λ ts rest q g le h. query_reads (r.level d) d deeper g (in_front (length ts) d le) h;
      no_expr = λ ts rest c g le. cond_no_expr (r.level d) d deeper g (in_front (length ts) d le);
    }

-- ---- statements

nullness_reads : {ts rest : Tokens} {b : Bool} → SpellsNullness ts b rest → Begins rest → Reads r.nullness ts b rest
unfolding r.nullness
nullness_reads s.unsaid h = r_skip w.NULL _ (unbegun w.NULL h tt) (r_skip w.NOT _ (unbegun w.NOT h tt) r_pure)
nullness_reads s.nullable h = r_eat w.NULL _ tt r_pure
nullness_reads s.not_null h = r_skip w.NULL _ (absent w.NULL w.NOT _ refl) (r_eat w.NOT _ tt (r_expect w.NULL tt r_pure))

type_reads : {t : TokenKind} {k : TypeName} → SpellsType t k → type_of t ≡ Some k
unfolding type_of
type_reads s.int = refl
type_reads s.integer = refl
type_reads s.bigint = refl
type_reads s.varchar = refl
type_reads s.text_type = refl

column_reads_def : {ts rest : Tokens} {c : ColumnTree} → SpellsColumn ts c rest → Begins rest → Reads r.column_def ts c rest
unfolding r.column_def
column_reads_def (s.column_of n k g) h = r_bind _ (name_reads n) (r_bind _ (r_token type_of (type_reads k)) (r_bind _ (nullness_reads g h) r_pure))

columns_read : {ts rest : Tokens} {cs : List ColumnTree} → SpellsColumns ts cs (w.RIGHT_PAREN ∷ rest) → (n : ℕ) → length ts ≤ n →
    Reads (many_for n r.next_column_def) ts cs (w.RIGHT_PAREN ∷ rest)
unfolding r.next_column_def w.same_symbol
columns_read s.no_columns n few = many_done n (r_skip w.COMMA _ (absent w.COMMA w.RIGHT_PAREN _ refl) r_pure)
columns_read (s.more_columns g gs) n few =
    many_more n (r_eat w.COMMA _ tt (r_bind _ (column_reads_def g (columns_begin gs (begin tt))) r_pure)) (fewer w.COMMA (Taken.column_taken g)) few (columns_read gs)

flavour_reads : {ts us : Tokens} {f : Option Flavour} → SpellsFlavour ts f (w.VIEW ∷ us) → Reads r.flavour ts f (w.VIEW ∷ us)
unfolding r.flavour
flavour_reads s.no_flavour = r_skip w.MATERIALIZED _ (absent w.MATERIALIZED w.VIEW _ refl) (r_skip w.LOCAL _ (absent w.LOCAL w.VIEW _ refl) r_pure)
flavour_reads s.materialized = r_eat w.MATERIALIZED _ tt r_pure
flavour_reads s.local = r_skip w.MATERIALIZED _ (absent w.MATERIALIZED w.LOCAL _ refl) (r_eat w.LOCAL _ tt r_pure)

flavour_no_table : {ts us : Tokens} {f : Option Flavour} → SpellsFlavour ts f (w.VIEW ∷ us) → sees w.TABLE ts ≡ false
flavour_no_table s.no_flavour = absent w.TABLE w.VIEW _ refl
flavour_no_table s.materialized = absent w.TABLE w.MATERIALIZED _ refl
flavour_no_table s.local = absent w.TABLE w.LOCAL _ refl

view_fits : {t : TokenKind} {ts us : Tokens} {f : Option Flavour} {d : ℕ} → SpellsFlavour ts f (w.VIEW ∷ t ∷ w.AS ∷ us) → suc (length ts) ≤ d → length us ≤ d
view_fits s.no_flavour le = omega arith
view_fits s.materialized le = omega arith
view_fits s.local le = omega arith

body_reads : (inner : Inner) (d : ℕ) → Whole inner d → {ts rest : Tokens} {b : Body} → SpellsBody ts b rest → length ts ≤ d → Stops 14 rest → Reads (r.create inner) ts b rest
unfolding r.create r.table r.view
body_reads inner d whole (s.table n g gs) le h =
    r_expect w.CREATE tt (r_eat w.TABLE _ tt (r_bind _ (name_reads n) (r_expect w.LEFT_PAREN tt (r_bind _ (column_reads_def g (columns_begin gs (begin tt)))
    (r_bind _ (r_many _ (columns_read gs)) (r_expect w.RIGHT_PAREN tt r_pure))))))
body_reads inner d whole (s.view f n g) le h =
    r_expect w.CREATE tt (r_skip w.TABLE _ (flavour_no_table f) (r_bind _ (flavour_reads f) (r_expect w.VIEW tt (r_bind _ (name_reads n) (r_expect w.AS tt
    (r_bind _ (query_reads inner d whole g (view_fits f le) h) r_pure))))))

-- whatever a list of tokens spells as a whole is what is read from it
pub statement_complete : (ts : Tokens) (b : Body) → SpellsBody ts b [] → r.statement ts ≡ Some b
unfolding r.statement
statement_complete ts b g = ap r.ended (body_reads (r.level (length ts)) (length ts) (level_whole (length ts)) g (omega arith) (stop tt)).read
