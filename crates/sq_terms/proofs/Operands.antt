-- An expression holds no test, and a condition holds one: so a parenthesis that holds one opens no operand, and any
-- other no condition.
use Rattle.std.specs.Prelude.{◌≡◌, ℕ, zero, suc, ◌+◌, ◌≤◌, Bool, true, false, if◌then◌else◌, List, [], ◌∷◌, Option, Some, None, codes, bytes_eq, refl}
use Rattle.std.proofs.Common.{sym, ap, ◌∙◌, arith}
use Rattle.sq_token.specs.declared.token.TokenKind.{TokenKind}
use Rattle.sq_token.specs.declared.token.TokenKind.TheVariants as token
use Rattle.sq_ast.specs.declared.expr.ExprTree.{ExprTree}
use Rattle.sq_ast.specs.declared.expr.TermTree.{TermTree}
use Rattle.sq_ast.specs.declared.expr.FuncTree.{FuncTree}
use Rattle.sq_ast.specs.declared.expr.ColRef.{ColRef}
use Rattle.sq_ast.specs.declared.cond.CondTree.{CondTree}
use Rattle.sq_ast.specs.declared.cond.CmpTree.{CmpTree}
use Rattle.sq_ast.specs.Words as w
use Rattle.sq_ast.specs.Words.{Tokens, Text}
use Rattle.sq_ast.specs.Spelling as s
use Rattle.sq_ast.specs.Spelling.{SpellsName, SpellsColRef, SpellsFunction, SpellsExpr, SpellsTerms, SpellsProduct, SpellsFactors, SpellsSign, SpellsPrim, SpellsComparison, SpellsCond, SpellsConj, SpellsNeg, SpellsTest}
use Rattle.sq_ast.specs.Reading as r
use Rattle.sq_ast.specs.Parser.{sees, after}
use Rattle.sq_ast.proofs.TokenLemmas.{bytes_same}
use Rattle.sq_ast.proofs.ParserLemmas.{Yields, seen, y_expect, y_weaken, y_nested}
use Rattle.sq_ast.proofs.Soundness.{sum_sound, level_sound}
use Rattle.sq_terms.specs.Lookahead.{is_test, one_less, depth_behind, where_open, holds_test, Tells}

-- ---- token by token

-- a token that neither tests nor opens or closes a parenthesis
abbrev IsPlain : TokenKind → Type 0
IsPlain t = (is_test t ≡ false) × (w.is_token w.LEFT_PAREN t ≡ false) × (w.is_token w.RIGHT_PAREN t ≡ false)

turn : (d : ℕ) (t : TokenKind) (ts : Tokens) (o : Option ℕ) → is_test t ≡ false → depth_behind d t ≡ o → holds_test d (t ∷ ts) ≡ where_open o (λ next. holds_test next ts)
unfolding holds_test
turn d t ts o h was = ap (λ (b : Bool). if b then true else where_open (depth_behind d t) (λ next. holds_test next ts)) h ∙ ap (λ p. where_open p (λ next. holds_test next ts)) was

depth_kept : (d : ℕ) (t : TokenKind) → IsPlain t → depth_behind d t ≡ Some d
unfolding depth_behind
depth_kept d t plain = rw (plain.1, plain.2)

over : (d : ℕ) (t : TokenKind) (ts : Tokens) → IsPlain t → holds_test d (t ∷ ts) ≡ holds_test d ts
over d t ts plain = turn d t ts (Some d) plain.0 (depth_kept d t plain)

into : (d : ℕ) (ts : Tokens) → holds_test d (w.LEFT_PAREN ∷ ts) ≡ holds_test (suc d) ts
unfolding depth_behind is_test r.comparison_of w.same_symbol
into d ts = turn d w.LEFT_PAREN ts (Some (suc d)) refl refl

out_of : (d : ℕ) (ts : Tokens) → holds_test (suc d) (w.RIGHT_PAREN ∷ ts) ≡ holds_test d ts
unfolding depth_behind is_test r.comparison_of w.same_symbol
out_of d ts = turn (suc d) w.RIGHT_PAREN ts (Some d) refl refl

closed_at : (ts : Tokens) → holds_test 0 (w.RIGHT_PAREN ∷ ts) ≡ false
unfolding depth_behind is_test r.comparison_of w.same_symbol
closed_at ts = turn 0 w.RIGHT_PAREN ts None refl refl

pub test_end : (d : ℕ) (ts : Tokens) → ts ≡ [] → holds_test d ts ≡ false
unfolding holds_test
test_end d [] e = refl
test_end d (t ∷ ts) e = cc

pub test_here : (d : ℕ) (t : TokenKind) (ts us : Tokens) → ts ≡ t ∷ us → is_test t ≡ true → holds_test d ts ≡ true
unfolding holds_test
test_here d t ts us e h = rw (e, h)

pub test_later : (d : ℕ) (t : TokenKind) (ts us : Tokens) (o : Option ℕ) → ts ≡ t ∷ us → is_test t ≡ false → o ≡ depth_behind d t →
    holds_test d ts ≡ where_open o (λ next. holds_test next us)
test_later d t ts us o e h was = ap (holds_test d) e ∙ turn d t us o h (sym was)

pub no_deeper : (d : ℕ) (t : TokenKind) (n : ℕ) → Some n ≡ depth_behind d t → n ≤ d + 1
unfolding depth_behind
no_deeper d t n e = at (w.is_token w.LEFT_PAREN t) (w.is_token w.RIGHT_PAREN t) e
  where
    below : (k : ℕ) → Some n ≡ one_less k → n ≤ k + 1
    below zero h = cc
    below (suc k) h = let same : n ≡ k = cc in omega arith

    at : (a b : Bool) → Some n ≡ (if a then Some (suc d) else (if b then one_less d else Some d)) → n ≤ d + 1
    at true b h = let same : n ≡ suc d = cc in omega arith
    at false true h = below d h
    at false false h = let same : n ≡ d = cc in omega arith

-- ---- an expression holds no test

is_reserved_is : w.is_reserved (codes "is") ≡ true
unfolding w.is_reserved
is_reserved_is = refl

not_is_by : (word : Text) → w.is_reserved word ≡ false → (b : Bool) → bytes_eq word (codes "is") ≡ b → b ≡ false
not_is_by word h false was = refl
not_is_by word h true was = let same = bytes_same word (codes "is") was in let no : w.is_reserved (codes "is") ≡ false = ap w.is_reserved (sym same) ∙ h in let yes = is_reserved_is in cc

not_is : (word : Text) → w.is_reserved word ≡ false → bytes_eq word (codes "is") ≡ false
not_is word h = not_is_by word h (bytes_eq word (codes "is")) refl

plain_name : {t : TokenKind} {name : Text} → SpellsName t name → IsPlain t
unfolding is_test r.comparison_of
plain_name s.quoted_name = (refl, refl, refl)
plain_name (s.word_name {word} h) = (not_is word h, refl, refl)

plain_function : {t : TokenKind} {f : FuncTree} → SpellsFunction t f → IsPlain t
unfolding is_test r.comparison_of
plain_function s.count_function = (refl, refl, refl)
plain_function s.sum_function = (refl, refl, refl)
plain_function s.min_function = (refl, refl, refl)
plain_function s.max_function = (refl, refl, refl)

plain_dot : IsPlain w.DOT
unfolding is_test r.comparison_of w.same_symbol
plain_dot = (refl, refl, refl)

plain_star : IsPlain w.STAR
unfolding is_test r.comparison_of w.same_symbol
plain_star = (refl, refl, refl)

plain_plus : IsPlain w.PLUS
unfolding is_test r.comparison_of w.same_symbol
plain_plus = (refl, refl, refl)

plain_minus : IsPlain w.MINUS
unfolding is_test r.comparison_of w.same_symbol
plain_minus = (refl, refl, refl)

plain_number : (n : ℕ) → IsPlain (token.Number n)
unfolding is_test r.comparison_of
plain_number n = (refl, refl, refl)

plain_text : (text : Text) → IsPlain (token.Text text)
unfolding is_test r.comparison_of
plain_text text = (refl, refl, refl)

col_ref_passes : (d : ℕ) {ts rest : Tokens} {c : ColRef} → SpellsColRef ts c rest → holds_test d ts ≡ holds_test d rest
col_ref_passes d (s.plain_column n) = over d _ _ (plain_name n)
col_ref_passes d (s.qualified_column n m) = over d _ _ (plain_name n) ∙ (over d _ _ plain_dot ∙ over d _ _ (plain_name m))

mutual
  expr_passes : (d : ℕ) {ts rest : Tokens} {e : ExprTree} → SpellsExpr ts e rest → holds_test d ts ≡ holds_test d rest
  expr_passes d (s.sum g gs) = product_passes d g ∙ terms_pass d gs

  terms_pass : (d : ℕ) {ts rest : Tokens} {es : List TermTree} → SpellsTerms ts es rest → holds_test d ts ≡ holds_test d rest
  terms_pass d s.no_term = refl
  terms_pass d (s.added g gs) = over d _ _ plain_plus ∙ (product_passes d g ∙ terms_pass d gs)
  terms_pass d (s.subtracted g gs) = over d _ _ plain_minus ∙ (product_passes d g ∙ terms_pass d gs)

  product_passes : (d : ℕ) {ts rest : Tokens} {e : ExprTree} → SpellsProduct ts e rest → holds_test d ts ≡ holds_test d rest
  product_passes d (s.product g gs) = sign_passes d g ∙ factors_pass d gs

  factors_pass : (d : ℕ) {ts rest : Tokens} {es : List ExprTree} → SpellsFactors ts es rest → holds_test d ts ≡ holds_test d rest
  factors_pass d s.no_factor = refl
  factors_pass d (s.factor g gs) = over d _ _ plain_star ∙ (sign_passes d g ∙ factors_pass d gs)

  sign_passes : (d : ℕ) {ts rest : Tokens} {e : ExprTree} → SpellsSign ts e rest → holds_test d ts ≡ holds_test d rest
  sign_passes d (s.unsigned g) = prim_passes d g
  sign_passes d (s.negative g) = over d _ _ plain_minus ∙ prim_passes d g

  prim_passes : (d : ℕ) {ts rest : Tokens} {e : ExprTree} → SpellsPrim ts e rest → holds_test d ts ≡ holds_test d rest
  prim_passes d s.number = over d _ _ (plain_number _)
  prim_passes d s.text = over d _ _ (plain_text _)
  prim_passes d (s.column g) = col_ref_passes d g
  prim_passes d s.count_all = over d _ _ (plain_function s.count_function) ∙ (into d _ ∙ (over (suc d) _ _ plain_star ∙ out_of d _))
  prim_passes d (s.call f g) = over d _ _ (plain_function f) ∙ (into d _ ∙ (expr_passes (suc d) g ∙ out_of d _))
  prim_passes d (s.nested_expr g) = into d _ ∙ (expr_passes (suc d) g ∙ out_of d _)

-- ---- behind the parenthesis that an expression begins with

no_name : {t : TokenKind} {name : Text} → SpellsName t name → t ≡ w.LEFT_PAREN → ⊥
no_name s.quoted_name e = cc
no_name (s.word_name h) e = cc

no_function : {t : TokenKind} {f : FuncTree} → SpellsFunction t f → t ≡ w.LEFT_PAREN → ⊥
no_function s.count_function e = cc
no_function s.sum_function e = cc
no_function s.min_function e = cc
no_function s.max_function e = cc

head_of : (t u : TokenKind) (ts us : Tokens) → t ∷ ts ≡ u ∷ us → t ≡ u
head_of t u ts us e = cc

tail_of : (t u : TokenKind) (ts us : Tokens) → t ∷ ts ≡ u ∷ us → ts ≡ us
tail_of t u ts us e = cc

col_ref_opens : {ts rest : Tokens} {c : ColRef} (us : Tokens) → SpellsColRef ts c rest → ts ≡ w.LEFT_PAREN ∷ us → ⊥
col_ref_opens us (s.plain_column n) e = no_name n (head_of _ _ _ _ e)
col_ref_opens us (s.qualified_column n m) e = no_name n (head_of _ _ _ _ e)

prim_opens : {ts rest : Tokens} {e : ExprTree} (us : Tokens) → SpellsPrim ts e rest → ts ≡ w.LEFT_PAREN ∷ us → holds_test 0 us ≡ false
prim_opens us s.number e = cc
prim_opens us s.text e = cc
prim_opens us (s.column g) e = absurd (col_ref_opens us g e)
prim_opens us s.count_all e = cc
prim_opens us (s.call f g) e = absurd (no_function f (head_of _ _ _ _ e))
prim_opens us (s.nested_expr g) e = ap (holds_test 0) (sym (tail_of _ _ _ _ e)) ∙ (expr_passes 0 g ∙ closed_at _)

sign_opens : {ts rest : Tokens} {e : ExprTree} (us : Tokens) → SpellsSign ts e rest → ts ≡ w.LEFT_PAREN ∷ us → holds_test 0 us ≡ false
sign_opens us (s.unsigned g) e = prim_opens us g e
sign_opens us (s.negative g) e = cc

expr_opens : {ts rest : Tokens} {e : ExprTree} (us : Tokens) → SpellsExpr ts e rest → ts ≡ w.LEFT_PAREN ∷ us → holds_test 0 us ≡ false
expr_opens us (s.sum (s.product g gs) hs) e = sign_opens us g e

no_operand_by : (n : ℕ) (us : Tokens) → holds_test 0 us ≡ true → (o : Option (ExprTree × Tokens)) → r.sum (r.level n) (w.LEFT_PAREN ∷ us) ≡ o → o ≡ None
no_operand_by n us h None was = refl
no_operand_by n us h (Some (e, rest)) was =
    let none = expr_opens us ((sum_sound (r.level n) (level_sound n)).run (w.LEFT_PAREN ∷ us) e rest was) refl in cc

-- no operand is read where the parenthesis holds a test
no_operand : (n : ℕ) (ts us : Tokens) → ts ≡ w.LEFT_PAREN ∷ us → holds_test 0 us ≡ true → r.sum (r.level n) ts ≡ None
no_operand n ts us e h = ap (r.sum (r.level n)) e ∙ no_operand_by n us h (r.sum (r.level n) (w.LEFT_PAREN ∷ us)) refl

-- ---- a condition holds a test, before its parenthesis closes

plain_not : IsPlain w.NOT
unfolding is_test r.comparison_of
plain_not = (refl, refl, refl)

is_tests : is_test w.IS ≡ true
unfolding is_test r.comparison_of
is_tests = refl

comparison_tests : {t : TokenKind} {c : CmpTree} → SpellsComparison t c → is_test t ≡ true
unfolding is_test r.comparison_of w.same_symbol
comparison_tests s.equal = refl
comparison_tests s.not_equal = refl
comparison_tests s.less = refl
comparison_tests s.less_equal = refl
comparison_tests s.greater = refl
comparison_tests s.greater_equal = refl

mutual
  cond_tests : (d : ℕ) {ts rest : Tokens} {c : CondTree} → SpellsCond ts c rest → holds_test d ts ≡ true
  cond_tests d (s.any g gs) = conj_tests d g

  conj_tests : (d : ℕ) {ts rest : Tokens} {c : CondTree} → SpellsConj ts c rest → holds_test d ts ≡ true
  conj_tests d (s.all g gs) = neg_tests d g

  neg_tests : (d : ℕ) {ts rest : Tokens} {c : CondTree} → SpellsNeg ts c rest → holds_test d ts ≡ true
  neg_tests d (s.positive g) = test_tests d g
  neg_tests d (s.negated g) = over d _ _ plain_not ∙ test_tests d g

  test_tests : (d : ℕ) {ts rest : Tokens} {c : CondTree} → SpellsTest ts c rest → holds_test d ts ≡ true
  test_tests d (s.compare g cmp h) = expr_passes d g ∙ test_here d _ _ _ refl (comparison_tests cmp)
  test_tests d (s.is_null g) = expr_passes d g ∙ test_here d _ _ _ refl is_tests
  test_tests d (s.is_not_null g) = expr_passes d g ∙ test_here d _ _ _ refl is_tests
  test_tests d (s.nested_cond g) = into d _ ∙ cond_tests (suc d) g

-- a parenthesis, where one comes next, holds a test
abbrev Holds : Tokens → CondTree → Tokens → Type 0
Holds ts c rest = (us : Tokens) → ts ≡ w.LEFT_PAREN ∷ us → holds_test 0 us ≡ true

held : (n : ℕ) → Yields Holds (r.nested_cond (r.level n))
unfolding r.nested_cond
held n = y_expect w.LEFT_PAREN (y_weaken (λ ts c rest d us e. ap (holds_test 0) (sym (tail_of _ _ _ _ e)) ∙ cond_tests 0 d) (y_nested (level_sound n).cond))

no_condition_by : (n : ℕ) (ts us : Tokens) → ts ≡ w.LEFT_PAREN ∷ us → holds_test 0 us ≡ false → (o : Option (CondTree × Tokens)) → r.nested_cond (r.level n) ts ≡ o → o ≡ None
no_condition_by n ts us e h None was = refl
no_condition_by n ts us e h (Some (c, rest)) was = let some : holds_test 0 us ≡ true = (held n).run ts c rest was us e in cc

-- ---- what the look ahead tells

tells : (ts us : Tokens) (b : Bool) → ts ≡ w.LEFT_PAREN ∷ us → holds_test 0 us ≡ b → Tells b ts
tells ts us true e h = λ n. no_operand n ts us e h
tells ts us false e h = λ n. no_condition_by n ts us e h (r.nested_cond (r.level n) ts) refl

pub opens : (ts us : Tokens) (b : Bool) → sees w.LEFT_PAREN ts ≡ true → after w.LEFT_PAREN ts ≡ us → b ≡ holds_test 0 us → Tells b ts
opens ts us b h same was = tells ts us b (seen w.LEFT_PAREN ts h ∙ ap (λ vs. w.LEFT_PAREN ∷ vs) same) (sym was)

pub opens_nothing : (ts : Tokens) → sees w.LEFT_PAREN ts ≡ false → Tells false ts
unfolding r.nested_cond
opens_nothing ts h = λ n. rw h refl
