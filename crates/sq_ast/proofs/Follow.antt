-- What may follow a tree, and with what a tree begins, by a rank of tokens: a token of rank n goes on with what is
-- spelled at depth n of the grammar, so that a tree ends where a token of a higher rank stands.
use Rattle.std.specs.Prelude.{◌≡◌, ◌≢◌, ℕ, ◌≤◌, ◌<◌, Bool, true, false, List, [], ◌∷◌, Option, Some, None, refl}
use Rattle.std.proofs.Common.{sym, ap, subst, arith, lit<, lit≤}
use Rattle.std.proofs.Math.Dec.{T, ltb, leb}
use Rattle.sq_token.specs.declared.token.TokenKind.{TokenKind}
use Rattle.sq_token.specs.declared.token.TokenKind.TheVariants as token
use Rattle.sq_token.specs.declared.symbol.Symbol.{Symbol}
use Rattle.sq_token.specs.declared.symbol.Symbol.TheVariants as symbol
use Rattle.sq_ast.specs.declared.expr.ExprTree.{ExprTree}
use Rattle.sq_ast.specs.declared.expr.TermTree.{TermTree}
use Rattle.sq_ast.specs.declared.cond.CondTree.{CondTree}
use Rattle.sq_ast.specs.declared.query.QueryTree.{QueryTree}
use Rattle.sq_ast.specs.Words as w
use Rattle.sq_ast.specs.Words.{Tokens, Text, is_token, is_reserved}
use Rattle.sq_ast.specs.Spelling as s
use Rattle.sq_ast.specs.Spelling.{SpellsName, SpellsAlias, SpellsMaybeAlias, SpellsColRef, SpellsFunction, SpellsComparison, SpellsExpr, SpellsTerms, SpellsProduct, SpellsFactors, SpellsSign, SpellsPrim, SpellsCond, SpellsOrs, SpellsConj, SpellsAnds, SpellsNeg, SpellsTest, SpellsSelect, SpellsItem, SpellsItems, SpellsColRefs, SpellsWhere, SpellsGroup, SpellsHaving, SpellsQuery, SpellsSteps, SpellsTerm, SpellsOperands, SpellsOperand, SpellsJoined, SpellsColumns}
use Rattle.sq_ast.specs.Parser.{sees}
use Rattle.sq_ast.specs.Reading.{in_table}
use Rattle.sq_ast.proofs.ParserLemmas.{seen, by_lines}

abbrev symbol_rank : Symbol → ℕ
symbol_rank symbol.LeftParen = 1
symbol_rank symbol.RightParen = 15
symbol_rank symbol.Comma = 9
symbol_rank symbol.Semicolon = 15
symbol_rank symbol.Dot = 1
symbol_rank symbol.Star = 2
symbol_rank symbol.Plus = 3
symbol_rank symbol.Minus = 3
symbol_rank symbol.Equal = 4
symbol_rank symbol.NotEqual = 4
symbol_rank symbol.Less = 4
symbol_rank symbol.LessEqual = 4
symbol_rank symbol.Greater = 4
symbol_rank symbol.GreaterEqual = 4

abbrev ranks : List (TokenKind × ℕ)
ranks =
    (w.IS, 4) ∷ (w.AND, 5) ∷ (w.OR, 6) ∷ (w.AS, 8) ∷ (w.CROSS, 9) ∷ (w.JOIN, 9) ∷ (w.INNER, 9) ∷ (w.LEFT, 9) ∷ (w.WHERE, 10) ∷ (w.GROUP, 11) ∷ (w.HAVING, 12) ∷
    (w.INTERSECT, 13) ∷ (w.UNION, 14) ∷ (w.EXCEPT, 14) ∷ (w.SELECT, 15) ∷ (w.FROM, 15) ∷ (w.ON, 15) ∷ (w.OUTER, 15) ∷ (w.NOT, 16) ∷ (w.NULL, 16) ∷ (w.ALL, 16) ∷ (w.DISTINCT, 16) ∷ []

-- a word that is in no line counts as a name
abbrev by_rank : Option ℕ → ℕ
by_rank None = 7
by_rank (Some n) = n

abbrev pub rank : TokenKind → ℕ
rank (token.Symbol s) = symbol_rank s
rank (token.Word word) = by_rank (in_table ranks (token.Word word))
rank (token.Name _) = 7
rank (token.Text _) = 0
rank (token.Number _) = 0

abbrev pub rank_of : Tokens → ℕ
rank_of [] = 15
rank_of (t ∷ ts) = rank t

-- no token comes next that goes on with a tree of this depth
pub record Stops (n : ℕ) (ts : Tokens) : Type 0 where
  pub above : n < rank_of ts

-- no word comes next that is taken or not
pub record Begins (ts : Tokens) : Type 0 where
  pub below : rank_of ts < 16

pub stop : {n : ℕ} {ts : Tokens} → T (ltb n (rank_of ts)) → Stops n ts
stop h = record { above = lit< h }

pub sooner : {n m : ℕ} {ts : Tokens} → Stops m ts → T (leb n m) → Stops n ts
sooner h le = record { above = let a = h.above in let b = lit≤ le in omega arith }

pub begin : {ts : Tokens} → T (ltb (rank_of ts) 16) → Begins ts
begin h = record { below = lit< h }

other_at : (t : TokenKind) (ts : Tokens) → rank_of ts ≢ rank t → (b : Bool) → sees t ts ≡ b → b ≡ false
other_at t ts h false was = refl
other_at t ts h true was = absurd (h (ap rank_of (seen t ts was)))

pub other : (t : TokenKind) (ts : Tokens) → rank_of ts ≢ rank t → sees t ts ≡ false
other t ts h = other_at t ts h (sees t ts) refl

above_not : (n m k : ℕ) → n < m → k ≤ n → m ≢ k
above_not n m k a b = omega arith

pub missed : {n : ℕ} (t : TokenKind) {ts : Tokens} → Stops n ts → T (leb (rank t) n) → sees t ts ≡ false
missed {n} t {ts} h le = other t ts (above_not n (rank_of ts) (rank t) h.above (lit≤ le))

below_not : (n m : ℕ) → n < 16 → 16 ≤ m → n ≢ m
below_not n m a b = omega arith

pub unbegun : (t : TokenKind) {ts : Tokens} → Begins ts → T (leb 16 (rank t)) → sees t ts ≡ false
unbegun t {ts} h le = other t ts (below_not (rank_of ts) (rank t) h.below (lit≤ le))

-- ---- names

abbrev IsReservedToken : TokenKind → ℕ → Type 0
IsReservedToken (token.Word word) n = is_reserved word ≡ true
IsReservedToken _ n = ⊥

all_reserved : (t : TokenKind) (n : ℕ) → in_table ranks t ≡ Some n → IsReservedToken t n
unfolding is_reserved
all_reserved = by_lines IsReservedToken ranks (refl, (refl, (refl, (refl, (refl, (refl, (refl, (refl, (refl, (refl, (refl, (refl, (refl, (refl, (refl, (refl, (refl, (refl, (refl, (refl, (refl, (refl, tt))))))))))))))))))))))

word_rank : (word : Text) (o : Option ℕ) → is_reserved word ≡ false → in_table ranks (token.Word word) ≡ o → by_rank o ≡ 7
word_rank word None h was = refl
word_rank word (Some n) h was = let yes_reserved = all_reserved (token.Word word) n was in cc

pub name_rank : {t : TokenKind} {name : Text} → SpellsName t name → rank t ≡ 7
name_rank s.quoted_name = refl
name_rank (s.word_name {word} h) = word_rank word (in_table ranks (token.Word word)) h refl

names_begin : {t : TokenKind} {name : Text} {ts : Tokens} → SpellsName t name → Begins (t ∷ ts)
names_begin n = record { below = subst (λ k. k < 16) (sym (name_rank n)) (lit< tt) }

not_eight : (k : ℕ) → k ≡ 7 → k ≡ 8 → ⊥
not_eight k a b = omega arith

-- a name is no word of an alias
pub name_not_as : {t : TokenKind} {name : Text} (ts : Tokens) → SpellsName t name → sees w.AS (t ∷ ts) ≡ false
name_not_as {t} {name} ts n = other w.AS (t ∷ ts) (λ e. not_eight (rank t) (name_rank n) e)

-- ---- what follows the members of a chain

pub comparison_stops : {t : TokenKind} {c : _} {ts : Tokens} → SpellsComparison t c → Stops 3 (t ∷ ts)
comparison_stops s.equal = stop tt
comparison_stops s.not_equal = stop tt
comparison_stops s.less = stop tt
comparison_stops s.less_equal = stop tt
comparison_stops s.greater = stop tt
comparison_stops s.greater_equal = stop tt

pub factors_stop : {ts rest : Tokens} {es : List ExprTree} → SpellsFactors ts es rest → Stops 2 rest → Stops 1 ts
factors_stop s.no_factor h = sooner h tt
factors_stop (s.factor d ds) h = stop tt

pub terms_stop : {ts rest : Tokens} {es : List TermTree} → SpellsTerms ts es rest → Stops 3 rest → Stops 2 ts
terms_stop s.no_term h = sooner h tt
terms_stop (s.added d ds) h = stop tt
terms_stop (s.subtracted d ds) h = stop tt

pub ands_stop : {ts rest : Tokens} {cs : List CondTree} → SpellsAnds ts cs rest → Stops 5 rest → Stops 3 ts
ands_stop s.no_and h = sooner h tt
ands_stop (s.and d ds) h = stop tt

pub ors_stop : {ts rest : Tokens} {cs : List CondTree} → SpellsOrs ts cs rest → Stops 6 rest → Stops 5 ts
ors_stop s.no_or h = sooner h tt
ors_stop (s.or d ds) h = stop tt

pub alias_stops : {ts rest : Tokens} {a : _} → SpellsMaybeAlias ts a rest → Stops 8 rest → Stops 3 ts
alias_stops s.no_alias h = sooner h tt
alias_stops (s.an_alias (s.bare_alias n)) h = record { above = subst (λ k. 3 < k) (sym (name_rank n)) (lit< tt) }
alias_stops (s.an_alias (s.as_alias n)) h = stop tt

pub items_stop : {ts rest : Tokens} {is : _} → SpellsItems ts is rest → Stops 9 rest → Stops 8 ts
items_stop s.no_item h = sooner h tt
items_stop (s.an_item d ds) h = stop tt

pub col_refs_stop : {ts rest : Tokens} {cs : _} → SpellsColRefs ts cs rest → Stops 9 rest → Stops 1 ts
col_refs_stop s.no_column h = sooner h tt
col_refs_stop (s.a_column d ds) h = stop tt

pub joined_stop : {ts rest : Tokens} {js : _} → SpellsJoined ts js rest → Stops 9 rest → Stops 8 ts
joined_stop s.no_source h = sooner h tt
joined_stop (s.every_pair s.comma d ds) h = stop tt
joined_stop (s.every_pair s.cross_join d ds) h = stop tt
joined_stop (s.inner s.plain_join d g ds) h = stop tt
joined_stop (s.inner s.inner_join d g ds) h = stop tt
joined_stop (s.left s.left_join d g ds) h = stop tt
joined_stop (s.left s.left_outer_join d g ds) h = stop tt

pub where_stops : {ts rest : Tokens} {c : _} → SpellsWhere ts c rest → Stops 10 rest → Stops 9 ts
where_stops s.no_where h = sooner h tt
where_stops (s.a_where d) h = stop tt

pub group_stops : {ts rest : Tokens} {cs : _} → SpellsGroup ts cs rest → Stops 11 rest → Stops 10 ts
group_stops s.no_group h = sooner h tt
group_stops (s.a_group d ds) h = stop tt

pub having_stops : {ts rest : Tokens} {c : _} → SpellsHaving ts c rest → Stops 12 rest → Stops 11 ts
having_stops s.no_having h = sooner h tt
having_stops (s.a_having d) h = stop tt

pub operands_stop : {ts rest : Tokens} {qs : List QueryTree} → SpellsOperands ts qs rest → Stops 13 rest → Stops 12 ts
operands_stop s.no_operand h = sooner h tt
operands_stop (s.an_operand s.intersect d ds) h = stop tt
operands_stop (s.an_operand s.intersect_distinct d ds) h = stop tt

pub steps_stop : {ts rest : Tokens} {qs : _} → SpellsSteps ts qs rest → Stops 14 rest → Stops 13 ts
steps_stop s.no_step h = sooner h tt
steps_stop (s.a_step s.union d ds) h = stop tt
steps_stop (s.a_step s.union_all d ds) h = stop tt
steps_stop (s.a_step s.union_distinct d ds) h = stop tt
steps_stop (s.a_step s.except d ds) h = stop tt
steps_stop (s.a_step s.except_distinct d ds) h = stop tt

-- ---- with what a tree begins

pub name_no_star : {t : TokenKind} {name : Text} (ts : Tokens) → SpellsName t name → sees w.STAR (t ∷ ts) ≡ false
unfolding sees
name_no_star ts s.quoted_name = refl
name_no_star ts (s.word_name h) = refl

pub name_no_minus : {t : TokenKind} {name : Text} (ts : Tokens) → SpellsName t name → sees w.MINUS (t ∷ ts) ≡ false
unfolding sees
name_no_minus ts s.quoted_name = refl
name_no_minus ts (s.word_name h) = refl

pub prim_no_minus : {ts rest : Tokens} {e : ExprTree} → SpellsPrim ts e rest → sees w.MINUS ts ≡ false
unfolding sees w.same_symbol
prim_no_minus s.number = refl
prim_no_minus s.text = refl
prim_no_minus (s.column (s.plain_column n)) = name_no_minus [] n
prim_no_minus (s.column (s.qualified_column n m)) = name_no_minus [] n
prim_no_minus s.count_all = refl
prim_no_minus (s.call s.count_function d) = refl
prim_no_minus (s.call s.sum_function d) = refl
prim_no_minus (s.call s.min_function d) = refl
prim_no_minus (s.call s.max_function d) = refl
prim_no_minus (s.nested_expr d) = refl

prim_no_star : {ts rest : Tokens} {e : ExprTree} → SpellsPrim ts e rest → sees w.STAR ts ≡ false
unfolding sees w.same_symbol
prim_no_star s.number = refl
prim_no_star s.text = refl
prim_no_star (s.column (s.plain_column n)) = name_no_star [] n
prim_no_star (s.column (s.qualified_column n m)) = name_no_star [] n
prim_no_star s.count_all = refl
prim_no_star (s.call s.count_function d) = refl
prim_no_star (s.call s.sum_function d) = refl
prim_no_star (s.call s.min_function d) = refl
prim_no_star (s.call s.max_function d) = refl
prim_no_star (s.nested_expr d) = refl

pub expr_no_star : {ts rest : Tokens} {e : ExprTree} → SpellsExpr ts e rest → sees w.STAR ts ≡ false
unfolding sees w.same_symbol
expr_no_star (s.sum (s.product (s.unsigned d) fs) ts) = prim_no_star d
expr_no_star (s.sum (s.product (s.negative d) fs) ts) = refl

prim_begins : {ts rest : Tokens} {e : ExprTree} → SpellsPrim ts e rest → Begins ts
prim_begins s.number = begin tt
prim_begins s.text = begin tt
prim_begins (s.column (s.plain_column n)) = names_begin n
prim_begins (s.column (s.qualified_column n m)) = names_begin n
prim_begins s.count_all = begin tt
prim_begins (s.call s.count_function d) = begin tt
prim_begins (s.call s.sum_function d) = begin tt
prim_begins (s.call s.min_function d) = begin tt
prim_begins (s.call s.max_function d) = begin tt
prim_begins (s.nested_expr d) = begin tt

expr_begins : {ts rest : Tokens} {e : ExprTree} → SpellsExpr ts e rest → Begins ts
expr_begins (s.sum (s.product (s.unsigned d) fs) ts) = prim_begins d
expr_begins (s.sum (s.product (s.negative d) fs) ts) = begin tt

pub test_begins : {ts rest : Tokens} {c : CondTree} → SpellsTest ts c rest → Begins ts
test_begins (s.compare d c g) = expr_begins d
test_begins (s.is_null d) = expr_begins d
test_begins (s.is_not_null d) = expr_begins d
test_begins (s.nested_cond d) = begin tt

pub item_begins : {ts rest : Tokens} {i : _} → SpellsItem ts i rest → Begins ts
item_begins s.star = begin tt
item_begins (s.star_of n) = names_begin n
item_begins (s.computed d a) = expr_begins d

pub operand_begins : {ts rest : Tokens} {q : QueryTree} → SpellsOperand ts q rest → Begins ts
operand_begins (s.block s.select e ds d j f g h) = begin tt
operand_begins (s.block s.select_all e ds d j f g h) = begin tt
operand_begins (s.block s.select_distinct e ds d j f g h) = begin tt
operand_begins (s.nested_query d) = begin tt

pub term_begins : {ts rest : Tokens} {q : QueryTree} → SpellsTerm ts q rest → Begins ts
term_begins (s.intersection d ds) = operand_begins d

pub columns_begin : {ts rest : Tokens} {cs : _} → SpellsColumns ts cs rest → Begins rest → Begins ts
columns_begin s.no_columns h = h
columns_begin (s.more_columns d ds) h = begin tt
