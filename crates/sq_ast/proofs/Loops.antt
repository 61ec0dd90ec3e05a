-- How a loop reads a chain: a step that answers None ends it and takes nothing, and one that answers a member takes
-- some tokens. So `many` needs no count of its turns.
use Rattle.std.specs.Prelude.{◌≡◌, ℕ, zero, suc, ◌≤◌, ◌<◌, List, [], ◌∷◌, length, Option, Some, None, refl, Bool, true, false, cond, ◌++◌}
use Rattle.std.proofs.Common.{sym, ap, ◌∙◌, arith, append_assoc}
use Rattle.std.proofs.lemmas.List.{append-nil}
use Rattle.sq_token.specs.declared.token.TokenKind.{TokenKind}
use Rattle.sq_ast.specs.declared.expr.ExprTree.{ExprTree}
use Rattle.sq_ast.specs.declared.expr.TermTree.{TermTree}
use Rattle.sq_ast.specs.declared.cond.CondTree.{CondTree}
use Rattle.sq_ast.specs.Words as w
use Rattle.sq_ast.specs.Words.{Tokens}
use Rattle.sq_ast.specs.Spelling as s
use Rattle.sq_ast.specs.Spelling.{SpellsTerms, SpellsFactors, SpellsOrs, SpellsAnds, SpellsItems, SpellsColRefs, SpellsSteps, SpellsOperands, SpellsJoined, SpellsColumns}
use Rattle.sq_ast.specs.Parser.{Parser, and_then, ◌<$>◌, pure, goes_on, sees, after, many_for, many, clause}
use Rattle.sq_ast.specs.Reading as r
use Rattle.sq_ast.specs.Reading.{Inner}
use Rattle.sq_ast.proofs.ParserLemmas.{Shape, Yields, Adds}
use Rattle.sq_ast.proofs.Taken
use Rattle.sq_ast.proofs.Taken.{Taken, took, onward, shorter, on_taken, set_op_takes}
use Rattle.sq_ast.proofs.Soundness.{Sound, factors_sound, terms_sound, ands_sound, ors_sound, col_refs_sound, items_sound, joined_sound, operands_sound, steps_sound, columns_sound}

pub record Steps {A : Type 0} (next : Parser (Option A)) : Type 0 where
  pub shrinks : (ts mid : Tokens) (x : A) → next ts ≡ Some (Some x, mid) → length mid < length ts
  pub stays : (ts mid : Tokens) → next ts ≡ Some (None, mid) → mid ≡ ts
  pub at_end : next [] ≡ Some (None, [])

-- ---- the turns do not matter

same_turns_at : {A : Type 0} (next : Parser (Option A)) → Steps next → (n m : ℕ) → ((ts : Tokens) → length ts ≤ n → length ts ≤ m → many_for n next ts ≡ many_for m next ts) →
    (ts : Tokens) → length ts ≤ suc n → length ts ≤ suc m → (o : Option (Option A × Tokens)) → next ts ≡ o →
    and_then o (λ found. goes_on found (many_for n next)) ≡ and_then o (λ found. goes_on found (many_for m next))
same_turns_at next steps n m same ts le lm None was = refl
same_turns_at next steps n m same ts le lm (Some (None, mid)) was = refl
same_turns_at next steps n m same ts le lm (Some (Some x, mid)) was =
    let less = steps.shrinks ts mid x was in
    ap (λ o. and_then o (λ xs. pure (x ∷ xs))) (same mid (omega arith) (omega arith))

no_turns : {A : Type 0} (next : Parser (Option A)) → Steps next → (n : ℕ) (ts : Tokens) → length ts ≤ 0 → many_for n next ts ≡ Some ([], ts)
unfolding many_for
no_turns next steps zero ts le = refl
no_turns next steps (suc n) [] le = ap (λ o. and_then o (λ found. goes_on found (many_for n next))) steps.at_end
no_turns next steps (suc n) (t ∷ ts) le = absurd (omega arith)

pub same_turns : {A : Type 0} (next : Parser (Option A)) → Steps next → (n m : ℕ) (ts : Tokens) → length ts ≤ n → length ts ≤ m → many_for n next ts ≡ many_for m next ts
unfolding many_for
same_turns next steps zero m ts le lm = sym (no_turns next steps m ts le)
same_turns next steps (suc n) zero ts le lm = no_turns next steps (suc n) ts lm
same_turns next steps (suc n) (suc m) ts le lm = same_turns_at next steps n m (same_turns next steps n m) ts le lm (next ts) refl

turn : {A : Type 0} (next : Parser (Option A)) (n : ℕ) (ts : Tokens) (o : Option (Option A × Tokens)) → next ts ≡ o → many_for (suc n) next ts ≡ and_then o (λ found. goes_on found (many_for n next))
unfolding many_for
turn next n ts o was = ap (λ p. and_then p (λ found. goes_on found (many_for n next))) was

-- a chain, by its first step
many_by : {A : Type 0} (next : Parser (Option A)) → Steps next → (ts : Tokens) → many next ts ≡ many_for (suc (length ts)) next ts
unfolding many
many_by next steps ts = same_turns next steps (length ts) (suc (length ts)) ts (omega arith) (omega arith)

-- where the step finds no member, the chain ends there
pub many_stop : {A : Type 0} (next : Parser (Option A)) → Steps next → (ts mid : Tokens) → next ts ≡ Some (None, mid) → many next ts ≡ Some ([], mid)
many_stop next steps ts mid was = many_by next steps ts ∙ turn next (length ts) ts (Some (None, mid)) was

-- where it finds one, the chain goes on behind it
pub many_step : {A : Type 0} (next : Parser (Option A)) → Steps next → (ts mid : Tokens) (x : A) → next ts ≡ Some (Some x, mid) →
    many next ts ≡ and_then (many next mid) (λ xs. pure (x ∷ xs))
unfolding many
many_step next steps ts mid x was =
    let less = steps.shrinks ts mid x was in
    many_by next steps ts ∙ (turn next (length ts) ts (Some (Some x, mid)) was ∙
    ap (λ o. and_then o (λ xs. pure (x ∷ xs))) (same_turns next steps (length ts) (length mid) mid (omega arith) (omega arith)))

-- where it refuses, the chain is refused
pub many_refuse : {A : Type 0} (next : Parser (Option A)) → Steps next → (ts : Tokens) → next ts ≡ None → many next ts ≡ None
many_refuse next steps ts was = many_by next steps ts ∙ turn next (length ts) ts None was

-- ---- the chains of the grammar

-- a step that reads only further members of a list, each of which takes a token
steps_by : {A : Type 0} (L : Shape (List A)) (next : Parser (Option A)) → Yields (Adds L) next → ((ts : Tokens) → L ts [] ts) →
    ((ts mid : Tokens) (x : A) → L ts (x ∷ []) mid → length mid < length ts) → next [] ≡ Some (None, []) → Steps next
steps_by L next yields none less at_end = record {
  shrinks = λ ts mid x e. less ts mid x (yields.run ts (Some x) mid e [] mid (none mid));
  stays = λ ts mid e. sym (yields.run ts None mid e);
  at_end = at_end;
}

behind_token : {ts mid : Tokens} → Taken ts mid → length mid < suc (length ts)
behind_token taken = let less = shorter taken in omega arith

factors_less : {ts rest : Tokens} {e : ExprTree} {es : List ExprTree} → SpellsFactors ts (e ∷ es) rest → length rest < length ts
factors_less (s.factor d ds) = behind_token (onward (Taken.sign_taken d) (Taken.factors_taken ds))

terms_less : {ts rest : Tokens} {e : TermTree} {es : List TermTree} → SpellsTerms ts (e ∷ es) rest → length rest < length ts
terms_less (s.added d ds) = behind_token (onward (Taken.product_taken d) (Taken.terms_taken ds))
terms_less (s.subtracted d ds) = behind_token (onward (Taken.product_taken d) (Taken.terms_taken ds))

ands_less : {ts rest : Tokens} {c : CondTree} {cs : List CondTree} → SpellsAnds ts (c ∷ cs) rest → length rest < length ts
ands_less (s.and d ds) = behind_token (onward (Taken.neg_taken d) (Taken.ands_taken ds))

ors_less : {ts rest : Tokens} {c : CondTree} {cs : List CondTree} → SpellsOrs ts (c ∷ cs) rest → length rest < length ts
ors_less (s.or d ds) = behind_token (onward (Taken.conj_taken d) (Taken.ors_taken ds))

col_refs_less : {ts rest : Tokens} {c : _} {cs : _} → SpellsColRefs ts (c ∷ cs) rest → length rest < length ts
col_refs_less (s.a_column d ds) = behind_token (onward (Taken.col_ref_taken d) (Taken.col_refs_taken ds))

items_less : {ts rest : Tokens} {i : _} {is : _} → SpellsItems ts (i ∷ is) rest → length rest < length ts
items_less (s.an_item d ds) = behind_token (onward (Taken.item_taken d) (Taken.items_taken ds))

joined_less : {ts rest : Tokens} {j : _} {js : _} → SpellsJoined ts (j ∷ js) rest → length rest < length ts
joined_less (s.every_pair s.comma d ds) = behind_token (onward (Taken.source_taken d) (Taken.joined_taken ds))
joined_less (s.every_pair s.cross_join d ds) = behind_token (took {t = w.JOIN} tt (onward (Taken.source_taken d) (Taken.joined_taken ds)))
joined_less (s.inner s.plain_join d g ds) = behind_token (onward (on_taken d g) (Taken.joined_taken ds))
joined_less (s.inner s.inner_join d g ds) = behind_token (took {t = w.JOIN} tt (onward (on_taken d g) (Taken.joined_taken ds)))
joined_less (s.left s.left_join d g ds) = behind_token (took {t = w.JOIN} tt (onward (on_taken d g) (Taken.joined_taken ds)))
joined_less (s.left s.left_outer_join d g ds) =
    behind_token (took {t = w.OUTER} tt (took {t = w.JOIN} tt (onward (on_taken d g) (Taken.joined_taken ds))))

operands_less : {ts rest : Tokens} {q : _} {qs : _} → SpellsOperands ts (q ∷ qs) rest → length rest < length ts
operands_less (s.an_operand s.intersect d ds) = behind_token (onward (Taken.operand_taken d) (Taken.operands_taken ds))
operands_less (s.an_operand s.intersect_distinct d ds) = behind_token (took {t = w.DISTINCT} tt (onward (Taken.operand_taken d) (Taken.operands_taken ds)))

steps_less : {ts rest : Tokens} {q : _} {qs : _} → SpellsSteps ts (q ∷ qs) rest → length rest < length ts
steps_less (s.a_step o d ds) = set_op_takes o (onward (Taken.term_taken d) (Taken.steps_taken ds))

columns_less : {ts rest : Tokens} {c : _} {cs : _} → SpellsColumns ts (c ∷ cs) rest → length rest < length ts
columns_less (s.more_columns d ds) = behind_token (onward (Taken.column_taken d) (Taken.columns_taken ds))

pub col_refs_step : Steps r.next_col_ref
unfolding r.next_col_ref sees after
col_refs_step = steps_by SpellsColRefs r.next_col_ref col_refs_sound (λ ts. s.no_column) (λ ts mid c d. col_refs_less d) refl

pub columns_step : Steps r.next_column_def
unfolding r.next_column_def sees after
columns_step = steps_by SpellsColumns r.next_column_def columns_sound (λ ts. s.no_columns) (λ ts mid c d. columns_less d) refl

module _ (inner : Inner) (sound : Sound inner) where
  pub factors_step : Steps (r.next_factor inner)
  unfolding r.next_factor sees after
  factors_step = steps_by SpellsFactors (r.next_factor inner) (factors_sound inner sound) (λ ts. s.no_factor) (λ ts mid e d. factors_less d) refl

  pub terms_step : Steps (r.next_term inner)
  unfolding r.next_term sees after
  terms_step = steps_by SpellsTerms (r.next_term inner) (terms_sound inner sound) (λ ts. s.no_term) (λ ts mid e d. terms_less d) refl

  pub ands_step : Steps (r.next_and inner)
  unfolding r.next_and sees after
  ands_step = steps_by SpellsAnds (r.next_and inner) (ands_sound inner sound) (λ ts. s.no_and) (λ ts mid c d. ands_less d) refl

  pub ors_step : Steps (r.next_or inner)
  unfolding r.next_or sees after
  ors_step = steps_by SpellsOrs (r.next_or inner) (ors_sound inner sound) (λ ts. s.no_or) (λ ts mid c d. ors_less d) refl

  pub items_step : Steps (r.next_item inner)
  unfolding r.next_item sees after
  items_step = steps_by SpellsItems (r.next_item inner) (items_sound inner sound) (λ ts. s.no_item) (λ ts mid i d. items_less d) refl

  pub joined_step : Steps (r.next_joined inner)
  unfolding r.next_joined sees after
  joined_step = steps_by SpellsJoined (r.next_joined inner) (joined_sound inner sound) (λ ts. s.no_source) (λ ts mid j d. joined_less d) refl

  pub operands_step : Steps (r.next_operand inner)
  unfolding r.next_operand sees after
  operands_step = steps_by SpellsOperands (r.next_operand inner) (operands_sound inner sound) (λ ts. s.no_operand) (λ ts mid q d. operands_less d) refl

  pub queries_step : Steps (r.next_step inner)
  unfolding r.next_step r.set_op sees after
  queries_step = steps_by SpellsSteps (r.next_step inner) (steps_sound inner sound) (λ ts. s.no_step) (λ ts mid q d. steps_less d) refl

-- ---- for the invariant of a loop

-- what is read, with these members before it
abbrev pub with_front : {A : Type 0} → List A → Option (List A × Tokens) → Option (List A × Tokens)
with_front front None = None
with_front front (Some p) = Some (front ++ p.0, p.1)

pub front_stop : {A : Type 0} (next : Parser (Option A)) → Steps next → (front : List A) (ts mid : Tokens) → next ts ≡ Some (None, mid) →
    with_front front (many next ts) ≡ Some (front, mid)
front_stop {A} next steps front ts mid was =
    ap (with_front front) (many_stop next steps ts mid was) ∙ ap (λ (xs : List A). Some (xs, mid)) (append-nil front)

one_more : {A : Type 0} (front : List A) (x : A) (o : Option (List A × Tokens)) → with_front (front ++ x ∷ []) o ≡ with_front front (and_then o (λ xs. pure (x ∷ xs)))
one_more front x None = refl
one_more {A} front x (Some (xs, rest)) = ap (λ (ys : List A). Some (ys, rest)) (append_assoc front (x ∷ []) xs)

pub front_step : {A : Type 0} (next : Parser (Option A)) → Steps next → (front : List A) (ts mid : Tokens) (x : A) → next ts ≡ Some (Some x, mid) →
    with_front (front ++ x ∷ []) (many next mid) ≡ with_front front (many next ts)
front_step next steps front ts mid x was = one_more front x (many next mid) ∙ ap (with_front front) (sym (many_step next steps ts mid x was))

pub front_refuse : {A : Type 0} (next : Parser (Option A)) → Steps next → (front : List A) (ts : Tokens) → next ts ≡ None → with_front front (many next ts) ≡ None
front_refuse next steps front ts was = ap (with_front front) (many_refuse next steps ts was)

-- what a word introduces, by whether it comes next

clause_by : {A : Type 0} (t : TokenKind) (p : Parser A) (ts : Tokens) (b : Bool) → sees t ts ≡ b → clause t p ts ≡ (cond b (Some <$> p) (pure None)) (after t ts)
clause_by {A} t p ts b h = ap (λ (c : Bool). (cond {A = Parser (Option A)} c (Some <$> p) (pure None)) (after t ts)) h

pub clause_there : {A : Type 0} (t : TokenKind) (p : Parser A) (ts mid : Tokens) (x : A) → sees t ts ≡ true → p (after t ts) ≡ Some (x, mid) → clause t p ts ≡ Some (Some x, mid)
clause_there t p ts mid x h g = clause_by t p ts true h ∙ ap (λ o. and_then o (λ y. pure (Some y))) g

pub clause_absent : {A : Type 0} (t : TokenKind) (p : Parser A) (ts : Tokens) → sees t ts ≡ false → clause t p ts ≡ Some (None, after t ts)
clause_absent t p ts h = clause_by t p ts false h

pub clause_refused : {A : Type 0} (t : TokenKind) (p : Parser A) (ts : Tokens) → sees t ts ≡ true → p (after t ts) ≡ None → clause t p ts ≡ None
clause_refused t p ts h g = clause_by t p ts true h ∙ ap (λ o. and_then o (λ y. pure (Some y))) g
