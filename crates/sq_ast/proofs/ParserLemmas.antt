-- What follows from a parser's answer, step by step: `Yields P p` says that whatever `p` reads satisfies `P`.
use Rattle.std.specs.Prelude.{◌≡◌, ℕ, zero, suc, Bool, true, false, cond, if◌then◌else◌, List, [], ◌∷◌, length, Option, Some, None, option_map, refl}
use Rattle.std.specs.List.{AllByRecursion}
use Rattle.std.proofs.Common.{sym, ap, subst, ◌∙◌}
use Rattle.sq_token.specs.declared.token.TokenKind.{TokenKind}
use Rattle.sq_ast.specs.Words.{Tokens, is_token}
use Rattle.sq_ast.specs.Parser.{Parser, and_then, pure, sees, after, go_on, first_of, goes_on, many_for, many, clause}
use Rattle.sq_ast.specs.Words as w
use Rattle.sq_ast.specs.Reading.{by_token, in_table, nested}
use Rattle.sq_ast.proofs.TokenLemmas.{is_same}

-- ---- the next token

-- a token that is seen stands in front
pub seen : (t : TokenKind) (ts : Tokens) → sees t ts ≡ true → ts ≡ t ∷ after t ts
unfolding sees after
seen t [] h = cc
seen t (u ∷ ts) h = rw h (ap (λ x. x ∷ ts) (is_same t u h))

pub unseen : (t : TokenKind) (ts : Tokens) → sees t ts ≡ false → after t ts ≡ ts
unfolding sees after
unseen t [] h = refl
unseen t (u ∷ ts) h = rw h refl

-- ---- shapes

-- what holds of the tokens, what is read from them, and the rest
abbrev pub Shape : Type 0 → Type 1
Shape A = Tokens → A → Tokens → Type 0

pub record Yields {A : Type 0} (P : Shape A) (p : Parser A) : Type 0 where
  pub run : (ts : Tokens) (x : A) (rest : Tokens) → p ts ≡ Some (x, rest) → P ts x rest

-- the next one of a list, or none
abbrev pub Adds : {A : Type 0} → Shape (List A) → Shape (Option A)
Adds L ts None rest = ts ≡ rest
Adds L ts (Some x) rest = (more : List _) (end : Tokens) → L rest more end → L ts (x ∷ more) end

the_pair : {A : Type 0} (p q : A × Tokens) → Some p ≡ Some q → p ≡ q
the_pair p q e = cc

pub y_pure : {A : Type 0} {P : Shape A} {x : A} → ((ts : Tokens) → P ts x ts) → Yields P (pure x)
y_pure {A} {P} {x} h = record { run = λ ts y rest e. subst (λ (v : A × Tokens). P ts v.0 v.1) (the_pair (x, ts) (y, rest) e) (h ts) }

pub y_refuse : {A : Type 0} {P : Shape A} → Yields P (λ ts. None)
y_refuse = record { run = λ ts y rest e. cc }

y_bind_at : {A B : Type 0} (P : Shape A) (Q : Shape B) (p : Parser A) (f : A → Parser B) → Yields P p →
    ((x : A) → Yields (λ mid y rest. (ts : Tokens) → P ts x mid → Q ts y rest) (f x)) →
    (ts : Tokens) (y : B) (rest : Tokens) (o : Option (A × Tokens)) → p ts ≡ o → and_then o f ≡ Some (y, rest) → Q ts y rest
y_bind_at P Q p f first next ts y rest None was e = cc
y_bind_at P Q p f first next ts y rest (Some (x, mid)) was e = (next x).run mid y rest e ts (first.run ts x mid was)

pub y_bind : {A B : Type 0} {P : Shape A} {Q : Shape B} {p : Parser A} {f : A → Parser B} → Yields P p →
    ((x : A) → Yields (λ mid y rest. (ts : Tokens) → P ts x mid → Q ts y rest) (f x)) → Yields Q (λ ts. and_then (p ts) f)
y_bind {A} {B} {P} {Q} {p} {f} first next = record { run = λ ts y rest e. y_bind_at P Q p f first next ts y rest (p ts) refl e }

pub y_map : {A B : Type 0} {P : Shape A} {Q : Shape B} {p : Parser A} (f : A → B) → Yields P p →
    ((ts : Tokens) (x : A) (rest : Tokens) → P ts x rest → Q ts (f x) rest) → Yields Q (λ ts. and_then (p ts) (λ x rest. Some (f x, rest)))
y_map {A} {B} {P} {Q} {p} f first h = y_bind first (λ x. y_pure (λ rest ts. h ts x rest))

y_eat_at : {A : Type 0} (Q : Shape A) (t : TokenKind) (taken other : Parser A) → Yields (λ ts x rest. Q (t ∷ ts) x rest) taken → Yields Q other →
    (ts : Tokens) (x : A) (rest : Tokens) (b : Bool) → sees t ts ≡ b → (cond b taken other) (after t ts) ≡ Some (x, rest) → Q ts x rest
y_eat_at Q t taken other h g ts x rest true was e = subst (λ us. Q us x rest) (sym (seen t ts was)) (h.run (after t ts) x rest e)
y_eat_at Q t taken other h g ts x rest false was e = subst (λ us. Q us x rest) (unseen t ts was) (g.run (after t ts) x rest e)

pub y_eat : {A : Type 0} {Q : Shape A} (t : TokenKind) {taken other : Parser A} → Yields (λ ts x rest. Q (t ∷ ts) x rest) taken → Yields Q other →
    Yields Q (λ ts. (cond (sees t ts) taken other) (after t ts))
y_eat {A} {Q} t {taken} {other} h g = record { run = λ ts x rest e. y_eat_at Q t taken other h g ts x rest (sees t ts) refl e }

y_expect_at : {A : Type 0} (Q : Shape A) (t : TokenKind) (p : Parser A) → Yields (λ ts x rest. Q (t ∷ ts) x rest) p →
    (ts : Tokens) (x : A) (rest : Tokens) (b : Bool) → sees t ts ≡ b → and_then (go_on b (after t ts)) (λ _. p) ≡ Some (x, rest) → Q ts x rest
y_expect_at Q t p h ts x rest true was e = subst (λ us. Q us x rest) (sym (seen t ts was)) (h.run (after t ts) x rest e)
y_expect_at Q t p h ts x rest false was e = cc

pub y_expect : {A : Type 0} {Q : Shape A} (t : TokenKind) {p : Parser A} → Yields (λ ts x rest. Q (t ∷ ts) x rest) p →
    Yields Q (λ ts. and_then (go_on (sees t ts) (after t ts)) (λ _. p))
y_expect {A} {Q} t {p} h = record { run = λ ts x rest e. y_expect_at Q t p h ts x rest (sees t ts) refl e }

-- a token that is taken or not, whatever follows
pub y_maybe : {A : Type 0} {Q : Shape A} (t : TokenKind) {p : Parser A} → Yields (λ ts x rest. Q (t ∷ ts) x rest) p → Yields Q p →
    Yields Q (λ ts. p (after t ts))
y_maybe {A} {Q} t {p} h g = record { run = λ ts x rest e. at ts x rest (sees t ts) refl e }
  where
    at : (ts : Tokens) (x : A) (rest : Tokens) (b : Bool) → sees t ts ≡ b → p (after t ts) ≡ Some (x, rest) → Q ts x rest
    at ts x rest true was e = subst (λ us. Q us x rest) (sym (seen t ts was)) (h.run (after t ts) x rest e)
    at ts x rest false was e = subst (λ us. Q us x rest) (unseen t ts was) (g.run (after t ts) x rest e)

y_or_at : {A : Type 0} (Q : Shape A) (p q : Parser A) → Yields Q p → Yields Q q →
    (ts : Tokens) (x : A) (rest : Tokens) (o : Option (A × Tokens)) → p ts ≡ o → first_of o (q ts) ≡ Some (x, rest) → Q ts x rest
y_or_at Q p q h g ts x rest None was e = g.run ts x rest e
y_or_at Q p q h g ts x rest (Some found) was e = h.run ts x rest (was ∙ e)

pub y_or : {A : Type 0} {Q : Shape A} {p q : Parser A} → Yields Q p → Yields Q q → Yields Q (λ ts. first_of (p ts) (q ts))
y_or {A} {Q} {p} {q} h g = record { run = λ ts x rest e. y_or_at Q p q h g ts x rest (p ts) refl e }

pub y_weaken : {A : Type 0} {P Q : Shape A} {p : Parser A} → ((ts : Tokens) (x : A) (rest : Tokens) → P ts x rest → Q ts x rest) → Yields P p → Yields Q p
y_weaken h g = record { run = λ ts x rest e. h ts x rest (g.run ts x rest e) }

-- a token that is taken or not, with what is read by whether it was
pub y_flag : {A : Type 0} {Q : Shape A} (t : TokenKind) (f : Bool → Parser A) → Yields (λ ts x rest. Q (t ∷ ts) x rest) (f true) → Yields Q (f false) →
    Yields Q (λ ts. f (sees t ts) (after t ts))
y_flag {A} {Q} t f h g = record { run = λ ts x rest e. at ts x rest (sees t ts) refl e }
  where
    at : (ts : Tokens) (x : A) (rest : Tokens) (b : Bool) → sees t ts ≡ b → f b (after t ts) ≡ Some (x, rest) → Q ts x rest
    at ts x rest true was e = subst (λ us. Q us x rest) (sym (seen t ts was)) (h.run (after t ts) x rest e)
    at ts x rest false was e = subst (λ us. Q us x rest) (unseen t ts was) (g.run (after t ts) x rest e)

-- one token with an answer of its own
pub y_token : {A B : Type 0} {P : TokenKind → A → Type 0} {Q : Shape B} (g : TokenKind → Option A) {f : A → Parser B} →
    ((t : TokenKind) (x : A) → g t ≡ Some x → P t x) →
    ((x : A) → Yields (λ mid y rest. (t : TokenKind) → P t x → Q (t ∷ mid) y rest) (f x)) → Yields Q (λ ts. and_then (by_token g ts) f)
y_token {A} {B} {P} {Q} g {f} says next = record { run = run }
  where
    at : (t : TokenKind) (ts : Tokens) (y : B) (rest : Tokens) (o : Option A) → g t ≡ o → and_then (option_map (λ x. (x, ts)) o) f ≡ Some (y, rest) → Q (t ∷ ts) y rest
    at t ts y rest None was e = cc
    at t ts y rest (Some x) was e = (next x).run ts y rest e t (says t x was)

    run : (ts : Tokens) (y : B) (rest : Tokens) → and_then (by_token g ts) f ≡ Some (y, rest) → Q ts y rest
    run [] y rest e = cc
    run (t ∷ ts) y rest e = at t ts y rest (g t) refl e

-- in parentheses, the first of which is taken
pub y_nested : {A : Type 0} {P : Shape A} {p : Parser A} → Yields P p → Yields (λ ts x rest. P ts x (w.RIGHT_PAREN ∷ rest)) (nested p)
y_nested h = y_bind h (λ x. y_expect w.RIGHT_PAREN (y_pure (λ rest ts d. d)))

-- the same, where nothing is read behind it
pub y_last : {A : Type 0} {Q : Shape A} (g : TokenKind → Option A) → ((t : TokenKind) (x : A) → g t ≡ Some x → (rest : Tokens) → Q (t ∷ rest) x rest) → Yields Q (by_token g)
y_last {A} {Q} g says = record { run = run }
  where
    at : (t : TokenKind) (ts : Tokens) (y : A) (rest : Tokens) (o : Option A) → g t ≡ o → option_map {U = A × Tokens} (λ x. (x, ts)) o ≡ Some (y, rest) → Q (t ∷ ts) y rest
    at t ts y rest None was e = cc
    at t ts y rest (Some x) was e = subst (λ (v : A × Tokens). Q (t ∷ ts) v.0 v.1) (the_pair (x, ts) (y, rest) e) (says t x was ts)

    run : (ts : Tokens) (y : A) (rest : Tokens) → by_token g ts ≡ Some (y, rest) → Q ts y rest
    run [] y rest e = cc
    run (t ∷ ts) y rest e = at t ts y rest (g t) refl e

by_line : {A : Type 0} (P : TokenKind → A → Type 0) (word t : TokenKind) (y x : A) (other : Option A) → P word y → (other ≡ Some x → P t x) →
    (b : Bool) → is_token word t ≡ b → (if b then Some y else other) ≡ Some x → P t x
by_line P word t y x other line later true was e = let same : y ≡ x = cc in subst (λ z. P t z) same (subst (λ u. P u y) (sym (is_same word t was)) line)
by_line P word t y x other line later false was e = later e

-- what a table says of a token holds where it holds of each of its lines
pub by_lines : {A : Type 0} (P : TokenKind → A → Type 0) (table : List (TokenKind × A)) → AllByRecursion (λ (line : TokenKind × A). P line.0 line.1) table →
    (t : TokenKind) (x : A) → in_table table t ≡ Some x → P t x
by_lines P [] all t x e = cc
by_lines P ((word, y) ∷ more) all t x e = by_line P word t y x (in_table more t) all.0 (by_lines P more all.1 t x) (is_token word t) refl e

-- ---- repetition

y_goes_on : {A : Type 0} (L : Shape (List A)) (more : Parser (List A)) → ((ts : Tokens) → L ts [] ts) → Yields L more →
    (found : Option A) → Yields (λ mid xs rest. (ts : Tokens) → Adds L ts found mid → L ts xs rest) (goes_on found more)
y_goes_on L more none h None = y_pure (λ rest ts same. subst (λ us. L us [] rest) (sym same) (none rest))
y_goes_on L more none h (Some x) = y_map (λ xs. x ∷ xs) h (λ mid xs rest found ts adding. adding xs rest found)

y_many_for : {A : Type 0} (L : Shape (List A)) (next : Parser (Option A)) → ((ts : Tokens) → L ts [] ts) → Yields (Adds L) next →
    (n : ℕ) → Yields L (many_for n next)
unfolding many_for
y_many_for L next none adds zero = y_pure none
y_many_for L next none adds (suc n) = y_bind adds (y_goes_on L (many_for n next) none (y_many_for L next none adds n))

pub y_many : {A : Type 0} {L : Shape (List A)} {next : Parser (Option A)} → ((ts : Tokens) → L ts [] ts) → Yields (Adds L) next → Yields L (many next)
unfolding many
y_many {A} {L} {next} none adds = record { run = λ ts xs rest e. (y_many_for L next none adds (length ts)).run ts xs rest e }

-- a list whose further members each have this token before them
pub y_clause : {A : Type 0} {P : Shape A} {L : Shape (List A)} (t : TokenKind) {p : Parser A} → Yields P p →
    ((ts mid rest : Tokens) (x : A) (more : List A) → P ts x mid → L mid more rest → L (t ∷ ts) (x ∷ more) rest) → Yields (Adds L) (clause t p)
y_clause {A} {P} {L} t h joins = y_eat t (y_map Some h (λ ts x mid d more rest ds. joins ts mid rest x more d ds)) (y_pure (λ ts. refl))
