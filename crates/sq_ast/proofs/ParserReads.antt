-- What a parser answers, step by step, from what its parts answer.
use Rattle.std.specs.Prelude.{◌≡◌, ℕ, zero, suc, ◌≤◌, ◌<◌, Bool, true, false, cond, if◌then◌else◌, List, [], ◌∷◌, length, Option, Some, None, option_map, refl}
use Rattle.std.proofs.Common.{ap, ◌∙◌, arith}
use Rattle.std.proofs.lemmas.Slice.Eq.{bytes_eq-Decides}
use denote.Enum.Bare.{true_same}
use Rattle.sq_token.specs.contracts.symbol.Symbol.{the_type}
use Rattle.sq_token.specs.declared.token.TokenKind.{TokenKind}
use Rattle.sq_token.specs.declared.token.TokenKind.TheVariants as token
use Rattle.sq_ast.specs.Words as w
use Rattle.sq_ast.specs.Words.{Tokens, is_token}
use Rattle.sq_ast.specs.Parser.{Parser, and_then, pure, go_on, sees, after, first_of, many_for, many}
use Rattle.sq_ast.specs.Reading.{by_token, nested}
use Rattle.sq_ast.proofs.ParserLemmas.{unseen}
use Rattle.sq_ast.proofs.Taken.{Taken, shorter}

-- the parser reads this, up to this rest
pub record Reads {A : Type 0} (p : Parser A) (ts : Tokens) (x : A) (rest : Tokens) : Type 0 where
  pub read : p ts ≡ Some (x, rest)

pub record Refuses {A : Type 0} (p : Parser A) (ts : Tokens) : Type 0 where
  pub refused : p ts ≡ None

-- ---- tokens

-- the tokens that a rule may want: words and symbols
abbrev pub IsFixed : TokenKind → Type 0
IsFixed (token.Word _) = Unit {0}
IsFixed (token.Symbol _) = Unit {0}
IsFixed _ = ⊥

is_itself : (t : TokenKind) → IsFixed t → is_token t t ≡ true
unfolding w.same_symbol
is_itself (token.Word word) h = (bytes_eq-Decides word word).1 refl
is_itself (token.Symbol s) h = true_same the_type s s refl
is_itself (token.Name _) h = absurd h
is_itself (token.Text _) h = absurd h
is_itself (token.Number _) h = absurd h

sees_it : (t : TokenKind) (ts : Tokens) → IsFixed t → sees t (t ∷ ts) ≡ true
unfolding sees
sees_it t ts h = is_itself t h

after_it : (t : TokenKind) (ts : Tokens) → IsFixed t → after t (t ∷ ts) ≡ ts
unfolding after
after_it t ts h = ap (λ b. if b then ts else t ∷ ts) (is_itself t h)

pub absent : (t u : TokenKind) (ts : Tokens) → is_token t u ≡ false → sees t (u ∷ ts) ≡ false
unfolding sees
absent t u ts h = h

-- ---- what is read

pub r_pure : {A : Type 0} {x : A} {ts : Tokens} → Reads (pure x) ts x ts
r_pure = record { read = refl }

pub r_bind : {A B : Type 0} {p : Parser A} (f : A → Parser B) {ts mid rest : Tokens} {x : A} {y : B} → Reads p ts x mid → Reads (f x) mid y rest →
    Reads (λ us. and_then (p us) f) ts y rest
r_bind {A} {B} {p} f h g = record { read = ap (λ o. and_then o f) h.read ∙ g.read }

pub r_eat : {A : Type 0} (t : TokenKind) {taken : Parser A} (others : Parser A) {ts rest : Tokens} {x : A} → IsFixed t → Reads taken ts x rest →
    Reads (λ us. (cond (sees t us) taken others) (after t us)) (t ∷ ts) x rest
r_eat t {taken} others {ts} fixed h = record {
  read = ap (λ b. (cond b taken others) (after t (t ∷ ts))) (sees_it t ts fixed) ∙ (ap taken (after_it t ts fixed) ∙ h.read);
}

pub r_skip : {A : Type 0} (t : TokenKind) (taken : Parser A) {others : Parser A} {ts rest : Tokens} {x : A} → sees t ts ≡ false → Reads others ts x rest →
    Reads (λ us. (cond (sees t us) taken others) (after t us)) ts x rest
r_skip t taken {others} {ts} not_there h = record {
  read = ap (λ b. (cond b taken others) (after t ts)) not_there ∙ (ap others (unseen t ts not_there) ∙ h.read);
}

pub r_expect : {A : Type 0} (t : TokenKind) {p : Parser A} {ts rest : Tokens} {x : A} → IsFixed t → Reads p ts x rest →
    Reads (λ us. and_then (go_on (sees t us) (after t us)) (λ _. p)) (t ∷ ts) x rest
r_expect t {p} {ts} fixed h = record {
  read = ap (λ b. and_then (go_on b (after t (t ∷ ts))) (λ _. p)) (sees_it t ts fixed) ∙ (ap p (after_it t ts fixed) ∙ h.read);
}

pub r_maybe : {A : Type 0} (t : TokenKind) {p : Parser A} {ts rest : Tokens} {x : A} → IsFixed t → Reads p ts x rest → Reads (λ us. p (after t us)) (t ∷ ts) x rest
r_maybe t {p} {ts} fixed h = record { read = ap p (after_it t ts fixed) ∙ h.read }

pub r_maybe_not : {A : Type 0} (t : TokenKind) {p : Parser A} {ts rest : Tokens} {x : A} → sees t ts ≡ false → Reads p ts x rest → Reads (λ us. p (after t us)) ts x rest
r_maybe_not t {p} {ts} not_there h = record { read = ap p (unseen t ts not_there) ∙ h.read }

pub r_flag : {A : Type 0} (t : TokenKind) (f : Bool → Parser A) {ts rest : Tokens} {x : A} → IsFixed t → Reads (f true) ts x rest →
    Reads (λ us. f (sees t us) (after t us)) (t ∷ ts) x rest
r_flag t f {ts} fixed h = record { read = ap (λ b. f b (after t (t ∷ ts))) (sees_it t ts fixed) ∙ (ap (f true) (after_it t ts fixed) ∙ h.read) }

pub r_flag_not : {A : Type 0} (t : TokenKind) (f : Bool → Parser A) {ts rest : Tokens} {x : A} → sees t ts ≡ false → Reads (f false) ts x rest →
    Reads (λ us. f (sees t us) (after t us)) ts x rest
r_flag_not t f {ts} not_there h = record { read = ap (λ b. f b (after t ts)) not_there ∙ (ap (f false) (unseen t ts not_there) ∙ h.read) }

pub r_first : {A : Type 0} {p : Parser A} (q : Parser A) {ts rest : Tokens} {x : A} → Reads p ts x rest → Reads (λ us. first_of (p us) (q us)) ts x rest
r_first {A} {p} q {ts} h = record { read = ap (λ o. first_of o (q ts)) h.read }

pub r_second : {A : Type 0} {p q : Parser A} {ts rest : Tokens} {x : A} → Refuses p ts → Reads q ts x rest → Reads (λ us. first_of (p us) (q us)) ts x rest
r_second {A} {p} {q} {ts} h g = record { read = ap (λ o. first_of o (q ts)) h.refused ∙ g.read }

pub r_token : {A : Type 0} (g : TokenKind → Option A) {t : TokenKind} {rest : Tokens} {x : A} → g t ≡ Some x → Reads (by_token g) (t ∷ rest) x rest
r_token {A} g {t} {rest} h = record { read = ap (option_map {U = A × Tokens} (λ x. (x, rest))) h }

pub r_nested : {A : Type 0} {p : Parser A} {ts rest : Tokens} {x : A} → Reads p ts x (w.RIGHT_PAREN ∷ rest) → Reads (nested p) ts x rest
r_nested h = r_bind _ h (r_expect w.RIGHT_PAREN tt r_pure)

-- ---- what is refused

pub n_bind : {A B : Type 0} {p : Parser A} (f : A → Parser B) {ts : Tokens} → Refuses p ts → Refuses (λ us. and_then (p us) f) ts
n_bind {A} {B} {p} f h = record { refused = ap (λ o. and_then o f) h.refused }

pub n_then : {A B : Type 0} {p : Parser A} (f : A → Parser B) {ts mid : Tokens} {x : A} → Reads p ts x mid → Refuses (f x) mid → Refuses (λ us. and_then (p us) f) ts
n_then {A} {B} {p} f h g = record { refused = ap (λ o. and_then o f) h.read ∙ g.refused }

pub n_expect : {A : Type 0} (t : TokenKind) (p : Parser A) {ts : Tokens} → sees t ts ≡ false → Refuses (λ us. and_then (go_on (sees t us) (after t us)) (λ _. p)) ts
n_expect t p {ts} h = record { refused = ap (λ b. and_then (go_on b (after t ts)) (λ _. p)) h }

-- behind a token that is there
pub n_past : {A : Type 0} (t : TokenKind) {p : Parser A} {ts : Tokens} → IsFixed t → Refuses p ts → Refuses (λ us. and_then (go_on (sees t us) (after t us)) (λ _. p)) (t ∷ ts)
n_past t {p} {ts} fixed h = record {
  refused = ap (λ b. and_then (go_on b (after t (t ∷ ts))) (λ _. p)) (sees_it t ts fixed) ∙ (ap p (after_it t ts fixed) ∙ h.refused);
}

pub n_skip : {A : Type 0} (t : TokenKind) (taken : Parser A) {others : Parser A} {ts : Tokens} → sees t ts ≡ false → Refuses others ts →
    Refuses (λ us. (cond (sees t us) taken others) (after t us)) ts
n_skip t taken {others} {ts} not_there h = record {
  refused = ap (λ b. (cond b taken others) (after t ts)) not_there ∙ (ap others (unseen t ts not_there) ∙ h.refused);
}

pub n_end : {A : Type 0} (g : TokenKind → Option A) → Refuses (by_token g) []
n_end g = record { refused = refl }

pub n_token : {A : Type 0} (g : TokenKind → Option A) {t : TokenKind} {ts : Tokens} → g t ≡ None → Refuses (by_token g) (t ∷ ts)
n_token {A} g {t} {ts} h = record { refused = ap (option_map {U = A × Tokens} (λ x. (x, ts))) h }

-- ---- repetition

pub many_done : {A : Type 0} {next : Parser (Option A)} {ts : Tokens} (n : ℕ) → Reads next ts None ts → Reads (many_for n next) ts [] ts
unfolding many_for
many_done zero h = r_pure
many_done (suc n) h = r_bind _ h r_pure

too_few : (m n k : ℕ) → m < n → n ≤ 0 → k ≡ k → ⊥
too_few m n k a b e = omega arith

pub many_more : {A : Type 0} {next : Parser (Option A)} {ts mid rest : Tokens} {x : A} {more : List A} (n : ℕ) →
    Reads next ts (Some x) mid → length mid < length ts → length ts ≤ n → ((k : ℕ) → length mid ≤ k → Reads (many_for k next) mid more rest) →
    Reads (many_for n next) ts (x ∷ more) rest
unfolding many_for
many_more zero h less le on = absurd (omega arith)
many_more {A} {next} {ts} {mid} (suc n) h less le on = let few : length mid ≤ n = omega arith in r_bind _ h (r_bind _ (on n few) r_pure)

pub r_many : {A : Type 0} (next : Parser (Option A)) {ts rest : Tokens} {xs : List A} → ((n : ℕ) → length ts ≤ n → Reads (many_for n next) ts xs rest) → Reads (many next) ts xs rest
unfolding many
r_many {A} next {ts} h = record { read = (h (length ts) (omega arith)).read }

-- ---- lengths

pub behind : {n d : ℕ} → suc n ≤ d → n ≤ d
behind le = omega arith

pub past : {ts mid : Tokens} {d : ℕ} → Taken ts mid → length ts ≤ d → length mid ≤ d
past taken le = let less = shorter taken in omega arith

-- behind a first token there are fewer
pub fewer : (t : TokenKind) {ts mid : Tokens} → Taken ts mid → length mid < length (t ∷ ts)
fewer t taken = let less = shorter taken in omega arith
