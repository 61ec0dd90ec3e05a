-- A token is the longest that stands at its place.
use Rattle.std.proofs.Common.{◌≡◌, ℕ, suc, ◌+◌, ◌<◌, ◌≤◌, Bool, true, false, cond, leb, List, [], ◌∷◌, ◌++◌, length, Option, Some, None, codes, refl, sym, ap, subst, ◌∙◌, arith, append_assoc, length-append, inl, inr}
use Rattle.std.specs.Char.{is_ascii_digit}
use Rattle.std.specs.Str.Parse.{digits_value}
use Rattle.std.proofs.lemmas.Option.{none-some, same_Some}
use Rattle.std.proofs.lemmas.List.Elements.{All-cons}
use Rattle.sq_token.specs.declared.fault.LexFault.{LexFault}
use Rattle.sq_token.specs.declared.symbol.Symbol.{Symbol}
use Rattle.sq_token.specs.declared.symbol.Symbol.TheVariants as symbols
use Rattle.sq_token.specs.declared.token.TokenKind.{TokenKind}
use Rattle.sq_token.specs.declared.token.TokenKind.TheVariants as kinds
use Rattle.sq_token.specs.Bytes.{starts_word, in_word, next_passes}
use Rattle.sq_token.specs.Symbols.{spelling}
use Rattle.sq_token.specs.Spelling.{doubled, in_quotes, Spells, IsToken}
use Rattle.sq_token.proofs.Quotes.{doubled-append}
use Rattle.sq_token.proofs.Runs.{word_start_in_word}
use Rattle.sq_token.proofs.Steps.{spelled_full}
use Rattle.sq_token.proofs.Forms.{not_longer, in_front, unquote, unquote_first}
use Rattle.sq_token.proofs.Outcomes.{Sort, Form, sort_of, took, name_outcome, text_outcome, word_sort, digits_sort, digits_run_passes, token_form}
use Rattle.sq_token.proofs.Outcomes.Sort.{Word, Digits}
use Rattle.sq_token.proofs.Outcomes.Outcome.{failed}

took_len : (m n : ℕ) (k l : TokenKind) (x y : List ℕ) → took 0 m k x ≡ took 0 n l y → m ≡ n
took_len m n k l x y e = let next : 0 + m ≡ 0 + n = cc in omega arith

number_len : (b d : Bool) (m n : ℕ) (k l : TokenKind) (x y : List ℕ) (f g : LexFault) → took 0 m k x ≡ cond b (cond d (failed f) (took 0 n l y)) (failed g) → m ≡ n
number_len true true m n k l x y f g e = absurd cc
number_len true false m n k l x y f g e = took_len m n k l x y e
number_len false d m n k l x y f g e = absurd cc

-- what is read of quoted characters is no shorter than what is known to stand at their front
unquote_begins : (q : ℕ) (b x a r : List ℕ) → unquote q (doubled q b ++ x) ≡ Some (a, r) → length (doubled q b) ≤ length (doubled q a)
unquote_begins q [] x a r e = omega arith
unquote_begins q (c ∷ b) x a r e = front (unquote q (doubled q b ++ x)) (sym (unquote_first q c b x) ∙ e) (λ a' r' e'. unquote_begins q b x a' r' e')
  where
    longer : (b a : List ℕ) → length (doubled q b) ≤ length (doubled q a) → length (doubled q (c ∷ b)) ≤ length (doubled q (c ∷ a))
    longer b a h = omega (arith, ap length (doubled-append q (c ∷ []) b), ap length (doubled-append q (c ∷ []) a), length-append (doubled q (c ∷ [])) (doubled q b), length-append (doubled q (c ∷ [])) (doubled q a))

    front : (o : Option (List ℕ × List ℕ)) → in_front c o ≡ Some (a, r) → ((a' r' : List ℕ) → o ≡ Some (a', r') → length (doubled q b) ≤ length (doubled q a')) → length (doubled q (c ∷ b)) ≤ length (doubled q a)
    front None e h = absurd (none-some _ e)
    front (Some p) e h = let is : c ∷ p.0 ≡ a = ap (λ (x : List ℕ × List ℕ). x.0) (same_Some (c ∷ p.0, p.1) (a, r) e) in rw (← is) (longer b p.0 (h p.0 p.1 refl))

quoted_len : (q : ℕ) (a : List ℕ) → length (in_quotes q a) ≡ length (doubled q a) + 2
quoted_len q a = let e : length (in_quotes q a) ≡ suc (length (doubled q a) + 1) = simp length-append in omega arith

name_len : (o : Option (List ℕ × List ℕ)) (m : ℕ) (k : TokenKind) (x b : List ℕ) → took 0 m k x ≡ name_outcome 0 o → ((a r : List ℕ) → o ≡ Some (a, r) → length (doubled 34 b) ≤ length (doubled 34 a)) → length (in_quotes 34 b) ≤ m
name_len None m k x b e h = absurd cc
name_len (Some p) m k x b e h = omega (arith, took_len m (length (in_quotes 34 p.0)) k (kinds.Name p.0) x p.1 e, h p.0 p.1 refl, quoted_len 34 b, quoted_len 34 p.0)

text_len : (o : Option (List ℕ × List ℕ)) (m : ℕ) (k : TokenKind) (x b : List ℕ) → took 0 m k x ≡ text_outcome 0 o → ((a r : List ℕ) → o ≡ Some (a, r) → length (doubled 39 b) ≤ length (doubled 39 a)) → length (in_quotes 39 b) ≤ m
text_len None m k x b e h = absurd cc
text_len (Some p) m k x b e h = omega (arith, took_len m (length (in_quotes 39 p.0)) k (kinds.Text p.0) x p.1 e, h p.0 p.1 refl, quoted_len 39 b, quoted_len 39 p.0)

-- a token of length m has the outcome of a text that begins with another spelling
other_len : (longer after : List ℕ) (other : TokenKind) (m : ℕ) (kind : TokenKind) (rest : List ℕ) → 0 < m → Form (sort_of (longer ++ after)) 0 (longer ++ after) (took 0 m kind rest) → Spells longer other → length longer ≤ m
other_len [] after other m kind rest full form spelled = omega arith
other_len (c ∷ longer) after (kinds.Word word) m kind rest full form spelled =
    let f : Form Word 0 ((c ∷ longer) ++ after) (took 0 m kind rest) = subst (λ (sort : Sort). Form sort 0 ((c ∷ longer) ++ after) (took 0 m kind rest)) (word_sort c (longer ++ after) spelled.0.0) form in
    let passes = All-cons (λ d. in_word d ≡ true) c longer (word_start_in_word c spelled.0.0) spelled.0.1 in
    omega (arith, not_longer in_word f.0 (c ∷ longer) f.1 after (sym f.2.parts) f.2.stops passes, took_len m (length f.0) kind (kinds.Word _) rest f.1 f.3)
other_len (c ∷ longer) after (kinds.Number number) m kind rest full form spelled =
    let f : Form Digits 0 ((c ∷ longer) ++ after) (took 0 m kind rest) = subst (λ (sort : Sort). Form sort 0 ((c ∷ longer) ++ after) (took 0 m kind rest)) (digits_sort (c ∷ longer) after spelled.0) form in
    omega (arith, not_longer is_ascii_digit f.0 (c ∷ longer) f.1 after (sym f.2.parts) f.2.stops (digits_run_passes (c ∷ longer) spelled.0), number_len (leb (digits_value 10 f.0) 9223372036854775808) (next_passes starts_word f.1) m (length f.0) kind _ rest f.1 _ _ f.3)
other_len (c ∷ longer) after (kinds.Name name) m kind rest full form spelled =
    let f : Form (sort_of (in_quotes 34 name ++ after)) 0 (in_quotes 34 name ++ after) (took 0 m kind rest) = subst (λ (t : List ℕ). Form (sort_of (t ++ after)) 0 (t ++ after) (took 0 m kind rest)) spelled form in
    let inner : f.0 ≡ doubled 34 name ++ (34 ∷ after) = tail (sym f.1) ∙ append_assoc (doubled 34 name) (34 ∷ []) after in
    omega (arith, ap length spelled, name_len (unquote 34 f.0) m kind rest name f.2 (λ a r e. unquote_begins 34 name (34 ∷ after) a r (ap (unquote 34) (sym inner) ∙ e)))
  where
    tail : {x y : ℕ} {a b : List ℕ} → x ∷ a ≡ y ∷ b → a ≡ b
    tail e = cc
other_len (c ∷ longer) after (kinds.Text said) m kind rest full form spelled =
    let f : Form (sort_of (in_quotes 39 said ++ after)) 0 (in_quotes 39 said ++ after) (took 0 m kind rest) = subst (λ (t : List ℕ). Form (sort_of (t ++ after)) 0 (t ++ after) (took 0 m kind rest)) spelled form in
    let inner : f.0 ≡ doubled 39 said ++ (39 ∷ after) = tail (sym f.1) ∙ append_assoc (doubled 39 said) (39 ∷ []) after in
    omega (arith, ap length spelled, text_len (unquote 39 f.0) m kind rest said f.2 (λ a r e. unquote_begins 39 said (39 ∷ after) a r (ap (unquote 39) (sym inner) ∙ e)))
  where
    tail : {x y : ℕ} {a b : List ℕ} → x ∷ a ≡ y ∷ b → a ≡ b
    tail e = cc
other_len (c ∷ longer) after (kinds.Symbol s) m kind rest full form (inr unequal) =
    let f : Form (sort_of (codes "!=" ++ after)) 0 (codes "!=" ++ after) (took 0 m kind rest) = subst (λ (t : List ℕ). Form (sort_of (t ++ after)) 0 (t ++ after) (took 0 m kind rest)) unequal.1 form in
    omega (arith, ap length unequal.1, took_len m 2 kind (kinds.Symbol symbols.NotEqual) rest after f)
other_len (c ∷ longer) after (kinds.Symbol s) m kind rest full form (inl spelled) =
    let f : Form (sort_of (spelling s ++ after)) 0 (spelling s ++ after) (took 0 m kind rest) = subst (λ (t : List ℕ). Form (sort_of (t ++ after)) 0 (t ++ after) (took 0 m kind rest)) spelled form in
    omega (arith, ap length spelled, symbol_len s f)
  where
    symbol_len : (s : Symbol) → Form (sort_of (spelling s ++ after)) 0 (spelling s ++ after) (took 0 m kind rest) → length (spelling s) ≤ m
    symbol_len symbols.NotEqual f = omega (arith, took_len m 2 kind (kinds.Symbol symbols.NotEqual) rest after f)
    symbol_len symbols.LessEqual f = omega (arith, took_len m 2 kind (kinds.Symbol symbols.LessEqual) rest after f)
    symbol_len symbols.GreaterEqual f = omega (arith, took_len m 2 kind (kinds.Symbol symbols.GreaterEqual) rest after f)
    symbol_len symbols.LeftParen f = full
    symbol_len symbols.RightParen f = full
    symbol_len symbols.Comma f = full
    symbol_len symbols.Semicolon f = full
    symbol_len symbols.Dot f = full
    symbol_len symbols.Star f = full
    symbol_len symbols.Plus f = full
    symbol_len symbols.Minus f = full
    symbol_len symbols.Equal f = full
    symbol_len symbols.Less f = full
    symbol_len symbols.Greater f = full

pub token_longest : (slice rest longer after : List ℕ) (kind other : TokenKind) → IsToken slice kind rest → slice ++ rest ≡ longer ++ after → Spells longer other → length longer ≤ length slice
token_longest slice rest longer after kind other token same spelled =
    let form = token_form 0 slice kind rest token.spelled token.ends in
    let moved : Form (sort_of (longer ++ after)) 0 (longer ++ after) (took 0 (length slice) kind rest) = subst (λ (t : List ℕ). Form (sort_of t) 0 t (took 0 (length slice) kind rest)) same form in
    other_len longer after other (length slice) kind rest (spelled_full slice kind token.spelled) moved spelled
