-- One gap or token after the other: how far a step goes, where it may cut the text, and what it adds.
use Rattle.std.proofs.Common.{◌≡◌, ◌≢◌, ℕ, ◌+◌, ◌-◌, ◌<◌, ◌≤◌, true, false, List, [], ◌∷◌, ◌++◌, length, get_or, drop, All, Option, Some, None, IsUtf8, codes, refl, sym, ap, subst, ◌∙◌, arith, append_assoc, length-append, inl, inr, add-zero}
use Rattle.std.specs.Char.{is_ascii_digit, digit_value}
use Rattle.std.specs.Int.{IsInRange}
use Rattle.std.specs.Str.{IsCharBoundary}
use Rattle.std.specs.Str.Parse.{AllDigits}
use Rattle.std.proofs.lemmas.Bool.{false≢true}
use Rattle.std.proofs.lemmas.Bool.Decides.{nat_tests}
use Rattle.std.proofs.lemmas.List.{append-nil, drop_at, get_or-append-add}
use Rattle.std.proofs.lemmas.List.Elements.{All-head, All-tail}
use Rattle.std.proofs.lemmas.Str.{IsCharBoundary-end, IsCharBoundary-after_ascii}
use Rattle.std.proofs.lemmas.Str.Parse.{digit_from_value}
use Rattle.sq_token.specs.declared.fault.LexFault.TheVariants as faults
use Rattle.sq_token.specs.declared.symbol.Symbol.{Symbol}
use Rattle.sq_token.specs.declared.symbol.Symbol.TheVariants.{LeftParen, RightParen, Comma, Semicolon, Dot, Star, Plus, Minus, Equal, NotEqual, Less, LessEqual, Greater, GreaterEqual}
use Rattle.sq_token.specs.declared.token.Token.{Token}
use Rattle.sq_token.specs.declared.token.TokenKind.{TokenKind}
use Rattle.sq_token.specs.declared.token.TokenKind.TheVariants as kinds
use Rattle.sq_token.specs.Bytes.{is_blank, starts_word, in_word}
use Rattle.sq_token.specs.Symbols.{spelling}
use Rattle.sq_token.specs.Spelling.{doubled, Spells}
use Rattle.sq_token.specs.Reading.{IsGap, Step, Reads}
use Rattle.sq_token.specs.Reading.IsGap.{blank, line, last_line, block}
use Rattle.sq_token.specs.Reading.Step.{over_gap, over_token}
use Rattle.sq_token.specs.Reading.Reads.{none, more}
use Rattle.sq_token.specs.Fault.{FaultAt}
use Rattle.sq_token.specs.Fault.FaultAt.{bad_byte}
use Rattle.sq_token.specs.Piece.{StandsAs, PieceAt, HasNoSymbol, listed, Steps}
use Rattle.sq_token.proofs.Runs.{word_ascii, word_start_in_word}

pub blank_piece : (text : List ℕ) → 0 < length text → true ≡ is_blank (get_or text 0 0) → PieceAt text 1 None
blank_piece [] full h = absurd (omega arith)
blank_piece (c ∷ text) full h = record { slice = c ∷ []; rest = text; parts = refl; len_is = refl; stands = blank (sym h) }

-- ---- the last byte of a piece

-- a slice ends with an ASCII byte
abbrev EndsAscii : List ℕ → Type 0
EndsAscii slice = (front : List ℕ) × (c : ℕ) × (slice ≡ front ++ c ∷ []) × (c < 128)

behind : (x : ℕ) (xs : List ℕ) → EndsAscii xs → EndsAscii (x ∷ xs)
behind x xs e = (x ∷ e.0, e.1, ap (λ (t : List ℕ). x ∷ t) e.2, e.3)

word_ends : (c : ℕ) (rest : List ℕ) → in_word c ≡ true → All (λ d. in_word d ≡ true) rest → EndsAscii (c ∷ rest)
word_ends c [] first others = ([], c, refl, word_ascii c first)
word_ends c (d ∷ rest) first others = behind c (d ∷ rest) (word_ends d rest (All-head (λ d. in_word d ≡ true) d rest others) (All-tail (λ d. in_word d ≡ true) d rest others))

digit_small : (c : ℕ) → digit_value c < 10 → c < 128
digit_small c h = let r = digit_from_value c h in omega (arith, r.1)

digits_end : (c : ℕ) (rest : List ℕ) → AllDigits 10 (c ∷ rest) → EndsAscii (c ∷ rest)
digits_end c [] digits = ([], c, refl, digit_small c digits.0)
digits_end c (d ∷ rest) digits = behind c (d ∷ rest) (digits_end d rest digits.1)

symbol_ends : (s : Symbol) → EndsAscii (spelling s)
symbol_ends LeftParen = ([], 40, refl, omega arith)
symbol_ends RightParen = ([], 41, refl, omega arith)
symbol_ends Comma = ([], 44, refl, omega arith)
symbol_ends Semicolon = ([], 59, refl, omega arith)
symbol_ends Dot = ([], 46, refl, omega arith)
symbol_ends Star = ([], 42, refl, omega arith)
symbol_ends Plus = ([], 43, refl, omega arith)
symbol_ends Minus = ([], 45, refl, omega arith)
symbol_ends Equal = ([], 61, refl, omega arith)
symbol_ends NotEqual = (60 ∷ [], 62, refl, omega arith)
symbol_ends Less = ([], 60, refl, omega arith)
symbol_ends LessEqual = (60 ∷ [], 61, refl, omega arith)
symbol_ends Greater = ([], 62, refl, omega arith)
symbol_ends GreaterEqual = (62 ∷ [], 61, refl, omega arith)

spelled_ends : (slice : List ℕ) (kind : TokenKind) → Spells slice kind → EndsAscii slice
spelled_ends [] (kinds.Word word) s = absurd s.0
spelled_ends (c ∷ rest) (kinds.Word word) s = word_ends c rest (word_start_in_word c s.0.0) s.0.1
spelled_ends slice (kinds.Name name) s = (34 ∷ doubled 34 name, 34, s, omega arith)
spelled_ends slice (kinds.Text text) s = (39 ∷ doubled 39 text, 39, s, omega arith)
spelled_ends [] (kinds.Number number) s = absurd (omega (arith, s.0.0))
spelled_ends (c ∷ rest) (kinds.Number number) s = digits_end c rest s.0.1
spelled_ends slice (kinds.Symbol symbol) (inl s) = subst EndsAscii (sym s) (symbol_ends symbol)
spelled_ends slice (kinds.Symbol symbol) (inr s) = (33 ∷ [], 61, s.1, omega arith)

blank_small : (c : ℕ) → is_blank c ≡ true → c < 128
blank_small c h = grind (arith, nat_tests)

cut_behind : (slice rest : List ℕ) → EndsAscii slice → IsUtf8 (slice ++ rest) → IsCharBoundary (slice ++ rest) (length slice)
cut_behind slice rest e utf8 =
    let whole : slice ++ rest ≡ e.0 ++ (e.1 ∷ rest) = ap (λ (t : List ℕ). t ++ rest) e.2 ∙ append_assoc e.0 (e.1 ∷ []) rest in
    let len : length slice ≡ length e.0 + 1 = ap length e.2 ∙ length-append e.0 (e.1 ∷ []) in
    let at : get_or (slice ++ rest) (length e.0) 0 ≡ e.1 = ap (λ (t : List ℕ). get_or t (length e.0) 0) whole ∙ ap (λ (n : ℕ). get_or (e.0 ++ (e.1 ∷ rest)) n 0) (sym (add-zero (length e.0))) ∙ get_or-append-add e.0 (e.1 ∷ rest) 0 0 in
    rw len (IsCharBoundary-after_ascii (slice ++ rest) (length e.0) utf8 (omega (arith, length-append slice rest)) (omega (arith, at, e.3)))

gap_cut : (slice rest : List ℕ) → IsGap slice rest → IsUtf8 (slice ++ rest) → IsCharBoundary (slice ++ rest) (length slice)
gap_cut slice rest (blank {c} h) utf8 = cut_behind (c ∷ []) rest ([], c, refl, blank_small c h) utf8
gap_cut slice rest (line {body} h) utf8 = cut_behind (codes "--" ++ (body ++ 10 ∷ [])) rest (codes "--" ++ body, 10, refl, omega arith) utf8
gap_cut slice rest (last_line {body} h) utf8 = subst (λ (t : List ℕ). IsCharBoundary t (length (codes "--" ++ body))) (sym (append-nil (codes "--" ++ body))) (IsCharBoundary-end (codes "--" ++ body))
gap_cut slice rest (block {body} h) utf8 = cut_behind (codes "/*" ++ (body ++ codes "*/")) rest (codes "/*" ++ (body ++ 42 ∷ []), 47, ap (λ (t : List ℕ). codes "/*" ++ t) (sym (append_assoc body (42 ∷ []) (47 ∷ []))), omega arith) utf8

stands_cut : (kind : Option TokenKind) (slice rest : List ℕ) → StandsAs kind slice rest → IsUtf8 (slice ++ rest) → IsCharBoundary (slice ++ rest) (length slice)
stands_cut None slice rest h utf8 = gap_cut slice rest h utf8
stands_cut (Some kind) slice rest h utf8 = cut_behind slice rest (spelled_ends slice kind h.spelled) utf8

pub piece_cut : (text : List ℕ) (len : ℕ) (kind : Option TokenKind) → IsUtf8 text → PieceAt text len kind → IsCharBoundary text len
piece_cut text len kind utf8 piece =
    rw (piece.parts, piece.len_is) (stands_cut kind piece.slice piece.rest piece.stands (subst IsUtf8 piece.parts utf8))

-- ---- how far a step goes

ends_full : (slice : List ℕ) → EndsAscii slice → 0 < length slice
ends_full slice e = omega (arith, ap length e.2, length-append e.0 (e.1 ∷ []))

pub spelled_full : (slice : List ℕ) (kind : TokenKind) → Spells slice kind → 0 < length slice
spelled_full slice kind s = ends_full slice (spelled_ends slice kind s)

pub gap_full : (slice rest : List ℕ) → IsGap slice rest → 0 < length slice
gap_full slice rest (blank h) = omega arith
gap_full slice rest (line h) = omega arith
gap_full slice rest (last_line h) = omega arith
gap_full slice rest (block h) = omega arith

-- ---- what a step adds

step_of : (at : ℕ) (kind : Option TokenKind) (slice rest : List ℕ) → StandsAs kind slice rest → Step at (slice ++ rest) (listed at (at + length slice) kind) (at + length slice) rest
step_of at None slice rest h = over_gap h
step_of at (Some kind) slice rest h = over_token h

pub piece_steps : (at : ℕ) (text : List ℕ) (len : ℕ) (kind : Option TokenKind) (old new : List Token) (rest : List ℕ) → PieceAt text len kind → new ≡ old ++ listed at (at + len) kind → rest ≡ drop len text → Steps at text old new rest
piece_steps at text len kind old new rest piece pushed left =
    let same : rest ≡ piece.rest = left ∙ ap (drop len) piece.parts ∙ drop_at piece.slice piece.rest len (sym piece.len_is) in
    record {
      tokens = listed at (at + length piece.slice) kind;
      next = at + length piece.slice;
      step = rw (piece.parts, same) (step_of at kind piece.slice piece.rest piece.stands);
      pushed = pushed ∙ ap (λ (n : ℕ). old ++ listed at (at + n) kind) piece.len_is;
      next_is = omega (arith, ap length same, ap length piece.parts, length-append piece.slice piece.rest);
    }

pub reads_then : {at mid end : ℕ} {text left rest : List ℕ} {tokens next : List Token} → Reads at text tokens mid left → Step mid left next end rest → Reads at text (tokens ++ next) end rest
reads_then {at} {mid} {end} {text} {left} {rest} {tokens} {next} none step = subst (λ (ts : List Token). Reads at text ts end rest) (append-nil next) (more step none)
reads_then {at} {mid} {end} {text} {left} {rest} {tokens} {next} (more {first = first} {others = others} s r) step =
    subst (λ (ts : List Token). Reads at text ts end rest) (sym (append_assoc first others next)) (more s (reads_then r step))

pub step_goes : {at next : ℕ} {text rest : List ℕ} {tokens : List Token} → Step at text tokens next rest → length rest < length text
step_goes (over_gap {slice = slice} {rest = rest} h) = omega (arith, gap_full slice rest h, length-append slice rest)
step_goes (over_token {slice = slice} {rest = rest} {kind = kind} h) = omega (arith, spelled_full slice kind h.spelled, length-append slice rest)

pub steps_go : (at : ℕ) (text : List ℕ) (old new : List Token) (rest : List ℕ) → Steps at text old new rest → length rest < length text
steps_go at text old new rest s = step_goes s.step

pub reads_start : (text : List ℕ) (tokens : List Token) → tokens ≡ [] → Reads 0 text tokens (length text - length text) text
reads_start text tokens e = let zero_is : length text - length text ≡ 0 = omega arith in rw (e, zero_is) none

-- the loop's step: what was read so far, and one step more
pub reads_on : (size at : ℕ) (text left rest : List ℕ) (old new : List Token) → at ≡ size - length left → length left ≤ size → Reads 0 text old at left → Steps at left old new rest → Reads 0 text new (size - length rest) rest
reads_on size at text left rest old new place within so_far s =
    let next : s.next ≡ size - length rest = omega (arith, s.next_is, step_goes s.step) in
    rw (s.pushed, ← next) (reads_then so_far s.step)

-- ---- a byte that begins nothing

-- a byte and what follows it, none of whose tests passed
pub record Unfit (c : ℕ) (rest : List ℕ) : Type 0 where
  pub blank_ : is_blank c ≡ false
  pub word_ : starts_word c ≡ false
  pub digit_ : is_ascii_digit c ≡ false
  pub name_ : (after : List ℕ) → c ∷ rest ≢ 34 ∷ after
  pub text_ : (after : List ℕ) → c ∷ rest ≢ 39 ∷ after
  pub comment_ : (after : List ℕ) → c ∷ rest ≢ codes "/*" ++ after
  pub symbol_ : HasNoSymbol (c ∷ rest)

digit_passes : (c : ℕ) → digit_value c < 10 → is_ascii_digit c ≡ true
digit_passes c h = let r : IsInRange 48 57 c = digit_from_value c h in grind (arith, nat_tests)

unfit_spells : (c : ℕ) (rest slice after : List ℕ) (kind : TokenKind) → Unfit c rest → c ∷ rest ≡ slice ++ after → Spells slice kind → ⊥
unfit_spells c rest [] after kind unfit e s = absurd (omega (arith, spelled_full [] kind s))
unfit_spells c rest (d ∷ slice) after (kinds.Word word) unfit e s = let same : c ≡ d = cc in false≢true (sym unfit.word_ ∙ ap starts_word same ∙ s.0.0)
unfit_spells c rest (d ∷ slice) after (kinds.Name name) unfit e s = let same : c ≡ 34 = cc in unfit.name_ rest (ap (λ (x : ℕ). x ∷ rest) same)
unfit_spells c rest (d ∷ slice) after (kinds.Text text) unfit e s = let same : c ≡ 39 = cc in unfit.text_ rest (ap (λ (x : ℕ). x ∷ rest) same)
unfit_spells c rest (d ∷ slice) after (kinds.Number number) unfit e s = let same : c ≡ d = cc in false≢true (sym unfit.digit_ ∙ ap is_ascii_digit same ∙ digit_passes d s.0.1.0)
unfit_spells c rest (d ∷ slice) after (kinds.Symbol symbol) unfit e s = unfit.symbol_ (d ∷ slice) after symbol e s

pub bad_byte_at : (at : ℕ) (text : List ℕ) → 0 < length text → false ≡ is_blank (get_or text 0 0) → false ≡ starts_word (get_or text 0 0) → false ≡ is_ascii_digit (get_or text 0 0)
    → ((after : List ℕ) → text ≢ 34 ∷ after) → ((after : List ℕ) → text ≢ 39 ∷ after) → ((after : List ℕ) → text ≢ codes "/*" ++ after) → HasNoSymbol text → FaultAt at text (faults.BadByte at)
bad_byte_at at [] full b w d n t k s = absurd (omega arith)
bad_byte_at at (c ∷ rest) full b w d n t k s =
    let unfit : Unfit c rest = record { blank_ = sym b; word_ = sym w; digit_ = sym d; name_ = n; text_ = t; comment_ = k; symbol_ = s } in
    bad_byte (record {
      token = λ slice after kind e h. unfit_spells c rest slice after kind unfit e h;
      blank = sym b;
      name = λ e. n rest (ap (λ (x : ℕ). x ∷ rest) e);
      text = λ e. t rest (ap (λ (x : ℕ). x ∷ rest) e);
      comment = k;
    })
