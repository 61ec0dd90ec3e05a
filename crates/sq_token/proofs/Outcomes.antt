-- What stands at the front of a text is one outcome: the first bytes tell the sort of piece or fault, and
-- within a sort the text leaves one way.
use Rattle.std.proofs.Common.{◌≡◌, ◌≢◌, ℕ, ◌+◌, ◌<◌, ◌≤◌, true, false, cond, eqb, leb, ◌&&◌, List, [], ◌∷◌, ◌++◌, length, get_or, drop, Option, Some, None, codes, refl, sym, ap, subst, ◌∙◌, arith, append_assoc, length-append, inl, inr}
use Rattle.std.specs.List.{AllPass}
use Rattle.std.specs.Char.{is_ascii_digit, digit_value}
use Rattle.std.specs.Int.{IsInRange}
use Rattle.std.specs.Str.{str_to_ascii_lowercase}
use Rattle.std.specs.Str.Parse.{IsNumeral, digits_value}
use Rattle.std.proofs.lemmas.Bool.{false≢true, ne_eqb, eqb-true, le-leb, lt-leb, or_parts, false_from_ne_true, and_parts}
use Rattle.std.proofs.lemmas.Bool.Decides.{nat_tests}
use Rattle.std.proofs.lemmas.List.{append-nil}
use Rattle.std.proofs.lemmas.List.Elements.{All-cons, All-nil, All-from_get_or}
use Rattle.std.proofs.lemmas.Str.Parse.{digit_at}
use Rattle.sq_token.specs.declared.fault.LexFault.{LexFault}
use Rattle.sq_token.specs.declared.fault.LexFault.TheVariants as faults
use Rattle.sq_token.specs.declared.symbol.Symbol.{Symbol}
use Rattle.sq_token.specs.declared.symbol.Symbol.TheVariants as symbols
use Rattle.sq_token.specs.declared.token.Token.{Token}
use Rattle.sq_token.specs.declared.token.TokenKind.{TokenKind}
use Rattle.sq_token.specs.declared.token.TokenKind.TheVariants as kinds
use Rattle.sq_token.specs.Bytes.{is_blank, starts_word, in_word, next_passes, NextFails}
use Rattle.sq_token.specs.Symbols.{spelling, extends, symbol_of_byte, symbol_of_two}
use Rattle.sq_token.specs.Spelling.{doubled, in_quotes, Spells, goes_on}
use Rattle.sq_token.specs.Reading.{IsGap, Step, Reads, Tokens}
use Rattle.sq_token.specs.Reading.Reads.{none, more}
use Rattle.sq_token.proofs.Steps.{step_goes}
use Rattle.sq_token.specs.Reading.IsGap.{blank, line, last_line, block}
use Rattle.sq_token.specs.Reading.Step.{over_gap, over_token}
use Rattle.sq_token.specs.Fault.{BeginsNothing, FaultAt, FirstFault}
use Rattle.sq_token.specs.Fault.FaultAt.{bad_byte, after_number, long_number, open_name, open_text, open_comment}
use Rattle.sq_token.proofs.Runs.{word_start_in_word}
use Rattle.sq_token.proofs.SymbolLemmas.{byte_spelled, two_symbol}
use Rattle.sq_token.proofs.Forms.{Run, run_once, Cut, cut_once, cut_by_byte, unquote, unquote_closed, unquote_open}

-- the sorts of pieces and faults, by how they begin
pub data Sort : Type 0 where
  Blank : Sort
  Word : Sort
  Digits : Sort
  Name : Sort
  Text : Sort
  Line : Sort
  Block : Sort
  Sign : Sort

abbrev pub sort_of : List ℕ → Sort
sort_of [] = Sign
sort_of (c ∷ rest) =
    cond (is_blank c) Blank
    (cond (starts_word c) Word
    (cond (is_ascii_digit c) Digits
    (cond (eqb c 34) Name
    (cond (eqb c 39) Text
    (cond (eqb c 45 && next_passes (λ d. eqb d 45) rest) Line
    (cond (eqb c 47 && next_passes (λ d. eqb d 42) rest) Block
    Sign))))))

-- a step to a place where a rest is left, or a fault
pub data Outcome : Type 0 where
  went : List Token → ℕ → List ℕ → Outcome
  failed : LexFault → Outcome

-- a token of this length was taken
abbrev pub took : ℕ → ℕ → TokenKind → List ℕ → Outcome
took at len kind rest = went (record { start = at; end = at + len; kind = kind } ∷ []) (at + len) rest

abbrev pub number_outcome : ℕ → List ℕ → List ℕ → Outcome
number_outcome at digits rest =
    cond (leb (digits_value 10 digits) 9223372036854775808)
    (cond (next_passes starts_word rest) (failed (faults.BadByte (at + length digits))) (took at (length digits) (kinds.Number (digits_value 10 digits)) rest))
    (failed (faults.LongNumber at))

abbrev pub name_outcome : ℕ → Option (List ℕ × List ℕ) → Outcome
name_outcome at None = failed (faults.OpenName at)
name_outcome at (Some p) = took at (length (in_quotes 34 p.0)) (kinds.Name p.0) p.1

abbrev pub text_outcome : ℕ → Option (List ℕ × List ℕ) → Outcome
text_outcome at None = failed (faults.OpenText at)
text_outcome at (Some p) = took at (length (in_quotes 39 p.0)) (kinds.Text p.0) p.1

abbrev pub line_outcome : ℕ → List ℕ → Option (List ℕ × List ℕ) → Outcome
line_outcome at comment None = went [] (at + length (codes "--" ++ comment)) []
line_outcome at comment (Some p) = went [] (at + length (codes "--" ++ (p.0 ++ 10 ∷ []))) p.1

abbrev pub block_outcome : ℕ → Option (List ℕ × List ℕ) → Outcome
block_outcome at None = failed (faults.OpenComment at)
block_outcome at (Some p) = went [] (at + length (codes "/*" ++ (p.0 ++ codes "*/"))) p.1

abbrev pub one_outcome : ℕ → List ℕ → Option Symbol → Outcome
one_outcome at rest None = failed (faults.BadByte at)
one_outcome at rest (Some s) = took at 1 (kinds.Symbol s) rest

abbrev pub two_outcome : ℕ → ℕ → List ℕ → Option Symbol → Outcome
two_outcome at c rest None = one_outcome at rest (symbol_of_byte c)
two_outcome at c rest (Some s) = took at 2 (kinds.Symbol s) (drop 1 rest)

abbrev pub sign_outcome : ℕ → List ℕ → Outcome
sign_outcome at [] = failed (faults.BadByte at)
sign_outcome at (c ∷ rest) = two_outcome at c rest (symbol_of_two (c ∷ rest))

-- a text of a sort has an outcome
abbrev pub Form : Sort → ℕ → List ℕ → Outcome → Type 0
Form Blank at text o = (c : ℕ) × (rest : List ℕ) × (text ≡ c ∷ rest) × (o ≡ went [] (at + 1) rest)
Form Word at text o = (slice : List ℕ) × (rest : List ℕ) × Run in_word text slice rest × (o ≡ took at (length slice) (kinds.Word (str_to_ascii_lowercase slice)) rest)
Form Digits at text o = (slice : List ℕ) × (rest : List ℕ) × Run is_ascii_digit text slice rest × (o ≡ number_outcome at slice rest)
Form Name at text o = (inner : List ℕ) × (text ≡ 34 ∷ inner) × (o ≡ name_outcome at (unquote 34 inner))
Form Text at text o = (inner : List ℕ) × (text ≡ 39 ∷ inner) × (o ≡ text_outcome at (unquote 39 inner))
Form Line at text o = (comment : List ℕ) × (text ≡ codes "--" ++ comment) × (cut : Option (List ℕ × List ℕ)) × Cut (10 ∷ []) comment cut × (o ≡ line_outcome at comment cut)
Form Block at text o = (comment : List ℕ) × (text ≡ codes "/*" ++ comment) × (cut : Option (List ℕ × List ℕ)) × Cut (codes "*/") comment cut × (o ≡ block_outcome at cut)
Form Sign at text o = o ≡ sign_outcome at text

-- within a sort the outcome is one
form_once : (sort : Sort) (at : ℕ) (text : List ℕ) (o p : Outcome) → Form sort at text o → Form sort at text p → o ≡ p
form_once Blank at text o p f g = let same : f.1 ≡ g.1 = cc in f.3 ∙ ap (went [] (at + 1)) same ∙ sym g.3
form_once Word at text o p f g =
    let same = run_once in_word text f.0 g.0 f.1 g.1 f.2 g.2 in
    f.3 ∙ (λ i. took at (length (same.0 i)) (kinds.Word (str_to_ascii_lowercase (same.0 i))) (same.1 i)) ∙ sym g.3
form_once Digits at text o p f g =
    let same = run_once is_ascii_digit text f.0 g.0 f.1 g.1 f.2 g.2 in
    f.3 ∙ (λ i. number_outcome at (same.0 i) (same.1 i)) ∙ sym g.3
form_once Name at text o p f g = let same : f.0 ≡ g.0 = cc in f.2 ∙ ap (λ (t : List ℕ). name_outcome at (unquote 34 t)) same ∙ sym g.2
form_once Text at text o p f g = let same : f.0 ≡ g.0 = cc in f.2 ∙ ap (λ (t : List ℕ). text_outcome at (unquote 39 t)) same ∙ sym g.2
form_once Line at text o p f g =
    let same : f.0 ≡ g.0 = cc in
    let cut = cut_once (10 ∷ []) g.0 f.2 g.2 (subst (λ (t : List ℕ). Cut (10 ∷ []) t f.2) same f.3) g.3 in
    f.4 ∙ (λ i. line_outcome at (same i) (cut i)) ∙ sym g.4
form_once Block at text o p f g =
    let same : f.0 ≡ g.0 = cc in
    let cut = cut_once (codes "*/") g.0 f.2 g.2 (subst (λ (t : List ℕ). Cut (codes "*/") t f.2) same f.3) g.3 in
    f.4 ∙ ap (block_outcome at) cut ∙ sym g.4
form_once Sign at text o p f g = f ∙ sym g

-- ---- steps and faults by their sort

word_is : (c : ℕ) → starts_word c ≡ true → is_blank c ≡ false
word_is c h = grind (arith, nat_tests)

digit_is : (c : ℕ) → is_ascii_digit c ≡ true → (is_blank c ≡ false) × (starts_word c ≡ false)
digit_is c h = (grind (arith, nat_tests), grind (arith, nat_tests))

pub word_sort : (c : ℕ) (rest : List ℕ) → starts_word c ≡ true → sort_of (c ∷ rest) ≡ Word
word_sort c rest h = rw (word_is c h, h) refl

digit_sort : (c : ℕ) (rest : List ℕ) → is_ascii_digit c ≡ true → sort_of (c ∷ rest) ≡ Digits
digit_sort c rest h = rw ((digit_is c h).0, (digit_is c h).1, h) refl

digit_passes : (c : ℕ) → IsInRange 48 57 c → is_ascii_digit c ≡ true
digit_passes c h = grind (arith, nat_tests)

pub digits_run_passes : (digits : List ℕ) → IsNumeral 10 digits → AllPass is_ascii_digit digits
digits_run_passes digits numeral = All-from_get_or (λ c. is_ascii_digit c ≡ true) digits 0 (λ i lt. digit_passes (get_or digits i 0) (digit_at digits i numeral.1 lt))

-- a numeral with no digit behind it is a run of digits, and of their sort
digits_run : (digits rest : List ℕ) → IsNumeral 10 digits → NextFails is_ascii_digit rest → Run is_ascii_digit (digits ++ rest) digits rest
digits_run digits rest numeral stops = record {
  parts = refl;
  passes = digits_run_passes digits numeral;
  stops = stops;
}

pub digits_sort : (digits rest : List ℕ) → IsNumeral 10 digits → sort_of (digits ++ rest) ≡ Digits
digits_sort [] rest numeral = absurd (omega (arith, numeral.0))
digits_sort (c ∷ digits) rest numeral = digit_sort c (digits ++ rest) (digit_passes c (digit_at (c ∷ digits) 0 numeral.1 numeral.0))

no_digit : (rest : List ℕ) → NextFails in_word rest → NextFails is_ascii_digit rest × NextFails starts_word rest
no_digit [] h = (refl, refl)
no_digit (c ∷ rest) h = let p = or_parts (starts_word c) (is_ascii_digit c) h in (p.1, p.0)

word_start_no_digit : (c : ℕ) → starts_word c ≡ true → is_ascii_digit c ≡ false
word_start_no_digit c h = grind (arith, nat_tests)

gap_form : (at : ℕ) (slice rest : List ℕ) → IsGap slice rest → Form (sort_of (slice ++ rest)) at (slice ++ rest) (went [] (at + length slice) rest)
gap_form at slice rest (blank {c} h) = rw h (c, rest, refl, refl)
gap_form at slice rest (line {body} h) =
    (body ++ (10 ∷ rest), ap (λ (t : List ℕ). codes "--" ++ t) (append_assoc body (10 ∷ []) rest), Some (body, rest), cut_by_byte 10 body rest h, refl)
gap_form at slice rest (last_line {body} h) = (body, append-nil (codes "--" ++ body), None, h, refl)
gap_form at slice rest (block {body} h) =
    (body ++ (codes "*/" ++ rest), ap (λ (t : List ℕ). codes "/*" ++ t) (append_assoc body (codes "*/") rest), Some (body, rest), h, refl)

name_form : (at : ℕ) (name rest : List ℕ) → NextFails (λ c. eqb c 34) rest → Form Name at (in_quotes 34 name ++ rest) (took at (length (in_quotes 34 name)) (kinds.Name name) rest)
name_form at name rest ends =
    ((doubled 34 name ++ 34 ∷ []) ++ rest, refl, ap (name_outcome at) (sym (ap (unquote 34) (append_assoc (doubled 34 name) (34 ∷ []) rest) ∙ unquote_closed 34 name rest ends)))

text_form : (at : ℕ) (said rest : List ℕ) → NextFails (λ c. eqb c 39) rest → Form Text at (in_quotes 39 said ++ rest) (took at (length (in_quotes 39 said)) (kinds.Text said) rest)
text_form at said rest ends =
    ((doubled 39 said ++ 39 ∷ []) ++ rest, refl, ap (text_outcome at) (sym (ap (unquote 39) (append_assoc (doubled 39 said) (39 ∷ []) rest) ∙ unquote_closed 39 said rest ends)))

number_form : (at number : ℕ) (digits rest : List ℕ) → IsNumeral 10 digits → number ≡ digits_value 10 digits → number ≤ 9223372036854775808 → NextFails in_word rest
    → Form Digits at (digits ++ rest) (took at (length digits) (kinds.Number number) rest)
number_form at number digits rest numeral value small ends =
    let stops = no_digit rest ends in
    let fits : leb (digits_value 10 digits) 9223372036854775808 ≡ true = le-leb _ _ (subst (λ (n : ℕ). n ≤ 9223372036854775808) value small) in
    (digits, rest, digits_run digits rest numeral stops.0, ap (λ (n : ℕ). took at (length digits) (kinds.Number n) rest) value ∙ sym (rw (fits, stops.1) refl))

sign_sort : (s : Symbol) (rest : List ℕ) → NextFails (extends s) rest → sort_of (spelling s ++ rest) ≡ Sign
sign_sort symbols.LeftParen rest ends = refl
sign_sort symbols.RightParen rest ends = refl
sign_sort symbols.Comma rest ends = refl
sign_sort symbols.Semicolon rest ends = refl
sign_sort symbols.Dot rest ends = refl
sign_sort symbols.Star rest ends = refl
sign_sort symbols.Plus rest ends = refl
sign_sort symbols.Minus rest ends = rw ends refl
sign_sort symbols.Equal rest ends = refl
sign_sort symbols.NotEqual rest ends = refl
sign_sort symbols.Less rest ends = refl
sign_sort symbols.LessEqual rest ends = refl
sign_sort symbols.Greater rest ends = refl
sign_sort symbols.GreaterEqual rest ends = refl

sign_took : (at : ℕ) (s : Symbol) (rest : List ℕ) → NextFails (extends s) rest → took at (length (spelling s)) (kinds.Symbol s) rest ≡ sign_outcome at (spelling s ++ rest)
sign_took at symbols.LeftParen [] ends = refl
sign_took at symbols.LeftParen (d ∷ rest) ends = refl
sign_took at symbols.RightParen [] ends = refl
sign_took at symbols.RightParen (d ∷ rest) ends = refl
sign_took at symbols.Comma [] ends = refl
sign_took at symbols.Comma (d ∷ rest) ends = refl
sign_took at symbols.Semicolon [] ends = refl
sign_took at symbols.Semicolon (d ∷ rest) ends = refl
sign_took at symbols.Dot [] ends = refl
sign_took at symbols.Dot (d ∷ rest) ends = refl
sign_took at symbols.Star [] ends = refl
sign_took at symbols.Star (d ∷ rest) ends = refl
sign_took at symbols.Plus [] ends = refl
sign_took at symbols.Plus (d ∷ rest) ends = refl
sign_took at symbols.Minus [] ends = refl
sign_took at symbols.Minus (d ∷ rest) ends = refl
sign_took at symbols.Equal [] ends = refl
sign_took at symbols.Equal (d ∷ rest) ends = refl
sign_took at symbols.NotEqual rest ends = refl
sign_took at symbols.Less [] ends = refl
sign_took at symbols.Less (d ∷ rest) ends = let p = or_parts (eqb d 61) (eqb d 62) ends in rw (p.1, p.0) refl
sign_took at symbols.LessEqual rest ends = refl
sign_took at symbols.Greater [] ends = refl
sign_took at symbols.Greater (d ∷ rest) ends = rw ends refl
sign_took at symbols.GreaterEqual rest ends = refl

pub token_form : (at : ℕ) (slice : List ℕ) (kind : TokenKind) (rest : List ℕ) → Spells slice kind → NextFails (goes_on kind) rest → Form (sort_of (slice ++ rest)) at (slice ++ rest) (took at (length slice) kind rest)
token_form at [] (kinds.Word word) rest spelled ends = absurd spelled.0
token_form at (c ∷ slice) (kinds.Word word) rest spelled ends =
    let form : Form Word at (c ∷ slice ++ rest) (took at (length (c ∷ slice)) (kinds.Word word) rest) =
    (c ∷ slice, rest, record { parts = refl; passes = All-cons (λ d. in_word d ≡ true) c slice (word_start_in_word c spelled.0.0) spelled.0.1; stops = ends }, ap (λ (w : List ℕ). took at (length (c ∷ slice)) (kinds.Word w) rest) spelled.1) in
    subst (λ (sort : Sort). Form sort at (c ∷ slice ++ rest) (took at (length (c ∷ slice)) (kinds.Word word) rest)) (sym (word_sort c (slice ++ rest) spelled.0.0)) form
token_form at slice (kinds.Name name) rest spelled ends =
    subst (λ (s : List ℕ). Form (sort_of (s ++ rest)) at (s ++ rest) (took at (length s) (kinds.Name name) rest)) (sym spelled) (name_form at name rest ends)
token_form at slice (kinds.Text said) rest spelled ends =
    subst (λ (s : List ℕ). Form (sort_of (s ++ rest)) at (s ++ rest) (took at (length s) (kinds.Text said) rest)) (sym spelled) (text_form at said rest ends)
token_form at slice (kinds.Number number) rest spelled ends =
    subst (λ (sort : Sort). Form sort at (slice ++ rest) (took at (length slice) (kinds.Number number) rest)) (sym (digits_sort slice rest spelled.0)) (number_form at number slice rest spelled.0 spelled.1 spelled.2 ends)
token_form at slice (kinds.Symbol s) rest (inl spelled) ends =
    let form : Form (sort_of (spelling s ++ rest)) at (spelling s ++ rest) (took at (length (spelling s)) (kinds.Symbol s) rest) =
    subst (λ (sort : Sort). Form sort at (spelling s ++ rest) (took at (length (spelling s)) (kinds.Symbol s) rest)) (sym (sign_sort s rest ends)) (sign_took at s rest ends) in
    subst (λ (t : List ℕ). Form (sort_of (t ++ rest)) at (t ++ rest) (took at (length t) (kinds.Symbol s) rest)) (sym spelled) form
token_form at slice (kinds.Symbol s) rest (inr unequal) ends =
    let form : Form (sort_of (codes "!=" ++ rest)) at (codes "!=" ++ rest) (took at 2 (kinds.Symbol s) rest) = ap (λ (t : Symbol). took at 2 (kinds.Symbol t) rest) unequal.0 in
    subst (λ (t : List ℕ). Form (sort_of (t ++ rest)) at (t ++ rest) (took at (length t) (kinds.Symbol s) rest)) (sym unequal.1) form

pub step_form : (at : ℕ) (text : List ℕ) (tokens : List Token) (next : ℕ) (rest : List ℕ) → Step at text tokens next rest → Form (sort_of text) at text (went tokens next rest)
step_form at text tokens next rest (over_gap {slice = slice} h) = gap_form at slice rest h
step_form at text tokens next rest (over_token {slice = slice} {kind = kind} h) = token_form at slice kind rest h.spelled h.ends

-- ---- faults

digit_value_small : (c : ℕ) → is_ascii_digit c ≡ true → digit_value c < 10
digit_value_small c h = grind (arith, nat_tests)

-- the tests of a byte that begins nothing
module _ (c : ℕ) (rest : List ℕ) (nothing : BeginsNothing c rest) where
  no_word : starts_word c ≡ false
  no_word = false_from_ne_true (starts_word c) (λ h. nothing.token (c ∷ []) rest (kinds.Word (str_to_ascii_lowercase (c ∷ []))) refl ((h, All-nil (λ d. in_word d ≡ true)), refl))

  no_number : is_ascii_digit c ≡ false
  no_number = false_from_ne_true (is_ascii_digit c) (λ h. let small = digit_value_small c h in nothing.token (c ∷ []) rest (kinds.Number (digits_value 10 (c ∷ []))) refl ((omega arith, (small, tt)), refl, omega arith))

  no_minus : c ≢ 45
  no_minus e = nothing.token (c ∷ []) rest (kinds.Symbol symbols.Minus) refl (inl (ap (λ (x : ℕ). x ∷ []) e))

  no_block : (eqb c 47 && next_passes (λ d. eqb d 42) rest) ≡ false
  no_block = false_from_ne_true _ (λ h. let p = and_parts (eqb c 47) (next_passes (λ d. eqb d 42) rest) h in star rest (eqb-true c 47 p.0) p.1 nothing.comment)
    where
      star : (others : List ℕ) → c ≡ 47 → next_passes (λ d. eqb d 42) others ≡ true → ((after : List ℕ) → c ∷ others ≢ codes "/*" ++ after) → ⊥
      star [] e h k = false≢true h
      star (d ∷ others) e h k = k others (λ i. e i ∷ eqb-true d 42 h i ∷ others)

  no_two : (o : Option Symbol) → symbol_of_two (c ∷ rest) ≡ o → o ≡ None
  no_two None e = refl
  no_two (Some s) e = let found = two_symbol (c ∷ rest) s e in absurd (nothing.token found.slice found.rest (kinds.Symbol s) found.parts found.spelled)

  no_one : (o : Option Symbol) → symbol_of_byte c ≡ o → o ≡ None
  no_one None e = refl
  no_one (Some s) e = absurd (nothing.token (c ∷ []) rest (kinds.Symbol s) refl (inl (byte_spelled c s e)))

  nothing_sort : sort_of (c ∷ rest) ≡ Sign
  nothing_sort = rw (nothing.blank, no_word, no_number, ne_eqb c 34 nothing.name, ne_eqb c 39 nothing.text, ne_eqb c 45 no_minus, no_block) refl

  nothing_form : (at : ℕ) → Form (sort_of (c ∷ rest)) at (c ∷ rest) (failed (faults.BadByte at))
  nothing_form at =
      let two : symbol_of_two (c ∷ rest) ≡ None = no_two (symbol_of_two (c ∷ rest)) refl in
      let one : symbol_of_byte c ≡ None = no_one (symbol_of_byte c) refl in
      let form : failed (faults.BadByte at) ≡ sign_outcome at (c ∷ rest) = sym (ap (two_outcome at c rest) two ∙ ap (one_outcome at rest) one) in
      subst (λ (sort : Sort). Form sort at (c ∷ rest) (failed (faults.BadByte at))) (sym nothing_sort) form

number_fault : (at : ℕ) (digits rest : List ℕ) (fault : LexFault) → IsNumeral 10 digits → NextFails is_ascii_digit rest → failed fault ≡ number_outcome at digits rest → Form (sort_of (digits ++ rest)) at (digits ++ rest) (failed fault)
number_fault at digits rest fault numeral stops is =
    let form : Form Digits at (digits ++ rest) (failed fault) = (digits, rest, digits_run digits rest numeral stops, is) in
    subst (λ (sort : Sort). Form sort at (digits ++ rest) (failed fault)) (sym (digits_sort digits rest numeral)) form

pub fault_form : (at : ℕ) (text : List ℕ) (fault : LexFault) → FaultAt at text fault → Form (sort_of text) at text (failed fault)
fault_form at text fault (bad_byte {c = c} {rest = rest} h) = nothing_form c rest h at
fault_form at text fault (after_number digits c rest spelled h) =
    let fits : leb (digits_value 10 digits) 9223372036854775808 ≡ true = le-leb _ _ (subst (λ (n : ℕ). n ≤ 9223372036854775808) spelled.1 spelled.2) in
    number_fault at digits (c ∷ rest) (faults.BadByte (at + length digits)) spelled.0 (word_start_no_digit c h) (sym (rw (fits, h) refl))
fault_form at text fault (long_number digits rest numeral stops large) =
    let long : leb (digits_value 10 digits) 9223372036854775808 ≡ false = lt-leb _ _ large in
    number_fault at digits rest (faults.LongNumber at) numeral stops (sym (rw long refl))
fault_form at text fault (open_name {rest = rest} h) = (rest, refl, ap (name_outcome at) (sym (ap (unquote 34) h.1 ∙ unquote_open 34 h.0)))
fault_form at text fault (open_text {rest = rest} h) = (rest, refl, ap (text_outcome at) (sym (ap (unquote 39) h.1 ∙ unquote_open 39 h.0)))
fault_form at text fault (open_comment {rest = rest} h) = (rest, refl, None, h, refl)

-- ---- readings

-- no step is taken from a place
abbrev Halts : ℕ → List ℕ → Type 0
Halts at text = (tokens : List Token) (next : ℕ) (rest : List ℕ) → Step at text tokens next rest → ⊥

halts_end : (at : ℕ) → Halts at []
halts_end at tokens next rest step = absurd (omega (arith, step_goes step))

halts_fault : (at : ℕ) (text : List ℕ) (fault : LexFault) → FaultAt at text fault → Halts at text
halts_fault at text fault wrong tokens next rest step =
    let e = form_once (sort_of text) at text (went tokens next rest) (failed fault) (step_form at text tokens next rest step) (fault_form at text fault wrong) in
    absurd cc

-- two steps from a place are one
record SameStep (a b : List Token) (m n : ℕ) (x y : List ℕ) : Type 0 where
  pub tokens : a ≡ b
  pub next : m ≡ n
  pub rest : x ≡ y

went_same : (a b : List Token) (m n : ℕ) (x y : List ℕ) → went a m x ≡ went b n y → SameStep a b m n x y
went_same a b m n x y e = record { tokens = cc; next = cc; rest = cc }

step_once : (at : ℕ) (text : List ℕ) (a b : List Token) (m n : ℕ) (x y : List ℕ) → Step at text a m x → Step at text b n y → SameStep a b m n x y
step_once at text a b m n x y s t = went_same a b m n x y (form_once (sort_of text) at text (went a m x) (went b n y) (step_form at text a m x s) (step_form at text b n y t))

reads_once : {at m n : ℕ} {text x y : List ℕ} {a b : List Token} → Reads at text a m x → Halts m x → Reads at text b n y → Halts n y → SameStep a b m n x y
reads_once none h none k = record { tokens = refl; next = refl; rest = refl }
reads_once none h (more s r) k = absurd (h _ _ _ s)
reads_once (more s r) h none k = absurd (k _ _ _ s)
reads_once {at} {m} {n} {text} {x} {y} (more {next = p} {left = left} {first = first} {others = others} s r) h (more {next = q} {left = left'} {first = first'} {others = others'} s' r') k =
    let same = step_once at text first first' p q left left' s s' in
    let moved = subst (λ (l : List ℕ). Reads p l others' n y) (sym same.rest) (subst (λ (z : ℕ). Reads z left' others' n y) (sym same.next) r') in
    let behind = reads_once r h moved k in
    record { tokens = λ i. same.tokens i ++ behind.tokens i; next = behind.next; rest = behind.rest }

pub list_once : (text : List ℕ) (a b : List Token) → Tokens text a → Tokens text b → a ≡ b
list_once text a b r s = (reads_once r (halts_end (length text)) s (halts_end (length text))).tokens

fault_full : (at : ℕ) (text : List ℕ) (fault : LexFault) → FaultAt at text fault → 0 < length text
fault_full at text fault (bad_byte h) = omega arith
fault_full at text fault (after_number digits c rest spelled h) = omega (arith, length-append digits (c ∷ rest))
fault_full at text fault (long_number digits rest numeral stops large) = omega (arith, length-append digits rest, numeral.0)
fault_full at text fault (open_name h) = omega arith
fault_full at text fault (open_text h) = omega arith
fault_full at text fault (open_comment h) = omega arith

pub list_or_fault : (text : List ℕ) (list : List Token) (fault : LexFault) → Tokens text list → FirstFault text fault → ⊥
list_or_fault text list fault r f =
    let same = reads_once r (halts_end (length text)) f.reads (halts_fault f.at f.rest fault f.wrong) in
    absurd (omega (arith, fault_full f.at f.rest fault f.wrong, ap length same.rest))

failed_same : (a b : LexFault) → failed a ≡ failed b → a ≡ b
failed_same a b e = cc

pub fault_once : (text : List ℕ) (a b : LexFault) → FirstFault text a → FirstFault text b → a ≡ b
fault_once text a b f g =
    let same = reads_once f.reads (halts_fault f.at f.rest a f.wrong) g.reads (halts_fault g.at g.rest b g.wrong) in
    let moved : FaultAt g.at g.rest a = subst (λ (l : List ℕ). FaultAt g.at l a) same.rest (subst (λ (z : ℕ). FaultAt z f.rest a) same.next f.wrong) in
    failed_same a b (form_once (sort_of g.rest) g.at g.rest (failed a) (failed b) (fault_form g.at g.rest a moved) (fault_form g.at g.rest b g.wrong))
