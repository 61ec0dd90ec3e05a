-- Texts of words, symbols of one byte and blanks: their tokens, by a function that is read off.
--     front, behind        the first bytes of a text that pass a test, and what stands behind them
--     lexed turns at text        the tokens of a text that begins at a place, in so many pieces at most
use Rattle.std.proofs.Common.{◌≡◌, ℕ, zero, suc, ◌+◌, Bool, true, false, if◌then◌else◌, List, [], ◌∷◌, ◌++◌, length, Option, Some, None, refl, ap, subst, arith, inl, length-append}
use Rattle.std.specs.List.{list_all}
use Rattle.std.specs.Str.{str_to_ascii_lowercase}
use Rattle.std.proofs.lemmas.List.Sums.{AllPass-from_list_all}
use Rattle.std.proofs.lemmas.Option.{same_Some, none-some}
use Rattle.sq_token.specs.declared.symbol.Symbol.{Symbol}
use Rattle.sq_token.specs.declared.token.Token.{Token}
use Rattle.sq_token.specs.declared.token.TokenKind.{TokenKind}
use Rattle.sq_token.specs.declared.token.TokenKind.TheVariants as kinds
use Rattle.sq_token.specs.Bytes.{is_blank, starts_word, in_word, next_passes, NextFails}
use Rattle.sq_token.specs.Reading.{Reads, Tokens, blank, over_gap, over_token, none, more}
use Rattle.sq_token.specs.Spelling.{IsToken}
use Rattle.sq_token.specs.Symbols.{symbol_of_byte, extends}
use Rattle.sq_token.proofs.SymbolLemmas.{byte_spelled}

-- ---- runs
abbrev pub front : (ℕ → Bool) → List ℕ → List ℕ
front test [] = []
front test (c ∷ cs) = if test c then c ∷ front test cs else []

abbrev pub behind : (ℕ → Bool) → List ℕ → List ℕ
behind test [] = []
behind test (c ∷ cs) = if test c then behind test cs else c ∷ cs

-- a property of both arms of an `if`, each where it is taken
by_test : {A : Type 0} (P : A → Type 0) (b : Bool) (x y : A) → (b ≡ true → P x) → (b ≡ false → P y) → P (if b then x else y)
by_test P true x y p q = p refl
by_test P false x y p q = q refl

record IsRun (test : ℕ → Bool) (text slice rest : List ℕ) : Type 0 where
  parts : slice ++ rest ≡ text
  passes : list_all test slice ≡ true
  stops : NextFails test rest

taken : (test : ℕ → Bool) (c : ℕ) (cs slice rest : List ℕ) → test c ≡ true → IsRun test cs slice rest → IsRun test (c ∷ cs) (c ∷ slice) rest
taken test c cs slice rest h r = record { parts = ap (λ (t : List ℕ). c ∷ t) r.parts; passes = rw h r.passes; stops = r.stops }

run_by : (test : ℕ → Bool) (c : ℕ) (cs : List ℕ) (b : Bool) → test c ≡ b → IsRun test cs (front test cs) (behind test cs)
    → IsRun test (c ∷ cs) (if b then c ∷ front test cs else []) (if b then behind test cs else c ∷ cs)
run_by test c cs true h r = taken test c cs _ _ h r
run_by test c cs false h r = record { parts = refl; passes = refl; stops = h }

is_run : (test : ℕ → Bool) (text : List ℕ) → IsRun test text (front test text) (behind test text)
is_run test [] = record { parts = refl; passes = refl; stops = refl }
is_run test (c ∷ cs) = run_by test c cs (test c) refl (is_run test cs)

-- ---- tokens
abbrev pub token_at : ℕ → ℕ → TokenKind → Token
token_at start end kind = record { start = start; end = end; kind = kind }

abbrev pub with_token : Token → Option (List Token) → Option (List Token)
with_token t None = None
with_token t (Some ts) = Some (t ∷ ts)

abbrev pub with_word : ℕ → List ℕ → Option (List Token) → Option (List Token)
with_word at word others = with_token (token_at at (at + length word) (kinds.Word (str_to_ascii_lowercase word))) others

abbrev pub with_symbol : ℕ → List ℕ → Option Symbol → Option (List Token) → Option (List Token)
with_symbol at rest None others = None
with_symbol at rest (Some s) others = if next_passes (extends s) rest then None else with_token (token_at at (at + 1) (kinds.Symbol s)) others

abbrev pub lexed : ℕ → ℕ → List ℕ → Option (List Token)
lexed turns at [] = Some []
lexed zero at (c ∷ cs) = None
lexed (suc turns) at (c ∷ cs) =
    if is_blank c then lexed turns (at + 1) cs
    else (if starts_word c then with_word at (c ∷ front in_word cs) (lexed turns (at + suc (length (front in_word cs))) (behind in_word cs))
    else with_symbol at cs (symbol_of_byte c) (lexed turns (at + 1) cs))

-- ---- they are the tokens of the text
abbrev Sound : ℕ → List ℕ → Option (List Token) → Type 0
Sound at text found = (list : List Token) → found ≡ Some list → Reads at text list (at + length text) []

-- the tokens behind a first one
record IsBehind (t : Token) (found : Option (List Token)) (list : List Token) : Type 0 where
  others : List Token
  found_is : found ≡ Some others
  list_is : t ∷ others ≡ list

behind_token : (t : Token) (found : Option (List Token)) (list : List Token) → with_token t found ≡ Some list → IsBehind t found list
behind_token t None list e = absurd (none-some list e)
behind_token t (Some ts) list e = record { others = ts; found_is = refl; list_is = same_Some _ _ e }

sound_blank : (at c : ℕ) (cs : List ℕ) (found : Option (List Token)) → is_blank c ≡ true → Sound (at + 1) cs found → Sound at (c ∷ cs) found
sound_blank at c cs found h sound list e =
    more (over_gap (blank h)) (subst (λ n. Reads (at + 1) cs list n []) (omega arith) (sound list e))

sound_token : (at : ℕ) (slice rest : List ℕ) (kind : TokenKind) (found : Option (List Token)) → IsToken slice kind rest
    → Sound (at + length slice) rest found → Sound at (slice ++ rest) (with_token (token_at at (at + length slice) kind) found)
sound_token at slice rest kind found is sound list e =
    let b = behind_token _ found list e in
    subst (λ ts. Reads at (slice ++ rest) ts (at + length (slice ++ rest)) []) b.list_is
    (more (over_token is) (subst (λ n. Reads (at + length slice) rest b.others n []) (let both = length-append slice rest in omega arith) (sound b.others b.found_is)))

sound_word : (at c : ℕ) (cs : List ℕ) (found : Option (List Token)) → starts_word c ≡ true
    → Sound (at + suc (length (front in_word cs))) (behind in_word cs) found → Sound at (c ∷ cs) (with_word at (c ∷ front in_word cs) found)
sound_word at c cs found h sound =
    let run = is_run in_word cs in
    subst (λ text. Sound at (c ∷ text) (with_word at (c ∷ front in_word cs) found)) run.parts
    (sound_token at (c ∷ front in_word cs) (behind in_word cs) _ found
    (record { spelled = ((h, AllPass-from_list_all in_word (front in_word cs) run.passes), refl); ends = run.stops }) sound)

sound_symbol : (at c : ℕ) (cs : List ℕ) (s : Option Symbol) (found : Option (List Token)) → symbol_of_byte c ≡ s → Sound (at + 1) cs found → Sound at (c ∷ cs) (with_symbol at cs s found)
sound_symbol at c cs None found h sound = λ list e. absurd (none-some list e)
sound_symbol at c cs (Some s) found h sound =
    by_test (Sound at (c ∷ cs)) (next_passes (extends s) cs) None _
    (λ goes_on list e. absurd (none-some list e))
    (λ ends. sound_token at (c ∷ []) cs (kinds.Symbol s) found (record { spelled = inl (byte_spelled c s h); ends = ends }) sound)

sound_lexed : (turns at : ℕ) (text : List ℕ) → Sound at text (lexed turns at text)
sound_lexed turns at [] = λ list e. subst (λ ts. Reads at [] ts (at + 0) []) (same_Some [] list e) (subst (λ n. Reads at [] [] n []) (omega arith) none)
sound_lexed zero at (c ∷ cs) = λ list e. absurd (none-some list e)
sound_lexed (suc turns) at (c ∷ cs) =
    by_test (Sound at (c ∷ cs)) (is_blank c) (lexed turns (at + 1) cs) _
    (λ h. sound_blank at c cs _ h (sound_lexed turns (at + 1) cs))
    (λ _. by_test (Sound at (c ∷ cs)) (starts_word c) (with_word at (c ∷ front in_word cs) (lexed turns (at + suc (length (front in_word cs))) (behind in_word cs))) _
    (λ h. sound_word at c cs _ h (sound_lexed turns (at + suc (length (front in_word cs))) (behind in_word cs)))
    (λ _. sound_symbol at c cs (symbol_of_byte c) _ refl (sound_lexed turns (at + 1) cs)))

pub lexed_tokens : (turns : ℕ) (text : List ℕ) (list : List Token) → lexed turns 0 text ≡ Some list → Tokens text list
lexed_tokens turns text list e = subst (λ n. Reads 0 text list n []) (omega arith) (sound_lexed turns 0 text list e)
