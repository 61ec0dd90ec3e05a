-- Runs of bytes that pass a test, as slices, and where a text may be cut behind them.
use Rattle.std.proofs.Common.{◌≡◌, ℕ, zero, suc, ◌<◌, Bool, true, false, List, [], ◌∷◌, length, get_or, take, drop, Some, IsUtf8, refl, sym, ◌∙◌, arith, add-zero, add-one}
use Rattle.std.specs.List.{AllPass}
use Rattle.std.specs.Char.{is_ascii_digit}
use Rattle.std.specs.Str.{IsCharBoundary, str_to_ascii_lowercase}
use Rattle.std.proofs.lemmas.Bool.{false≢true}
use Rattle.std.proofs.lemmas.Bool.Decides.{nat_tests}
use Rattle.std.proofs.lemmas.List.{length-take-le, length-drop, get_or-take, get_or-drop, take-append-drop}
use Rattle.std.proofs.lemmas.List.Elements.{All-from_get_or}
use Rattle.std.proofs.lemmas.Str.{IsCharBoundary-start, IsCharBoundary-after_ascii}
use Rattle.sq_token.specs.declared.token.TokenKind.TheVariants as kinds
use Rattle.sq_token.specs.Bytes.{starts_word, in_word, NextFails}
use Rattle.sq_token.specs.Run.{IsRun}
use Rattle.sq_token.specs.Spelling.{IsWord}
use Rattle.sq_token.specs.Piece.{PieceAt}

pub word_ascii : (c : ℕ) → in_word c ≡ true → c < 128
word_ascii c h = grind (arith, nat_tests)

pub digit_ascii : (c : ℕ) → is_ascii_digit c ≡ true → c < 128
digit_ascii c h = grind (arith, nat_tests)

pub word_start_in_word : (c : ℕ) → starts_word c ≡ true → in_word c ≡ true
word_start_in_word c h = grind (arith, nat_tests)

-- behind a run of ASCII bytes a text may be cut
pub run_cut : (test : ℕ → Bool) → ((c : ℕ) → test c ≡ true → c < 128) → (text : List ℕ) (n : ℕ) → IsUtf8 text → IsRun test text n → IsCharBoundary text n
run_cut test ascii text zero utf8 run = IsCharBoundary-start text utf8
run_cut test ascii text (suc n) utf8 run =
    rw add-one at (IsCharBoundary-after_ascii text n utf8 run.within (ascii (get_or text n 0) (run.passes n (omega arith))))

pub run_passes : (test : ℕ → Bool) (text : List ℕ) (n : ℕ) → IsRun test text n → AllPass test (take n text)
run_passes test text n run =
    All-from_get_or (λ c. test c ≡ true) (take n text) 0 (λ i lt. let small : i < n = omega (arith, length-take-le n text run.within) in rw get_or-take (run.passes i small))

pub next_fails : (test : ℕ → Bool) (text : List ℕ) → (0 < length text → test (get_or text 0 0) ≡ false) → NextFails test text
next_fails test [] h = refl
next_fails test (c ∷ text) h = h (omega arith)

pub run_stops : (test : ℕ → Bool) (text : List ℕ) (n : ℕ) → IsRun test text n → NextFails test (drop n text)
run_stops test text n run =
    next_fails test (drop n text) (λ full. rw (get_or-drop, add-zero) (run.stops (omega (arith, length-drop n text))))

-- a run that begins as a word is one
run_word : (text : List ℕ) (n : ℕ) → 0 < length text → starts_word (get_or text 0 0) ≡ true → IsRun in_word text n → IsWord (take n text)
run_word [] n full begins run = absurd (omega arith)
run_word (c ∷ text) zero full begins run = absurd (false≢true (sym (run.stops (omega arith)) ∙ word_start_in_word c begins))
run_word (c ∷ text) (suc n) full begins run =
    (begins, All-from_get_or (λ c. in_word c ≡ true) (take n text) 0 (λ i lt. let small : i < n = omega (arith, length-take-le n text (omega (arith, run.within))) in rw get_or-take (run.passes (suc i) (omega arith))))

pub word_piece : (text : List ℕ) (n : ℕ) (word : List ℕ) → 0 < length text → starts_word (get_or text 0 0) ≡ true → IsRun in_word text n → word ≡ str_to_ascii_lowercase (take n text) → PieceAt text n (Some (kinds.Word word))
word_piece text n word full begins run folded = record {
  slice = take n text;
  rest = drop n text;
  parts = sym (take-append-drop n text);
  len_is = sym (length-take-le n text run.within);
  stands = record { spelled = (run_word text n full begins run, folded); ends = run_stops in_word text n run };
}
