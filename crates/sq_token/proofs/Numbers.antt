-- Numbers, and what may stand behind them.
use Rattle.std.proofs.Common.{◌≡◌, ℕ, zero, suc, ◌+◌, ◌<◌, ◌≤◌, true, false, List, [], ◌∷◌, ◌++◌, length, get_or, take, drop, Some, refl, sym, subst, ◌∙◌, arith}
use Rattle.std.specs.Char.{is_ascii_digit}
use Rattle.std.specs.Int.{IsInRange}
use Rattle.std.specs.Str.Parse.{IsNumeral, digits_value}
use Rattle.std.proofs.lemmas.Bool.{false≢true, or_from}
use Rattle.std.proofs.lemmas.Bool.Decides.{nat_tests}
use Rattle.std.proofs.lemmas.List.{length-take-le, get_or-take, take-append-drop}
use Rattle.std.proofs.lemmas.Str.Parse.{IsNumeralModel, numerals_by_value, tells_by_index}
use Rattle.sq_token.specs.declared.fault.LexFault.TheVariants as faults
use Rattle.sq_token.specs.declared.token.TokenKind.TheVariants as kinds
use Rattle.sq_token.specs.Bytes.{starts_word, in_word, next_passes, NextFails}
use Rattle.sq_token.specs.Run.{IsRun}
use Rattle.sq_token.specs.Fault.{FaultAt}
use Rattle.sq_token.specs.Fault.FaultAt.{after_number, long_number}
use Rattle.sq_token.specs.Piece.{PieceAt}
use Rattle.sq_token.proofs.Runs.{run_stops}

by_index : IsNumeralModel (λ ds. (i : ℕ) → i < length ds → IsInRange 48 57 (get_or ds i 0)) (digits_value 10)
by_index = numerals_by_value _ tells_by_index

digit_range : (c : ℕ) → is_ascii_digit c ≡ true → IsInRange 48 57 c
digit_range c h = grind (arith, nat_tests)

-- a run of digits that begins with one is a numeral
pub run_numeral : (text : List ℕ) (n : ℕ) → 0 < length text → is_ascii_digit (get_or text 0 0) ≡ true → IsRun is_ascii_digit text n → IsNumeral 10 (take n text)
run_numeral text zero full begins run = absurd (false≢true (sym (run.stops full) ∙ begins))
run_numeral text (suc n) full begins run =
    let len = length-take-le (suc n) text run.within in
    (omega (arith, len), by_index.to (take (suc n) text) (λ i lt. let small : i < suc n = omega arith in rw get_or-take (digit_range (get_or text i 0) (run.passes i small))))

pub long_number_at : (at : ℕ) (text : List ℕ) (n : ℕ) → 0 < length text → is_ascii_digit (get_or text 0 0) ≡ true → IsRun is_ascii_digit text n → (digits_value 10 (take n text) ≤ 9223372036854775808 → ⊥)
    → FaultAt at text (faults.LongNumber at)
long_number_at at text n full begins run long =
    let large : 9223372036854775808 < digits_value 10 (take n text) = omega arith in
    subst (λ (t : List ℕ). FaultAt at t (faults.LongNumber at)) (take-append-drop n text)
    (long_number (take n text) (drop n text) (run_numeral text n full begins run) (run_stops is_ascii_digit text n run) large)

pub after_number_at : (at : ℕ) (text : List ℕ) (n number : ℕ) → 0 < length text → is_ascii_digit (get_or text 0 0) ≡ true → IsRun is_ascii_digit text n → number ≡ digits_value 10 (take n text) → number ≤ 9223372036854775808
    → true ≡ next_passes starts_word (drop n text) → FaultAt at text (faults.BadByte (at + n))
after_number_at at text n number full begins run value small next =
    fault (take n text) (drop n text) (run_numeral text n full begins run) value (length-take-le n text run.within) (take-append-drop n text) next
  where
    fault : (digits rest : List ℕ) → IsNumeral 10 digits → number ≡ digits_value 10 digits → length digits ≡ n → digits ++ rest ≡ text → true ≡ next_passes starts_word rest → FaultAt at text (faults.BadByte (at + n))
    fault digits [] numeral value len parts next = absurd (false≢true (sym next))
    fault digits (c ∷ rest) numeral value len parts next =
        subst (λ (t : List ℕ). FaultAt at t (faults.BadByte (at + n))) parts
        (subst (λ (m : ℕ). FaultAt at (digits ++ c ∷ rest) (faults.BadByte (at + m))) len (after_number {number = number} digits c rest (numeral, value, small) (sym next)))

neither : (rest : List ℕ) → NextFails is_ascii_digit rest → NextFails starts_word rest → NextFails in_word rest
neither [] digit word = refl
neither (c ∷ rest) digit word = or_from (starts_word c) (is_ascii_digit c) word digit

pub number_piece : (text : List ℕ) (n number : ℕ) → 0 < length text → is_ascii_digit (get_or text 0 0) ≡ true → IsRun is_ascii_digit text n → number ≡ digits_value 10 (take n text) → number ≤ 9223372036854775808
    → false ≡ next_passes starts_word (drop n text) → PieceAt text n (Some (kinds.Number number))
number_piece text n number full begins run value small next = record {
  slice = take n text;
  rest = drop n text;
  parts = sym (take-append-drop n text);
  len_is = sym (length-take-le n text run.within);
  stands = record { spelled = (run_numeral text n full begins run, value, small); ends = neither (drop n text) (run_stops is_ascii_digit text n run) (sym next) };
}
