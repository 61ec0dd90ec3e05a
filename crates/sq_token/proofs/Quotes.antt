-- Characters in quotes, read up to the quote that ends them.
use Rattle.std.proofs.Common.{◌≡◌, ◌≢◌, ℕ, suc, ◌+◌, ◌-◌, ◌<◌, eqb, List, [], ◌∷◌, ◌++◌, length, get_or, refl, sym, ap, subst, ◌∙◌, arith, append_assoc, length-append}
use Rattle.std.proofs.lemmas.Bool.{ne_eqb, eq-eqb}
use Rattle.std.proofs.lemmas.List.Concat.{flat_map-append}
use Rattle.sq_token.specs.Bytes.{NextFails}
use Rattle.sq_token.specs.Spelling.{doubled}
use Rattle.sq_token.specs.Closing.{Closes}
use Rattle.sq_token.specs.Fault.{IsOpen, FaultAt}
use Rattle.sq_token.specs.Fault.FaultAt.{open_name, open_text}
use Rattle.sq_token.specs.declared.fault.LexFault.TheVariants as faults

-- the byte q stands nowhere in a text
abbrev pub HasNo : ℕ → List ℕ → Type 0
HasNo q text = (i : ℕ) → i < length text → get_or text i 0 ≢ q

pub doubled-append : (q : ℕ) (a b : List ℕ) → doubled q (a ++ b) ≡ doubled q a ++ doubled q b
doubled-append q a b = flat_map-append _ a b

pub doubled-quote : (q : ℕ) → doubled q (q ∷ []) ≡ q ∷ q ∷ []
doubled-quote q = rw (eq-eqb q q refl) refl

pub doubled-plain : (q : ℕ) (text : List ℕ) → HasNo q text → doubled q text ≡ text
doubled-plain q [] h = refl
doubled-plain q (c ∷ text) h =
    rw (ne_eqb c q (h 0 (omega arith))) (ap (λ (t : List ℕ). c ∷ t) (doubled-plain q text (λ i lt. h (suc i) (omega arith))))

-- what was read so far, and a doubled quote behind a piece without quotes
pub quote_goes_on : (q : ℕ) (text body rest piece after more : List ℕ) → text ≡ doubled q body ++ rest → rest ≡ piece ++ (q ∷ after) → HasNo q piece → after ≡ q ∷ more
    → text ≡ doubled q ((body ++ piece) ++ q ∷ []) ++ more
quote_goes_on q text body rest piece after more so_far split plain again =
    rw (so_far, split, again, doubled-append q (body ++ piece) (q ∷ []), doubled-append q body piece, doubled-plain q piece plain, doubled-quote q) (simp append_assoc)

-- what was read so far, and a single quote behind a piece without quotes
pub quote_ends : (q : ℕ) (text body rest piece after : List ℕ) → text ≡ doubled q body ++ rest → rest ≡ piece ++ (q ∷ after) → HasNo q piece → ((more : List ℕ) → after ≢ q ∷ more)
    → Closes q text (body ++ piece) (length text - length after)
quote_ends q text body rest piece after so_far split plain single = record {
  after = after;
  parts = so_far ∙ rw (split, doubled-append q body piece, doubled-plain q piece plain) (simp append_assoc);
  ends = next_is_no_quote after single;
  len_is = let e : length text ≡ length (doubled q body) + (length piece + suc (length after)) = ap length so_far ∙ rw split (simp length-append) in omega arith;
}
  where
    next_is_no_quote : (after : List ℕ) → ((more : List ℕ) → after ≢ q ∷ more) → NextFails (λ c. eqb c q) after
    next_is_no_quote [] single = refl
    next_is_no_quote (c ∷ after) single = ne_eqb c q (λ e. single after (ap (λ (d : ℕ). d ∷ after) e))

-- what was read so far, and a rest without quotes: nothing ends the characters
pub quote_open : (q : ℕ) (text body rest : List ℕ) → text ≡ doubled q body ++ rest → HasNo q rest → IsOpen q text
quote_open q text body rest so_far plain = (body ++ rest, so_far ∙ rw (doubled-append q body rest, doubled-plain q rest plain) refl)

-- a quote behind which the characters do not end
pub name_open : (at : ℕ) (text inner : List ℕ) → text ≡ 34 ∷ inner → IsOpen 34 inner → FaultAt at text (faults.OpenName at)
name_open at text inner opens open_up = subst (λ (t : List ℕ). FaultAt at t (faults.OpenName at)) (sym opens) (open_name open_up)

pub text_open : (at : ℕ) (text inner : List ℕ) → text ≡ 39 ∷ inner → IsOpen 39 inner → FaultAt at text (faults.OpenText at)
text_open at text inner opens open_up = subst (λ (t : List ℕ). FaultAt at t (faults.OpenText at)) (sym opens) (open_text open_up)
