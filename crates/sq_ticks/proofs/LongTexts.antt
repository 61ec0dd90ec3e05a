-- A text that is surely too long, and a text at the end of an input.
use Rattle.std.specs.Prelude.{if◌then◌else◌, ◌==◌, ◌||◌, bytes_eq, codes}
use Rattle.std.specs.List.{flat_map, list_any}
use Rattle.std.proofs.Common.{◌≡◌, ℕ, zero, suc, ◌+◌, ◌<◌, ◌≤◌, List, [], ◌∷◌, ◌++◌, length, take, drop, Bool, true, false, refl, sym, ap, ap₂, subst, ◌∙◌, arith, append_assoc, append-nil, length-append}
use Rattle.std.proofs.Math.Seq.{take-append_seam}
use Rattle.std.proofs.lemmas.List.{length-take-le, take-append-drop}
use Rattle.std.proofs.lemmas.Slice.Eq.{bytes_eq-Decides}
use Rattle.sq_lines.specs.Cutting.{ended, last_of, line_feed, lines_of, unfinished}
use Rattle.sq_lines.proofs.CutLemmas.{ended-append, lines_are_cut, unfinished-append}
use Rattle.sq_ticks.specs.Begun.{IsOpen}
use Rattle.sq_ticks.specs.Lines.{has_end_line, is_end_line, may_become_end_line, surely_before, text_before_end, with_ends}
use Rattle.sq_ticks.proofs.TextLemmas.{end_later, text_later}

-- ---- the lines behind a line that began
abbrev pub behind : List ℕ → List ℕ → List (List ℕ)
behind u more = ended u more ++ last_of (unfinished u more)

pub lines_behind : (bytes more : List ℕ) → lines_of (bytes ++ more) ≡ ended [] bytes ++ behind (unfinished [] bytes) more
lines_behind bytes more =
    let u = unfinished [] bytes in
    sym (lines_are_cut (bytes ++ more))
    ∙ ap₂ (λ ls v. ls ++ last_of v) (ended-append [] bytes more) (unfinished-append [] bytes more)
    ∙ append_assoc (ended [] bytes) (ended u more) (last_of (unfinished u more))

-- the first of them begins with these bytes
record FirstOf (u : List ℕ) (lines : List (List ℕ)) : Type 0 where
  pub later : List ℕ
  pub others : List (List ℕ)
  pub is : lines ≡ (u ++ later) ∷ others

onto_front : (t : Bool) (x b : ℕ) (u more : List ℕ) → (x == line_feed) ≡ t → FirstOf (b ∷ (u ++ x ∷ [])) (behind (b ∷ (u ++ x ∷ [])) more) → FirstOf (b ∷ u) (behind (b ∷ u) (x ∷ more))
onto_front true x b u more e on = record { later = []; others = behind [] more; is = rw e (ap (λ l. l ∷ behind [] more) (sym (append-nil (b ∷ u)))) }
onto_front false x b u more e on = record { later = x ∷ on.later; others = on.others; is = rw e (on.is ∙ ap (λ l. l ∷ on.others) (append_assoc (b ∷ u) (x ∷ []) on.later)) }

first_of : (b : ℕ) (u more : List ℕ) → FirstOf (b ∷ u) (behind (b ∷ u) more)
first_of b u [] = record { later = []; others = []; is = ap (λ l. l ∷ []) (sym (append-nil (b ∷ u))) }
first_of b u (x ∷ more) = onto_front _ x b u more refl (first_of b (u ++ x ∷ []) more)

-- ---- a line that begins in no way like an end line is none
short_end : (n : ℕ) (u : List ℕ) → n ≤ 4 → u ≡ take n (codes "---\r") → may_become_end_line u ≡ true
short_end zero u le e = rw e refl
short_end (suc zero) u le e = rw e refl
short_end (suc (suc zero)) u le e = rw e refl
short_end (suc (suc (suc zero))) u le e = rw e refl
short_end (suc (suc (suc (suc zero)))) u le e = rw e refl
short_end (suc (suc (suc (suc (suc n))))) u le e = absurd (omega (arith, le))

short_plain : (n : ℕ) (u : List ℕ) → n ≤ 3 → u ≡ take n (codes "---") → may_become_end_line u ≡ true
short_plain zero u le e = rw e refl
short_plain (suc zero) u le e = rw e refl
short_plain (suc (suc zero)) u le e = rw e refl
short_plain (suc (suc (suc zero))) u le e = rw e refl
short_plain (suc (suc (suc (suc n)))) u le e = absurd (omega (arith, le))

front_of : (u w t : List ℕ) → u ++ w ≡ t → u ≡ take (length u) t
front_of u w t e = sym (take-append_seam u w) ∙ ap (take (length u)) e

fits : (u w t : List ℕ) → u ++ w ≡ t → length u ≤ length t
fits u w t e = omega (arith, ap length e, length-append u w)

may_plain : (u w : List ℕ) (a : Bool) → bytes_eq (u ++ w) (codes "---") ≡ a → a ≡ true → may_become_end_line u ≡ true
may_plain u w a e t =
    let same = (bytes_eq-Decides (u ++ w) (codes "---")).0 (e ∙ t) in
    short_plain (length u) u (fits u w (codes "---") same) (front_of u w (codes "---") same)

may_return : (u w : List ℕ) (a : Bool) → bytes_eq (u ++ w) (codes "---\r") ≡ a → a ≡ true → may_become_end_line u ≡ true
may_return u w a e t =
    let same = (bytes_eq-Decides (u ++ w) (codes "---\r")).0 (e ∙ t) in
    short_end (length u) u (fits u w (codes "---\r") same) (front_of u w (codes "---\r") same)

no_end_by : (u w : List ℕ) (a b : Bool) → bytes_eq (u ++ w) (codes "---") ≡ a → bytes_eq (u ++ w) (codes "---\r") ≡ b → may_become_end_line u ≡ false → (a || b) ≡ false
no_end_by u w true b ea eb not = let t = may_plain u w true ea refl in absurd (cc (t, not))
no_end_by u w false true ea eb not = let t = may_return u w true eb refl in absurd (cc (t, not))
no_end_by u w false false ea eb not = refl

no_end : (u w : List ℕ) → may_become_end_line u ≡ false → is_end_line (u ++ w) ≡ false
no_end u w not = no_end_by u w _ _ refl refl not

-- ---- so what surely stands before the end line does
longer : (u : List ℕ) (lines : List (List ℕ)) (f : FirstOf u lines) → may_become_end_line u ≡ false → length u ≤ length (text_before_end lines)
longer u lines f not =
    let text : text_before_end lines ≡ (u ++ f.later) ++ line_feed ∷ text_before_end f.others = rw f.is (rw (no_end u f.later not) refl) in
    omega (arith, ap length text, length-append (u ++ f.later) (line_feed ∷ text_before_end f.others), length-append u f.later)

begun_longer : (u more : List ℕ) → may_become_end_line u ≡ false → length u ≤ length (text_before_end (behind u more))
begun_longer [] more not = absurd (cc not)
begun_longer (b ∷ u) more not = longer (b ∷ u) (behind (b ∷ u) more) (first_of b u more) not

sum_of : (bytes : List ℕ) (line : ℕ) → IsOpen bytes line → length (with_ends (ended [] bytes)) + length (unfinished [] bytes) ≡ length bytes
sum_of bytes line so_far =
    ap₂ (λ a b. length a + length b) so_far.front so_far.begun ∙ sym (length-append (take line bytes) (drop line bytes)) ∙ ap length (take-append-drop line bytes)

sure : (bytes more : List ℕ) (line : ℕ) (t : Bool) → IsOpen bytes line → may_become_end_line (unfinished [] bytes) ≡ t
    → length (surely_before bytes) ≤ length (text_before_end (lines_of (bytes ++ more)))
sure bytes more line t so_far e =
    let E = ended [] bytes in
    let u = unfinished [] bytes in
    let text : text_before_end (lines_of (bytes ++ more)) ≡ with_ends E ++ text_before_end (behind u more) =
    ap text_before_end (lines_behind bytes more) ∙ text_later E (behind u more) so_far.none in
    by t e (ap length text ∙ length-append (with_ends E) (text_before_end (behind u more))) where
      by : (t : Bool) → may_become_end_line (unfinished [] bytes) ≡ t
          → length (text_before_end (lines_of (bytes ++ more))) ≡ length (with_ends (ended [] bytes)) + length (text_before_end (behind (unfinished [] bytes) more))
          → length (surely_before bytes) ≤ length (text_before_end (lines_of (bytes ++ more)))
      by true e long = rw e (omega (arith, long))
      by false e long = let more_than = begun_longer (unfinished [] bytes) more e in rw e (omega (arith, long, more_than, sum_of bytes line so_far))

pub surely_stands : (bytes more : List ℕ) (line : ℕ) → IsOpen bytes line → length (surely_before bytes) ≤ length (text_before_end (lines_of (bytes ++ more)))
surely_stands bytes more line so_far = sure bytes more line _ so_far refl

surely_fewer : (bytes : List ℕ) (line : ℕ) (t : Bool) → IsOpen bytes line → may_become_end_line (unfinished [] bytes) ≡ t → length (surely_before bytes) ≤ length bytes
surely_fewer bytes line true so_far e = rw e (omega (arith, sum_of bytes line so_far))
surely_fewer bytes line false so_far e = rw e (omega arith)

pub surely_within : (bytes more : List ℕ) (line : ℕ) → IsOpen bytes line → length (surely_before bytes) ≤ length (bytes ++ more)
surely_within bytes more line so_far = omega (arith, surely_fewer bytes line _ so_far refl, length-append bytes more)

-- what it is, by where the last line begins
pub surely_is : (bytes : List ℕ) (line : ℕ) (t : Bool) → IsOpen bytes line → may_become_end_line (drop line bytes) ≡ t
    → length (surely_before bytes) ≡ (if t then line else length bytes)
surely_is bytes line true so_far e = rw (so_far.begun, e) (ap length so_far.front ∙ length-take-le line bytes so_far.within)
surely_is bytes line false so_far e = rw (so_far.begun, e) refl

-- ---- at the end of the input
some_line : (u : List ℕ) → is_end_line u ≡ true → last_of u ≡ u ∷ []
some_line [] e = absurd (cc e)
some_line (b ∷ u) e = refl

pub last_line_is : (bytes : List ℕ) (line : ℕ) → IsOpen bytes line → is_end_line (drop line bytes) ≡ true → lines_of bytes ≡ ended [] bytes ++ drop line bytes ∷ []
last_line_is bytes line so_far e =
    sym (lines_are_cut bytes) ∙ ap (λ u. ended [] bytes ++ last_of u) so_far.begun ∙ ap (λ ls. ended [] bytes ++ ls) (some_line (drop line bytes) e)

none_last : (u : List ℕ) → is_end_line u ≡ false → has_end_line (last_of u) ≡ false
none_last [] e = refl
none_last (b ∷ u) e = rw e refl

pub no_end_at_all : (bytes : List ℕ) (line : ℕ) → IsOpen bytes line → is_end_line (drop line bytes) ≡ false → has_end_line (lines_of bytes) ≡ false
no_end_at_all bytes line so_far e =
    ap has_end_line (sym (lines_are_cut bytes)) ∙ end_later (ended [] bytes) (last_of (unfinished [] bytes)) so_far.none
    ∙ ap (λ u. has_end_line (last_of u)) so_far.begun ∙ none_last (drop line bytes) e
