-- What stays true while a program text is read.
use Rattle.std.specs.Io.KnownBytes.{Consumes, IsAtEnd, Keeps}
use Rattle.std.proofs.Common.{◌≡◌, ℕ, zero, suc, ◌+◌, ◌-◌, ◌<◌, ◌≤◌, ◌^◌, List, [], ◌∷◌, ◌++◌, length, take, drop, Option, Some, None, refl, sym, ap, subst, ◌∙◌, arith, append-nil, append_assoc, length-append, length-drop}
use Rattle.std.proofs.lemmas.List.{take-append-drop}
use Rattle.sq_base.specs.Causes.{Rose}
use Rattle.sq_lines.specs.Cutting.{line_feed}
use Rattle.sq_ticks.specs.Begun.{IsEnded, IsOpen, Takes}
use Rattle.sq_top.specs.Found.{IsFound, IsUnfound, front_of}
use Rattle.sq_ticks.specs.Lines.{surely_before}
use Rattle.sq_compile.specs.Programs.{longest_text}
use Rattle.sq_ticks.specs.Seen.{Seen}
use Rattle.sq_ticks.specs.Seen.{GivesExactly}
use Rattle.sq_top.specs.Statuses.{IsUnjudged}
use Rattle.sq_ticks.specs.declared.run.Stop.{Stop}
use Rattle.sq_ticks.specs.declared.run.Stop.TheVariants.{Memory, Read, TooLong, Write}
use Rattle.sq_top.specs.declared.session.Found.TheVariants as found
use Rattle.sq_ticks.specs.declared.text.Text.{Text}
use Rattle.sq_ticks.proofs.PlayingOn.{consumes_chain, consumes_keeps, consumes_none}

-- these bytes were taken, and the program cannot be judged yet
pub record ReadSoFar (limit : ℕ) (source source_now : Seen) (text : Text) : Type 0 where
  pub given : Consumes source.bytes source_now.bytes text.bytes.items
  pub within : length text.bytes.items ≤ limit
  pub later : source.faults ≤ source_now.faults
  pub so_far : IsOpen text.bytes.items text.line
  pub unjudged : IsUnjudged text.bytes.items

pub count_stops : (limit : ℕ) (source source_now source_next : Seen) (text : Text) (stop : Stop) → ReadSoFar limit source source_now text → (stop ≡ Memory → ⊥) → (stop ≡ Write → ⊥)
    → (stop ≡ Read → Rose source_now.faults source_next.faults × Keeps source_now.bytes source_next.bytes)
    → (stop ≡ TooLong → (length text.bytes.items ≡ limit) × GivesExactly 1 source_now.bytes source_next.bytes) → IsUnfound limit source source_next stop
count_stops limit source source_now source_next text Memory h memory write read long = absurd (memory refl)
count_stops limit source source_now source_next text Write h memory write read long = absurd (write refl)
count_stops limit source source_now source_next text Read h memory write read long =
    let r = read refl in record {
      bytes = text.bytes.items;
      beyond = [];
      given = consumes_keeps source.bytes source_now.bytes source_next.bytes text.bytes.items h.given r.1;
      within = h.within;
      stopped = (refl, omega (arith, r.0, h.later), h.unjudged);
    }
count_stops limit source source_now source_next text TooLong h memory write read long =
    let t = long refl in record {
      bytes = text.bytes.items;
      beyond = t.1.0;
      given = consumes_chain source.bytes source_now.bytes source_next.bytes text.bytes.items t.1.0 h.given t.1.1;
      within = h.within;
      stopped = (t.1.2, t.0, h.unjudged);
    }

pub memory_stops : (limit : ℕ) (source source_now source_next : Seen) (text : Text) (piece : List ℕ) → ReadSoFar limit source source_now text → Consumes source_now.bytes source_next.bytes piece
    → length text.bytes.items + length piece ≤ limit → IsUnfound limit source source_next Memory
memory_stops limit source source_now source_next text piece h given room = record {
  bytes = text.bytes.items ++ piece;
  beyond = [];
  given = subst (Consumes source.bytes source_next.bytes) (sym (append-nil (text.bytes.items ++ piece))) (consumes_chain source.bytes source_now.bytes source_next.bytes text.bytes.items piece h.given given);
  within = omega (arith, room, length-append text.bytes.items piece);
  stopped = refl;
}

-- a piece with the end line
no_more : (m : ℕ) → take {A = ℕ} m [] ≡ []
no_more zero = refl
no_more (suc m) = refl

drop_of_take : (n k : ℕ) (xs : List ℕ) → drop k (take n xs) ≡ take (n - k) (drop k xs)
drop_of_take n zero xs = let same : n - 0 ≡ n = omega arith in sym (ap (λ m. take m xs) same)
drop_of_take zero (suc k) xs = let none : 0 - suc k ≡ 0 = omega arith in ap (λ m. take m (drop (suc k) xs)) (sym none)
drop_of_take (suc n) (suc k) [] = sym (no_more (suc n - suc k))
drop_of_take (suc n) (suc k) (x ∷ xs) = let less : suc n - suc k ≡ n - k = omega arith in drop_of_take n k xs ∙ ap (λ m. take m (drop k xs)) (sym less)

pub end_line_found : (limit : ℕ) (source source_now source_next : Seen) (text now : Text) (buffer : List ℕ) (count from : ℕ) → ReadSoFar limit source source_now text
    → Consumes source_now.bytes source_next.bytes (take count buffer) → length (take count buffer) ≡ count → count ≤ length buffer → length text.bytes.items + count ≤ limit
    → Takes text (take count buffer) now (Some from) → IsFound limit source source_next now buffer (found.EndLine from count)
end_line_found limit source source_now source_next text now buffer count from h given long inside room takes =
    let piece = take count buffer in
    let rest = take (count - from) (drop from buffer) in
    let all : text.bytes.items ++ piece ≡ front_of now ++ rest =
    ap (λ t. text.bytes.items ++ t) (sym (take-append-drop from piece) ∙ ap (λ t. take from piece ++ t) (drop_of_take count from buffer))
    ∙ sym (append_assoc text.bytes.items (take from piece) rest) ∙ ap (λ t. t ++ rest) (sym takes.0) in
    let some : length rest ≡ count - from = sym (ap length (drop_of_take count from buffer)) ∙ length-drop from piece ∙ ap (λ n. n - from) long in (
      takes.2,
      (omega (arith, takes.1, long), inside),
      (
        subst (Consumes source.bytes source_next.bytes) all (consumes_chain source.bytes source_now.bytes source_next.bytes text.bytes.items piece h.given given),
        omega (arith, room, ap length all, long, some, takes.1, length-append text.bytes.items piece, length-append (front_of now) rest, length-append now.bytes.items (line_feed ∷ [])),
      ),
    )
