-- The spans of a text's tokens.
use Rattle.std.proofs.Common.{◌≡◌, ℕ, ◌+◌, ◌-◌, ◌≤◌, List, [], ◌∷◌, ◌++◌, length, All, refl, ap, subst, ◌∙◌, arith, append_assoc, length-append}
use Rattle.std.specs.List.{slice_range}
use Rattle.std.proofs.lemmas.List.{take_at, drop_at}
use Rattle.std.proofs.lemmas.List.Elements.{All-nil, All-cons}
use Rattle.sq_token.specs.declared.token.Token.{Token}
use Rattle.sq_token.specs.Reading.{Step, Reads, Tokens, StandInTurn, IsSpelledIn}
use Rattle.sq_token.specs.Reading.Step.{over_gap, over_token}
use Rattle.sq_token.specs.Reading.Reads.{none, more}
use Rattle.sq_token.proofs.Steps.{spelled_full}

from_before : (from later : ℕ) (tokens : List Token) (to : ℕ) → from ≤ later → StandInTurn later tokens to → StandInTurn from tokens to
from_before from later [] to le turn = omega arith
from_before from later (t ∷ tokens) to le turn = (omega (arith, turn.0), turn.1, turn.2)

step_turn : {at next : ℕ} {text left : List ℕ} {first : List Token} (others : List Token) (to : ℕ) → Step at text first next left → StandInTurn next others to → StandInTurn at (first ++ others) to
step_turn {at} others to (over_gap {slice = slice} h) turn = from_before at (at + length slice) others to (omega arith) turn
step_turn others to (over_token {slice = slice} {kind = kind} h) turn = (omega arith, omega (arith, spelled_full slice kind h.spelled), turn)

reads_turn : {at to : ℕ} {text rest : List ℕ} {tokens : List Token} → Reads at text tokens to rest → StandInTurn at tokens to
reads_turn none = omega arith
reads_turn {to = to} (more {others = others} s r) = step_turn others to s (reads_turn r)

pub tokens_turn : (text : List ℕ) (tokens : List Token) → Tokens text tokens → StandInTurn 0 tokens (length text)
tokens_turn text tokens r = reads_turn r

turn_count : (from : ℕ) (tokens : List Token) (to : ℕ) → StandInTurn from tokens to → from + length tokens ≤ to
turn_count from [] to turn = omega (arith, turn)
turn_count from (t ∷ tokens) to turn = omega (arith, turn_count t.end tokens to turn.2, turn.0, turn.1)

pub tokens_count : (text : List ℕ) (tokens : List Token) → Tokens text tokens → length tokens ≤ length text
tokens_count text tokens r = omega (arith, turn_count 0 tokens (length text) (reads_turn r))

between : (front slice rest : List ℕ) → slice_range (front ++ (slice ++ rest)) (length front) (length front + length slice) ≡ slice
between front slice rest =
    let len : length front + length slice - length front ≡ length slice = omega arith in
    rw (drop_at front (slice ++ rest) (length front) refl, len, take_at slice rest (length slice) refl) refl

reads_spelled : {at to : ℕ} {text rest : List ℕ} {tokens : List Token} (front : List ℕ) → length front ≡ at → Reads at text tokens to rest → All (IsSpelledIn (front ++ text)) tokens
reads_spelled front len (none {text = text}) = All-nil (IsSpelledIn (front ++ text))
reads_spelled front len (more {others = others} (over_gap {slice = slice} {rest = left} h) r) =
    subst (λ (t : List ℕ). All (IsSpelledIn t) others) (append_assoc front slice left) (reads_spelled (front ++ slice) (length-append front slice ∙ ap (λ (n : ℕ). n + length slice) len) r)
reads_spelled front len (more {others = others} (over_token {at = at} {slice = slice} {rest = left} {kind = kind} h) r) =
    All-cons (IsSpelledIn (front ++ (slice ++ left))) (record { start = at; end = at + length slice; kind = kind }) others
    (rw (← len, between front slice left) h.spelled)
    (subst (λ (t : List ℕ). All (IsSpelledIn t) others) (append_assoc front slice left) (reads_spelled (front ++ slice) (length-append front slice ∙ ap (λ (n : ℕ). n + length slice) len) r))

pub tokens_spelled : (text : List ℕ) (tokens : List Token) → Tokens text tokens → All (IsSpelledIn text) tokens
tokens_spelled text tokens r = reads_spelled [] refl r
