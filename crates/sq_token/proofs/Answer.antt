-- What an answer says of the lists and faults that a text has.
use Rattle.std.proofs.Common.{◌≡◌, ◌≤◌, ℕ, List, length, All, Result, Ok, Err, ◌⊎◌, vec_len, refl, inl, inr, arith}
use Rattle.std.specs.Result.{IfOk, IfErr, MatchResult, IsErrAnd}
use Rattle.std.specs.Global.{Vec}
use Rattle.sq_token.specs.declared.fault.LexFault.{LexFault}
use Rattle.sq_token.specs.declared.fault.LexFault.TheVariants as faults
use Rattle.sq_token.specs.declared.token.Token.{Token}
use Rattle.sq_token.specs.Reading.{Tokens, StandInTurn, IsSpelledIn}
use Rattle.sq_token.specs.Fault.{FirstFault, HasCause}
use Rattle.std.proofs.lemmas.Result.{IfOk-weaker}
use Rattle.sq_token.proofs.Spans.{tokens_turn, tokens_count, tokens_spelled}
use Rattle.sq_token.proofs.Outcomes.{list_once, list_or_fault, fault_once}

memory_or_first : (text : List ℕ) (fault : LexFault) → HasCause text fault → (fault ≡ faults.Memory) ⊎ FirstFault text fault
memory_or_first text faults.Memory h = inl refl
memory_or_first text (faults.BadByte at) h = inr h
memory_or_first text (faults.OpenText at) h = inr h
memory_or_first text (faults.OpenName at) h = inr h
memory_or_first text (faults.OpenComment at) h = inr h
memory_or_first text (faults.LongNumber at) h = inr h

pub only_list : (text : List ℕ) (r : Result (Vec Token) LexFault) (list : List Token) → IfOk r (λ v. Tokens text v.items) → IfErr r (λ f. HasCause text f) → Tokens text list → MatchResult r (λ v. v.items ≡ list) (λ f. f ≡ faults.Memory)
only_list text (Ok v) list found refused is = list_once text v.items list found is
only_list text (Err f) list found refused is = elim (memory_or_first text f refused) [ inl memory ↦ memory | inr first ↦ absurd (list_or_fault text list f is first) ]

pub first_fault : (text : List ℕ) (r : Result (Vec Token) LexFault) (fault : LexFault) → IfOk r (λ v. Tokens text v.items) → IfErr r (λ f. HasCause text f) → FirstFault text fault → IsErrAnd r (λ f. (f ≡ faults.Memory) ⊎ (f ≡ fault))
first_fault text (Ok v) fault found refused is = absurd (list_or_fault text v.items fault found is)
first_fault text (Err f) fault found refused is = elim (memory_or_first text f refused) [ inl memory ↦ inl memory | inr first ↦ inr (fault_once text f fault first is) ]

pub in_turn : (text : List ℕ) (r : Result (Vec Token) LexFault) → IfOk r (λ v. Tokens text v.items) → IfOk r (λ v. StandInTurn 0 v.items (length text))
in_turn text r found = IfOk-weaker r (λ v. Tokens text v.items) (λ v. StandInTurn 0 v.items (length text)) (λ v h. tokens_turn text v.items h) found

pub spelled : (text : List ℕ) (r : Result (Vec Token) LexFault) → IfOk r (λ v. Tokens text v.items) → IfOk r (λ v. All (IsSpelledIn text) v.items)
spelled text r found = IfOk-weaker r (λ v. Tokens text v.items) (λ v. All (IsSpelledIn text) v.items) (λ v h. tokens_spelled text v.items h) found

pub counted : (text : List ℕ) (r : Result (Vec Token) LexFault) → IfOk r (λ v. Tokens text v.items) → IfOk r (λ v. vec_len v ≤ length text)
counted text r found = IfOk-weaker r (λ v. Tokens text v.items) (λ v. vec_len v ≤ length text) (λ v h. omega (arith, tokens_count text v.items h, v.ok.0)) found
