-- The faults of a text.
use Rattle.std.specs.Prelude.{◌≡◌, ◌≢◌, ℕ, ◌+◌, ◌<◌, List, ◌∷◌, ◌++◌, length, true, false, codes}
use Rattle.std.specs.Char.{is_ascii_digit}
use Rattle.std.specs.Str.Parse.{IsNumeral, digits_value}
use Rattle.sq_token.specs.declared.fault.LexFault.{LexFault}
use Rattle.sq_token.specs.declared.fault.LexFault.TheVariants as faults
use Rattle.sq_token.specs.declared.fault.Flaw.{Flaw}
use Rattle.sq_token.specs.declared.fault.Flaw.TheVariants as flaws
use Rattle.sq_token.specs.declared.token.Token.{Token}
use Rattle.sq_token.specs.declared.token.TokenKind.{TokenKind}
use Rattle.sq_token.specs.declared.token.TokenKind.TheVariants as kinds
use Rattle.sq_token.specs.Bytes.{is_blank, starts_word, NextFails, Lacks}
use Rattle.sq_token.specs.Spelling.{doubled, greatest_number, Spells}
use Rattle.sq_token.specs.Reading.{Reads}

-- no token begins with the first byte of a text, nor does white space, a quote or a comment; 34 is `"` and 39 is `'`
pub record BeginsNothing (first : ℕ) (rest : List ℕ) : Type 0 where
  pub token : (slice after : List ℕ) (kind : TokenKind) → first ∷ rest ≡ slice ++ after → ¬ (Spells slice kind)
  pub blank : is_blank first ≡ false
  pub name : first ≢ 34
  pub text : first ≢ 39
  pub comment : (after : List ℕ) → first ∷ rest ≢ codes "/*" ++ after

-- behind its opening quote a text has no quote up to its end that is not doubled
abbrev pub IsOpen : ℕ → List ℕ → Type 0
IsOpen quote rest = (body : List ℕ) × (rest ≡ doubled quote body)

-- what is wrong at a place where this text is left: a byte that begins nothing, a letter or `_` directly
-- behind a number, a number above the greatest, and a quoted name, a text or a comment that does not end
pub data FaultAt : ℕ → List ℕ → LexFault → Type 0 where
  bad_byte : {at c : ℕ} {rest : List ℕ} → BeginsNothing c rest → FaultAt at (c ∷ rest) (faults.BadByte at)
  after_number : {at number : ℕ} (digits : List ℕ) (c : ℕ) (rest : List ℕ) → Spells digits (kinds.Number number) → starts_word c ≡ true
      → FaultAt at (digits ++ c ∷ rest) (faults.BadByte (at + length digits))
  long_number : {at : ℕ} (digits rest : List ℕ) → IsNumeral 10 digits → NextFails is_ascii_digit rest → greatest_number < digits_value 10 digits
      → FaultAt at (digits ++ rest) (faults.LongNumber at)
  open_name : {at : ℕ} {rest : List ℕ} → IsOpen 34 rest → FaultAt at (34 ∷ rest) (faults.OpenName at)
  open_text : {at : ℕ} {rest : List ℕ} → IsOpen 39 rest → FaultAt at (39 ∷ rest) (faults.OpenText at)
  open_comment : {at : ℕ} {rest : List ℕ} → Lacks (codes "*/") rest → FaultAt at (codes "/*" ++ rest) (faults.OpenComment at)

-- the first fault of a text: what stands before its place is gaps and tokens
pub record FirstFault (text : List ℕ) (fault : LexFault) : Type 0 where
  pub before : List Token
  pub at : ℕ
  pub rest : List ℕ
  pub reads : Reads 0 text before at rest
  pub wrong : FaultAt at rest fault

-- a refusal is the first fault of the text; want of memory has no cause in it
abbrev pub HasCause : List ℕ → LexFault → Type 0
HasCause text faults.Memory = Unit {0}
HasCause text (faults.BadByte at) = FirstFault text (faults.BadByte at)
HasCause text (faults.OpenText at) = FirstFault text (faults.OpenText at)
HasCause text (faults.OpenName at) = FirstFault text (faults.OpenName at)
HasCause text (faults.OpenComment at) = FirstFault text (faults.OpenComment at)
HasCause text (faults.LongNumber at) = FirstFault text (faults.LongNumber at)

-- the fault that is found without taking memory
abbrev pub fault_of : Flaw → LexFault
fault_of (flaws.BadByte at) = faults.BadByte at
fault_of (flaws.OpenComment at) = faults.OpenComment at
fault_of (flaws.LongNumber at) = faults.LongNumber at
