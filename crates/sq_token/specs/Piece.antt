-- One gap or token at the front of a text.
use Rattle.std.specs.Prelude.{◌≡◌, ℕ, ◌+◌, List, [], ◌∷◌, ◌++◌, length, Option, Some, None}
use Rattle.sq_token.specs.declared.fault.LexFault.{LexFault}
use Rattle.sq_token.specs.declared.fault.LexFault.TheVariants as faults
use Rattle.sq_token.specs.declared.symbol.Symbol.{Symbol}
use Rattle.sq_token.specs.declared.token.Token.{Token}
use Rattle.sq_token.specs.declared.token.TokenKind.{TokenKind}
use Rattle.sq_token.specs.Bytes.{NextFails}
use Rattle.sq_token.specs.Symbols.{IsSymbol, extends}
use Rattle.sq_token.specs.Spelling.{IsToken}
use Rattle.sq_token.specs.Reading.{IsGap, Step}
use Rattle.sq_token.specs.Fault.{FaultAt}

-- a slice is a token of this kind in front of this rest, or a gap where there is no kind
abbrev pub StandsAs : Option TokenKind → List ℕ → List ℕ → Type 0
StandsAs None slice rest = IsGap slice rest
StandsAs (Some kind) slice rest = IsToken slice kind rest

-- the first `len` bytes of a text are a gap or a token
pub record PieceAt (text : List ℕ) (len : ℕ) (kind : Option TokenKind) : Type 0 where
  pub slice : List ℕ
  pub rest : List ℕ
  pub parts : text ≡ slice ++ rest
  pub len_is : len ≡ length slice
  pub stands : StandsAs kind slice rest

-- the first `len` bytes of a text spell a symbol, and no longer one
pub record SymbolAt (text : List ℕ) (symbol : Symbol) (len : ℕ) : Type 0 where
  pub slice : List ℕ
  pub rest : List ℕ
  pub parts : text ≡ slice ++ rest
  pub len_is : len ≡ length slice
  pub spelled : IsSymbol slice symbol
  pub ends : NextFails (extends symbol) rest

-- no symbol stands at the front of a text
abbrev pub HasNoSymbol : List ℕ → Type 0
HasNoSymbol text = (slice after : List ℕ) (symbol : Symbol) → text ≡ slice ++ after → ¬ (IsSymbol slice symbol)

-- a refusal at a place where this text is left
abbrev pub Fails : ℕ → List ℕ → LexFault → Type 0
Fails at text faults.Memory = Unit {0}
Fails at text (faults.BadByte place) = FaultAt at text (faults.BadByte place)
Fails at text (faults.OpenText place) = FaultAt at text (faults.OpenText place)
Fails at text (faults.OpenName place) = FaultAt at text (faults.OpenName place)
Fails at text (faults.OpenComment place) = FaultAt at text (faults.OpenComment place)
Fails at text (faults.LongNumber place) = FaultAt at text (faults.LongNumber place)

-- the token of a piece, if it is one, in a list
abbrev pub listed : ℕ → ℕ → Option TokenKind → List Token
listed start end None = []
listed start end (Some kind) = record { start = start; end = end; kind = kind } ∷ []

-- a step was taken: the tokens before it are followed by its token, and the rest is left
pub record Steps (at : ℕ) (text : List ℕ) (old new : List Token) (rest : List ℕ) : Type 0 where
  pub tokens : List Token
  pub next : ℕ
  pub step : Step at text tokens next rest
  pub pushed : new ≡ old ++ tokens
  pub next_is : next + length rest ≡ at + length text
