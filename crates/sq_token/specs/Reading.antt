-- A text as gaps and tokens in turn.
use Rattle.std.specs.Prelude.{◌≡◌, ℕ, ◌+◌, ◌≤◌, ◌<◌, List, [], ◌∷◌, ◌++◌, length, true, codes}
use Rattle.std.specs.List.{slice_range}
use Rattle.sq_token.specs.declared.token.Token.{Token}
use Rattle.sq_token.specs.declared.token.TokenKind.{TokenKind}
use Rattle.sq_token.specs.Bytes.{is_blank, Lacks, CutsAtFirst}
use Rattle.sq_token.specs.Spelling.{Spells, IsToken}

-- a slice that may stand between tokens, in front of this rest: a blank, or a comment, which is `--` up
-- to the next line feed or the end of the text, or `/*` up to the first `*/` behind it
pub data IsGap : List ℕ → List ℕ → Type 0 where
  blank : {c : ℕ} {rest : List ℕ} → is_blank c ≡ true → IsGap (c ∷ []) rest
  line : {body rest : List ℕ} → Lacks (10 ∷ []) body → IsGap (codes "--" ++ (body ++ 10 ∷ [])) rest
  last_line : {body : List ℕ} → Lacks (10 ∷ []) body → IsGap (codes "--" ++ body) []
  block : {body rest : List ℕ} → CutsAtFirst (codes "*/") (body ++ (codes "*/" ++ rest)) body rest → IsGap (codes "/*" ++ (body ++ codes "*/")) rest

-- At a place stand a gap or a token, whose token is listed, and then at the next place the rest.
pub data Step : ℕ → List ℕ → List Token → ℕ → List ℕ → Type 0 where
  over_gap : {at : ℕ} {slice rest : List ℕ} → IsGap slice rest → Step at (slice ++ rest) [] (at + length slice) rest
  over_token : {at : ℕ} {slice rest : List ℕ} {kind : TokenKind} → IsToken slice kind rest
      → Step at (slice ++ rest) (record { start = at; end = at + length slice; kind = kind } ∷ []) (at + length slice) rest

-- From a place on, a text is gaps and these tokens in turn, up to a later place where the rest stands.
pub data Reads : ℕ → List ℕ → List Token → ℕ → List ℕ → Type 0 where
  none : {at : ℕ} {text : List ℕ} → Reads at text [] at text
  more : {at next end : ℕ} {text left rest : List ℕ} {first others : List Token}
      → Step at text first next left → Reads next left others end rest → Reads at text (first ++ others) end rest

-- a text is gaps and these tokens in turn, with nothing behind them
abbrev pub Tokens : List ℕ → List Token → Type 0
Tokens text list = Reads 0 text list (length text) []

-- tokens stand from one place to another, each behind the one before it
abbrev pub StandInTurn : ℕ → List Token → ℕ → Type 0
StandInTurn from [] to = from ≤ to
StandInTurn from (token ∷ tokens) to = (from ≤ token.start) × (token.start < token.end) × StandInTurn token.end tokens to

-- a token is spelled by the slice of its span
abbrev pub IsSpelledIn : List ℕ → Token → Type 0
IsSpelledIn text token = Spells (slice_range text token.start token.end) token.kind
