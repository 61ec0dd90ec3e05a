-- How tokens are spelled.
use Rattle.std.specs.Prelude.{◌≡◌, ℕ, ◌≤◌, Bool, List, [], ◌∷◌, ◌++◌, ◌==◌, if◌then◌else◌, IsTrue}
use Rattle.std.specs.List.{flat_map, AllPass}
use Rattle.std.specs.Str.{str_to_ascii_lowercase}
use Rattle.std.specs.Str.Parse.{IsNumeral, digits_value}
use Rattle.sq_token.specs.declared.token.TokenKind.{TokenKind}
use Rattle.sq_token.specs.declared.token.TokenKind.TheVariants as kinds
use Rattle.sq_token.specs.Bytes.{starts_word, in_word, NextFails}
use Rattle.sq_token.specs.Symbols.{IsSymbol, extends}

-- a letter or `_`, then letters, digits and `_`
abbrev pub IsWord : List ℕ → Type 0
IsWord [] = ⊥
IsWord (c ∷ rest) = IsTrue (starts_word c) × AllPass in_word rest

-- a character between quotes: the quote itself is doubled
abbrev pub doubled : ℕ → List ℕ → List ℕ
doubled quote body = flat_map (λ c. if c == quote then quote ∷ quote ∷ [] else c ∷ []) body

-- characters in quotes
abbrev pub in_quotes : ℕ → List ℕ → List ℕ
in_quotes quote body = quote ∷ (doubled quote body ++ quote ∷ [])

-- the greatest number that a text may have
abbrev pub greatest_number : ℕ
greatest_number = 9223372036854775808

-- a slice spells a token; 34 is `"` and 39 is `'`
abbrev pub Spells : List ℕ → TokenKind → Type 0
Spells slice (kinds.Word word) = IsWord slice × (word ≡ str_to_ascii_lowercase slice)
Spells slice (kinds.Name name) = slice ≡ in_quotes 34 name
Spells slice (kinds.Text text) = slice ≡ in_quotes 39 text
Spells slice (kinds.Number number) = IsNumeral 10 slice × (number ≡ digits_value 10 slice) × (number ≤ greatest_number)
Spells slice (kinds.Symbol symbol) = IsSymbol slice symbol

-- whether this byte may not stand directly behind the token: it would be a part of the token, or of a
-- comment, and behind a number also a letter or `_` is a fault
abbrev pub goes_on : TokenKind → ℕ → Bool
goes_on (kinds.Word word) c = in_word c
goes_on (kinds.Name name) c = c == 34
goes_on (kinds.Text text) c = c == 39
goes_on (kinds.Number number) c = in_word c
goes_on (kinds.Symbol symbol) c = extends symbol c

-- a slice is a token in front of this rest: it spells the token, and the rest does not go on with it
pub record IsToken (slice : List ℕ) (kind : TokenKind) (rest : List ℕ) : Type 0 where
  pub spelled : Spells slice kind
  pub ends : NextFails (goes_on kind) rest
