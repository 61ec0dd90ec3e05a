-- When two tokens are one.
use Rattle.std.specs.Prelude.{◌≡◌, ℕ, true, List, bytes_eq}
use Rattle.std.proofs.Common.{ap}
use Rattle.std.proofs.lemmas.Slice.Eq.{bytes_eq-Decides}
use denote.Enum.Bare.{same_true}
use Rattle.sq_token.specs.contracts.symbol.Symbol.{the_type}
use Rattle.sq_token.specs.declared.symbol.Symbol.{Symbol}
use Rattle.sq_token.specs.declared.token.TokenKind.{TokenKind}
use Rattle.sq_token.specs.declared.token.TokenKind.TheVariants as token
use Rattle.sq_ast.specs.Words.{is_token, same_symbol}

pub bytes_same : (a b : List ℕ) → bytes_eq a b ≡ true → a ≡ b
bytes_same a b h = (bytes_eq-Decides a b).0 h

symbol_same : (s t : Symbol) → same_symbol s t ≡ true → s ≡ t
unfolding same_symbol
symbol_same s t h = same_true the_type tt s t h

pub is_same : (t u : TokenKind) → is_token t u ≡ true → u ≡ t
is_same (token.Word word) (token.Word other) h = ap token.Word (bytes_same other word h)
is_same (token.Symbol s) (token.Symbol other) h = ap token.Symbol (symbol_same other s h)
is_same (token.Word _) (token.Name _) h = cc
is_same (token.Word _) (token.Text _) h = cc
is_same (token.Word _) (token.Number _) h = cc
is_same (token.Word _) (token.Symbol _) h = cc
is_same (token.Name _) u h = cc
is_same (token.Text _) u h = cc
is_same (token.Number _) u h = cc
is_same (token.Symbol _) (token.Word _) h = cc
is_same (token.Symbol _) (token.Name _) h = cc
is_same (token.Symbol _) (token.Text _) h = cc
is_same (token.Symbol _) (token.Number _) h = cc
