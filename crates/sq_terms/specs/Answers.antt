-- How what the reader's functions answer stands to what is read from the tokens.
use Rattle.std.specs.Prelude.{◌≡◌, true, false, List, Option, Some, None, Result, MatchResult, MatchOption}
use Rattle.std.specs.Borrow.{Bor}
use Rattle.sq_token.specs.declared.token.Token.{Token}
use Rattle.sq_token.specs.declared.token.TokenKind.{TokenKind}
use Rattle.sq_ast.specs.Words.{Tokens}
use Rattle.sq_ast.specs.Spelling.{kinds}
use Rattle.sq_ast.specs.Parser.{sees, after}
use Rattle.sq_terms.specs.declared.stops.Stop.{Stop}
use Rattle.sq_terms.specs.declared.stops.Stop.TheVariants.{NotGrammar}

-- a tree and the tokens behind it are what is read, and without a tree nothing is, unless memory ran out
abbrev pub Reads : {A : Type 0} → Result (A × Bor (List Token)) Stop → Option (A × Tokens) → Type 0
Reads r expected = MatchResult r (λ p. expected ≡ Some (p.0, kinds p.1.now)) (λ stop. stop ≡ NotGrammar → expected ≡ None)

-- what stands behind a token that comes next, where it does
abbrev pub Eats : TokenKind → Tokens → Option (Bor (List Token)) → Type 0
Eats t ts r = MatchOption r ((sees t ts ≡ false) × (after t ts ≡ ts)) (λ rest. (sees t ts ≡ true) × (after t ts ≡ kinds rest.now))

-- the same for a token that has to come next
abbrev pub Expects : TokenKind → Tokens → Result (Bor (List Token)) Stop → Type 0
Expects t ts r = MatchResult r (λ rest. (sees t ts ≡ true) × (after t ts ≡ kinds rest.now)) (λ _. sees t ts ≡ false)
