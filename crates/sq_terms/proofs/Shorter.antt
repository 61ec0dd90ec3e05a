-- How many tokens are left behind one.
use Rattle.std.specs.Prelude.{◌≡◌, suc, List, ◌∷◌, length}
use Rattle.std.proofs.Common.{ap, arith}
use Rattle.std.proofs.lemmas.List.{length-map}
use Rattle.sq_token.specs.declared.token.Token.{Token}
use Rattle.sq_token.specs.declared.token.TokenKind.{TokenKind}
use Rattle.sq_ast.specs.Spelling.{kinds}

pub kinds_length : (ts : List Token) → length (kinds ts) ≡ length ts
kinds_length ts = length-map ts (λ t. t.kind)

pub next_shorter : (ts us : List Token) (t : TokenKind) → kinds ts ≡ t ∷ kinds us → length ts ≡ suc (length us)
next_shorter ts us t e = let same : length (kinds ts) ≡ suc (length (kinds us)) = ap length e in omega (arith, kinds_length ts, kinds_length us)
