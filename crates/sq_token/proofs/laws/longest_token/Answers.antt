use Rattle.sq_token.proofs.Longest.{token_longest}
use Rattle.sq_token.proofs.laws.longest_token.Goals as goal

pub returns : goal.returns
returns c = token_longest
