use Rattle.std.proofs.lemmas.Option.{MatchOption-at_none}
use Rattle.sq_token.proofs.Quotes.{name_open}
use Rattle.sq_token.proofs.piece.quoted_name.Goals as goal

pub returns-in-None : goal.returns-in-None
returns-in-None c = name_open c.args.at c.args.text.now c.args.inner.now c.requires.opens (MatchOption-at_none _ _ c.in-None.is c.in_ok-quoted.ensures.cases)
