use Rattle.sq_ast.specs.Reading as r
use Rattle.sq_parse.proofs.statement.flavour.Goals as goal

pub returns-in-Some : goal.returns-in-Some
unfolding r.flavour
returns-in-Some c = let here = c.in-Some.ensures in rw (here.0, here.1)

pub returns-in-Some-eat_word : goal.returns-in-Some-eat_word
unfolding r.flavour
returns-in-Some-eat_word c = let first = c.in_default.ensures in let here = c.in-Some-eat_word.ensures in rw (first.0, first.1, here.0, here.1)

pub returns-in-None : goal.returns-in-None
unfolding r.flavour
returns-in-None c = let first = c.in_default.ensures in let here = c.in-None.ensures in rw (first.0, first.1, here.0, here.1)
