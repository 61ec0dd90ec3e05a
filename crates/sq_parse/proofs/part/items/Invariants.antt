use Rattle.std.proofs.Common.{◌≡◌, length}
use Rattle.sq_ast.specs.Parser.{many}
use Rattle.sq_ast.specs.Spelling.{kinds}
use Rattle.sq_ast.specs.Reading as r
use Rattle.sq_ast.proofs.Loops.{with_front}
use Rattle.sq_parse.proofs.part.items.Given as goal

abbrev pub invariant-chain : goal.invariant-chain
invariant-chain l = with_front l.found (many (r.next_item (r.level l.depth)) (kinds l.rest)) ≡ many (r.next_item (r.level l.depth)) (kinds l.tokens)

abbrev pub decreases-chain : goal.decreases-chain
decreases-chain l = length (kinds l.rest)
