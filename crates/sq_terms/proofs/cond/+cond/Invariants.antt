-- Each call goes a level of parentheses further in, or to a rule of lower rank.
use Rattle.std.proofs.Common.{◌≡◌, ◌+◌, ◌*◌, length}
use Rattle.sq_ast.specs.Parser.{many}
use Rattle.sq_ast.specs.Spelling.{kinds}
use Rattle.sq_ast.specs.Reading as r
use Rattle.sq_ast.proofs.Loops.{with_front}
use Rattle.sq_terms.proofs.cond.+cond.Given as goal

abbrev pub decreases-nested_cond : goal.decreases-nested_cond
decreases-nested_cond l = 16 * l.depth + 0

abbrev pub decreases-test : goal.decreases-test
decreases-test l = 16 * l.depth + 1

abbrev pub decreases-neg : goal.decreases-neg
decreases-neg l = 16 * l.depth + 2

abbrev pub decreases-next_and : goal.decreases-next_and
decreases-next_and l = 16 * l.depth + 3

abbrev pub decreases-ands : goal.decreases-ands
decreases-ands l = 16 * l.depth + 4

abbrev pub decreases-conj : goal.decreases-conj
decreases-conj l = 16 * l.depth + 5

abbrev pub decreases-next_or : goal.decreases-next_or
decreases-next_or l = 16 * l.depth + 6

abbrev pub decreases-ors : goal.decreases-ors
decreases-ors l = 16 * l.depth + 7

abbrev pub decreases-disj : goal.decreases-disj
decreases-disj l = 16 * l.depth + 8

abbrev pub invariant-ands-chain : goal.invariant-ands-chain
invariant-ands-chain l = with_front l.found (many (r.next_and (r.level l.depth)) (kinds l.rest)) ≡ many (r.next_and (r.level l.depth)) (kinds l.tokens)

abbrev pub decreases-ands-chain : goal.decreases-ands-chain
decreases-ands-chain l = length (kinds l.rest)

abbrev pub invariant-ors-chain : goal.invariant-ors-chain
invariant-ors-chain l = with_front l.found (many (r.next_or (r.level l.depth)) (kinds l.rest)) ≡ many (r.next_or (r.level l.depth)) (kinds l.tokens)

abbrev pub decreases-ors-chain : goal.decreases-ors-chain
decreases-ors-chain l = length (kinds l.rest)
