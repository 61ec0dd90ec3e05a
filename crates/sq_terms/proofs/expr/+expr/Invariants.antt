-- Each call goes a level of parentheses further in, or to a rule of lower rank.
use Rattle.std.proofs.Common.{◌≡◌, ◌+◌, ◌*◌, length}
use Rattle.sq_ast.specs.Parser.{many}
use Rattle.sq_ast.specs.Spelling.{kinds}
use Rattle.sq_ast.specs.Reading as r
use Rattle.sq_ast.proofs.Loops.{with_front}
use Rattle.sq_terms.proofs.expr.+expr.Given as goal

abbrev pub decreases-nested_expr : goal.decreases-nested_expr
decreases-nested_expr l = 16 * l.depth + 0

abbrev pub decreases-argument : goal.decreases-argument
decreases-argument l = 16 * l.depth + 1

abbrev pub decreases-call_or_column : goal.decreases-call_or_column
decreases-call_or_column l = 16 * l.depth + 2

abbrev pub decreases-prim : goal.decreases-prim
decreases-prim l = 16 * l.depth + 3

abbrev pub decreases-sign : goal.decreases-sign
decreases-sign l = 16 * l.depth + 4

abbrev pub decreases-next_factor : goal.decreases-next_factor
decreases-next_factor l = 16 * l.depth + 5

abbrev pub decreases-factors : goal.decreases-factors
decreases-factors l = 16 * l.depth + 6

abbrev pub decreases-product : goal.decreases-product
decreases-product l = 16 * l.depth + 7

abbrev pub decreases-next_term : goal.decreases-next_term
decreases-next_term l = 16 * l.depth + 8

abbrev pub decreases-terms : goal.decreases-terms
decreases-terms l = 16 * l.depth + 9

abbrev pub decreases-sum : goal.decreases-sum
decreases-sum l = 16 * l.depth + 10

abbrev pub invariant-factors-chain : goal.invariant-factors-chain
invariant-factors-chain l = with_front l.found (many (r.next_factor (r.level l.depth)) (kinds l.rest)) ≡ many (r.next_factor (r.level l.depth)) (kinds l.tokens)

abbrev pub decreases-factors-chain : goal.decreases-factors-chain
decreases-factors-chain l = length (kinds l.rest)

abbrev pub invariant-terms-chain : goal.invariant-terms-chain
invariant-terms-chain l = with_front l.found (many (r.next_term (r.level l.depth)) (kinds l.rest)) ≡ many (r.next_term (r.level l.depth)) (kinds l.tokens)

abbrev pub decreases-terms-chain : goal.decreases-terms-chain
decreases-terms-chain l = length (kinds l.rest)
