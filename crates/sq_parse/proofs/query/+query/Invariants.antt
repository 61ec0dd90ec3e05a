-- Each call goes a level of parentheses further in, or to a rule of lower rank.
use Rattle.std.proofs.Common.{◌≡◌, ◌+◌, ◌*◌, length}
use Rattle.sq_ast.specs.Parser.{many}
use Rattle.sq_ast.specs.Spelling.{kinds}
use Rattle.sq_ast.specs.Reading as r
use Rattle.sq_ast.proofs.Loops.{with_front}
use Rattle.sq_parse.proofs.query.+query.Given as goal

abbrev pub decreases-nested_query : goal.decreases-nested_query
decreases-nested_query l = 16 * l.depth + 0

abbrev pub decreases-from_item : goal.decreases-from_item
decreases-from_item l = 16 * l.depth + 1

abbrev pub decreases-every_pair : goal.decreases-every_pair
decreases-every_pair l = 16 * l.depth + 2

abbrev pub decreases-joined_on : goal.decreases-joined_on
decreases-joined_on l = 16 * l.depth + 3

abbrev pub decreases-next_joined : goal.decreases-next_joined
decreases-next_joined l = 16 * l.depth + 4

abbrev pub decreases-sources : goal.decreases-sources
decreases-sources l = 16 * l.depth + 5

abbrev pub decreases-block : goal.decreases-block
decreases-block l = 16 * l.depth + 6

abbrev pub decreases-operand : goal.decreases-operand
decreases-operand l = 16 * l.depth + 7

abbrev pub decreases-next_operand : goal.decreases-next_operand
decreases-next_operand l = 16 * l.depth + 8

abbrev pub decreases-operands : goal.decreases-operands
decreases-operands l = 16 * l.depth + 9

abbrev pub decreases-intersection : goal.decreases-intersection
decreases-intersection l = 16 * l.depth + 10

abbrev pub decreases-next_step : goal.decreases-next_step
decreases-next_step l = 16 * l.depth + 11

abbrev pub decreases-steps : goal.decreases-steps
decreases-steps l = 16 * l.depth + 12

abbrev pub decreases-query_chain : goal.decreases-query_chain
decreases-query_chain l = 16 * l.depth + 13

abbrev pub invariant-sources-chain : goal.invariant-sources-chain
invariant-sources-chain l = with_front l.found (many (r.next_joined (r.level l.depth)) (kinds l.rest)) ≡ many (r.next_joined (r.level l.depth)) (kinds l.tokens)

abbrev pub decreases-sources-chain : goal.decreases-sources-chain
decreases-sources-chain l = length (kinds l.rest)

abbrev pub invariant-operands-chain : goal.invariant-operands-chain
invariant-operands-chain l = with_front l.found (many (r.next_operand (r.level l.depth)) (kinds l.rest)) ≡ many (r.next_operand (r.level l.depth)) (kinds l.tokens)

abbrev pub decreases-operands-chain : goal.decreases-operands-chain
decreases-operands-chain l = length (kinds l.rest)

abbrev pub invariant-steps-chain : goal.invariant-steps-chain
invariant-steps-chain l = with_front l.found (many (r.next_step (r.level l.depth)) (kinds l.rest)) ≡ many (r.next_step (r.level l.depth)) (kinds l.tokens)

abbrev pub decreases-steps-chain : goal.decreases-steps-chain
decreases-steps-chain l = length (kinds l.rest)
