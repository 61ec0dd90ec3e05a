use Rattle.std.proofs.Common.{◌≡◌, ◌+◌, ◌≤◌, length}
use Rattle.sq_ast.specs.Spelling.{kinds}
use Rattle.sq_terms.specs.Lookahead.{holds_test}
use Rattle.sq_terms.proofs.cond.holds_test.Given as goal

abbrev pub invariant-tokens : goal.invariant-tokens
invariant-tokens l = (l.depth + length l.rest ≤ length l.tokens) × (holds_test l.depth (kinds l.rest) ≡ holds_test 0 (kinds l.tokens))

abbrev pub decreases-tokens : goal.decreases-tokens
decreases-tokens l = length l.rest
