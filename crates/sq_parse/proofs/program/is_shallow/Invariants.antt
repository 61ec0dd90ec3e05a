use Rattle.std.proofs.Common.{◌≡◌, ◌+◌, ◌≤◌, length}
use Rattle.sq_ast.specs.Spelling.{kinds}
use Rattle.sq_ast.specs.Reading as r
use Rattle.sq_parse.proofs.program.is_shallow.Given as goal

abbrev pub invariant-tokens : goal.invariant-tokens
invariant-tokens l =
    (l.left + length l.rest ≤ length l.tokens) × (l.right + length l.rest ≤ length l.tokens) × (r.is_shallow_from l.left l.right (kinds l.rest) ≡ r.is_shallow (kinds l.tokens))

abbrev pub decreases-tokens : goal.decreases-tokens
decreases-tokens l = length l.rest
