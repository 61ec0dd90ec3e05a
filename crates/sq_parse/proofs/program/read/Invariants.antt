use Rattle.std.proofs.Common.{◌≡◌, ◌+◌, ◌≤◌, length}
use Rattle.sq_ast.specs.Spelling.{kinds}
use Rattle.sq_ast.specs.Reading as r
use Rattle.sq_parse.specs.Causes.{adds}
use Rattle.sq_parse.proofs.program.read.Given as goal

abbrev pub invariant-places : goal.invariant-places
invariant-places l =
    (l.number + length l.rest ≤ 1 + length l.tokens) × (adds l.found.items (r.places l.number (r.pieces (kinds l.rest))) ≡ r.program (kinds l.tokens))

abbrev pub decreases-places : goal.decreases-places
decreases-places l = length l.rest
