use Rattle.std.proofs.Common.{◌-◌, ◌≤◌, length}
use denote.Text.{Utf8}
use denote.Shadow.{shadow}
use Rattle.sq_token.specs.Reading.{Reads}
use Rattle.sq_token.proofs.lexer.read.Given as goal

abbrev pub invariant-loop-rest : goal.invariant-loop-rest
invariant-loop-rest l =
    shadow (Utf8 l.rest) × (length l.rest ≤ length l.text) × Reads 0 l.text l.found.items (length l.text - length l.rest) l.rest

abbrev pub decreases-loop-rest : goal.decreases-loop-rest
decreases-loop-rest l = length l.rest
