use Rattle.std.proofs.Common.{map, take}
use Rattle.sq_typed.proofs.QueryEquations.{resolved_joined}
use Rattle.sq_typed.specs.Resolved.{resolved}
use Rattle.sq_check.specs.QueriesFound.{GivesScope, SoFar}
use Rattle.sq_check.proofs.QueriesLoops.{StepsSoFar}
use Rattle.sq_check.proofs.resolve.+resolve.Given as goal

-- what the operands so far give
abbrev pub invariant-resolve-loop-step : goal.invariant-resolve-loop-step
invariant-resolve-loop-step l = StepsSoFar l.catalog l.query l.fn.wanted l.step-items l.step-index l.fn.findings l.findings l.shape

abbrev pub invariant-resolve-loop-member : goal.invariant-resolve-loop-member
invariant-resolve-loop-member l = SoFar l.wanted (map (resolved l.catalog) (take l.member-index l.member-items)) l.fn.findings l.findings l.found

-- what the sources so far are
abbrev pub invariant-resolve_sources-loop-joined : goal.invariant-resolve_sources-loop-joined
invariant-resolve_sources-loop-joined l = GivesScope (map (resolved_joined l.catalog) (take l.joined-index l.joined-items)) l.fn.findings l.findings l.found.items
