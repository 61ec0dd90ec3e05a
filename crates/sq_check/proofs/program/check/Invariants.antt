use Rattle.sq_check.proofs.QueriesProgram.{ProgramSoFar}
use Rattle.sq_check.proofs.program.check.Given as goal

-- the statements so far have no fault, and mean what was made of them
abbrev pub invariant-loop-before : goal.invariant-loop-before
invariant-loop-before l = ProgramSoFar l.statements l.before (record { catalog = l.catalog; queries = l.queries })
