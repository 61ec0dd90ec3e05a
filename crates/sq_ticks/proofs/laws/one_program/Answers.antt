use Rattle.sq_ticks.proofs.ProgramLemmas as input
use Rattle.sq_ticks.proofs.laws.one_program.Goals as goal

pub returns-clause-one_fault : goal.returns-clause-one_fault
returns-clause-one_fault c = input.one_fault

pub returns-clause-one : goal.returns-clause-one
returns-clause-one c = input.one_program

pub returns-clause-not_both : goal.returns-clause-not_both
returns-clause-not_both c = input.not_both
