use Rattle.sq_sample.proofs.Compiling.{no_fault, only_memory, only_program, program_is}
use Rattle.sq_sample.proofs.laws.the_program_compiles.Goals as goal

pub returns-clause-program : goal.returns-clause-program
returns-clause-program c = program_is

pub returns-clause-one : goal.returns-clause-one
returns-clause-one c = only_program

pub returns-clause-no_fault : goal.returns-clause-no_fault
returns-clause-no_fault c = no_fault

pub returns-clause-only_memory : goal.returns-clause-only_memory
returns-clause-only_memory c = only_memory
