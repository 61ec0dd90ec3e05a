-- The text of the program compiles: it is the text of this program, and of no other, and has no fault.
use Rattle.std.proofs.Common.{◌≡◌, refl, arith}
use Rattle.sq_compile.specs.Programs.{IsProgramOf, TextFault, TextStops}
use Rattle.sq_compile.specs.declared.texts.CompileFault.{CompileFault}
use Rattle.sq_compile.specs.declared.texts.CompileFault.TheVariants.{Fault, Memory}
use Rattle.sq_compile.proofs.Once.{not_both, one_program}
use Rattle.sq_print.specs.declared.program_fault.ProgramFault.{ProgramFault}
use Rattle.sq_typed.specs.Views.{Meant}
use Rattle.sq_meant.specs.Program.{program}
use Rattle.sq_meant.specs.Text.{program_text}
use Rattle.sq_meant.proofs.Meaning.{text_meant}
use Rattle.sq_meant.proofs.Reading.{short}
use Rattle.sq_sample.proofs.Ranges.{no_rows_in_range}

pub program_is : IsProgramOf program_text program
program_is =
    let m = text_meant in
    record {
      tokens = m.tokens;
      statements = m.statements;
      short = (let few = short in omega arith);
      utf8 = m.utf8;
      lexed = m.lexed;
      spelled = m.spelled;
      without_fault = m.without_fault;
      typed = m.typed;
      in_range = no_rows_in_range;
    }

pub only_program : (q : Meant) → IsProgramOf program_text q → q ≡ program
only_program q is = one_program program_text q program is program_is

pub no_fault : (fault : ProgramFault) → TextFault program_text fault → ⊥
no_fault fault wrong = not_both program_text program fault program_is wrong

pub only_memory : (stop : CompileFault) → TextStops program_text stop → stop ≡ Memory
only_memory (Fault fault) wrong = absurd (no_fault fault wrong)
only_memory Memory wrong = refl
