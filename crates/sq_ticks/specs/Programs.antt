-- The program of an input, and its faults.
use Rattle.std.specs.Prelude.{◌≡◌, ℕ, ◌<◌, ◌≤◌, true, false, List, length, ⊤}
use Rattle.sq_compile.specs.Programs.{IsProgramOf, TextFault, longest_text}
use Rattle.sq_compile.specs.declared.texts.CompileFault.{CompileFault}
use Rattle.sq_compile.specs.declared.texts.CompileFault.TheVariants.{Fault, Memory}
use Rattle.sq_lines.specs.Cutting.{lines_of}
use Rattle.sq_print.specs.declared.program_fault.ProgramFault.{ProgramFault}
use Rattle.sq_print.specs.declared.program_fault.ProgramFault.TheVariants as faults
use Rattle.sq_ticks.specs.Lines.{has_end_line, text_before_end}
use Rattle.sq_typed.specs.Views.{Meant}

-- the program text of an input with an end line
pub record IsText (input text : List ℕ) : Type 0 where
  pub ended : has_end_line (lines_of input) ≡ true
  pub before : text ≡ text_before_end (lines_of input)

-- an input begins with the text of this program and its end line
pub record IsProgram (input : List ℕ) (p : Meant) : Type 0 where
  pub text : List ℕ
  pub is_text : IsText input text
  pub of_text : IsProgramOf text p

-- the first fault of the program of an input: that of its text, or that the input has no end line
pub data HasFault : List ℕ → ProgramFault → Type 0 where
  in_text : {input text : List ℕ} {fault : ProgramFault} → IsText input text → TextFault text fault → HasFault input fault
  no_end_too_long : {input : List ℕ} → has_end_line (lines_of input) ≡ false → longest_text < length input → HasFault input faults.TextTooLong
  no_end : {input : List ℕ} → has_end_line (lines_of input) ≡ false → length input ≤ longest_text → HasFault input faults.NoEnd

-- a judgement stopped: at a fault of the program, or because memory ran out
abbrev pub Stops : List ℕ → CompileFault → Type 0
Stops input (Fault fault) = HasFault input fault
Stops input Memory = ⊤
