-- The judgement of a program: its engine over tables without rows, and what its text says of the input.
use Rattle.std.proofs.Common.{◌≡◌, ℕ, List, true, Some, None, refl, sym, ap, ◌∙◌, subst, ◌<◌, length}
use Rattle.sq_circuit.specs.Circuits.{verdict}
use Rattle.sq_circuit.specs.declared.circuit.Part.{Part}
use Rattle.sq_compile.specs.Programs.{IsProgramOf, TextFault, TextStops, empty_verdict, longest_text}
use Rattle.sq_compile.specs.Relations.{empty_tables}
use Rattle.sq_compile.specs.declared.texts.CompileFault.{CompileFault}
use Rattle.sq_compile.specs.declared.texts.CompileFault.TheVariants.{Fault, Memory}
use Rattle.sq_engine.specs.Engines.{State, begun, no_tables, views_over}
use Rattle.sq_lines.specs.Cutting.{lines_of}
use Rattle.sq_plan.specs.Program.{IsPlanOf}
use Rattle.sq_print.specs.declared.program_fault.ProgramFault.TheVariants.{TextTooLong}
use Rattle.sq_ticks.proofs.OverLemmas.{empty_same, over_begun}
use Rattle.sq_ticks.specs.Judgements.{Starts}
use Rattle.sq_ticks.specs.Lines.{has_end_line, text_before_end}
use Rattle.sq_ticks.specs.Over.{IsOver}
use Rattle.sq_ticks.specs.Programs.{HasFault, IsProgram, IsText, Stops}
use Rattle.sq_ticks.specs.declared.judge.Judged.{Judged}
use Rattle.sq_typed.specs.Views.{Meant}

-- ---- from the text to the input

pub is_text : (input text : List ℕ) → has_end_line (lines_of input) ≡ true → text ≡ text_before_end (lines_of input) → IsText input text
is_text input text ended before = record { ended = ended; before = before }

pub is_program : (input text : List ℕ) (p : Meant) → IsText input text → IsProgramOf text p → IsProgram input p
is_program input text p is of_text = record { text = text; is_text = is; of_text = of_text }

pub text_stop : (input text : List ℕ) (stop : CompileFault) → IsText input text → TextStops text stop → Stops input stop
text_stop input text (Fault fault) is wrong = HasFault.in_text is wrong
text_stop input text Memory is wrong = tt

pub text_too_long : (input : List ℕ) → has_end_line (lines_of input) ≡ true → longest_text < length (text_before_end (lines_of input)) → HasFault input TextTooLong
text_too_long input ended long = HasFault.in_text (is_text input (text_before_end (lines_of input)) ended refl) (TextFault.too_long long)

-- ---- the engine

-- an engine that has started over the circuit of a program stands for its empty tables
pub starts : (j : Judged) (e : State) → IsPlanOf j.program e.circuit → j.engine ≡ begun e → j.changes.views.items ≡ views_over e.circuit (no_tables e.circuit)
    → Starts e.shards j
starts j e plan is told = record {
  over = subst (IsOver j.program (empty_tables j.program.catalog)) (sym is) (over_begun j.program e plan);
  shards = ap (λ x. x.shards) is;
  changes = told ∙ ap (λ (x : State). views_over x.circuit (no_tables x.circuit)) (sym is);
}

-- no view of the circuit of a program is out of range over empty tables, if none of the program is
pub never_out : (p : Meant) (c : List Part) (view : ℕ) → IsPlanOf p c → empty_verdict p ≡ None → verdict c (no_tables c) ≡ Some view → ⊥
never_out p c view plan none found = let same = empty_same p c plan in cc
