-- How runs end, by what they made of the bytes that they took.
use Rattle.std.specs.Prelude.{◌⊎◌, ◌≢◌, IfSome, if◌then◌else◌}
use Rattle.std.specs.Io.KnownBytes.{Appends, Consumes, IsAtEnd, Keeps}
use Rattle.std.proofs.Common.{◌≡◌, ℕ, ◌+◌, ◌<◌, ◌≤◌, ◌^◌, List, [], ◌∷◌, ◌++◌, length, take, Bool, true, false, Option, Some, None, inl, inr, refl, sym, ap, subst, ◌∙◌, arith, append-nil, append_assoc, length-append}
use Rattle.std.proofs.Math.Seq.{take-append_seam}
use Rattle.std.specs.List.{list_any}
use Rattle.sq_base.specs.Causes.{Rose}
use Rattle.sq_lines.specs.Cutting.{ended, lines_of}
use Rattle.sq_lines.specs.Lines.{says_commit}
use Rattle.sq_typed.specs.Views.{Meant}
use Rattle.sq_print.specs.FaultTexts.{told_fault}
use Rattle.sq_print.specs.declared.program_fault.ProgramFault.{ProgramFault}
use Rattle.sq_ticks.specs.Begun.{IsEnded}
use Rattle.sq_top.specs.Found.{HasFront, front_of}
use Rattle.sq_ticks.specs.Lines.{cut, lines_after_end, up_to_last, with_ends}
use Rattle.sq_ticks.specs.Output.{has_refusal, output, reports, texts_from}
use Rattle.sq_ticks.specs.Played.{Halts, IsPlayedOut, whole_reports}
use Rattle.sq_ticks.specs.Programs.{HasFault, IsProgram}
use Rattle.sq_ticks.specs.Runs.{IsLeft, StoppedWithin}
use Rattle.sq_ticks.specs.Seen.{Seen}
use Rattle.sq_top.specs.Statuses.{EndsAs, IsCutOff, IsEndOf, IsFaulty, IsUnjudged, IsWhole, Refuses, ending_of}
use Rattle.sq_ticks.specs.Ticks.{is_refusal}
use Rattle.sq_ticks.specs.declared.play.Played.{Played}
use Rattle.sq_ticks.specs.declared.run.Stop.{Stop}
use Rattle.sq_ticks.specs.declared.run.Stop.TheVariants as stop
use Rattle.sq_top.specs.declared.session.Ending.{Ending}
use Rattle.sq_top.specs.declared.session.Ending.TheVariants.{Ends, Finished, Refused}
use Rattle.sq_top.specs.declared.statuses.Status.{Status}
use Rattle.sq_top.specs.declared.statuses.Status.TheVariants.{Done, Usage, DoneWithRefusals, BadProgram, ReadFault, WriteFault, NoMemory, TooLong}
use Rattle.sq_ticks.specs.declared.text.Text.{Text}
use Rattle.sq_ticks.proofs.CutLemmas.{lines_left}
use Rattle.sq_ticks.proofs.TextLemmas.{EndsText, ends_text}

module _ (limit workers : ℕ) (bytes : List ℕ) (source source_now out out_now : Seen) where
  -- memory ran out and nothing was told
  pub no_memory : length bytes ≤ limit → Keeps out.bytes out_now.bytes → IsEndOf limit workers bytes source source_now out out_now (Ends NoMemory)
  no_memory short kept = record {
    input = record { to_end = λ e. absurd e; within = λ _. short; over = λ e. absurd (cc e); fault = λ e. absurd (cc e) };
    judged = record { bad = λ e. absurd (cc e); written = λ e. absurd (cc e); done = λ e. absurd (cc e); refusals = λ e. absurd (cc e) };
    output = record {
      whole = λ e. absurd e;
      nothing = λ e. absurd e;
      cut_off = λ e. absurd (cc e);
      cut_at_limit = λ e. absurd (cc e);
      prefix = λ e. absurd (cc e);
      blocks = λ _. inl kept;
      fault = λ e. absurd (cc e);
    };
    names = λ e. cc e;
    engine = λ e. e;
    no_usage = λ e. cc e;
  }

  -- a program with a fault
  pub refused_ends : (fault : ProgramFault) (ending : Ending) → Refuses fault ending → length bytes ≤ limit → Keeps out.bytes out_now.bytes → IsFaulty bytes source_now.bytes fault
      → IsEndOf limit workers bytes source source_now out out_now ending
  refused_ends fault (Finished played) none short kept faulty = absurd none
  refused_ends fault (Ends status) is short kept faulty = subst (λ s. IsEndOf limit workers bytes source source_now out out_now (Ends s)) (sym is) (no_memory short kept)
  refused_ends fault (Refused line) is short kept faulty = record {
    input = record { to_end = λ e. absurd e; within = λ _. short; over = λ e. absurd (cc e); fault = λ e. absurd (cc e) };
    judged = record { bad = λ _. (fault, faulty); written = λ e. absurd (cc e); done = λ e. absurd (cc e); refusals = λ e. absurd (cc e) };
    output = record {
      whole = λ e. absurd e;
      nothing = λ _. kept;
      cut_off = λ e. absurd (cc e);
      cut_at_limit = λ e. absurd (cc e);
      prefix = λ e. absurd (cc e);
      blocks = λ e. absurd (cc e);
      fault = λ e. absurd (cc e);
    };
    names = (fault, faulty, is);
    engine = λ e. e;
    no_usage = λ e. cc e;
  }

  -- all ticks were played
  pub finished_ends : (p : Meant) (played : Played) (b : Bool) → played.refused ≡ b → IsProgram bytes p → b ≡ has_refusal p bytes → IsAtEnd source_now.bytes → length bytes ≤ limit
      → Appends out.bytes out_now.bytes (output p bytes) → IsLeft p (reports p (lines_after_end (lines_of bytes))) workers played.engine → IsEndOf limit workers bytes source source_now out out_now (Finished played)
  finished_ends p played true is program refused ends short told left = rw is (record {
    input = record { to_end = λ _. ends; within = λ _. short; over = λ e. absurd (cc e); fault = λ e. absurd (cc e) };
    judged = record { bad = λ e. absurd (cc e); written = λ e. absurd (cc e); done = λ e. absurd (cc e); refusals = λ _. (p, program, sym refused) };
    output = record {
      whole = λ _. (p, program, told);
      nothing = λ e. absurd e;
      cut_off = λ e. absurd (cc e);
      cut_at_limit = λ e. absurd (cc e);
      prefix = λ e. absurd (cc e);
      blocks = λ e. absurd (cc e);
      fault = λ e. absurd (cc e);
    };
    names = tt;
    engine = (tt, record { program = p; of_input = program; left = left });
    no_usage = λ e. cc e;
  })
  finished_ends p played false is program refused ends short told left = rw is (record {
    input = record { to_end = λ _. ends; within = λ _. short; over = λ e. absurd (cc e); fault = λ e. absurd (cc e) };
    judged = record { bad = λ e. absurd (cc e); written = λ e. absurd (cc e); done = λ _. (p, program, sym refused); refusals = λ e. absurd (cc e) };
    output = record {
      whole = λ _. (p, program, told);
      nothing = λ e. absurd e;
      cut_off = λ e. absurd (cc e);
      cut_at_limit = λ e. absurd (cc e);
      prefix = λ e. absurd (cc e);
      blocks = λ e. absurd (cc e);
      fault = λ e. absurd (cc e);
    };
    names = tt;
    engine = (tt, record { program = p; of_input = program; left = left });
    no_usage = λ e. cc e;
  })

  -- memory ran out, or a write failed, while ticks were played
  pub memory_ends : (p : Meant) → IsProgram bytes p → length bytes ≤ limit → StoppedWithin p out.bytes out_now.bytes out.faults out_now.faults (reports p (lines_after_end (lines_of bytes))) stop.Memory
      → IsEndOf limit workers bytes source source_now out out_now (Ends NoMemory)
  memory_ends p program short stopped = record {
    input = record { to_end = λ e. absurd e; within = λ _. short; over = λ e. absurd (cc e); fault = λ e. absurd (cc e) };
    judged = record { bad = λ e. absurd (cc e); written = λ e. absurd (cc e); done = λ e. absurd (cc e); refusals = λ e. absurd (cc e) };
    output = record {
      whole = λ e. absurd e;
      nothing = λ e. absurd e;
      cut_off = λ e. absurd (cc e);
      cut_at_limit = λ e. absurd (cc e);
      prefix = λ e. absurd (cc e);
      blocks = λ _. inr (p, program, stopped);
      fault = λ e. absurd (cc e);
    };
    names = λ e. cc e;
    engine = λ e. e;
    no_usage = λ e. cc e;
  }

  pub write_ends : (p : Meant) → IsProgram bytes p → length bytes ≤ limit → StoppedWithin p out.bytes out_now.bytes out.faults out_now.faults (reports p (lines_after_end (lines_of bytes))) stop.Write
      → IsEndOf limit workers bytes source source_now out out_now (Ends WriteFault)
  write_ends p program short stopped = record {
    input = record { to_end = λ e. absurd e; within = λ _. short; over = λ e. absurd (cc e); fault = λ e. absurd (cc e) };
    judged = record { bad = λ e. absurd (cc e); written = λ _. (p, program); done = λ e. absurd (cc e); refusals = λ e. absurd (cc e) };
    output = record {
      whole = λ e. absurd e;
      nothing = λ e. absurd e;
      cut_off = λ e. absurd (cc e);
      cut_at_limit = λ e. absurd (cc e);
      prefix = λ _. (p, program, stopped.1);
      blocks = λ e. absurd (cc e);
      fault = λ _. stopped.0;
    };
    names = λ e. cc e;
    engine = λ e. e;
    no_usage = λ e. cc e;
  }

  -- a read failed, or the input is too long
  pub read_ends : length bytes ≤ limit → Rose source.faults source_now.faults → IsCutOff out.bytes out_now.bytes bytes → IsEndOf limit workers bytes source source_now out out_now (Ends ReadFault)
  read_ends short rose cut_off = record {
    input = record { to_end = λ e. absurd e; within = λ _. short; over = λ e. absurd (cc e); fault = λ _. rose };
    judged = record { bad = λ e. absurd (cc e); written = λ e. absurd (cc e); done = λ e. absurd (cc e); refusals = λ e. absurd (cc e) };
    output = record {
      whole = λ e. absurd e;
      nothing = λ e. absurd e;
      cut_off = λ _. cut_off;
      cut_at_limit = λ e. absurd (cc e);
      prefix = λ e. absurd (cc e);
      blocks = λ e. absurd (cc e);
      fault = λ e. absurd (cc e);
    };
    names = λ e. cc e;
    engine = λ e. e;
    no_usage = λ e. cc e;
  }

  pub long_ends : length bytes ≡ limit + 1 → IsCutOff out.bytes out_now.bytes (take limit bytes) → IsEndOf limit workers bytes source source_now out out_now (Ends TooLong)
  long_ends long cut_off = record {
    input = record { to_end = λ e. absurd e; within = λ other. absurd (other refl); over = λ _. long; fault = λ e. absurd (cc e) };
    judged = record { bad = λ e. absurd (cc e); written = λ e. absurd (cc e); done = λ e. absurd (cc e); refusals = λ e. absurd (cc e) };
    output = record {
      whole = λ e. absurd e;
      nothing = λ e. absurd e;
      cut_off = λ e. absurd (cc e);
      cut_at_limit = λ _. cut_off;
      prefix = λ e. absurd (cc e);
      blocks = λ e. absurd (cc e);
      fault = λ e. absurd (cc e);
    };
    names = λ e. cc e;
    engine = λ e. e;
    no_usage = λ e. cc e;
  }
