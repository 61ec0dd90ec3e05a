-- What the ending of a run says of the whole input, and what the sink for errors took.
use Rattle.std.specs.Prelude.{◌≢◌, IfSome, if◌then◌else◌}
use Rattle.std.specs.Io.KnownBytes.{Appends, Consumes, IsAtEnd}
use Rattle.std.proofs.Common.{◌≡◌, ℕ, List, [], ◌++◌, Bool, true, false, Option, Some, None, inl, inr, refl, sym, ap, subst, ◌∙◌, append-nil, arith}
use Rattle.sq_engine.specs.Engines.{State}
use Rattle.sq_print.specs.FaultTexts.{told_fault}
use Rattle.sq_print.specs.declared.program_fault.ProgramFault.{ProgramFault}
use Rattle.sq_top.specs.Prefixes.{TakesPrefix}
use Rattle.sq_ticks.specs.Programs.{HasFault}
use Rattle.sq_ticks.specs.Seen.{Seen}
use Rattle.sq_top.specs.Statuses.{EndsAs, HandsBack, IsEngineOf, IsFaulty, IsFinished, IsWhole, Names, Ran, Tells, TellsPrefix, Told, ending_line, engine_of, status_line, status_of}
use Rattle.sq_base.specs.Causes.{Rose}
use Rattle.sq_top.proofs.Serving.{keeps_same}
use Rattle.sq_top.specs.declared.session.Ending.{Ending}
use Rattle.sq_top.specs.declared.session.Ending.TheVariants.{Ends, Finished, Refused}
use Rattle.sq_top.specs.declared.statuses.Status.{Status}
use Rattle.sq_top.specs.declared.statuses.Status.TheVariants.{Done, Usage, DoneWithRefusals, BadProgram, ReadFault, WriteFault, NoMemory, TooLong}

-- ---- the whole input
of_input : (source now : Option (List ℕ)) (bytes : List ℕ) (P : List ℕ → Type 0) → Consumes source now bytes → IsAtEnd now → P bytes → IfSome source P
of_input None now bytes P given ends p = tt
of_input (Some xs) None bytes P given ends p = absurd given
of_input (Some xs) (Some ys) bytes P given ends p = subst P (sym (given ∙ ap (λ r. bytes ++ r) ends ∙ append-nil bytes)) p

has_fault : (source now : Option (List ℕ)) (bytes : List ℕ) (fault : ProgramFault) → Consumes source now bytes → IsFaulty bytes now fault → IfSome source (λ input. HasFault input fault)
has_fault None now bytes fault given faulty = tt
has_fault (Some xs) None bytes fault given faulty = absurd given
has_fault (Some xs) (Some ys) bytes fault given (inl always) = subst (λ input. HasFault input fault) (sym given) (always ys)
has_fault (Some xs) (Some ys) bytes fault given (inr is) = of_input (Some xs) (Some ys) bytes (λ input. HasFault input fault) given is.0 is.1

hands_back : (workers : ℕ) (source now : Option (List ℕ)) (bytes : List ℕ) (status : Status) (engine : Option State) → Consumes source now bytes → (IsFinished status → IsAtEnd now)
    → HandsBack workers (Some bytes) status engine → HandsBack workers source status engine
hands_back workers source now bytes status None given ends back = back
hands_back workers source now bytes status (Some engine) given ends back = (back.0, of_input source now bytes (λ input. IsEngineOf workers input engine) given (ends back.0) back.1)

-- ---- the sink for errors
tells_status : (left taken now : Option (List ℕ)) (status : Status) → status ≢ BadProgram → Appends taken now (status_line status) → Tells left taken now status
tells_status left taken now Done other told = told
tells_status left taken now Usage other told = told
tells_status left taken now DoneWithRefusals other told = told
tells_status left taken now BadProgram other told = absurd (other refl)
tells_status left taken now ReadFault other told = told
tells_status left taken now WriteFault other told = told
tells_status left taken now NoMemory other told = told
tells_status left taken now TooLong other told = told

tells_finished : (left taken now : Option (List ℕ)) (refused : Bool) → Appends taken now [] → Tells left taken now (if refused then DoneWithRefusals else Done)
tells_finished left taken now true told = told
tells_finished left taken now false told = told

tells : (source source_now taken now : Option (List ℕ)) (bytes : List ℕ) (ending : Ending) → Consumes source source_now bytes → Names bytes source_now ending → Appends taken now (ending_line ending)
    → Tells source taken now (status_of ending)
tells source source_now taken now bytes (Finished played) given names told = tells_finished source taken now played.refused told
tells source source_now taken now bytes (Ends status) given names told = tells_status source taken now status names told
tells source source_now taken now bytes (Refused line) given (fault, faulty, is) told = (fault, has_fault source source_now bytes fault given faulty, subst (Appends taken now) is told)

prefix_status : (left taken now : Option (List ℕ)) (status : Status) → status ≢ BadProgram → TakesPrefix taken now (status_line status) → TellsPrefix left taken now status
prefix_status left taken now Done other told = told
prefix_status left taken now Usage other told = told
prefix_status left taken now DoneWithRefusals other told = told
prefix_status left taken now BadProgram other told = absurd (other refl)
prefix_status left taken now ReadFault other told = told
prefix_status left taken now WriteFault other told = told
prefix_status left taken now NoMemory other told = told
prefix_status left taken now TooLong other told = told

prefix_finished : (left taken now : Option (List ℕ)) (refused : Bool) → TakesPrefix taken now [] → TellsPrefix left taken now (if refused then DoneWithRefusals else Done)
prefix_finished left taken now true told = told
prefix_finished left taken now false told = told

tells_prefix : (source source_now taken now : Option (List ℕ)) (bytes : List ℕ) (ending : Ending) → Consumes source source_now bytes → Names bytes source_now ending → TakesPrefix taken now (ending_line ending)
    → TellsPrefix source taken now (status_of ending)
tells_prefix source source_now taken now bytes (Finished played) given names told = prefix_finished source taken now played.refused told
tells_prefix source source_now taken now bytes (Ends status) given names told = prefix_status source taken now status names told
tells_prefix source source_now taken now bytes (Refused line) given (fault, faulty, is) told = (fault, has_fault source source_now bytes fault given faulty, subst (TakesPrefix taken now) is told)

-- ---- what a run leaves
module _ (limit workers : ℕ) (source source_now out out_now : Seen) (ending : Ending) (ends : EndsAs limit workers source source_now out out_now ending) (status : Status) (is : status ≡ status_of ending) where
  pub ran : Ran limit source source_now out out_now status
  ran = subst (Ran limit source source_now out out_now) (sym is) (record {
    headline = λ finished. of_input source.bytes source_now.bytes ends.0 (IsWhole out.bytes out_now.bytes) ends.1 (ends.2.input.to_end finished) (ends.2.output.whole finished);
    bytes = ends.0;
    given = ends.1;
    input = ends.2.input;
    judged = ends.2.judged;
    output = ends.2.output;
  })

  pub told : (err err_now : Seen) → ((Rose err.faults err_now.faults → ⊥) → Appends err.bytes err_now.bytes (ending_line ending)) → TakesPrefix err.bytes err_now.bytes (ending_line ending)
      → Told source.bytes err err_now status
  told err err_now line prefix = subst (Told source.bytes err err_now) (sym is) (record {
    line = λ none. tells source.bytes source_now.bytes err.bytes err_now.bytes ends.0 ending ends.1 ends.2.names (line none);
    prefix = tells_prefix source.bytes source_now.bytes err.bytes err_now.bytes ends.0 ending ends.1 ends.2.names prefix;
  })

  pub handed_back : (engine : Option State) → engine ≡ engine_of ending → HandsBack workers source.bytes status engine
  handed_back engine same = rw (is, same) (hands_back workers source.bytes source_now.bytes ends.0 (status_of ending) (engine_of ending) ends.1 ends.2.input.to_end ends.2.engine)

  pub no_usage : status ≢ Usage
  no_usage = rw is ends.2.no_usage

-- ---- words, which are no run
consumes_none : (x : Option (List ℕ)) → Consumes x x []
consumes_none None = tt
consumes_none (Some xs) = refl

pub untouched_ran : (limit : ℕ) (source out : Seen) → Ran limit source source out out Usage
untouched_ran limit source out = record {
  headline = λ e. absurd e;
  bytes = [];
  given = consumes_none source.bytes;
  input = record { to_end = λ e. absurd e; within = λ _. omega arith; over = λ e. absurd (cc e); fault = λ e. absurd (cc e) };
  judged = record { bad = λ e. absurd (cc e); written = λ e. absurd (cc e); done = λ e. absurd (cc e); refusals = λ e. absurd (cc e) };
  output = record {
    whole = λ e. absurd e;
    nothing = λ _. keeps_same out.bytes;
    cut_off = λ e. absurd (cc e);
    cut_at_limit = λ e. absurd (cc e);
    prefix = λ e. absurd (cc e);
    blocks = λ e. absurd (cc e);
    fault = λ e. absurd (cc e);
  };
}
