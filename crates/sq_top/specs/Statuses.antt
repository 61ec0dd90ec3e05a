-- What each status of a run says of the objects that it was handed.
use Rattle.std.specs.Prelude.{◌≡◌, ◌≢◌, ◌⊎◌, ℕ, ◌+◌, ◌≤◌, List, [], ◌++◌, length, take, true, false, Option, Some, None, IfSome, ⊤, codes, if◌then◌else◌}
use Rattle.std.specs.Io.KnownBytes.{Appends, Consumes, Keeps, IsAtEnd}
use Rattle.sq_base.specs.Causes.{Rose}
use Rattle.sq_lines.specs.Cutting.{ended, lines_of}
use Rattle.sq_ticks.specs.Lines.{cut, has_end_line, lines_after_end, surely_before}
use Rattle.sq_ticks.specs.Output.{has_refusal, output, reports, texts_from}
use Rattle.sq_engine.specs.Engines.{State}
use Rattle.sq_typed.specs.Views.{Meant}
use Rattle.sq_compile.specs.Programs.{longest_text}
use Rattle.sq_ticks.specs.Programs.{HasFault, IsProgram}
use Rattle.sq_print.specs.FaultTexts.{told_fault}
use Rattle.sq_top.specs.Prefixes.{TakesPrefix}
use Rattle.sq_ticks.specs.Runs.{IsLeft}
use Rattle.sq_ticks.specs.Seen.{Seen, seen}
use Rattle.sq_print.specs.declared.program_fault.ProgramFault.{ProgramFault}
use Rattle.sq_ticks.specs.declared.run.Stop.{Stop}
use Rattle.sq_ticks.specs.declared.run.Stop.TheVariants as stop
use Rattle.sq_top.specs.declared.session.Ending.{Ending}
use Rattle.sq_top.specs.declared.session.Ending.TheVariants.{Ends, Finished, Refused}
use Rattle.sq_top.specs.declared.statuses.Status.{Status}
use Rattle.sq_top.specs.declared.statuses.Status.TheVariants.{Done, Usage, DoneWithRefusals, BadProgram, ReadFault, WriteFault, NoMemory, TooLong}

-- the number that the program ends with
abbrev pub code_of : Status → ℕ
code_of Done = 0
code_of Usage = 2
code_of DoneWithRefusals = 3
code_of BadProgram = 4
code_of ReadFault = 5
code_of WriteFault = 6
code_of NoMemory = 7
code_of TooLong = 8

-- the whole output was written
abbrev pub IsFinished : Status → Type 0
IsFinished Done = ⊤
IsFinished DoneWithRefusals = ⊤
IsFinished _ = ⊥

-- nothing was written
abbrev pub IsUnwritten : Status → Type 0
IsUnwritten Usage = ⊤
IsUnwritten BadProgram = ⊤
IsUnwritten _ = ⊥

-- What a status says of the source: of the bytes that it gave, which are all of them once a run is finished, and one more than the limit if they
-- are too many, and of its counts of faults.
pub record Reads (limit : ℕ) (bytes : List ℕ) (now : Option (List ℕ)) (before after : ℕ) (status : Status) : Type 0 where
  pub to_end : IsFinished status → IsAtEnd now
  pub within : (status ≡ TooLong → ⊥) → length bytes ≤ limit
  pub over : status ≡ TooLong → length bytes ≡ limit + 1
  pub fault : status ≡ ReadFault → Rose before after

-- the first fault of the program of these bytes, whatever comes behind them, or because nothing does
abbrev pub IsFaulty : List ℕ → Option (List ℕ) → ProgramFault → Type 0
IsFaulty bytes now fault = ((more : List ℕ) → HasFault (bytes ++ more) fault) ⊎ (IsAtEnd now × HasFault bytes fault)

-- What a status says of the bytes that the source gave.
pub record Judges (bytes : List ℕ) (now : Option (List ℕ)) (status : Status) : Type 0 where
  pub bad : status ≡ BadProgram → (fault : ProgramFault) × IsFaulty bytes now fault
  pub written : status ≡ WriteFault → (p : Meant) × IsProgram bytes p
  pub done : status ≡ Done → (p : Meant) × IsProgram bytes p × (has_refusal p bytes ≡ false)
  pub refusals : status ≡ DoneWithRefusals → (p : Meant) × IsProgram bytes p × (has_refusal p bytes ≡ true)

-- the whole output of an input's program
abbrev pub IsWhole : Option (List ℕ) → Option (List ℕ) → List ℕ → Type 0
IsWhole taken now input = (p : Meant) × IsProgram input p × Appends taken now (output p input)

-- a prefix of it
abbrev pub IsPrefix : Option (List ℕ) → Option (List ℕ) → List ℕ → Type 0
IsPrefix taken now input = (p : Meant) × IsProgram input p × ((n : ℕ) × (n ≤ length (output p input)) × Appends taken now (take n (output p input)))

-- nothing, or the blocks and refusals of the first k ticks of an input's program, each whole
abbrev pub IsBlocks : Option (List ℕ) → Option (List ℕ) → List ℕ → Type 0
IsBlocks taken now input = Keeps taken now
    ⊎ ((p : Meant) × IsProgram input p × ((k : ℕ) × Appends taken now (texts_from p 0 (take k (reports p (lines_after_end (lines_of input)))))))

-- the program of these bytes cannot be judged yet: their end line has not come with its line end, and it may come in time
pub record IsUnjudged (bytes : List ℕ) : Type 0 where
  pub none : has_end_line (ended [] bytes) ≡ false
  pub short : length (surely_before bytes) ≤ longest_text

-- The whole output of the bytes up to the end of their last commit line. If their program cannot be judged yet, `cut` leaves no bytes of them,
-- and there is none.
abbrev pub IsCutOff : Option (List ℕ) → Option (List ℕ) → List ℕ → Type 0
IsCutOff taken now bytes = IsWhole taken now (cut bytes) ⊎ (IsUnjudged bytes × Keeps taken now)

-- What a status says of the sink for the output, by the bytes that the source gave: it took the whole output, nothing, the output of the whole
-- ticks among them if a read failed or the input is too long, a prefix if a write failed, and whole blocks and refusals if memory ran out.
pub record Writes (limit : ℕ) (bytes : List ℕ) (taken now : Option (List ℕ)) (before after : ℕ) (status : Status) : Type 0 where
  pub whole : IsFinished status → IsWhole taken now bytes
  pub nothing : IsUnwritten status → Keeps taken now
  pub cut_off : status ≡ ReadFault → IsCutOff taken now bytes
  pub cut_at_limit : status ≡ TooLong → IsCutOff taken now (take limit bytes)
  pub prefix : status ≡ WriteFault → IsPrefix taken now bytes
  pub blocks : status ≡ NoMemory → IsBlocks taken now bytes
  pub fault : status ≡ WriteFault → Rose before after

-- the one line that tells of a status that has no fault to tell of, or nothing
abbrev pub status_line : Status → List ℕ
status_line Done = []
status_line Usage = []
status_line DoneWithRefusals = []
status_line BadProgram = []
status_line ReadFault = codes "{\"status\":\"read fault\"}\n"
status_line WriteFault = codes "{\"status\":\"write fault\"}\n"
status_line NoMemory = codes "{\"status\":\"no memory\"}\n"
status_line TooLong = codes "{\"status\":\"input too long\"}\n"

-- What the sink for errors took: the line of the program's first fault, or the line of the status.
abbrev pub Tells : Option (List ℕ) → Option (List ℕ) → Option (List ℕ) → Status → Type 0
Tells left taken now BadProgram = (fault : ProgramFault) × IfSome left (λ input. HasFault input fault) × Appends taken now (told_fault fault)
Tells left taken now status = Appends taken now (status_line status)

-- What the sink for errors took, also if it failed: a prefix of that line.
abbrev pub TellsPrefix : Option (List ℕ) → Option (List ℕ) → Option (List ℕ) → Status → Type 0
TellsPrefix left taken now BadProgram = (fault : ProgramFault) × IfSome left (λ input. HasFault input fault) × TakesPrefix taken now (told_fault fault)
TellsPrefix left taken now status = TakesPrefix taken now (status_line status)

-- What a status says of the source and of the sink for the output, each before the run and after it. The headline: once a run is
-- finished, the sink took exactly the output of the input's program.
pub record Ran (limit : ℕ) (source source_now out out_now : Seen) (status : Status) : Type 0 where
  pub headline : IsFinished status → IfSome source.bytes (IsWhole out.bytes out_now.bytes)
  pub bytes : List ℕ
  pub given : Consumes source.bytes source_now.bytes bytes
  pub input : Reads limit bytes source_now.bytes source.faults source_now.faults status
  pub judged : Judges bytes source_now.bytes status
  pub output : Writes limit bytes out.bytes out_now.bytes out.faults out_now.faults status

-- What a status says of the sink for errors: it took the line that tells of the status, or a prefix of it if one of its writes failed.
pub record Told (left : Option (List ℕ)) (err err_now : Seen) (status : Status) : Type 0 where
  pub line : (Rose err.faults err_now.faults → ⊥) → Tells left err.bytes err_now.bytes status
  pub prefix : TellsPrefix left err.bytes err_now.bytes status

-- the engine of a run of this input: it stands for the input's program, and its tables are those after the accepted ticks
pub record IsEngineOf (workers : ℕ) (input : List ℕ) (engine : State) : Type 0 where
  pub program : Meant
  pub of_input : IsProgram input program
  pub left : IsLeft program (reports program (lines_after_end (lines_of input))) workers engine

-- A run that is finished hands back its engine, for so many workers, and no other run hands back one.
abbrev pub HandsBack : ℕ → Option (List ℕ) → Status → Option State → Type 0
HandsBack workers left status None = IsFinished status → ⊥
HandsBack workers left status (Some engine) = IsFinished status × IfSome left (λ input. IsEngineOf workers input engine)

-- the line that tells of an ending
abbrev pub ending_line : Ending → List ℕ
ending_line (Finished played) = []
ending_line (Ends status) = status_line status
ending_line (Refused line) = line.items

-- the status of an ending
abbrev pub status_of : Ending → Status
status_of (Finished played) = if played.refused then DoneWithRefusals else Done
status_of (Ends status) = status
status_of (Refused line) = BadProgram

-- the ending of a run that stopped
abbrev pub ending_of : Stop → Ending
ending_of stop.Memory = Ends NoMemory
ending_of stop.Read = Ends ReadFault
ending_of stop.TooLong = Ends TooLong
ending_of stop.Write = Ends WriteFault

-- the engine of an ending that has one
abbrev pub engine_of : Ending → Option State
engine_of (Finished played) = Some played.engine
engine_of (Ends status) = None
engine_of (Refused line) = None

-- the line of a refusal is that of the program's first fault
abbrev pub Names : List ℕ → Option (List ℕ) → Ending → Type 0
Names bytes now (Finished played) = ⊤
Names bytes now (Ends status) = status ≢ BadProgram
Names bytes now (Refused line) = (fault : ProgramFault) × IsFaulty bytes now fault × (line.items ≡ told_fault fault)

-- how a run ends that took these bytes of the source
pub record IsEndOf (limit workers : ℕ) (bytes : List ℕ) (source source_now out out_now : Seen) (ending : Ending) : Type 0 where
  pub input : Reads limit bytes source_now.bytes source.faults source_now.faults (status_of ending)
  pub judged : Judges bytes source_now.bytes (status_of ending)
  pub output : Writes limit bytes out.bytes out_now.bytes out.faults out_now.faults (status_of ending)
  pub names : Names bytes source_now.bytes ending
  pub engine : HandsBack workers (Some bytes) (status_of ending) (engine_of ending)
  pub no_usage : status_of ending ≢ Usage

abbrev pub EndsAs : ℕ → ℕ → (source source_now out out_now : Seen) → Ending → Type 0
EndsAs limit workers source source_now out out_now ending =
    (bytes : List ℕ) × Consumes source.bytes source_now.bytes bytes × IsEndOf limit workers bytes source source_now out out_now ending

-- the same where some bytes of the source were taken before
abbrev pub EndsBehind : ℕ → ℕ → List ℕ → (left : Option (List ℕ)) → ℕ → (left_now : Option (List ℕ)) → ℕ → (told : Option (List ℕ)) → ℕ → (told_now : Option (List ℕ)) → ℕ → Ending → Type 0
EndsBehind limit workers taken left faults left_now faults_now told failed told_now failed_now ending =
    (source : Seen) → Consumes source.bytes left taken → source.faults ≤ faults → EndsAs limit workers source (seen left_now faults_now) (seen told failed) (seen told_now failed_now) ending

-- the same where all of them were taken, and they are within the limit
abbrev pub EndsAfterAll : ℕ → List ℕ → (out out_now : Seen) → Ending → Type 0
EndsAfterAll workers taken out out_now ending =
    (limit : ℕ) (source source_now : Seen) → Consumes source.bytes source_now.bytes taken → IsAtEnd source_now.bytes → length taken ≤ limit → EndsAs limit workers source source_now out out_now ending

-- the ending of a program with this fault, unless memory ran out
abbrev pub Refuses : ProgramFault → Ending → Type 0
Refuses fault (Finished played) = ⊥
Refuses fault (Ends status) = status ≡ NoMemory
Refuses fault (Refused line) = line.items ≡ told_fault fault
