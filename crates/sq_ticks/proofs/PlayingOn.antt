-- What stays true while change lines are read and played piece by piece, and where that stops.
use Rattle.std.specs.Prelude.{IfOk, OnOk, Result, Ok, Err, map}
use Rattle.std.specs.List.{enumerate_from, list_any}
use Rattle.std.specs.Io.KnownBytes.{Appends, Consumes, IsAtEnd, Keeps}
use Rattle.std.proofs.Common.{◌≡◌, ℕ, ◌+◌, ◌-◌, ◌<◌, ◌≤◌, ◌^◌, List, [], ◌∷◌, ◌++◌, length, take, Option, Some, None, refl, sym, ap, subst, ◌∙◌, arith, append-nil, append_assoc, length-append}
use Rattle.sq_base.specs.Causes.{Rose}
use Rattle.sq_engine.specs.Engines.{State}
use Rattle.sq_lines.specs.Cutting.{Cutting, cut_after, ended, last_line, lines_of, uncut}
use Rattle.sq_lines.specs.Lines.{decoded, is_commit, says_commit}
use Rattle.sq_lines.proofs.Saying.{commits_are_commits}
use Rattle.sq_typed.specs.Views.{Meant}
use Rattle.sq_ticks.specs.Judgements.{first_text}
use Rattle.sq_ticks.specs.Lines.{up_to_last}
use Rattle.sq_ticks.specs.Output.{reports, reports_of, texts_from}
use Rattle.sq_ticks.specs.Played.{Halts, HaltsAt, IsPlayedOut, whole_reports}
use Rattle.sq_ticks.specs.Runs.{From, IsFar, IsLeft, IsStart, StoppedWithin, StopsWithin, ended_lines, said}
use Rattle.sq_ticks.specs.Seen.{Seen}
use Rattle.sq_ticks.specs.Seen.{GivesExactly}
use Rattle.sq_ticks.specs.Ticks.{is_refusal}
use Rattle.sq_ticks.specs.declared.play.Played.{Played}
use Rattle.sq_ticks.specs.declared.run.Run.{Run}
use Rattle.sq_ticks.specs.declared.run.Stop.{Stop}
use Rattle.sq_ticks.specs.declared.run.Stop.TheVariants.{Memory, Read, TooLong, Write}
use Rattle.sq_ticks.proofs.Behind.{begun, last_brings}
use Rattle.sq_ticks.proofs.CutLemmas.{said_up_to_last}

pub consumes_none : (x : Option (List ℕ)) → Consumes x x []
consumes_none None = tt
consumes_none (Some x) = refl

pub consumes_chain : (x y z : Option (List ℕ)) (a b : List ℕ) → Consumes x y a → Consumes y z b → Consumes x z (a ++ b)
consumes_chain None y z a b p q = tt
consumes_chain (Some x) None z a b p q = absurd p
consumes_chain (Some x) (Some y) None a b p q = absurd q
consumes_chain (Some x) (Some y) (Some z) a b p q = p ∙ ap (λ t. a ++ t) q ∙ sym (append_assoc a b z)

pub consumes_keeps : (x y z : Option (List ℕ)) (a : List ℕ) → Consumes x y a → Keeps y z → Consumes x z (a ++ [])
consumes_keeps None y z a p q = tt
consumes_keeps (Some x) None z a p q = absurd p
consumes_keeps (Some x) (Some y) None a p q = absurd q
consumes_keeps (Some x) (Some y) (Some z) a p q = p ∙ ap (λ t. a ++ t) (sym q) ∙ sym (append_assoc a [] z)

-- a run and a cutter before the first byte
pub far_begun : (p : Meant) (from : From) (now : Option (List ℕ)) (faults : ℕ) (engine : State) (run : Run) (cutter : Cutting) → IsStart p engine run → Appends from.taken now (first_text p)
    → from.faults ≤ faults → engine.shards ≡ from.shards → cutter ≡ uncut → IsFar p [] from now faults run cutter
far_begun p from now faults engine run cutter start told later shards fresh = record { behind = begun p from now faults engine run start told later shards; cut = fresh }

-- what was told so far is what the whole ticks bring
pub whole_told : (p : Meant) (bytes : List ℕ) (from : From) (now : Option (List ℕ)) (faults : ℕ) (run : Run) (cutter : Cutting) → IsFar p bytes from now faults run cutter
    → Appends from.taken now (texts_from p 0 (whole_reports p bytes))
whole_told p bytes from now faults run cutter far =
    let same : up_to_last is_commit (ended_lines p bytes) ≡ map (λ (l : ℕ × List ℕ). decoded p.catalog l.0 l.1) (enumerate_from 1 (up_to_last says_commit (ended [] bytes))) =
    said_up_to_last says_commit is_commit (decoded p.catalog) (λ n x. commits_are_commits p.catalog n x) 1 (ended [] bytes) in
    subst (λ rs. Appends from.taken now (texts_from p 0 rs)) (far.behind.whole ∙ ap (reports_of p) same) far.behind.told

-- a run that stopped within some lines stopped within all lines of the bytes
pub stops_in_bytes : (p : Meant) (bytes : List ℕ) (from : From) (now : Option (List ℕ)) (faults : ℕ) (stop : Stop) → StopsWithin p (ended_lines p bytes) from now faults stop
    → StoppedWithin p from.taken now from.faults faults (reports p (lines_of bytes)) stop
stops_in_bytes p bytes from now faults stop h =
    subst (λ ls. StoppedWithin p from.taken now from.faults faults (reports_of p ls) stop) (sym (last_brings p bytes)) (h (said p (last_line (cut_after bytes))))

-- where a run began
abbrev pub begin_at : Seen → ℕ → From
begin_at out shards = record { shards = shards; taken = out.bytes; faults = out.faults }

module _ (p : Meant) (limit before : ℕ) (first : List ℕ) (source out : Seen) where
  halts_at : (count : ℕ) (bytes : List ℕ) (source_now out_now : Seen) (stop : Stop) → StoppedWithin p out.bytes out_now.bytes out.faults out_now.faults (reports p (lines_of bytes)) stop
      → HaltsAt p limit count bytes [] source source_now out out_now stop
  halts_at count bytes source_now out_now Memory h = (refl, h)
  halts_at count bytes source_now out_now Write h = (refl, h)
  halts_at count bytes source_now out_now Read h = absurd h
  halts_at count bytes source_now out_now TooLong h = absurd h

  pub halts_within : (rest : List ℕ) (source_now out_now : Seen) (stop : Stop) → Consumes source.bytes source_now.bytes rest → before + length rest ≤ limit
      → StoppedWithin p out.bytes out_now.bytes out.faults out_now.faults (reports p (lines_of (first ++ rest))) stop → Halts p limit before first source source_now out out_now stop
  halts_within rest source_now out_now stop given within stopped = record {
    rest = rest;
    beyond = [];
    given = subst (Consumes source.bytes source_now.bytes) (sym (append-nil rest)) given;
    within = within;
    halted = halts_at (before + length rest) (first ++ rest) source_now out_now stop stopped;
  }

  -- all that the loop keeps
  pub record PlayingOn (shards : ℕ) (source_now out_now : Seen) (taken : ℕ) (run : Run) (cutter : Cutting) : Type 0 where
    pub rest : List ℕ
    pub given : Consumes source.bytes source_now.bytes rest
    pub taken_is : taken ≡ before + length rest
    pub within : taken ≤ limit
    pub later : source.faults ≤ source_now.faults
    pub far : IsFar p (first ++ rest) (begin_at out shards) out_now.bytes out_now.faults run cutter
    pub handed : cutter.handed ≤ taken

  pub playing_begins : (shards : ℕ) (out_now : Seen) (run : Run) (cutter : Cutting) → length first ≤ before → before ≤ limit → cutter.handed ≤ length first
      → IsFar p first (begin_at out shards) out_now.bytes out_now.faults run cutter → PlayingOn shards source out_now before run cutter
  playing_begins shards out_now run cutter some within few far = record {
    rest = [];
    given = consumes_none source.bytes;
    taken_is = omega arith;
    within = within;
    later = omega arith;
    far = subst (λ bs. IsFar p bs (begin_at out shards) out_now.bytes out_now.faults run cutter) (sym (append-nil first)) far;
    handed = omega (arith, some, few);
  }

  pub playing_on : (shards : ℕ) (source_now source_next out_now out_next : Seen) (taken next count : ℕ) (run more : Run) (cutter fed_cutter : Cutting) (piece : List ℕ)
      → (h : PlayingOn shards source_now out_now taken run cutter) → Consumes source_now.bytes source_next.bytes piece → length piece ≡ count → taken + count ≤ limit → next ≡ taken + count
      → source_now.faults ≤ source_next.faults → fed_cutter.handed ≤ cutter.handed + length piece
      → IsFar p ((first ++ h.rest) ++ piece) (begin_at out shards) out_next.bytes out_next.faults more fed_cutter
      → PlayingOn shards source_next out_next next more fed_cutter
  playing_on shards source_now source_next out_now out_next taken next count run more cutter fed_cutter piece h given long room is since few far = record {
    rest = h.rest ++ piece;
    given = consumes_chain source.bytes source_now.bytes source_next.bytes h.rest piece h.given given;
    taken_is = omega (arith, is, h.taken_is, long, length-append h.rest piece);
    within = omega (arith, is, room);
    later = omega (arith, h.later, since);
    far = subst (λ bs. IsFar p bs (begin_at out shards) out_next.bytes out_next.faults more fed_cutter) (append_assoc first h.rest piece) far;
    handed = omega (arith, h.handed, few, long, is);
  }

  -- a read that failed, and one byte beyond the limit
  pub read_fails : (shards : ℕ) (source_now source_next out_now : Seen) (taken : ℕ) (run : Run) (cutter : Cutting) → PlayingOn shards source_now out_now taken run cutter
      → Rose source_now.faults source_next.faults → Keeps source_now.bytes source_next.bytes → Halts p limit before first source source_next out out_now Read
  read_fails shards source_now source_next out_now taken run cutter h rose kept = record {
    rest = h.rest;
    beyond = [];
    given = consumes_keeps source.bytes source_now.bytes source_next.bytes h.rest h.given kept;
    within = omega (arith, h.within, h.taken_is);
    halted = (refl, omega (arith, rose, h.later), whole_told p (first ++ h.rest) (begin_at out shards) out_now.bytes out_now.faults run cutter h.far);
  }

  pub goes_beyond : (shards : ℕ) (source_now source_next out_now : Seen) (taken : ℕ) (run : Run) (cutter : Cutting) → PlayingOn shards source_now out_now taken run cutter
      → taken ≡ limit → GivesExactly 1 source_now.bytes source_next.bytes → Halts p limit before first source source_next out out_now TooLong
  goes_beyond shards source_now source_next out_now taken run cutter h full more = record {
    rest = h.rest;
    beyond = more.0;
    given = consumes_chain source.bytes source_now.bytes source_next.bytes h.rest more.0 h.given more.1;
    within = omega (arith, h.within, h.taken_is);
    halted = (more.2, omega (arith, full, h.taken_is), whole_told p (first ++ h.rest) (begin_at out shards) out_now.bytes out_now.faults run cutter h.far);
  }

  pub count_halts : (shards : ℕ) (source_now source_next out_now : Seen) (taken : ℕ) (run : Run) (cutter : Cutting) (stop : Stop) → PlayingOn shards source_now out_now taken run cutter
      → (stop ≡ Memory → ⊥) → (stop ≡ Write → ⊥) → (stop ≡ Read → Rose source_now.faults source_next.faults × Keeps source_now.bytes source_next.bytes)
      → (stop ≡ TooLong → (taken ≡ limit) × GivesExactly 1 source_now.bytes source_next.bytes) → Halts p limit before first source source_next out out_now stop
  count_halts shards source_now source_next out_now taken run cutter Memory h memory write read long = absurd (memory refl)
  count_halts shards source_now source_next out_now taken run cutter Write h memory write read long = absurd (write refl)
  count_halts shards source_now source_next out_now taken run cutter Read h memory write read long =
      let r = read refl in read_fails shards source_now source_next out_now taken run cutter h r.0 r.1
  count_halts shards source_now source_next out_now taken run cutter TooLong h memory write read long =
      let t = long refl in goes_beyond shards source_now source_next out_now taken run cutter h t.0 t.1

  -- at the end of the input
  pub played_out : (shards : ℕ) (source_now source_next out_now out_next : Seen) (taken : ℕ) (run : Run) (cutter : Cutting) (result : Result Played Stop) → (h : PlayingOn shards source_now out_now taken run cutter)
      → Consumes source_now.bytes source_next.bytes [] → IsAtEnd source_next.bytes
      → IfOk result (λ played. played.refused ≡ list_any (λ r. is_refusal r.1) (reports p (lines_of (first ++ h.rest))))
      → IfOk result (λ played. IsLeft p (reports p (lines_of (first ++ h.rest))) shards played.engine)
      → OnOk result (Appends out.bytes out_next.bytes (texts_from p 0 (reports p (lines_of (first ++ h.rest)))))
      → IfOk result (IsPlayedOut p shards limit before first source source_next out out_next)
  played_out shards source_now source_next out_now out_next taken run cutter (Err stop) h none ends refused engine told = tt
  played_out shards source_now source_next out_now out_next taken run cutter (Ok played) h none ends refused engine told = record {
    rest = h.rest;
    given = subst (Consumes source.bytes source_next.bytes) (append-nil h.rest) (consumes_chain source.bytes source_now.bytes source_next.bytes h.rest [] h.given none);
    to_end = ends;
    within = omega (arith, h.within, h.taken_is);
    refused = refused;
    engine = engine;
    told = told;
  }
