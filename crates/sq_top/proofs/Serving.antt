-- What was made of a whole input: of its text, and of the change lines behind it.
use Rattle.std.specs.List.{list_any}
use Rattle.std.specs.Io.KnownBytes.{Appends, Consumes, IsAtEnd, Keeps}
use Rattle.std.proofs.Common.{◌≡◌, ℕ, ◌+◌, ◌<◌, ◌≤◌, ◌^◌, List, [], ◌∷◌, ◌++◌, length, take, drop, Bool, true, false, Option, Some, None, inl, inr, refl, sym, ap, subst, ◌∙◌, arith, append-nil, append_assoc, length-append}
use Rattle.std.proofs.Math.Seq.{take-append_seam}
use Rattle.sq_lines.specs.Cutting.{ended, lines_of}
use Rattle.sq_lines.specs.Lines.{says_commit}
use Rattle.sq_typed.specs.Views.{Meant}
use Rattle.sq_ticks.specs.Begun.{IsEnded, IsOpen}
use Rattle.sq_top.specs.Found.{HasFront, IsStoppedAt, IsUnfound, front_of}
use Rattle.sq_ticks.specs.Lines.{cut, has_end_line, is_end_line, lines_after_end, surely_before, text_before_end, up_to_last, with_ends}
use Rattle.sq_ticks.specs.Output.{output, reports, texts_from}
use Rattle.sq_ticks.specs.Played.{Halts, HaltsAt, IsPlayedOut, whole_reports}
use Rattle.sq_compile.specs.Programs.{longest_text}
use Rattle.sq_ticks.specs.Programs.{HasFault, IsProgram, no_end_too_long}
use Rattle.sq_ticks.proofs.Judging.{text_too_long}
use Rattle.sq_print.specs.declared.program_fault.ProgramFault.TheVariants.{TextTooLong}
use Rattle.sq_ticks.specs.Runs.{IsLeft, StoppedWithin}
use Rattle.sq_ticks.specs.Seen.{Seen}
use Rattle.sq_top.specs.Statuses.{EndsAs, IsCutOff, IsEndOf, ending_of}
use Rattle.sq_ticks.specs.Ticks.{is_refusal}
use Rattle.sq_ticks.specs.declared.play.Played.{Played}
use Rattle.sq_ticks.specs.declared.run.Stop.{Stop}
use Rattle.sq_ticks.specs.declared.run.Stop.TheVariants.{Memory, Read, TooLong, Write}
use Rattle.sq_top.specs.declared.session.Ending.TheVariants.{Finished}
use Rattle.sq_ticks.specs.declared.text.Text.{Text}
use Rattle.sq_ticks.proofs.CutLemmas.{lines_left}
use Rattle.sq_top.proofs.Endings.{finished_ends, long_ends, memory_ends, no_memory, read_ends, write_ends}
use Rattle.sq_ticks.proofs.LongTexts.{last_line_is, surely_stands, surely_within}
use Rattle.sq_ticks.proofs.PlayingOn.{consumes_chain}
use Rattle.sq_ticks.proofs.TextLemmas.{EndsText, ends_text, has_end, lines_after, text_before}

pub keeps_same : (x : Option (List ℕ)) → Keeps x x
keeps_same None = tt
keeps_same (Some x) = refl

-- ---- a text at the end of the input, whose last line is the end line
pub front_at_end : (text : Text) → IsOpen text.bytes.items text.line → is_end_line (drop text.line text.bytes.items) ≡ true → HasFront text.bytes.items text
front_at_end text so_far ends =
    let lines = last_line_is text.bytes.items text.line so_far ends in
    let E = ended [] text.bytes.items in
    let u = drop text.line text.bytes.items in
    record {
      ended = ap has_end_line lines ∙ has_end u ends [] E so_far.none;
      before = sym (ap text_before_end lines ∙ text_before u ends [] E so_far.none ∙ so_far.front);
    }

pub nothing_after : (text : Text) → IsOpen text.bytes.items text.line → is_end_line (drop text.line text.bytes.items) ≡ true → lines_after_end (lines_of text.bytes.items) ≡ []
nothing_after text so_far ends =
    ap lines_after_end (last_line_is text.bytes.items text.line so_far ends) ∙ lines_after (drop text.line text.bytes.items) ends [] (ended [] text.bytes.items) so_far.none

-- where the run stopped
pub stopped_ends : (limit workers : ℕ) (bytes : List ℕ) (source source_now out out_now : Seen) (p : Meant) (stop : Stop) → IsProgram bytes p → length bytes ≤ limit
    → StoppedWithin p out.bytes out_now.bytes out.faults out_now.faults (reports p (lines_after_end (lines_of bytes))) stop → IsEndOf limit workers bytes source source_now out out_now (ending_of stop)
stopped_ends limit workers bytes source source_now out out_now p Memory program short stopped = memory_ends limit workers bytes source source_now out out_now p program short stopped
stopped_ends limit workers bytes source source_now out out_now p Write program short stopped = write_ends limit workers bytes source source_now out out_now p program short stopped
stopped_ends limit workers bytes source source_now out out_now p Read program short stopped = absurd stopped
stopped_ends limit workers bytes source source_now out out_now p TooLong program short stopped = absurd stopped

-- ---- change lines behind the end line
module _ (text : Text) (is : IsEnded text.bytes.items text.line) (p : Meant) (accepted : (input : List ℕ) → HasFront input text → IsProgram input p) where
  pub program_of : (more : List ℕ) → IsProgram (front_of text ++ more) p
  program_of more = let e = ends_text text.bytes.items text.line more is in accepted (front_of text ++ more) (record { ended = e.has; before = e.text })

  pub changes_of : (more : List ℕ) → lines_after_end (lines_of (front_of text ++ more)) ≡ lines_of more
  changes_of more = (ends_text text.bytes.items text.line more is).changes

  -- the output of the whole ticks
  pub cut_off : (more : List ℕ) (taken now : Option (List ℕ)) → Appends taken now (texts_from p 0 (whole_reports p more)) → IsCutOff taken now (front_of text ++ more)
  cut_off more taken now told =
      let kept = up_to_last says_commit (ended [] more) in
      let left : cut (front_of text ++ more) ≡ front_of text ++ with_ends kept = (ends_text text.bytes.items text.line more is).left in
      let lines : lines_after_end (lines_of (front_of text ++ with_ends kept)) ≡ kept = changes_of (with_ends kept) ∙ lines_left says_commit more in
      inl (p, subst (λ bs. IsProgram bs p) (sym left) (program_of (with_ends kept)), subst (λ bs. Appends taken now (output p bs)) (sym left) (subst (λ ls. Appends taken now (texts_from p 0 (reports p ls))) (sym lines) told))

-- no change line was there
pub played_none : (limit workers shards : ℕ) (bytes : List ℕ) (source source_now out out_now : Seen) (p : Meant) (played : Played) → IsProgram bytes p → lines_after_end (lines_of bytes) ≡ []
    → played.refused ≡ list_any (λ r. is_refusal r.1) (reports p []) → shards ≡ workers → IsLeft p (reports p []) shards played.engine → IsAtEnd source_now.bytes → length bytes ≤ limit
    → Appends out.bytes out_now.bytes (texts_from p 0 (reports p [])) → IsEndOf limit workers bytes source source_now out out_now (Finished played)
played_none limit workers shards bytes source source_now out out_now p played program none refused same left ends short told =
    finished_ends limit workers bytes source source_now out out_now p played played.refused refl program
    (refused ∙ sym (ap (λ ls. list_any (λ r. is_refusal r.1) (reports p ls)) none)) ends short
    (subst (λ ls. Appends out.bytes out_now.bytes (texts_from p 0 (reports p ls))) (sym none) told)
    (subst (λ ls. IsLeft p (reports p ls) workers played.engine) (sym none) (subst (λ n. IsLeft p (reports p []) n played.engine) same left))

pub stopped_none : (limit workers : ℕ) (bytes : List ℕ) (source source_now out out_now : Seen) (p : Meant) (stop : Stop) → IsProgram bytes p → lines_after_end (lines_of bytes) ≡ [] → length bytes ≤ limit
    → StoppedWithin p out.bytes out_now.bytes out.faults out_now.faults (reports p []) stop → IsEndOf limit workers bytes source source_now out out_now (ending_of stop)
stopped_none limit workers bytes source source_now out out_now p stop program none short stopped =
    stopped_ends limit workers bytes source source_now out out_now p stop program short
    (subst (λ ls. StoppedWithin p out.bytes out_now.bytes out.faults out_now.faults (reports p ls) stop) (sym none) stopped)

-- ---- the change lines were played
module _ (text : Text) (is : IsEnded text.bytes.items text.line) (p : Meant) (accepted : (input : List ℕ) → HasFront input text → IsProgram input p) (limit workers : ℕ) (first : List ℕ) (source middle : Seen)
    (given : Consumes source.bytes middle.bytes (front_of text ++ first)) (before : ℕ) (long : length (front_of text ++ first) ≡ before) where
  abbrev all_with : List ℕ → List ℕ
  all_with rest = front_of text ++ (first ++ rest)

  given_with : (rest : List ℕ) (source_now : Seen) → Consumes middle.bytes source_now.bytes rest → Consumes source.bytes source_now.bytes (all_with rest)
  given_with rest source_now more =
      subst (Consumes source.bytes source_now.bytes) (append_assoc (front_of text) first rest) (consumes_chain source.bytes middle.bytes source_now.bytes (front_of text ++ first) rest given more)

  length_with : (rest : List ℕ) → length (all_with rest) ≡ before + length rest
  length_with rest = sym (ap length (append_assoc (front_of text) first rest)) ∙ length-append (front_of text ++ first) rest ∙ ap (λ n. n + length rest) long

  pub played_lines : (shards : ℕ) (source_now out out_now : Seen) (played : Played) → shards ≡ workers → IsPlayedOut p shards limit before first middle source_now out out_now played
      → EndsAs limit workers source source_now out out_now (Finished played)
  played_lines shards source_now out out_now played same h =
      let changes = changes_of text is p accepted (first ++ h.rest) in (
        all_with h.rest,
        given_with h.rest source_now h.given,
        finished_ends limit workers (all_with h.rest) source source_now out out_now p played played.refused refl (program_of text is p accepted (first ++ h.rest))
            (h.refused ∙ sym (ap (λ ls. list_any (λ r. is_refusal r.1) (reports p ls)) changes)) h.to_end (omega (arith, length_with h.rest, h.within))
            (subst (λ ls. Appends out.bytes out_now.bytes (texts_from p 0 (reports p ls))) (sym changes) h.told)
            (subst (λ ls. IsLeft p (reports p ls) workers played.engine) (sym changes) (subst (λ n. IsLeft p (reports p (lines_of (first ++ h.rest))) n played.engine) same h.engine)),
      )

  halted : (source_now out out_now : Seen) (stop : Stop) (rest beyond : List ℕ) → Consumes middle.bytes source_now.bytes (rest ++ beyond) → before + length rest ≤ limit → source.faults ≤ middle.faults
      → HaltsAt p limit (before + length rest) (first ++ rest) beyond middle source_now out out_now stop → EndsAs limit workers source source_now out out_now (ending_of stop)
  halted source_now out out_now Memory rest beyond more within later h = (
    all_with rest,
    given_with rest source_now (subst (Consumes middle.bytes source_now.bytes) (ap (λ b. rest ++ b) h.0 ∙ append-nil rest) more),
    stopped_ends limit workers (all_with rest) source source_now out out_now p Memory (program_of text is p accepted (first ++ rest)) (omega (arith, length_with rest, within))
        (subst (λ ls. StoppedWithin p out.bytes out_now.bytes out.faults out_now.faults (reports p ls) Memory) (sym (changes_of text is p accepted (first ++ rest))) h.1),
  )
  halted source_now out out_now Write rest beyond more within later h = (
    all_with rest,
    given_with rest source_now (subst (Consumes middle.bytes source_now.bytes) (ap (λ b. rest ++ b) h.0 ∙ append-nil rest) more),
    stopped_ends limit workers (all_with rest) source source_now out out_now p Write (program_of text is p accepted (first ++ rest)) (omega (arith, length_with rest, within))
        (subst (λ ls. StoppedWithin p out.bytes out_now.bytes out.faults out_now.faults (reports p ls) Write) (sym (changes_of text is p accepted (first ++ rest))) h.1),
  )
  halted source_now out out_now Read rest beyond more within later h = (
    all_with rest,
    given_with rest source_now (subst (Consumes middle.bytes source_now.bytes) (ap (λ b. rest ++ b) h.0 ∙ append-nil rest) more),
    read_ends limit workers (all_with rest) source source_now out out_now (omega (arith, length_with rest, within)) (omega (arith, h.1, later))
        (cut_off text is p accepted (first ++ rest) out.bytes out_now.bytes h.2),
  )
  halted source_now out out_now TooLong rest beyond more within later h =
      let full : length (all_with rest) ≡ limit = length_with rest ∙ h.1 in
      let front : take limit (all_with rest ++ beyond) ≡ all_with rest = ap (λ n. take n (all_with rest ++ beyond)) (sym full) ∙ take-append_seam (all_with rest) beyond in (
        all_with rest ++ beyond,
        subst (Consumes source.bytes source_now.bytes) (ap (λ t. front_of text ++ t) (sym (append_assoc first rest beyond)) ∙ sym (append_assoc (front_of text) (first ++ rest) beyond)) (given_with (rest ++ beyond) source_now more),
        long_ends limit workers (all_with rest ++ beyond) source source_now out out_now (omega (arith, full, h.0, length-append (all_with rest) beyond))
            (subst (IsCutOff out.bytes out_now.bytes) (sym front) (cut_off text is p accepted (first ++ rest) out.bytes out_now.bytes h.2)),
      )

  pub halted_lines : (source_now out out_now : Seen) (stop : Stop) → source.faults ≤ middle.faults → Halts p limit before first middle source_now out out_now stop → EndsAs limit workers source source_now out out_now (ending_of stop)
  halted_lines source_now out out_now stop later h = halted source_now out out_now stop h.rest h.beyond h.given h.within later h.halted

pub front_of_input : (text : Text) → IsEnded text.bytes.items text.line → (more : List ℕ) → HasFront (front_of text ++ more) text
front_of_input text is more = let e = ends_text text.bytes.items text.line more is in record { ended = e.has; before = e.text }

-- ---- a text that could not be judged
long_by : (bytes : List ℕ) (line : ℕ) (so_far : IsOpen bytes line) → longest_text < length (surely_before bytes) → (more : List ℕ) (has : Bool) → has_end_line (lines_of (bytes ++ more)) ≡ has
    → HasFault (bytes ++ more) TextTooLong
long_by bytes line so_far long more true has = text_too_long (bytes ++ more) has (omega (arith, long, surely_stands bytes more line so_far))
long_by bytes line so_far long more false has = no_end_too_long has (omega (arith, long, surely_within bytes more line so_far))

-- whatever comes behind it, it is too long
pub is_too_long : (bytes : List ℕ) (line : ℕ) → IsOpen bytes line → longest_text < length (surely_before bytes) → (more : List ℕ) → HasFault (bytes ++ more) TextTooLong
is_too_long bytes line so_far long more = long_by bytes line so_far long more _ refl

module _ (limit workers : ℕ) (source source_now out out_now : Seen) (bytes beyond : List ℕ) (given : Consumes source.bytes source_now.bytes (bytes ++ beyond)) (within : length bytes ≤ limit)
    (kept : Keeps out.bytes out_now.bytes) where
  exactly : beyond ≡ [] → Consumes source.bytes source_now.bytes bytes
  exactly none = subst (Consumes source.bytes source_now.bytes) (ap (λ b. bytes ++ b) none ∙ append-nil bytes) given

  stopped_at : (stop : Stop) → IsStoppedAt limit bytes beyond source source_now stop → EndsAs limit workers source source_now out out_now (ending_of stop)
  stopped_at Memory h = (bytes, exactly h, no_memory limit workers bytes source source_now out out_now within kept)
  stopped_at Read h = (bytes, exactly h.0, read_ends limit workers bytes source source_now out out_now within h.1 (inr (h.2, kept)))
  stopped_at TooLong h =
      let front : take limit (bytes ++ beyond) ≡ bytes = ap (λ n. take n (bytes ++ beyond)) (sym h.1) ∙ take-append_seam bytes beyond in (
        bytes ++ beyond,
        given,
        long_ends limit workers (bytes ++ beyond) source source_now out out_now (omega (arith, h.0, h.1, length-append bytes beyond))
            (subst (IsCutOff out.bytes out_now.bytes) (sym front) (inr (h.2, kept))),
      )
  stopped_at Write h = absurd h

pub unfound_ends : (limit workers : ℕ) (source source_now out out_now : Seen) (stop : Stop) → Keeps out.bytes out_now.bytes → IsUnfound limit source source_now stop
    → EndsAs limit workers source source_now out out_now (ending_of stop)
unfound_ends limit workers source source_now out out_now stop kept h = stopped_at limit workers source source_now out out_now h.bytes h.beyond h.given h.within kept stop h.stopped
