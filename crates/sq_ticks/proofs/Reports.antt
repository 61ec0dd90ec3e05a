-- What one more line does to the ticks that are to come.
use Rattle.std.specs.Prelude.{◌||◌, if◌then◌else◌}
use Rattle.std.proofs.Common.{◌≡◌, ℕ, ◌+◌, ◌<◌, List, [], ◌∷◌, ◌++◌, length, Bool, true, false, Option, refl, sym, ap, ap₂, subst, ◌∙◌, arith, append-nil, append_assoc}
use Rattle.std.specs.List.{list_all, list_any, onto_first}
use Rattle.std.specs.Prelude.{IfErr, Result}
use Rattle.std.proofs.lemmas.List.Splits.{length-slice_split}
use Rattle.sq_engine.specs.Engines.{State}
use Rattle.sq_expr.proofs.Lists.{all_append}
use Rattle.sq_lines.specs.Lines.{is_commit, is_blank}
use Rattle.sq_lines.specs.declared.line.Line.{Line}
use Rattle.sq_typed.specs.Views.{shown}
use Rattle.sq_typed.specs.Tables.{Tables}
use Rattle.sq_typed.specs.Views.{Meant}
use Rattle.sq_print.specs.declared.refusal.Refusal.TheVariants.{Unfinished}
use Rattle.sq_ticks.specs.declared.run.Run.{Run}
use Rattle.sq_ticks.specs.declared.run.Stop.{Stop}
use Rattle.sq_ticks.specs.Ticks.{Report, is_refusal, outcome, refused, tables_after, ticks_of, reports_from}
use Rattle.sq_ticks.specs.Fits.{Fits}
use Rattle.sq_ticks.specs.Texts.{tick_text}
use Rattle.sq_ticks.specs.Output.{texts_from}
use Rattle.sq_ticks.specs.Sums.{tables_now}
use Rattle.sq_ticks.specs.Runs.{in_front, still, brought, IsAt, IsClosed, Goes, Stands, Stopped}
use Rattle.sq_ticks.proofs.TickLemmas.{room_taken}

reports_commit : (p : Meant) (tables : Tables) (lines : List Line) (ticks : List (List Line)) → 0 < length ticks
    → reports_from p tables ((lines ++ []) ∷ ticks)
    ≡ (shown p tables, outcome p tables lines) ∷ reports_from p (tables_after tables (outcome p tables lines)) (in_front [] ticks)
reports_commit p tables lines [] some = absurd (omega arith)
reports_commit p tables lines (tick ∷ ticks) some = rw (append-nil lines) refl

pub some_ticks : (lines : List Line) → 0 < length (ticks_of lines)
some_ticks lines = omega (arith, length-slice_split is_commit lines)

-- a commit line brings the tick of the lines before it
pub still_commit : (p : Meant) (lists now : Tables) (waiting after : List Line) (line : Line) (later : List Line) → is_commit line ≡ true
    → now ≡ tables_after lists (outcome p lists waiting) → after ≡ [] → still p lists waiting (line ∷ later) ≡ brought p lists waiting line ++ still p now after later
still_commit p lists now waiting after line later e moved none =
    rw (e, moved, none) (reports_commit p lists waiting (ticks_of later) (some_ticks later))

in_one : (b c : Bool) → (c || b) ≡ (c || (b || false))
in_one true c = refl
in_one false c = refl

-- behind a commit line the run goes on as behind its tick
pub goes_closed : (p : Meant) (lists now : Tables) (before middle after : Run) (line : Line) → is_commit line ≡ true
    → middle.lines ≡ before.lines → middle.engine ≡ before.engine → middle.tick ≡ before.tick → middle.refused ≡ before.refused → middle.read ≡ before.read + 1
    → IsClosed p lists middle now after → Goes p lists before line now after
goes_closed p lists now before middle after line e lines engine tick as_before read closed =
    let one : brought p lists before.lines.items line ≡ (shown p lists, outcome p lists before.lines.items) ∷ [] = rw e refl in
    let same = ap (λ ls. ls.items) lines in
    let moved : now ≡ tables_after lists (outcome p lists before.lines.items) = closed.tables ∙ ap (λ ls. tables_after lists (outcome p lists ls)) same in
    record {
      stands = closed.stands;
      still = λ later. still_commit p lists now before.lines.items after.lines.items line later e moved closed.lines;
      tables = moved ∙ sym (ap (tables_now lists) one);
      shards = closed.shards ∙ ap (λ x. x.shards) engine;
      read = closed.read ∙ read;
      tick = omega (arith, closed.tick, tick, ap length one);
      refused = closed.refused ∙ ap₂ (λ b ls. b || is_refusal (outcome p lists ls)) as_before same ∙ in_one (is_refusal (outcome p lists before.lines.items)) before.refused ∙ sym (ap (λ rs. before.refused || list_any (λ r. is_refusal r.1) rs) one);
    }

in_front_onto : (waiting : List Line) (line : Line) (ticks : List (List Line)) → in_front waiting (onto_first line ticks) ≡ in_front (waiting ++ line ∷ []) ticks
in_front_onto waiting line [] = refl
in_front_onto waiting line (tick ∷ ticks) = ap (λ t. t ∷ ticks) (sym (append_assoc waiting (line ∷ []) tick))

still_on : (p : Meant) (lists : Tables) (waiting : List Line) (line : Line) (later : List Line) → is_commit line ≡ false
    → still p lists waiting (line ∷ later) ≡ still p lists (waiting ++ line ∷ []) later
still_on p lists waiting line later e = rw e (ap (reports_from p lists) (in_front_onto waiting line (ticks_of later)))

none_in : (c : Bool) → c ≡ (c || false)
none_in true = refl
none_in false = refl

-- a run that has read one line more
pub read_more : (p : Meant) (lists : Tables) (n : ℕ) (engine : State) (lines : List Line) → Stands p lists n engine lines → Stands p lists (n + 1) engine lines
read_more p lists n engine lines stands = record { over = stands.over; fit = stands.fit; room = λ t. let room = stands.room t in omega (arith, room) }

-- behind any other line the run goes on with the line among those that wait
pub goes_on : (p : Meant) (lists : Tables) (before after : Run) (line : Line) → is_commit line ≡ false → IsAt p lists before → Fits p.catalog line
    → after.lines.items ≡ before.lines.items ++ line ∷ [] → after.engine ≡ before.engine → after.read ≡ before.read + 1 → after.tick ≡ before.tick
    → after.refused ≡ before.refused → Goes p lists before line lists after
goes_on p lists before after line e at fits lines engine read tick refused_now =
    let nothing : brought p lists before.lines.items line ≡ [] = rw e refl in
    record {
      stands = rw (lines, engine, read) (record {
        over = at.over;
        fit = all_append (Fits p.catalog) before.lines.items (line ∷ []) at.fit (fits, tt);
        room = room_taken lists before.lines.items line before.read at.room;
      });
      still = λ later. still_on p lists before.lines.items line later e ∙ sym (ap (λ ls. still p lists ls later) lines) ∙ sym (ap (λ rs. rs ++ still p lists after.lines.items later) nothing);
      tables = sym (ap (tables_now lists) nothing);
      shards = ap (λ x. x.shards) engine;
      read = read;
      tick = omega (arith, tick, ap length nothing);
      refused = refused_now ∙ none_in before.refused ∙ sym (ap (λ rs. before.refused || list_any (λ r. is_refusal r.1) rs) nothing);
    }

pub texts_commit : (p : Meant) (tick : ℕ) (lists : Tables) (waiting : List Line) (line : Line) → is_commit line ≡ true
    → tick_text p tick (shown p lists) (outcome p lists waiting) ≡ texts_from p tick (brought p lists waiting line)
texts_commit p tick lists waiting line e = rw e (sym (append-nil (tick_text p tick (shown p lists) (outcome p lists waiting))))

pub stopped_same : {T : Type 0} (taken now : Option (List ℕ)) (before after : ℕ) (text same : List ℕ) (r : Result T Stop) → text ≡ same
    → IfErr r (Stopped taken now before after text) → IfErr r (Stopped taken now before after same)
stopped_same taken now before after text same r e h = subst (λ t. IfErr r (Stopped taken now before after t)) e h

-- with no line left, what is still to come is at most an unfinished tick
pub still_end : (p : Meant) (lists : Tables) (waiting : List Line) → still p lists waiting [] ≡ (if list_all is_blank waiting then [] else (shown p lists, refused Unfinished) ∷ [])
still_end p lists waiting = rw (append-nil waiting) refl

begins : (p : Meant) (lists : Tables) (waiting : List Line) (line : Line) (later : List Line) (b : Bool) → is_commit line ≡ b
    → (rest : List Report) × (still p lists waiting (line ∷ later) ≡ brought p lists waiting line ++ rest)
begins p lists waiting line later true e = (
  reports_from p (tables_after lists (outcome p lists waiting)) (in_front [] (ticks_of later)),
  rw e (reports_commit p lists waiting (ticks_of later) (some_ticks later)),
)
begins p lists waiting line later false e = (still p lists waiting (line ∷ later), rw e refl)

-- what is still to come begins with what the next line brings
pub still_begins : (p : Meant) (lists : Tables) (waiting : List Line) (line : Line) (later : List Line)
    → (rest : List Report) × (still p lists waiting (line ∷ later) ≡ brought p lists waiting line ++ rest)
still_begins p lists waiting line later = begins p lists waiting line later (is_commit line) refl
