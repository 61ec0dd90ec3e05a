-- What becomes of a tick, in the engine and in the lists.
use Rattle.std.specs.Prelude.{◌||◌}
use Rattle.std.proofs.Common.{◌≡◌, ℕ, ◌+◌, List, [], Ok, None, Vec, Global, sym, ap, ap₂, subst, ◌∙◌}
use Rattle.sq_catalog.specs.declared.relation.Relation.{Relation}
use Rattle.sq_circuit.specs.Nodes.{Rows}
use Rattle.sq_circuit.specs.declared.circuit.Part.{Part}
use Rattle.sq_engine.specs.Admitting.{made}
use Rattle.sq_engine.specs.Engines.{State, no_tables, views_over, with_changes}
use Rattle.sq_plan.specs.Program.{IsPlanOf}
use Rattle.sq_lines.specs.declared.line.Line.{Line}
use Rattle.sq_print.specs.Texts.{told_block}
use Rattle.sq_typed.specs.Tables.{Tables}
use Rattle.sq_typed.specs.Views.{Meant, shown}
use Rattle.sq_ticks.specs.Judgements.{first_text}
use Rattle.sq_ticks.specs.Over.{IsOver, first_bad, updates_in_front}
use Rattle.sq_ticks.specs.Runs.{IsAt, IsClosed, IsEndedBy, IsPlayed, Stands, refuses, told_outcome}
use Rattle.sq_ticks.specs.Texts.{tick_text}
use Rattle.sq_ticks.specs.Ticks.{is_refusal, outcome, refused, tables_after}
use Rattle.sq_ticks.specs.Updates.{updates_of}
use Rattle.sq_ticks.specs.declared.run.Run.{Run}
use Rattle.sq_ticks.specs.declared.tick.Outcome.{Outcome}
use Rattle.sq_ticks.specs.declared.tick.Outcome.TheVariants.{Accepted, Refused}
use Rattle.sq_ticks.proofs.OverLemmas.{first_block}
use Rattle.sq_ticks.proofs.TickLemmas.{room_refused, tick_accepted, tick_out_of_range}

-- a tick that was admitted, none of whose lines is bad
pub played_on : (p : Meant) (lists : Tables) (n : ℕ) (before after : State) (lines : List Line) (delta : List Rows) (o : Outcome) → Stands p lists n before lines
    → made before.tables (updates_in_front lines) ≡ Ok (with_changes before.tables delta) → first_bad lines ≡ None → IsEndedBy p before delta o after → IsPlayed p lists n before lines o after
played_on p lists n before after lines delta (Accepted changes) stands admitted good ended =
    let a = tick_accepted p lists before lines delta stands.over stands.fit admitted good ended.2 in (
      record {
        now = a.now;
        outcome = a.outcome;
        stands = record { over = subst (IsOver p a.now) (sym ended.1) a.over; fit = tt; room = a.room n stands.room };
        told = λ tick. ap (told_block p.catalog tick) ended.0 ∙ a.text tick;
      },
      ap (λ (s : State). s.shards) ended.1,
    )
played_on p lists n before after lines delta (Refused why) stands admitted good ended =
    (tick_out_of_range p lists before lines delta ended.0 stands.over stands.fit admitted good ended.1 ∙ ap refused (sym ended.2), ended.3)

-- what is printed of it, and whether it is a refusal
pub told_played : (p : Meant) (tick : ℕ) (lists : Tables) (n : ℕ) (before after : State) (lines : List Line) (o : Outcome) → IsPlayed p lists n before lines o after
    → told_outcome p.catalog tick o ≡ tick_text p tick (shown p lists) (outcome p lists lines)
told_played p tick lists n before after lines (Accepted changes) h = h.0.told tick ∙ sym (ap (tick_text p tick (shown p lists)) h.0.outcome)
told_played p tick lists n before after lines (Refused why) h = sym (ap (tick_text p tick (shown p lists)) h.0)

refused_played : (p : Meant) (lists : Tables) (n : ℕ) (before after : State) (lines : List Line) (o : Outcome) → IsPlayed p lists n before lines o after
    → refuses o ≡ is_refusal (outcome p lists lines)
refused_played p lists n before after lines (Accepted changes) h = sym (ap is_refusal h.0.outcome)
refused_played p lists n before after lines (Refused why) h = sym (ap is_refusal h.0)

-- block 0
pub first_told : (p : Meant) (c : List Part) (relations : List Relation) (views : List Rows) (text : List ℕ) → IsPlanOf p c → relations ≡ p.catalog
    → views ≡ views_over c (no_tables c) → text ≡ told_block relations 0 views → text ≡ first_text p
first_told p c relations views text plan same are is = is ∙ ap₂ (λ rs vs. told_block rs 0 vs) same are ∙ first_block p c plan

abbrev Closed : Meant → Tables → Run → Run → Type 0
Closed p lists before after = (now : Tables) × IsClosed p lists before now after

closed_at : (p : Meant) (lists now : Tables) (before after : Run) (o : Outcome) → Stands p now before.read after.engine [] → now ≡ tables_after lists (outcome p lists before.lines.items)
    → after.engine.shards ≡ before.engine.shards → refuses o ≡ is_refusal (outcome p lists before.lines.items)
    → after.lines.items ≡ [] → after.read ≡ before.read → after.tick ≡ before.tick + 1 → after.refused ≡ (before.refused || refuses o) → IsClosed p lists before now after
closed_at p lists now before after o stands tables shards refuses_it none read tick refused_now = record {
  stands = rw (read, none) stands;
  tables = tables;
  shards = shards;
  lines = none;
  read = read;
  tick = tick;
  refused = refused_now ∙ ap (λ b. before.refused || b) refuses_it;
}

-- the run behind the tick
pub closed : (p : Meant) (lists : Tables) (before after : Run) (o : Outcome) → IsAt p lists before → IsPlayed p lists before.read before.engine before.lines.items o after.engine
    → after.lines.items ≡ [] → after.read ≡ before.read → after.tick ≡ before.tick + 1 → after.refused ≡ (before.refused || refuses o) → Closed p lists before after
closed p lists before after (Accepted changes) stands h none read tick refused_now = (
  h.0.now,
  closed_at p lists h.0.now before after (Accepted changes) h.0.stands (sym (ap (tables_after lists) h.0.outcome)) h.1
      (refused_played p lists before.read before.engine after.engine before.lines.items (Accepted changes) h) none read tick refused_now,
)
closed p lists before after (Refused why) stands h none read tick refused_now = (
  lists,
  closed_at p lists lists before after (Refused why)
      (record { over = subst (IsOver p lists) (sym h.1) stands.over; fit = tt; room = room_refused lists (updates_of before.lines.items) before.read stands.room })
      (sym (ap (tables_after lists) h.0)) (ap (λ (s : State). s.shards) h.1)
      (refused_played p lists before.read before.engine after.engine before.lines.items (Refused why) h) none read tick refused_now,
)

-- what became of the tick of lines that were taken out of a run
pub played_by : (p : Meant) (lists : Tables) (run : Run) (lines : Vec Line Global) (o : Outcome) (after : State) → lines ≡ run.lines → IsAt p lists run
    → (Stands p lists run.read run.engine lines.items → IsPlayed p lists run.read run.engine lines.items o after) → IsPlayed p lists run.read run.engine run.lines.items o after
played_by p lists run lines o after same at gives =
    subst (λ (ls : Vec Line Global). IsPlayed p lists run.read run.engine ls.items o after) same
    (gives (subst (λ (ls : Vec Line Global). Stands p lists run.read run.engine ls.items) (sym same) at))
