-- What a tick over the engine is over the lists of rows: what becomes of it, and how many rows the tables have.
use Rattle.std.proofs.Common.{◌≡◌, ℕ, zero, suc, ◌+◌, ◌^◌, ◌<◌, ◌≤◌, ◌==◌, ◌&&◌, Bool, true, false, cond, List, [], ◌∷◌, ◌++◌, length, map, pos, Ok, Err, refl, sym, ap, ap₂, subst, ◌∙◌, arith, length-append}
use Rattle.std.specs.Prelude.{if◌then◌else◌, Option, Some, None, option_map, slice_get}
use Rattle.std.specs.declared.result.Result.{Result}
use Rattle.std.specs.List.{AllByRecursion, filter}
use Rattle.std.specs.Ordering.{is_eq}
use Rattle.std.proofs.lemmas.Bool.Decides.{Decides-eqb}
use Rattle.std.proofs.lemmas.Option.{same_Some}
use borrow.Author.Differences.{ints}
use Rattle.sq_value.specs.Order.{row_cmp}
use Rattle.sq_algebra.specs.ZSet.{of_list, total}
use Rattle.sq_zset.proofs.Rows.{total-of_list}
use Rattle.sq_catalog.specs.Sorts.{tables_of}
use Rattle.sq_catalog.specs.declared.relation.Relation.{Relation}
use Rattle.sq_circuit.specs.Circuits as circuits
use Rattle.sq_circuit.specs.Circuits.{kinds_at, kinds_in, table_at}
use Rattle.sq_circuit.specs.Nodes.{Rows}
use Rattle.sq_engine.specs.Admitting as admitting
use Rattle.sq_engine.specs.Admitting.{AreOfLists, MayAdmit, in_z_sets, inserted, made}
use Rattle.sq_engine.specs.Engines.{State, views_between, with_changes}
use Rattle.sq_engine.proofs.FromLists.{absent_lists, moved_lists}
use Rattle.sq_expr.specs.Kinds.{AreOfKinds}
use Rattle.sq_lines.specs.Fit.{UpdateFits}
use Rattle.sq_lines.specs.declared.line.Line.{Line}
use Rattle.sq_lines.specs.declared.line.Line.TheVariants as line
use Rattle.sq_plan.specs.Program.{table_kinds}
use Rattle.sq_print.specs.Texts.{told_block}
use Rattle.sq_typed.specs.Fit.{TablesAreOfKinds, kinds_of}
use Rattle.sq_typed.specs.From.{Row}
use Rattle.sq_typed.specs.Laws.{rows_in}
use Rattle.sq_typed.specs.Tables.{Tables, after, at_table, changed_rows, go_on, removed}
use Rattle.sq_typed.specs.Views.{Meant, verdict}
use Rattle.sq_typed.specs.declared.update.Update.{Update}
use Rattle.sq_typed.proofs.Tests.{mapped_some}
use Rattle.sq_typed.proofs.UpdateLemmas.{as_many_after}
use Rattle.sq_ticks.specs.Fits.{Fits}
use Rattle.sq_ticks.specs.Over.{HasRoom, IsAccepted, IsOver, first_bad, outcome_by, updates_in_front}
use Rattle.sq_compile.specs.Relations.{empty_tables, view_name}
use Rattle.sq_ticks.specs.Ticks.{after_update, ended, outcome, refused}
use Rattle.sq_ticks.specs.Updates.{updates_of}
use Rattle.sq_print.specs.declared.refusal.Refusal.TheVariants.{Absent, Malformed, Range}
use Rattle.sq_compile.proofs.EmptyTables.{kinds_by_table, many_mapped, none_is}
use Rattle.sq_ticks.proofs.OverLemmas.{block_told}
use Rattle.sq_ticks.proofs.TableLemmas.{kinds_updated}

-- ---- the lines of a tick

goes_on : (p : Meant) (n : ℕ) (lines : List Line) (tables : Option Tables)
    → ((now : Tables) → outcome p now lines ≡ outcome_by p (first_bad lines) (after now (updates_in_front lines)))
    → after_update n (λ now. outcome p now lines) tables ≡ outcome_by p (first_bad lines) (go_on n (λ now. after now (updates_in_front lines)) tables)
goes_on p n lines None same = refl
goes_on p n lines (Some now) same = same now

-- a tick makes the updates in front of its first bad line
pub outcome_of_lines : (p : Meant) (lists : Tables) (lines : List Line) → outcome p lists lines ≡ outcome_by p (first_bad lines) (after lists (updates_in_front lines))
outcome_of_lines p lists [] = refl
outcome_of_lines p lists (line.Update u ∷ lines) = goes_on p u.line lines (at_table (changed_rows u) u.table lists) (λ now. outcome_of_lines p now lines)
outcome_of_lines p lists (line.Commit ∷ lines) = outcome_of_lines p lists lines
outcome_of_lines p lists (line.Blank ∷ lines) = outcome_of_lines p lists lines
outcome_of_lines p lists (line.Bad n why ∷ lines) = refl

-- what holds of each update that fits holds of those in front of the first bad line
module _ (relations : List Relation) (P : Update → Type 0) (each : (n : ℕ) (u : Update) → UpdateFits relations n u → P u) where
  all_in_front : (lines : List Line) → AllByRecursion (Fits relations) lines → AllByRecursion P (updates_in_front lines)
  all_in_front [] fits = tt
  all_in_front (line.Update u ∷ lines) fits = (each fits.0.0 u fits.0.1, all_in_front lines fits.1)
  all_in_front (line.Commit ∷ lines) fits = all_in_front lines fits.1
  all_in_front (line.Blank ∷ lines) fits = all_in_front lines fits.1
  all_in_front (line.Bad n why ∷ lines) fits = tt

same_lists : (a b : Tables) → ◌≡◌ {A = Result Tables ℕ} (Ok a) (Ok b) → a ≡ b
same_lists a b e = cc

-- they keep the kinds of the tables
kinds_through : (relations : List Relation) (lines : List Line) (lists now : Tables) → AllByRecursion (Fits relations) lines → after lists (updates_in_front lines) ≡ Ok now
    → TablesAreOfKinds lists relations → TablesAreOfKinds now relations
kinds_through relations [] lists now fits e h = subst (λ ts. TablesAreOfKinds ts relations) (same_lists lists now e) h
kinds_through relations (line.Update u ∷ lines) lists now fits e h =
    elim (at_table (changed_rows u) u.table lists) as (λ x. at_table (changed_rows u) u.table lists ≡ x → go_on u.line (λ now. after now (updates_in_front lines)) x ≡ Ok now → TablesAreOfKinds now relations) [
      | None ↦ λ was e. absurd (cc)
      | Some mid ↦ λ was e. kinds_through relations lines mid now fits.1 e (kinds_updated relations fits.0.0 u lists mid fits.0.1 was h)
    ] refl e
kinds_through relations (line.Commit ∷ lines) lists now fits e h = kinds_through relations lines lists now fits.1 e h
kinds_through relations (line.Blank ∷ lines) lists now fits e h = kinds_through relations lines lists now fits.1 e h
kinds_through relations (line.Bad n why ∷ lines) lists now fits e h = subst (λ ts. TablesAreOfKinds ts relations) (same_lists lists now e) h

-- ---- how many updates put rows into a table

one_counted : (b : Bool) (u : Update) (us : List Update) → length (if b then u ∷ us else us) ≡ cond b 1 0 + length us
one_counted true u us = omega arith
one_counted false u us = omega arith

in_front_of : (t : ℕ) (u : Update) (us : List Update) → inserted t (u ∷ us) ≡ cond (u.insert && (u.table == t)) 1 0 + inserted t us
in_front_of t u us = one_counted (u.insert && (u.table == t)) u (filter (λ (v : Update). v.insert && (v.table == t)) us)

fewer_in_front : (t : ℕ) (lines : List Line) → inserted t (updates_in_front lines) ≤ inserted t (updates_of lines)
fewer_in_front t [] = omega arith
fewer_in_front t (line.Update u ∷ lines) =
    let few = in_front_of t u (updates_in_front lines) in
    let all = in_front_of t u (updates_of lines) in
    let rest = fewer_in_front t lines in
    omega arith
fewer_in_front t (line.Commit ∷ lines) = fewer_in_front t lines
fewer_in_front t (line.Blank ∷ lines) = fewer_in_front t lines
fewer_in_front t (line.Bad n why ∷ lines) = omega arith

at_most_one : (b : Bool) → cond b 1 0 ≤ 1
at_most_one true = omega arith
at_most_one false = omega arith

one_more : (t : ℕ) (l : Line) → inserted t (updates_of (l ∷ [])) ≤ 1
one_more t (line.Update u) = let count = in_front_of t u [] in let few = at_most_one (u.insert && (u.table == t)) in omega arith
one_more t line.Commit = omega arith
one_more t line.Blank = omega arith
one_more t (line.Bad n why) = omega arith

more_behind : (t : ℕ) (lines : List Line) (l : Line) → inserted t (updates_of (lines ++ l ∷ [])) ≤ inserted t (updates_of lines) + 1
more_behind t [] l = one_more t l
more_behind t (line.Update u ∷ lines) l =
    let now = in_front_of t u (updates_of (lines ++ l ∷ [])) in
    let before = in_front_of t u (updates_of lines) in
    let rest = more_behind t lines l in
    omega arith
more_behind t (line.Commit ∷ lines) l = more_behind t lines l
more_behind t (line.Blank ∷ lines) l = more_behind t lines l
more_behind t (line.Bad n why ∷ lines) l = more_behind t lines l

-- ---- how many rows a table gets

shorter : (row : Row) (rows rest : List Row) → removed row rows ≡ Some rest → length rest ≤ length rows
shorter row [] rest e = absurd (cc)
shorter row (r ∷ rows) rest e =
    elim (is_eq (row_cmp row r)) as (λ b. (if b then Some rows else option_map (λ rest. r ∷ rest) (removed row rows)) ≡ Some rest → length rest ≤ length (r ∷ rows)) [
      | true ↦ λ e. let is = ap length (same_Some rows rest e) in omega arith
      | false ↦ λ e.
          let m = mapped_some (λ rest. r ∷ rest) (removed row rows) rest e in
          let is : suc (length m.value) ≡ length rest = ap length m.is in
          let low = shorter row rows m.value m.was in
          omega arith
    ] e

changed_grows : (u : Update) (rows now : List Row) (b : ℕ) → changed_rows u rows ≡ Some now → (u.insert ≡ true → 1 ≤ b) → length now ≤ length rows + b
changed_grows u rows now b e one =
    elim u.insert as (λ i. (if i then Some (rows ++ u.row ∷ []) else removed u.row rows) ≡ Some now → (i ≡ true → 1 ≤ b) → length now ≤ length rows + b) [
      | true ↦ λ e one.
          let is : length (rows ++ u.row ∷ []) ≡ length now = ap length (same_Some (rows ++ u.row ∷ []) now e) in
          let long : length (rows ++ u.row ∷ []) ≡ length rows + 1 = length-append rows (u.row ∷ []) in
          let have = one refl in
          omega arith
      | false ↦ λ e one. let few = shorter u.row rows now e in omega arith
    ] e one

one_grows : (u : Update) (n t : ℕ) (lists mid : Tables) (b : ℕ) → at_table (changed_rows u) n lists ≡ Some mid → (n ≡ t → u.insert ≡ true → 1 ≤ b)
    → length (rows_in mid t) ≤ length (rows_in lists t) + b
one_grows u n t [] mid b e one = absurd (cc)
one_grows u zero zero (rows ∷ lists) mid b e one =
    let m = mapped_some (λ now. now ∷ lists) (changed_rows u rows) mid e in
    subst (λ (ts : Tables). length (rows_in ts zero) ≤ length rows + b) m.is (changed_grows u rows m.value b m.was (one refl))
one_grows u zero (suc t) (rows ∷ lists) mid b e one =
    let m = mapped_some (λ now. now ∷ lists) (changed_rows u rows) mid e in
    subst (λ (ts : Tables). length (rows_in ts (suc t)) ≤ length (rows_in lists t) + b) m.is (omega arith)
one_grows u (suc n) zero (rows ∷ lists) mid b e one =
    let m = mapped_some (λ rest. rows ∷ rest) (at_table (changed_rows u) n lists) mid e in
    subst (λ (ts : Tables). length (rows_in ts zero) ≤ length rows + b) m.is (omega arith)
one_grows u (suc n) (suc t) (rows ∷ lists) mid b e one =
    let m = mapped_some (λ rest. rows ∷ rest) (at_table (changed_rows u) n lists) mid e in
    subst (λ (ts : Tables). length (rows_in ts (suc t)) ≤ length (rows_in lists t) + b) m.is
    (one_grows u n t lists m.value b m.was (λ here. one (ap suc here)))

counts_one : (u : Update) (t : ℕ) → u.table ≡ t → u.insert ≡ true → 1 ≤ cond (u.insert && (u.table == t)) 1 0
counts_one u t here is =
    let same : (u.table == t) ≡ true = (Decides-eqb u.table t).1 here in
    subst (λ (b : Bool). 1 ≤ cond b 1 0) (sym (ap₂ ◌&&◌ is same)) (omega arith)

-- a table gets no more rows than the updates put into it
grown : (lists : Tables) (us : List Update) (now : Tables) → after lists us ≡ Ok now → (t : ℕ) → length (rows_in now t) ≤ length (rows_in lists t) + inserted t us
grown lists [] now e t = let same = ap (λ (ts : Tables). length (rows_in ts t)) (same_lists lists now e) in omega arith
grown lists (u ∷ us) now e t =
    elim (at_table (changed_rows u) u.table lists) as (λ x. at_table (changed_rows u) u.table lists ≡ x → go_on u.line (λ now. after now us) x ≡ Ok now → length (rows_in now t) ≤ length (rows_in lists t) + inserted t (u ∷ us)) [
      | None ↦ λ was e. absurd (cc)
      | Some mid ↦ λ was e.
          let first = one_grows u u.table t lists mid (cond (u.insert && (u.table == t)) 1 0) was (counts_one u t) in
          let rest = grown mid us now e t in
          let count = in_front_of t u us in
          omega arith
    ] refl e

-- ---- room

no_rows_in : (rs : List Relation) (t : ℕ) → rows_in (map (λ (r : Relation). []) rs) t ≡ []
no_rows_in [] t = refl
no_rows_in (r ∷ rs) zero = refl
no_rows_in (r ∷ rs) (suc t) = no_rows_in rs t

pub room_begun : (p : Meant) (n : ℕ) → HasRoom (empty_tables p.catalog) [] n
room_begun p n t = let long : length (rows_in (empty_tables p.catalog) t) ≡ 0 = ap length (no_rows_in (tables_of p.catalog) t) in omega arith

pub room_taken : (lists : Tables) (lines : List Line) (l : Line) (n : ℕ) → HasRoom lists (updates_of lines) n → HasRoom lists (updates_of (lines ++ l ∷ [])) (n + 1)
room_taken lists lines l n room t = let few = room t in let more = more_behind t lines l in omega arith

pub room_refused : (lists : Tables) (us : List Update) (n : ℕ) → HasRoom lists us n → HasRoom lists [] n
room_refused lists us n room t = let few = room t in omega arith

-- ---- the tables of an engine

total_at : (lists : Tables) (t : ℕ) → total (table_at (in_z_sets lists) t) ≡ pos (length (rows_in lists t))
total_at [] t = ap total none_is ∙ total-of_list []
total_at (rows ∷ lists) zero = total-of_list rows
total_at (rows ∷ lists) (suc t) = total_at lists t

got_mapped : {A B : Type 0} (f : A → B) (xs : List A) (t : ℕ) (x : A) → slice_get xs t ≡ Some x → slice_get (map f xs) t ≡ Some (f x)
got_mapped f [] t x e = absurd (cc e)
got_mapped f (y ∷ xs) zero x e = ap (λ z. Some (f z)) (same_Some y x e)
got_mapped f (y ∷ xs) (suc t) x e = got_mapped f xs t x e

module _ (p : Meant) (lists : Tables) (e : State) (over : IsOver p lists e) where
  many_tables : length e.tables ≡ length (tables_of p.catalog)
  many_tables = ap length over.tables ∙ many_mapped (of_list row_cmp) lists ∙ over.many

  fits_kinds : (n : ℕ) (u : Update) → UpdateFits p.catalog n u → AreOfKinds u.row (kinds_at e.circuit u.table)
  fits_kinds n u fits =
      let kinds : slice_get (table_kinds p.catalog) u.table ≡ Some (kinds_of fits.table) =
      ap (λ ks. slice_get ks u.table) (kinds_by_table p.catalog) ∙ got_mapped kinds_of (tables_of p.catalog) u.table fits.table fits.found in
      subst (AreOfKinds u.row) (sym (ap kinds_in (over.plan.tables.each u.table (kinds_of fits.table) kinds))) fits.of_kinds

  of_lists : (lines : List Line) → AllByRecursion (Fits p.catalog) lines → AreOfLists e.tables lists (updates_in_front lines)
  of_lists lines fits = record {
    same = over.tables;
    inside = all_in_front p.catalog (λ u. u.table < length lists) (λ n u is. let many = over.many in let low = is.is_table in omega arith) lines fits;
  }

-- ---- a tick over an engine

-- the engine may be asked for the updates in front of the first bad line
pub may_be_admitted : (p : Meant) (lists : Tables) (e : State) (lines : List Line) (n : ℕ) → IsOver p lists e → AllByRecursion (Fits p.catalog) lines
    → HasRoom lists (updates_of lines) n → n ≤ 2 ^ 61 → MayAdmit e (updates_in_front lines)
may_be_admitted p lists e lines n over fits room few = record {
  inside = all_in_front p.catalog (λ u. u.table < length e.tables) (λ n u is. let many = many_tables p lists e over in let low = is.is_table in omega arith) lines fits;
  of_kinds = all_in_front p.catalog (λ u. AreOfKinds u.row (kinds_at e.circuit u.table)) (fits_kinds p lists e over) lines fits;
  few = λ t.
      let rows : total (table_at e.tables t) ≡ pos (length (rows_in lists t)) = ap (λ ts. total (table_at ts t)) over.tables ∙ total_at lists t in
      let have = room t in
      let fewer = fewer_in_front t lines in
      omega (arith, ints);
}

pub tick_absent : (p : Meant) (lists : Tables) (e : State) (lines : List Line) (line : ℕ) → IsOver p lists e → AllByRecursion (Fits p.catalog) lines
    → made e.tables (updates_in_front lines) ≡ Err line → outcome p lists lines ≡ refused (Absent line)
tick_absent p lists e lines line over fits lacking =
    outcome_of_lines p lists lines
    ∙ ap (outcome_by p (first_bad lines)) (absent_lists e lists (updates_in_front lines) line (of_lists p lists e over lines fits) lacking)

-- the lists after the updates, whose Z-sets are these
record IsMade (lists : Tables) (us : List Update) (tables : List Rows) : Type 0 where
  now : Tables
  done : after lists us ≡ Ok now
  same : tables ≡ in_z_sets now

same_made : (a b : List Rows) → ◌≡◌ {A = Result (List Rows) ℕ} (Ok a) (Ok b) → a ≡ b
same_made a b e = cc

made_of : (lists : Tables) (us : List Update) (tables : List Rows) (r : Result Tables ℕ) → after lists us ≡ r → admitting.outcome r ≡ Ok tables → IsMade lists us tables
made_of lists us tables (Ok now) is e = record { now = now; done = is; same = sym (same_made (in_z_sets now) tables e) }
made_of lists us tables (Err line) is e = absurd (cc e)

module _ (p : Meant) (lists : Tables) (e : State) (lines : List Line) (delta : List Rows) (over : IsOver p lists e) (fits : AllByRecursion (Fits p.catalog) lines)
    (made_all : made e.tables (updates_in_front lines) ≡ Ok (with_changes e.tables delta)) where
  lists_made : IsMade lists (updates_in_front lines) (with_changes e.tables delta)
  lists_made =
      made_of lists (updates_in_front lines) (with_changes e.tables delta) (after lists (updates_in_front lines)) refl
      (moved_lists e lists (updates_in_front lines) delta (of_lists p lists e over lines fits) made_all)

  kinds_made : TablesAreOfKinds lists_made.now p.catalog
  kinds_made = kinds_through p.catalog lines lists lists_made.now fits lists_made.done over.kinds

  verdict_made : verdict p lists_made.now ≡ circuits.verdict e.circuit (with_changes e.tables delta)
  verdict_made = sym (over.plan.verdict lists_made.now kinds_made) ∙ ap (circuits.verdict e.circuit) (sym lists_made.same)

  outcome_made : first_bad lines ≡ None → outcome p lists lines ≡ ended p lists_made.now (circuits.verdict e.circuit (with_changes e.tables delta))
  outcome_made good =
      outcome_of_lines p lists lines ∙ ap₂ (outcome_by p) good lists_made.done ∙ ap (ended p lists_made.now) verdict_made

pub tick_malformed : (p : Meant) (lists : Tables) (e : State) (lines : List Line) (delta : List Rows) (line : ℕ) → IsOver p lists e → AllByRecursion (Fits p.catalog) lines
    → made e.tables (updates_in_front lines) ≡ Ok (with_changes e.tables delta) → first_bad lines ≡ Some line → outcome p lists lines ≡ refused (Malformed line)
tick_malformed p lists e lines delta line over fits made_all bad =
    outcome_of_lines p lists lines ∙ ap₂ (outcome_by p) bad (lists_made p lists e lines delta over fits made_all).done

pub tick_out_of_range : (p : Meant) (lists : Tables) (e : State) (lines : List Line) (delta : List Rows) (view : ℕ) → IsOver p lists e → AllByRecursion (Fits p.catalog) lines
    → made e.tables (updates_in_front lines) ≡ Ok (with_changes e.tables delta) → first_bad lines ≡ None
    → circuits.verdict e.circuit (with_changes e.tables delta) ≡ Some view → outcome p lists lines ≡ refused (Range (view_name p.catalog view))
tick_out_of_range p lists e lines delta view over fits made_all good outside =
    outcome_made p lists e lines delta over fits made_all good ∙ ap (ended p (lists_made p lists e lines delta over fits made_all).now) outside

pub tick_accepted : (p : Meant) (lists : Tables) (e : State) (lines : List Line) (delta : List Rows) → IsOver p lists e → AllByRecursion (Fits p.catalog) lines
    → made e.tables (updates_in_front lines) ≡ Ok (with_changes e.tables delta) → first_bad lines ≡ None
    → circuits.verdict e.circuit (with_changes e.tables delta) ≡ None → IsAccepted p lists e lines delta
tick_accepted p lists e lines delta over fits made_all good inside =
    let m = lists_made p lists e lines delta over fits made_all in
    let kinds = kinds_made p lists e lines delta over fits made_all in
    record {
      now = m.now;
      outcome = outcome_made p lists e lines delta over fits made_all good ∙ ap (ended p m.now) inside;
      over = record {
        plan = over.plan;
        started = refl;
        many = as_many_after lists (updates_in_front lines) m.now m.done ∙ over.many;
        kinds = kinds;
        tables = m.same;
      };
      text = λ tick. ap (λ ts. told_block p.catalog tick (views_between e.circuit e.tables ts)) m.same ∙ block_told p tick e lists m.now over kinds;
      room = λ n room t.
          let long = grown lists (updates_in_front lines) m.now m.done t in
          let fewer = fewer_in_front t lines in
          let have = room t in
          omega arith;
    }
