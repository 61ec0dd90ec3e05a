-- Tables of the kinds of a program's columns, and what an update makes of them.
use Rattle.std.proofs.Common.{◌≡◌, ℕ, zero, suc, ◌<◌, ◌≤◌, List, [], ◌∷◌, ◌++◌, length, get_or, Bool, true, false, if◌then◌else◌, Option, Some, None, refl, sym, ap, subst, ◌∙◌, arith}
use Rattle.std.specs.Prelude.{option_map, slice_get, slice_set, drop}
use Rattle.std.specs.List.{AllByRecursion}
use Rattle.std.specs.Ordering.{is_eq}
use Rattle.std.proofs.lemmas.List.{get_or_default}
use Rattle.std.proofs.lemmas.Option.{same_Some}
use Rattle.sq_catalog.specs.declared.relation.Relation.{Relation}
use Rattle.sq_catalog.specs.declared.relation.RelationKind.TheVariants.{Table, View}
use Rattle.sq_expr.specs.Kinds.{AreOfKinds}
use Rattle.sq_expr.proofs.Lists.{all_append}
use Rattle.sq_lines.specs.Lines.{decoded}
use Rattle.sq_catalog.specs.Sorts.{is_table, tables_of}
use Rattle.sq_lines.specs.declared.line.Line.{Line}
use Rattle.sq_lines.specs.declared.line.Line.TheVariants as line
use Rattle.sq_lines.proofs.FitLemmas.{update_fits, bad_number}
use Rattle.sq_typed.specs.Fit.{AreAllOfKinds, TablesAreOfKinds, kinds_of}
use Rattle.sq_typed.specs.From.{Row}
use Rattle.sq_typed.specs.Laws.{by_kind, rows_in}
use Rattle.sq_typed.specs.Tables.{Tables, at_table, changed_rows, removed}
use Rattle.sq_typed.specs.Views.{first_rows}
use Rattle.sq_typed.specs.declared.update.Update.{Update}
use Rattle.sq_typed.proofs.Tests.{mapped_some}
use Rattle.sq_value.specs.Order.{row_cmp}
use Rattle.sq_lines.specs.Fit.{UpdateFits, LineFits}
use Rattle.sq_ticks.specs.Fits.{Fits}

-- ---- an update of one table

pub at_table_past : (f : List Row → Option (List Row)) (n : ℕ) (tables : Tables) → length tables ≤ n → at_table f n tables ≡ None
at_table_past f n [] le = refl
at_table_past f zero (rows ∷ tables) le = absurd (omega arith)
at_table_past f (suc n) (rows ∷ tables) le = ap (option_map (λ rest. rows ∷ rest)) (at_table_past f n tables (omega arith))

pub at_table_none : (f : List Row → Option (List Row)) (n : ℕ) (tables : Tables) → f (rows_in tables n) ≡ None → n < length tables → at_table f n tables ≡ None
at_table_none f n [] e lt = absurd (omega arith)
at_table_none f zero (rows ∷ tables) e lt = ap (option_map (λ now. now ∷ tables)) e
at_table_none f (suc n) (rows ∷ tables) e lt = ap (option_map (λ rest. rows ∷ rest)) (at_table_none f n tables e (omega arith))

pub at_table_some : (f : List Row → Option (List Row)) (n : ℕ) (tables : Tables) (now : List Row) → f (rows_in tables n) ≡ Some now → n < length tables
    → at_table f n tables ≡ Some (slice_set tables n now)
at_table_some f n [] now e lt = absurd (omega arith)
at_table_some f zero (rows ∷ tables) now e lt = ap (option_map (λ now. now ∷ tables)) e
at_table_some f (suc n) (rows ∷ tables) now e lt = ap (option_map (λ rest. rows ∷ rest)) (at_table_some f n tables now e (omega arith))

-- ---- updates keep the kinds

module _ (P : Row → Type 0) where
  all_removed : (row : Row) (rows rest : List Row) → removed row rows ≡ Some rest → AllByRecursion P rows → AllByRecursion P rest
  all_removed row [] rest e h = absurd (cc)
  all_removed row (r ∷ rows) rest e h =
      elim (is_eq (row_cmp row r)) as (λ b. (if b then Some rows else option_map (λ rest. r ∷ rest) (removed row rows)) ≡ Some rest → AllByRecursion P rest) [
        | true ↦ λ e. subst (AllByRecursion P) (same_Some rows rest e) h.1
        | false ↦ λ e.
            let m = mapped_some (λ rest. r ∷ rest) (removed row rows) rest e in
            subst (AllByRecursion P) m.is (h.0, all_removed row rows m.value m.was h.1)
      ] e

  all_changed : (u : Update) (rows now : List Row) → changed_rows u rows ≡ Some now → P u.row → AllByRecursion P rows → AllByRecursion P now
  all_changed u rows now e k h =
      elim u.insert as (λ b. (if b then Some (rows ++ u.row ∷ []) else removed u.row rows) ≡ Some now → AllByRecursion P now) [
        | true ↦ λ e. subst (AllByRecursion P) (same_Some (rows ++ u.row ∷ []) now e) (all_append P rows (u.row ∷ []) h (k, tt))
        | false ↦ λ e. all_removed u.row rows now e h
      ] e

module _ (u : Update) (t : Relation) (row : AreOfKinds u.row (kinds_of t)) where
  -- what is to be shown of the relations behind a table
  abbrev Kept : List Relation → Type 0
  Kept relations = (n : ℕ) (tables now : Tables) → slice_get (tables_of relations) n ≡ Some t → at_table (changed_rows u) n tables ≡ Some now
      → TablesAreOfKinds tables relations → TablesAreOfKinds now relations

  kept_table : (r : Relation) (rs : List Relation) → Kept rs → (n : ℕ) (tables now : Tables) → slice_get (r ∷ tables_of rs) n ≡ Some t
      → at_table (changed_rows u) n tables ≡ Some now → AreAllOfKinds (first_rows tables) (kinds_of r) × TablesAreOfKinds (drop 1 tables) rs
      → AreAllOfKinds (first_rows now) (kinds_of r) × TablesAreOfKinds (drop 1 now) rs
  kept_table r rs rest n [] now there made h = absurd (cc)
  kept_table r rs rest zero (rows ∷ tables) now there made h =
      let m = mapped_some (λ now. now ∷ tables) (changed_rows u rows) now made in
      let same : t ≡ r = sym (same_Some r t there) in
      subst (λ ts. AreAllOfKinds (first_rows ts) (kinds_of r) × TablesAreOfKinds (drop 1 ts) rs) m.is
      (all_changed (λ row. AreOfKinds row (kinds_of r)) u rows m.value m.was (subst (λ t. AreOfKinds u.row (kinds_of t)) same row) h.0, h.1)
  kept_table r rs rest (suc n) (rows ∷ tables) now there made h =
      let m = mapped_some (λ rest. rows ∷ rest) (at_table (changed_rows u) n tables) now made in
      subst (λ ts. AreAllOfKinds (first_rows ts) (kinds_of r) × TablesAreOfKinds (drop 1 ts) rs) m.is
      (h.0, rest n tables m.value there m.was h.1)

  kept_at_kind : (r : Relation) (rs : List Relation) → Kept rs → Kept (r ∷ rs)
  kept_at_kind r rs rest n tables now there made h =
      elim r.kind as (λ k. slice_get (if is_table k then r ∷ tables_of rs else tables_of rs) n ≡ Some t
      → by_kind k (AreAllOfKinds (first_rows tables) (kinds_of r) × TablesAreOfKinds (drop 1 tables) rs) (TablesAreOfKinds tables rs)
      → by_kind k (AreAllOfKinds (first_rows now) (kinds_of r) × TablesAreOfKinds (drop 1 now) rs) (TablesAreOfKinds now rs)) [
        | Table ↦ λ there h. kept_table r rs rest n tables now there made h
        | View printed ↦ λ there h. rest n tables now there made h
      ] there h

  kinds_kept : (relations : List Relation) → Kept relations
  kinds_kept [] n tables now there made h = tt
  kinds_kept (r ∷ rs) n tables now there made h = kept_at_kind r rs (kinds_kept rs) n tables now there made h

-- an update that speaks of the tables of a program keeps their kinds
pub kinds_updated : (relations : List Relation) (n : ℕ) (u : Update) (tables now : Tables) → UpdateFits relations n u → at_table (changed_rows u) u.table tables ≡ Some now
    → TablesAreOfKinds tables relations → TablesAreOfKinds now relations
kinds_updated relations n u tables now fits made h = kinds_kept u fits.table fits.of_kinds relations u.table tables now fits.found made h

-- ---- what a line says of the tables

pub line_fits : (relations : List Relation) (n : ℕ) (bytes : List ℕ) (l : Line) → l ≡ decoded relations n bytes → Fits relations l
line_fits relations n bytes (line.Update u) e = (n, update_fits relations n bytes u (sym e))
line_fits relations n bytes line.Commit e = (n, tt)
line_fits relations n bytes line.Blank e = (n, tt)
line_fits relations n bytes (line.Bad m why) e = (n, bad_number relations n m bytes why (sym e))

-- ---- what the code makes of an update

pub changed_at : (u : Update) (tables : Tables) (n : ℕ) (rows now d : List Row) (made : Bool) → n < length tables → rows ≡ get_or tables n d
    → changed_rows u rows ≡ (if made then Some now else None)
    → at_table (changed_rows u) n tables ≡ (if made then Some (slice_set tables n now) else None)
changed_at u tables n rows now d true lt at e =
    at_table_some (changed_rows u) n tables now (ap (changed_rows u) (get_or_default tables n [] d lt ∙ sym at) ∙ e) lt
changed_at u tables n rows now d false lt at e =
    at_table_none (changed_rows u) n tables (ap (changed_rows u) (get_or_default tables n [] d lt ∙ sym at) ∙ e) lt

pub kinds_made : (relations : List Relation) (l : Line) (u : Update) (tables now : Tables) (made : Bool) → l ≡ line.Update u → made ≡ true
    → at_table (changed_rows u) u.table tables ≡ (if made then Some now else None) → Fits relations l → TablesAreOfKinds tables relations
    → TablesAreOfKinds now relations
kinds_made relations l u tables now true is done e fits h =
    kinds_updated relations fits.0 u tables now (subst (LineFits relations fits.0) is fits.1) e h
kinds_made relations l u tables now false is done e fits h = absurd (cc)
