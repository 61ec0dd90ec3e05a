-- What updates make of Z-sets is what they make of lists of rows.
use Rattle.std.proofs.Common.{◌≡◌, ℕ, zero, suc, ◌+◌, ◌<◌, ◌==◌, Bool, true, false, cond, not, ◌&&◌, List, [], ◌∷◌, ◌++◌, length, Ok, Err, ℤ, pos, negsuc, ◌+ℤ◌, is_eq, refl, sym, ap, ap₂, subst, ◌∙◌, arith}
use Rattle.std.specs.Prelude.{if◌then◌else◌, int_lt, Option, Some, None}
use Rattle.std.specs.declared.result.Result.{Result}
use Rattle.std.specs.List.{AllByRecursion}
use Rattle.std.proofs.lemmas.List.Sums.{sum_by-cons}
use Rattle.std.proofs.lemmas.Bool.{lt-ltb}
use borrow.Author.Differences.{ints}
use Rattle.sq_value.specs.Count.{count}
use Rattle.sq_value.specs.Order.{row_cmp}
use Rattle.sq_algebra.specs.ZSet.{of_list, plus, weight}
use Rattle.sq_zset.proofs.Rows.{same_weights, weight-of_list, weight-plus}
use Rattle.sq_typed.specs.From.{Row}
use Rattle.sq_typed.specs.Laws.{deletes, inserts, rows_in}
use Rattle.sq_typed.specs.Tables.{Tables, after, at_table, changed_rows, go_on, removed}
use Rattle.sq_typed.specs.declared.update.Update.{Update}
use Rattle.sq_typed.proofs.Tests.{mapped_none, mapped_some}
use Rattle.sq_typed.proofs.UpdateLemmas.{as_many_after, count_after, none_removed, none_to_remove}
use Rattle.sq_circuit.specs.Circuits.{table_at}
use Rattle.sq_circuit.specs.Nodes.{Rows}
use Rattle.sq_engine.specs.Admitting.{AreOfLists, in_z_sets, lacks, made, net, outcome, step_at}
use Rattle.sq_engine.specs.Engines.{State, moved, with_changes}
use Rattle.sq_engine.proofs.Listing.{same_tables}
use Rattle.sq_engine.proofs.Netting.{as_many, now_by, table_by, weight_one}

-- ---- tables by number
table_of : (lists : Tables) (t : ℕ) → t < length lists → table_at (in_z_sets lists) t ≡ of_list row_cmp (rows_in lists t)
table_of [] t low = absurd (omega arith)
table_of (rows ∷ lists) zero low = refl
table_of (rows ∷ lists) (suc t) low = table_of lists t (omega arith)

as_many_lists : (lists : Tables) → length (in_z_sets lists) ≡ length lists
as_many_lists [] = refl
as_many_lists (rows ∷ lists) = ap suc (as_many_lists lists)

-- ---- whether an update finds its row
none_at : (f : List Row → Option (List Row)) (n : ℕ) (lists : Tables) → n < length lists → at_table f n lists ≡ None → f (rows_in lists n) ≡ None
none_at f n [] low e = absurd (omega arith)
none_at f zero (rows ∷ lists) low e = mapped_none (λ now. now ∷ lists) (f rows) e
none_at f (suc n) (rows ∷ lists) low e = none_at f n lists (omega arith) (mapped_none (λ rest. rows ∷ rest) (at_table f n lists) e)

some_at : (f : List Row → Option (List Row)) (n : ℕ) (lists now : Tables) → at_table f n lists ≡ Some now → f (rows_in lists n) ≡ Some (rows_in now n)
some_at f n [] now e = absurd (cc)
some_at f zero (rows ∷ lists) now e = let m = mapped_some (λ now. now ∷ lists) (f rows) now e in subst (λ (ts : Tables). f rows ≡ Some (rows_in ts zero)) m.is m.was
some_at f (suc n) (rows ∷ lists) now e =
    let m = mapped_some (λ rest. rows ∷ rest) (at_table f n lists) now e in
    subst (λ (ts : Tables). f (rows_in lists n) ≡ Some (rows_in ts (suc n))) m.is (some_at f n lists m.value m.was)

module _ (u : Update) (rows : List Row) (w : ℤ) (is : w ≡ pos (count u.row rows)) where
  abbrev lacks_it : Bool → Bool
  lacks_it b = not b && not (int_lt (pos 0) w)

  none_lacks : changed_rows u rows ≡ None → lacks_it u.insert ≡ true
  none_lacks e =
      elim u.insert as (λ b. (if b then Some (rows ++ u.row ∷ []) else removed u.row rows) ≡ None → lacks_it b ≡ true) [
        | true ↦ λ e. absurd (cc)
        | false ↦ λ e. ap (λ w. not (int_lt (pos 0) w)) (is ∙ ap pos (none_removed u.row rows e))
      ] e

  some_there : (n : ℕ) (now : List Row) → count u.row rows ≡ n → removed u.row rows ≡ Some now → not (int_lt (pos 0) (pos n)) ≡ false
  some_there zero now many e = absurd (let none = none_to_remove u.row rows many in cc (none, e))
  some_there (suc n) now many e = ap not (lt-ltb 0 (suc n) (omega arith))

  some_has : (now : List Row) → changed_rows u rows ≡ Some now → lacks_it u.insert ≡ false
  some_has now e =
      elim u.insert as (λ b. (if b then Some (rows ++ u.row ∷ []) else removed u.row rows) ≡ Some now → lacks_it b ≡ false) [
        | true ↦ λ e. refl
        | false ↦ λ e. ap (λ w. not (int_lt (pos 0) w)) is ∙ some_there (count u.row rows) now refl e
      ] e

-- ---- one update
one_step : (insert here same : Bool) (before now : ℕ) → now + cond (not insert && (here && same)) 1 0 ≡ before + cond (insert && (here && same)) 1 0
    → pos before +ℤ cond here (cond same (cond insert (pos 1) (negsuc 0)) (pos 0)) (pos 0) ≡ pos now
one_step true true true before now e = omega (arith, ints)
one_step true true false before now e = omega (arith, ints)
one_step true false same before now e = omega (arith, ints)
one_step false true true before now e = omega (arith, ints)
one_step false true false before now e = omega (arith, ints)
one_step false false same before now e = omega (arith, ints)

module _ (u : Update) (lists mid : Tables) (was : at_table (changed_rows u) u.table lists ≡ Some mid) where
  goes : after lists (u ∷ []) ≡ Ok mid
  goes = ap (go_on u.line (λ now. after now [])) was

  counted : (t : ℕ) (row : Row) → pos (count row (rows_in lists t)) +ℤ step_at t row u ≡ pos (count row (rows_in mid t))
  counted t row =
      let in_all = count_after lists (u ∷ []) mid goes t row in
      let more : inserts t row (u ∷ []) ≡ cond (u.insert && ((u.table == t) && is_eq (row_cmp row u.row))) 1 0 + 0 = sum_by-cons (λ (v : Update). cond (v.insert && ((v.table == t) && is_eq (row_cmp row v.row))) 1 0) u [] in
      let fewer : deletes t row (u ∷ []) ≡ cond (not u.insert && ((u.table == t) && is_eq (row_cmp row u.row))) 1 0 + 0 = sum_by-cons (λ (v : Update). cond (not v.insert && ((v.table == t) && is_eq (row_cmp row v.row))) 1 0) u [] in
      one_step u.insert (u.table == t) (is_eq (row_cmp row u.row)) (count row (rows_in lists t)) (count row (rows_in mid t)) (omega arith)

  many_mid : length mid ≡ length lists
  many_mid = as_many_after lists (u ∷ []) mid goes

  next_table : (t : ℕ) → t < length lists → table_at (now_by (in_z_sets lists) (u ∷ [])) t ≡ of_list row_cmp (rows_in mid t)
  next_table t low =
      table_by (in_z_sets lists) (u ∷ []) t (let many = as_many_lists lists in omega arith)
      ∙ ap (λ z. plus z (net t (u ∷ []))) (table_of lists t low)
      ∙ same_weights _ _ (λ row.
      weight-plus row (of_list row_cmp (rows_in lists t)) (net t (u ∷ []))
      ∙ ap₂ (λ a b. a +ℤ b) (weight-of_list row (rows_in lists t)) (weight_one t row u)
      ∙ counted t row
      ∙ sym (weight-of_list row (rows_in mid t)))

  next_is : now_by (in_z_sets lists) (u ∷ []) ≡ in_z_sets mid
  next_is =
      same_tables (now_by (in_z_sets lists) (u ∷ [])) (in_z_sets mid)
      (as_many (in_z_sets lists) (u ∷ []) ∙ as_many_lists lists ∙ sym many_mid ∙ sym (as_many_lists mid))
      (λ t low.
      let long = as_many (in_z_sets lists) (u ∷ []) in
      let many = as_many_lists lists in
      let middle = many_mid in
      next_table t (omega arith) ∙ sym (table_of mid t (omega arith)))

-- ---- some updates
pub made_lists : (us : List Update) (lists : Tables) → AllByRecursion (λ u. u.table < length lists) us → made (in_z_sets lists) us ≡ outcome (after lists us)
made_lists [] lists inside = refl
made_lists (u ∷ us) lists inside =
    elim (at_table (changed_rows u) u.table lists) as (λ x. at_table (changed_rows u) u.table lists ≡ x → made (in_z_sets lists) (u ∷ us) ≡ outcome (go_on u.line (λ now. after now us) x)) [
      | None ↦ λ was.
          let lacking : lacks (in_z_sets lists) u ≡ true = none_lacks u (rows_in lists u.table) _ held (none_at (changed_rows u) u.table lists inside.0 was) in
          ap (λ b. cond b (Err u.line) (made (now_by (in_z_sets lists) (u ∷ [])) us)) lacking
      | Some mid ↦ λ was.
          let has : lacks (in_z_sets lists) u ≡ false = some_has u (rows_in lists u.table) _ held (rows_in mid u.table) (some_at (changed_rows u) u.table lists mid was) in
          ap (λ b. cond b (Err u.line) (made (now_by (in_z_sets lists) (u ∷ [])) us)) has
          ∙ ap (λ ts. made ts us) (next_is u lists mid was)
          ∙ made_lists us mid (subst (λ n. AllByRecursion (λ (u : Update). u.table < n) us) (sym (many_mid u lists mid was)) inside.1)
    ] refl
  where
    held : weight u.row (table_at (in_z_sets lists) u.table) ≡ pos (count u.row (rows_in lists u.table))
    held = ap (weight u.row) (table_of lists u.table inside.0) ∙ weight-of_list u.row (rows_in lists u.table)

-- ---- an engine whose tables are those of some lists
same_line : (a b : ℕ) → ◌≡◌ {A = Result (List Rows) ℕ} (Err a) (Err b) → a ≡ b
same_line a b e = cc

stops : (r : Result Tables ℕ) (line : ℕ) → outcome r ≡ Err line → r ≡ Err line
stops (Ok tables) line e = absurd (cc e)
stops (Err a) line e = ap Err (same_line a line e)

as_lists : (tables : List Rows) (lists : Tables) (us : List Update) → AreOfLists tables lists us → outcome (after lists us) ≡ made tables us
as_lists tables lists us are = sym (made_lists us lists are.inside) ∙ ap (λ ts. made ts us) (sym are.same)

pub moved_lists : (s : State) (lists : Tables) (us : List Update) (delta : List Rows) → AreOfLists s.tables lists us → made s.tables us ≡ Ok (with_changes s.tables delta) → outcome (after lists us) ≡ Ok (moved s delta).tables
moved_lists s lists us delta are done = as_lists s.tables lists us are ∙ done

pub absent_lists : (s : State) (lists : Tables) (us : List Update) (line : ℕ) → AreOfLists s.tables lists us → made s.tables us ≡ Err line → after lists us ≡ Err line
absent_lists s lists us line are lacking = stops (after lists us) line (as_lists s.tables lists us are ∙ lacking)
