-- The changes that were printed add up.
use Rattle.std.specs.Prelude.{◌-ℤ◌, ◌+ℤ◌, ℤ, pos, if◌then◌else◌}
use Rattle.std.proofs.Common.{◌≡◌, ℕ, zero, suc, ◌+◌, List, [], ◌∷◌, take, Bool, true, false, ap, ◌∙◌, subst, arith}
use Rattle.std.specs.List.{list_all}
use borrow.Author.Differences.{ints}
use Rattle.sq_lines.specs.Lines.{is_blank}
use Rattle.sq_lines.specs.declared.line.Line.{Line}
use Rattle.sq_typed.specs.Views.{shown}
use Rattle.sq_typed.specs.From.{Row}
use Rattle.sq_typed.specs.Laws.{rows_in}
use Rattle.sq_typed.specs.Tables.{Tables}
use Rattle.sq_typed.specs.Views.{Meant}
use Rattle.sq_value.specs.Count.{count}
use Rattle.sq_print.specs.declared.refusal.Refusal.TheVariants.{Unfinished}
use Rattle.sq_ticks.proofs.ChangeLemmas.{told_rise}
use Rattle.sq_ticks.specs.Output.{reports}
use Rattle.sq_compile.specs.Relations.{empty_tables}
use Rattle.sq_ticks.specs.Sums.{printed, printed_sum, tables_now}
use Rattle.sq_ticks.specs.Ticks.{Report, Outcome, accepted, refused, outcome, tables_after, lines_from, ticks_of, reports_from}

chain : (p s : ℤ) (a b c : ℕ) → p ≡ pos b -ℤ pos a → s ≡ pos c -ℤ pos b → p +ℤ s ≡ pos c -ℤ pos a
chain p s a b c e f = omega (arith, ints)

none_from : (n : ℕ) → pos 0 ≡ pos n -ℤ pos n
none_from n = omega (arith, ints)

added_none : (n : ℕ) → pos 0 +ℤ pos 0 ≡ pos n -ℤ pos n
added_none n = omega (arith, ints)

first_added : (s : ℤ) (n c : ℕ) → s ≡ pos c -ℤ pos n → (pos n -ℤ pos 0) +ℤ s ≡ pos c
first_added s n c e = omega (arith, ints)

module _ (p : Meant) (view : ℕ) (row : Row) where
  -- how often the view holds the row over these tables
  abbrev held : Tables → ℕ
  held tables = count row (rows_in (shown p tables) view)

  one : (tables : Tables) (o : Outcome) → printed p view row (shown p tables) o ≡ pos (held (tables_after tables o)) -ℤ pos (held tables)
  one tables (accepted now) = told_rise row (rows_in (shown p tables) view) (rows_in (shown p now) view)
  one tables (refused why) = none_from (held tables)

  -- the lines after the last commit line change nothing
  sum_last : (tables : Tables) (k : ℕ) (b : Bool) → let last = take {A = Report} k (if b then [] else (shown p tables, refused Unfinished) ∷ []) in
      printed_sum p view row last ≡ pos (held (tables_now tables last)) -ℤ pos (held tables)
  sum_last tables zero true = none_from (held tables)
  sum_last tables (suc k) true = none_from (held tables)
  sum_last tables zero false = none_from (held tables)
  sum_last tables (suc zero) false = added_none (held tables)
  sum_last tables (suc (suc k)) false = added_none (held tables)

  -- from some tables on, the sum is how much the count of the row rose
  sum_from : (tables : Tables) (ticks : List (List Line)) (k : ℕ)
      → printed_sum p view row (take k (reports_from p tables ticks)) ≡ pos (held (tables_now tables (take k (reports_from p tables ticks)))) -ℤ pos (held tables)
  sum_from tables ticks zero = none_from (held tables)
  sum_from tables [] (suc k) = none_from (held tables)
  sum_from tables (last ∷ []) (suc k) = sum_last tables (suc k) (list_all is_blank last)
  sum_from tables (tick ∷ next ∷ ticks) (suc k) =
      chain _ _ (held tables) (held (tables_after tables (outcome p tables tick))) _ (one tables (outcome p tables tick))
      (sum_from (tables_after tables (outcome p tables tick)) (next ∷ ticks) k)

  first : (tables : Tables) (s : ℤ) (c : ℕ) → s ≡ pos c -ℤ pos (held tables) → printed p view row [] (accepted tables) +ℤ s ≡ pos c
  first tables s c e =
      ap (λ t. t +ℤ s) (told_rise row [] (rows_in (shown p tables) view)) ∙ first_added s (held tables) c e

  add_up : (lines : List (List ℕ)) (k : ℕ) → printed_sum p view row (take (suc k) (reports p lines))
      ≡ pos (held (tables_now (empty_tables p.catalog) (take (suc k) (reports p lines))))
  add_up lines k = first (empty_tables p.catalog) _ _ (sum_from (empty_tables p.catalog) (ticks_of (lines_from p.catalog 1 lines)) k)

pub changes_add_up : (p : Meant) (lines : List (List ℕ)) (k view : ℕ) (row : Row)
    → printed_sum p view row (take (k + 1) (reports p lines))
    ≡ pos (count row (rows_in (shown p (tables_now (empty_tables p.catalog) (take (k + 1) (reports p lines)))) view))
changes_add_up p lines k view row =
    let next : suc k ≡ k + 1 = omega arith in
    subst (λ n. printed_sum p view row (take n (reports p lines)) ≡ pos (held p view row (tables_now (empty_tables p.catalog) (take n (reports p lines))))) next
    (add_up p view row lines k)
