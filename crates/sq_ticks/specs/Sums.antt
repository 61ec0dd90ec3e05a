-- The changes that were printed so far, added up.
use Rattle.std.specs.Prelude.{ℕ, ◌+◌, List, [], ◌∷◌, ℤ, pos, ◌+ℤ◌, take}
use Rattle.sq_value.specs.Count.{count}
use Rattle.sq_typed.specs.Views.{shown}
use Rattle.sq_typed.specs.From.{Row}
use Rattle.sq_typed.specs.Laws.{rows_in}
use Rattle.sq_typed.specs.Tables.{Tables}
use Rattle.sq_typed.specs.Views.{Meant}
use Rattle.sq_ticks.specs.Ticks.{Outcome, Report, accepted, refused, tables_after}
use Rattle.sq_ticks.specs.Output.{reports}
use Rattle.sq_compile.specs.Relations.{empty_tables}
use Rattle.sq_ticks.specs.Texts.{changes}
use Rattle.sq_value.specs.Order.{row_cmp}
use Rattle.sq_algebra.specs.ZSet.{weight_in}

-- the sum of the numbers that a tick tells for a row of a view, deletes with a minus: those beside the row among the view's
-- changes, of which the text has one line each if the view is printed
abbrev pub printed : Meant → ℕ → Row → List (List Row) → Outcome → ℤ
printed p view row before (accepted now) = weight_in row_cmp row (changes (rows_in before view) (rows_in (shown p now) view))
printed p view row before (refused why) = pos 0

-- the sum of the numbers that are printed for a row of a view in some ticks
abbrev pub printed_sum : Meant → ℕ → Row → List Report → ℤ
printed_sum p view row [] = pos 0
printed_sum p view row (r ∷ rs) = printed p view row r.0 r.1 +ℤ printed_sum p view row rs

-- the tables once these ticks are made
abbrev pub tables_now : Tables → List Report → Tables
tables_now tables [] = tables
tables_now tables (r ∷ rs) = tables_now (tables_after tables r.1) rs

-- block 0 and the first ticks of some change lines
abbrev pub first_reports : Meant → List (List ℕ) → ℕ → List Report
first_reports p lines ticks = take (ticks + 1) (reports p lines)

-- how often a view holds a row once these ticks are made
abbrev pub times_held : Meant → ℕ → Row → List Report → ℕ
times_held p view row rs = count row (rows_in (shown p (tables_now (empty_tables p.catalog) rs)) view)
