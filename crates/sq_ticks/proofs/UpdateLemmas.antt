-- A tick over lines none of which is bad makes their updates.
use Rattle.std.proofs.Common.{◌≡◌, ℕ, List, [], ◌∷◌, false, Option, Some, None, refl}
use Rattle.sq_lines.specs.declared.line.Line.{Line}
use Rattle.sq_lines.specs.declared.line.Line.TheVariants as line
use Rattle.sq_typed.specs.Tables.{Tables, after, at_table, changed_rows, go_on}
use Rattle.sq_typed.specs.Views.{Meant}
use Rattle.sq_ticks.specs.Ticks.{outcome, after_update}
use Rattle.sq_ticks.specs.Updates.{updates_of, has_bad, outcome_after}

go_same : (p : Meant) (n : ℕ) (lines : List Line) (tables : Option Tables)
    → ((now : Tables) → outcome p now lines ≡ outcome_after p (after now (updates_of lines)))
    → after_update n (λ now. outcome p now lines) tables ≡ outcome_after p (go_on n (λ now. after now (updates_of lines)) tables)
go_same p n lines None same = refl
go_same p n lines (Some now) same = same now

pub lines_are_updates : (p : Meant) (tables : Tables) (lines : List Line) → has_bad lines ≡ false → outcome p tables lines ≡ outcome_after p (after tables (updates_of lines))
lines_are_updates p tables [] good = refl
lines_are_updates p tables (line.Update u ∷ lines) good =
    go_same p u.line lines (at_table (changed_rows u) u.table tables) (λ now. lines_are_updates p now lines good)
lines_are_updates p tables (line.Commit ∷ lines) good = lines_are_updates p tables lines good
lines_are_updates p tables (line.Blank ∷ lines) good = lines_are_updates p tables lines good
lines_are_updates p tables (line.Bad n why ∷ lines) good = absurd (cc)
