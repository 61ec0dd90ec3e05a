-- The tables of a program, and what updates do to them.
use Rattle.std.specs.Prelude.{ℕ, zero, suc, if◌then◌else◌, List, [], ◌∷◌, ◌++◌, Option, Some, None, option_map}
use Rattle.std.specs.Ordering.{is_eq}
use Rattle.std.specs.declared.result.Result.{Result}
use Rattle.std.specs.declared.result.Result.TheVariants.{Ok, Err}
use Rattle.sq_value.specs.Order.{row_cmp}
use Rattle.sq_typed.specs.declared.update.Update.{Update}
use Rattle.sq_typed.specs.From.{Row}

-- the rows of each table, in order of creation
abbrev pub Tables : Type 0
Tables = List (List Row)

-- the rows without the first that is the same as this one, if there is one
abbrev pub removed : Row → List Row → Option (List Row)
removed row [] = None
removed row (r ∷ rows) = if is_eq (row_cmp row r) then Some rows else option_map (λ rest. r ∷ rest) (removed row rows)

-- an insert appends its row; a delete takes the first row the same as its own away, if there is one
abbrev pub changed_rows : Update → List Row → Option (List Row)
changed_rows update rows = if update.insert then Some (rows ++ update.row ∷ []) else removed update.row rows

-- what f makes of the table with this number, if there is one and f makes something of it
abbrev pub at_table : (List Row → Option (List Row)) → ℕ → Tables → Option Tables
at_table f n [] = None
at_table f zero (rows ∷ tables) = option_map (λ now. now ∷ tables) (f rows)
at_table f (suc n) (rows ∷ tables) = option_map (λ rest. rows ∷ rest) (at_table f n tables)

abbrev pub go_on : ℕ → (Tables → Result Tables ℕ) → Option Tables → Result Tables ℕ
go_on line next None = Err line
go_on line next (Some tables) = next tables

-- the tables after some updates in order, or the line of the first delete whose row is not there
abbrev pub after : Tables → List Update → Result Tables ℕ
after tables [] = Ok tables
after tables (u ∷ us) = go_on u.line (λ now. after now us) (at_table (changed_rows u) u.table tables)
