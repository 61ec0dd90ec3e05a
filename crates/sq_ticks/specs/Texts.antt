-- The texts that are printed.
use Rattle.std.specs.Prelude.{ℕ, ℤ, pos, ◌-ℤ◌, List, [], ◌++◌, map, if◌then◌else◌}
use Rattle.std.specs.List.{flat_map, enumerate_from}
use Rattle.sq_algebra.specs.Listed.{changed}
use Rattle.sq_catalog.specs.Sorts.{is_printed, views_of}
use Rattle.sq_catalog.specs.declared.relation.Relation.{Relation}
use Rattle.sq_value.specs.Order.{row_cmp}
use Rattle.sq_value.specs.Count.{count}
use Rattle.sq_print.specs.Texts.{accepted_text, rise_text, told_refusal}
use Rattle.sq_typed.specs.Views.{shown}
use Rattle.sq_typed.specs.From.{Row}
use Rattle.sq_typed.specs.Laws.{rows_in}
use Rattle.sq_typed.specs.Views.{Meant}
use Rattle.sq_ticks.specs.Ticks.{Outcome, accepted, refused}

-- by how much the count of a row rises from the first list to the second
abbrev pub rise : List Row → List Row → Row → ℤ
rise before now row = pos (count row now) -ℤ pos (count row before)

-- the rows whose counts differ in the two lists, in row order, each with the rise of its count
abbrev pub changes : List Row → List Row → List (Row × ℤ)
changes before now = map (λ row. (row, rise before now row)) (changed row_cmp before now)

-- the change of a view, if it is printed: a line for each row whose count changed, in row order
abbrev pub view_text : Relation → List Row → List Row → List ℕ
view_text view before now =
    if is_printed view.kind then flat_map (λ change. rise_text view change.0 change.1) (changes before now) else []

-- the changes of all views in order of creation; a view that is not among the lists had no rows
abbrev pub views_text : List Relation → List (List Row) → List (List Row) → List ℕ
views_text relations before now =
    flat_map (λ v. view_text v.1 (rows_in before v.0) (rows_in now v.0)) (enumerate_from 0 (views_of relations))

-- the block of an accepted tick, from the rows of each view before it and after it
abbrev pub change_text : List Relation → List (List Row) → List (List Row) → ℕ → List ℕ
change_text relations before now tick = views_text relations before now ++ accepted_text tick

-- what is printed of a tick, from the rows of each view before it and what became of it
abbrev pub tick_text : Meant → ℕ → List (List Row) → Outcome → List ℕ
tick_text p tick before (accepted now) = change_text p.catalog before (shown p now) tick
tick_text p tick before (refused why) = told_refusal tick why
