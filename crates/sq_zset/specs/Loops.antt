-- Two lists gone through, one inside the other, and what two rows give.
use Rattle.std.specs.Prelude.{◌≤◌, List, length}
use Rattle.std.specs.List.{flat_map}
use Rattle.sq_value.specs.declared.value.Value.{Value}

-- what f gives for each row of the one list with each of the other, in the order of nested loops
abbrev pub nested_loops : (List Value → List Value → List (List Value)) → List (List Value) → List (List Value) → List (List Value)
nested_loops f rows others = flat_map (λ row. flat_map (f row) others) rows

-- two rows give at most one
abbrev pub GivesAtMostOne : (List Value → List Value → List (List Value)) → Type 0
GivesAtMostOne f = (row other : List Value) → length (f row other) ≤ 1
