-- Fronts of lists of columns.
use Rattle.std.specs.Prelude.{◌≡◌, ℕ, ◌-◌, ◌++◌, List, length, take, Option, MatchOption, true, false}
use Rattle.sq_catalog.specs.declared.relation.Column.{Column}
use Rattle.sq_typed.specs.Faults.{names}
use Rattle.sq_typed.specs.Scopes.{repeats}

-- some members, and further ones behind them up to so many in all
abbrev pub up_to : {A : Type 0} → ℕ → List A → List A → List A
up_to limit kept more = kept ++ take (limit - length kept) more

-- these columns, or nothing if two of them have the same name
abbrev pub GivesDistinct : List Column → Option (List Column) → Type 0
GivesDistinct columns found = MatchOption found (repeats (names columns) ≡ true) (λ cs. (cs ≡ columns) × (repeats (names cs) ≡ false))
