-- The entries that keep the rows of a Z-set under their keys.
--     entry_under key row n     the entry of one row with the weight n, if it has a key
--     kept_under key es         those of all rows
use Rattle.std.specs.Prelude.{List, [], ◌∷◌, ℤ, Option, Some, None}
use Rattle.std.specs.List.{flat_map}
use Rattle.sq_value.specs.declared.value.Value.{Value}
use Rattle.sq_trace.specs.declared.entry.Entry.{Entry}

abbrev pub entry_under : Option (List Value) → List Value → ℤ → List (Entry ℤ)
entry_under None row n = []
entry_under (Some c) row n = record { key = c; row = row; payload = n } ∷ []

abbrev pub kept_under : (List Value → Option (List Value)) → List (List Value × ℤ) → List (Entry ℤ)
kept_under key es = flat_map (λ e. entry_under (key e.0) e.0 e.1) es
