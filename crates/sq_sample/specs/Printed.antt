-- What the run of the sample prints at its end.
--     rows_line name n        the line of a view that lists n rows
--     sample_text seed t      after t ticks for a seed, each of which was accepted: their number, and how many rows each view lists
--     counts seed t           how many rows each view lists after t ticks, as whole numbers
--     raised ns rises         numbers, each with what it grows by
--     before_any_tick         the text for the seed 7 before any tick, written out
use Rattle.std.specs.Prelude.{ℕ, ℤ, pos, ◌+ℤ◌, List, [], ◌∷◌, ◌++◌, codes, decimal, length, map}
use Rattle.std.specs.List.{flat_map, zip}
use Rattle.json.specs.Print.{quoted}
use Rattle.sq_catalog.specs.Sorts.{views_of}
use Rattle.sq_typed.specs.Views.{shown}
use Rattle.sq_meant.specs.Program.{program, relations}
use Rattle.sq_sample.specs.Ticks.{tables_after}

abbrev pub ticks_line : ℕ → ℕ → List ℕ
ticks_line seed t = codes "{\"sample\":" ++ (decimal seed ++ (codes ",\"ticks\":" ++ (decimal t ++ (codes ",\"accepted\":" ++ (decimal t ++ codes "}\n")))))

abbrev pub rows_line : List ℕ → ℕ → List ℕ
rows_line name n = codes "{\"view\":" ++ (quoted name ++ (codes ",\"rows\":" ++ (decimal n ++ codes "}\n")))

-- how many rows each view lists over the tables after t ticks
abbrev pub rows_listed : ℕ → ℕ → List ℕ
rows_listed seed t = map (λ rows. length rows) (shown program (tables_after seed t))

abbrev pub sample_text : ℕ → ℕ → List ℕ
sample_text seed t = ticks_line seed t ++ flat_map (λ line. rows_line line.0.name line.1) (zip (views_of relations) (rows_listed seed t))

abbrev pub counts : ℕ → ℕ → List ℤ
counts seed t = map (λ n. pos n) (rows_listed seed t)

-- each number with what it grows by
abbrev pub raised : List ℤ → List ℤ → List ℤ
raised (n ∷ ns) (m ∷ ms) = (n +ℤ m) ∷ raised ns ms
raised ns ms = []

abbrev pub before_any_tick : List ℕ
before_any_tick = codes "{\"sample\":7,\"ticks\":0,\"accepted\":0}\n{\"view\":\"totals\",\"rows\":1}\n{\"view\":\"by_key\",\"rows\":0}\n"
    ++ codes "{\"view\":\"by_group\",\"rows\":0}\n{\"view\":\"unused\",\"rows\":0}\n{\"view\":\"seen\",\"rows\":0}\n"
