-- Lists of pairs of rows and weights, as the values that Z-sets are made of.
use Rattle.std.specs.Prelude.{ℕ, ℤ, List, map, unsigned_abs}
use Rattle.std.specs.List.{sum_by}
use Rattle.sq_value.specs.declared.value.Value.{Value}
use Rattle.sq_zset.specs.declared.pair.Pair.{Pair}

-- the rows with their weights
abbrev pub weighted_rows : List Pair → List (List Value × ℤ)
weighted_rows pairs = map (λ p. (p.row, p.weight)) pairs

-- the sum of the absolute weights
abbrev pub mass : List Pair → ℕ
mass pairs = sum_by (λ p. unsigned_abs p.weight) pairs
