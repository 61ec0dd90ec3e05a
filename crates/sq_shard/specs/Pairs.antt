-- Lists of rows with weights, which are gathered into Z-sets.
--     IsLight pairs      the absolute weights add up to at most 2^62 a pair
--     sums pairs         the Z-set in which each row has the sum of its weights
--     IsReady pairs      they are light, and the sum of each row is in range
--     in_shard n columns s e     whether the key that the row of an entry has in these columns belongs to the shard s
--     IsShare n columns es s pairs     the pairs are those of the entries es that belong to the shard s, in order
--     AreShares n columns es lists     the list at s is so for the shard s, for each of n shards, and there is no other
use Rattle.std.specs.Prelude.{◌≡◌, ℕ, ◌*◌, ◌^◌, ◌≤◌, ◌<◌, Bool, ◌==◌, ℤ, List, [], length, get_or, filter}
use Rattle.sq_algebra.specs.ZSet.{ZSet, from_pairs}
use Rattle.sq_expr.specs.Meaning.{columns_of}
use Rattle.sq_value.specs.Order.{row_cmp}
use Rattle.sq_value.specs.declared.value.Value.{Value}
use Rattle.sq_zset.specs.Pairs.{mass, weighted_rows}
use Rattle.sq_zset.specs.Range.{IsInRange}
use Rattle.sq_zset.specs.declared.pair.Pair.{Pair}
use Rattle.sq_shard.specs.Shards.{shard_number}

abbrev pub IsLight : List Pair → Type 0
IsLight pairs = mass pairs ≤ length pairs * 2 ^ 62

abbrev pub sums : List Pair → ZSet (List Value) row_cmp
sums pairs = from_pairs row_cmp (weighted_rows pairs)

pub record IsReady (pairs : List Pair) : Type 0 where
  pub light : IsLight pairs
  pub in_range : IsInRange (sums pairs)

abbrev pub in_shard : ℕ → List ℕ → ℕ → List Value × ℤ → Bool
in_shard n columns s e = s == shard_number n (columns_of columns e.0)

pub record IsShare (n : ℕ) (columns : List ℕ) (es : List (List Value × ℤ)) (s : ℕ) (pairs : List Pair) : Type 0 where
  pub holds : weighted_rows pairs ≡ filter (in_shard n columns s) es
  pub light : IsLight pairs

pub record AreShares (n : ℕ) (columns : List ℕ) (es : List (List Value × ℤ)) (lists : List (List Pair)) : Type 0 where
  pub count : length lists ≡ n
  pub each : (s : ℕ) → s < n → IsShare n columns es s (get_or lists s [])
