-- Which shard a key belongs to, and the part of a Z-set in each of n shards, whose numbers are those below n. There is at least one.
--     mixed h b            the hash h with the byte b behind it
--     hash bytes           the hash of bytes
--     onto h v             the hash h with the key bytes of the value v behind it
--     shard_number n key   the shard of a key: the hash of its key bytes, modulo n
--     shards n             these shards, as `Shards` of sq_algebra
--     part n columns s z   the part of z in the shard s, by the key that its rows have in these columns
--     parts n columns z    the parts of z in all shards, in order
--     HasColumns columns row     the row has these columns
use Rattle.std.specs.Prelude.{ℕ, suc, pred, ◌+◌, ◌*◌, ◌%◌, ◌^◌, ◌<◌, List, [], ◌∷◌, fold, length, map}
use Rattle.std.specs.List.{AllByRecursion}
use Rattle.sq_value.specs.KeyBytes.{row_key, value_key}
use Rattle.sq_value.specs.Order.{row_cmp}
use Rattle.sq_value.specs.declared.value.Value.{Value}
use Rattle.sq_expr.specs.Meaning.{columns_of}
use Rattle.sq_algebra.specs.Keyed.{Shards, cut, numbers_below}
use Rattle.sq_algebra.specs.ZSet.{ZSet}
use Rattle.sq_shard.specs.Numbers.{once_below}

-- ---- the shard of a key
abbrev pub mixed : ℕ → ℕ → ℕ
mixed h b = (h * 1099511628211 + b + 1) % 2 ^ 64

abbrev pub hash : List ℕ → ℕ
hash bytes = fold mixed 0 bytes

unfoldable pub onto : ℕ → Value → ℕ
onto h v = fold mixed h (value_key v)

abbrev pub shard_number : ℕ → List Value → ℕ
shard_number n key = hash (row_key key) % n

-- ---- parts
abbrev pub shards : ℕ → Shards (List Value)
shards n = record {
  numbers = numbers_below (suc (pred n));
  shard = shard_number (suc (pred n));
  once = λ key. once_below (pred n) (hash (row_key key));
}

abbrev pub part : ℕ → List ℕ → ℕ → ZSet (List Value) row_cmp → ZSet (List Value) row_cmp
part n columns s z = cut (shards n) (columns_of columns) s z

abbrev pub parts : ℕ → List ℕ → ZSet (List Value) row_cmp → List (ZSet (List Value) row_cmp)
parts n columns z = map (λ s. part n columns s z) (numbers_below n)

abbrev pub HasColumns : List ℕ → List Value → Type 0
HasColumns columns row = AllByRecursion (λ c. c < length row) columns
