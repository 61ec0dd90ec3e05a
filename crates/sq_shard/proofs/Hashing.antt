-- Hashes value by value.
use Rattle.std.proofs.Common.{◌≡◌, ℕ, ◌+◌, List, [], ◌∷◌, ◌++◌, fold, take, Some, refl, sym, ap, ◌∙◌, add-one}
use Rattle.std.specs.Prelude.{slice_get}
use Rattle.std.proofs.Math.Seq.{take-suc}
use Rattle.std.proofs.lemmas.Option.{get_or_from_slice_get, slice_get_within}
use Rattle.std.proofs.lemmas.List.Sums.{fold-append}
use Rattle.sq_value.specs.KeyBytes.{row_key, value_key}
use Rattle.sq_value.specs.declared.value.Value.{Value}
use Rattle.sq_shard.specs.Shards.{hash, mixed, onto}

row_hash_from : (h : ℕ) (row : List Value) → fold onto h row ≡ fold mixed h (row_key row)
unfolding onto
row_hash_from h [] = refl
row_hash_from h (v ∷ row) = row_hash_from (fold mixed h (value_key v)) row ∙ sym (fold-append mixed h (value_key v) (row_key row))

-- value by value, or over all key bytes
pub row_hash : (row : List Value) → fold onto 0 row ≡ hash (row_key row)
row_hash row = row_hash_from 0 row

-- with one value more
module _ (row : List Value) (i : ℕ) (v : Value) (found : slice_get row i ≡ Some v) where
  pub row_more : onto (fold onto 0 (take i row)) v ≡ fold onto 0 (take (i + 1) row)
  row_more =
      sym (fold-append onto 0 (take i row) (v ∷ []))
      ∙ ap (fold onto 0) (sym (ap (λ n. take n row) (add-one i) ∙ take-suc row i v (slice_get_within row i v found) ∙ ap (λ w. take i row ++ w ∷ []) (get_or_from_slice_get row i v v found)))
