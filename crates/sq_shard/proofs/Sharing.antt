-- The entries of a Z-set go to the lists of their shards, one after the other.
use Rattle.std.proofs.Common.{◌≡◌, ◌≢◌, ℕ, zero, suc, ◌+◌, ◌*◌, ◌^◌, ◌≤◌, ◌<◌, ◌%◌, Bool, true, false, cond, ◌==◌, ℤ, List, [], ◌∷◌, ◌++◌, length, map, filter, get_or, set, replicate, None, Some, unsigned_abs, refl, sym, ap, subst, ◌∙◌, append-nil, append_assoc, not, arith}
use Rattle.std.specs.Prelude.{pred}
use Rattle.std.specs.List.{AllByRecursion}
use Rattle.std.proofs.lemmas.Bool.Decides.{nat_tests}
use Rattle.std.proofs.lemmas.List.{get_or-replicate, get_or-set_same, get_or-set_other, length-replicate, length-set}
use Rattle.sq_value.specs.declared.value.Value.{Value}
use Rattle.sq_expr.specs.Meaning.{columns_of}
use Rattle.sq_zset.specs.Pairs.{weighted_rows}
use Rattle.sq_zset.specs.Range.{first_outside_in}
use Rattle.sq_zset.specs.declared.pair.Pair.{Pair}
use Rattle.sq_zset.proofs.Entries.{none_first}
use Rattle.sq_shard.specs.Pairs.{AreShares, IsLight, IsShare, in_shard}
use Rattle.sq_shard.specs.Shards.{HasColumns, shard_number}

abbrev Entry : Type 0
Entry = List Value × ℤ

pub record IsOnTheWay (n : ℕ) (columns : List ℕ) (es rest : List Entry) (s : ℕ) (pairs : List Pair) : Type 0 where
  pub holds : weighted_rows pairs ++ filter (in_shard n columns s) rest ≡ filter (in_shard n columns s) es
  pub light : IsLight pairs

-- the lists, and the entries that are still to come
pub record Sharing (n : ℕ) (columns : List ℕ) (es : List Entry) (lists : List (List Pair)) (rest : List Entry) : Type 0 where
  pub count : length lists ≡ n
  pub each : (s : ℕ) → s < n → IsOnTheWay n columns es rest s (get_or lists s [])
  pub in_range : first_outside_in rest ≡ None
  pub fits : AllByRecursion (λ e. HasColumns columns e.0) rest

module _ (n : ℕ) (columns : List ℕ) (es : List Entry) where
  nothing_yet : (s : ℕ) (pairs : List Pair) → pairs ≡ [] → IsOnTheWay n columns es es s pairs
  nothing_yet s pairs none = subst (IsOnTheWay n columns es es s) (sym none) (record { holds = refl; light = omega arith })

  pub begun : (lists : List (List Pair)) → lists ≡ replicate n [] → first_outside_in es ≡ None → AllByRecursion (λ e. HasColumns columns e.0) es → Sharing n columns es lists es
  begun lists is in_range fits = record {
    count = ap length is ∙ length-replicate n [];
    each = λ s below. nothing_yet s (get_or lists s []) (ap (λ ls. get_or ls s []) is ∙ get_or-replicate n s [] [] below);
    in_range = in_range;
    fits = fits;
  }

  pub ended : (lists : List (List Pair)) → Sharing n columns es lists [] → AreShares n columns es lists
  ended lists at = record {
    count = at.count;
    each = λ s below. let one = at.each s below in record { holds = sym (append-nil (weighted_rows (get_or lists s []))) ∙ one.holds; light = one.light };
  }

  module _ (e : Entry) (rest : List Entry) (s : ℕ) (is : s ≡ shard_number n (columns_of columns e.0)) where
    here : in_shard n columns s e ≡ true
    here = let same = is in grind (arith, nat_tests)

    elsewhere : (t : ℕ) → t ≢ s → in_shard n columns t e ≡ false
    elsewhere t other = let same = is in grind (arith, nat_tests)

    goes : (old new : List Pair) → IsOnTheWay n columns es (e ∷ rest) s old → weighted_rows new ≡ weighted_rows old ++ e ∷ [] → (IsLight old → IsLight new) → IsOnTheWay n columns es rest s new
    goes old new at more light = record {
      holds =
          ap (λ xs. xs ++ filter (in_shard n columns s) rest) more
          ∙ append_assoc (weighted_rows old) (e ∷ []) (filter (in_shard n columns s) rest)
          ∙ ap (λ xs. weighted_rows old ++ xs) (sym (ap (λ b. cond b (e ∷ filter (in_shard n columns s) rest) (filter (in_shard n columns s) rest)) here))
          ∙ at.holds;
      light = light at.light;
    }

    stays : (t : ℕ) → t ≢ s → (old : List Pair) → IsOnTheWay n columns es (e ∷ rest) t old → IsOnTheWay n columns es rest t old
    stays t other old at = record {
      holds = ap (λ xs. weighted_rows old ++ xs) (sym (ap (λ b. cond b (e ∷ filter (in_shard n columns t) rest) (filter (in_shard n columns t) rest)) (elsewhere t other))) ∙ at.holds;
      light = at.light;
    }

    pub taken : (lists : List (List Pair)) (new : List Pair) → Sharing n columns es lists (e ∷ rest) → s < n → weighted_rows new ≡ weighted_rows (get_or lists s []) ++ e ∷ [] → (IsLight (get_or lists s []) → IsLight new) → Sharing n columns es (set lists s new) rest
    taken lists new at below more light = record {
      count = length-set lists s new ∙ at.count;
      each = λ t inside.
          elim (t == s) as (λ b. (t == s) ≡ b → IsOnTheWay n columns es rest t (get_or (set lists s new) t [])) [
            | true ↦ λ same.
                let equal : s ≡ t = grind (arith, nat_tests) in
                subst (λ k. IsOnTheWay n columns es rest k (get_or (set lists s new) k [])) equal
                (subst (IsOnTheWay n columns es rest s) (sym (get_or-set_same lists s new [] (subst (λ k. s < k) (sym at.count) below))) (goes (get_or lists s []) new (at.each s below) more light))
            | false ↦ λ apart.
                let other : t ≢ s = grind (arith, nat_tests) in
                subst (IsOnTheWay n columns es rest t) (sym (get_or-set_other lists s t new [] other)) (stays t other (get_or lists t []) (at.each t inside))
          ] refl;
      in_range = (none_first e rest at.in_range).1;
      fits = at.fits.1;
    }
