-- Z-sets parted by a key of their keys: the part of one key, sums over the keys, and parts by shard.
--     at_key Q key c z       the part of z whose keys have the key c.       keys_of Q key z      the keys that z has, ascending
--     by_key G Q key part z  the sum in G, over the keys that z has, of what part gives for the key and its part of z
--     CoversOnce Q key cs z  each key that z has stands once in the list cs
--     is_key, at_some_key, some_keys_of, CoversSomeOnce      the same, if some keys have no key
--     groups_by Q key out xs    what out gives for each key of a list and its members with this key, in the order of first appearance
--     Shards C               a list of shard numbers, and the shard of each key.      cut, over_shards     the part in a shard, and a sum over the shards
--     numbers_below n        the numbers below n, ascending: the shard numbers if there are n shards
use Rattle.std.specs.Prelude.{◌≡◌, ℕ, zero, suc, List, [], ◌∷◌, ◌++◌, map, Bool, false, Option, Some, None}
use Rattle.std.specs.List.{All, filter, filter_map, flat_map}
use Rattle.std.specs.declared.cmp.Ordering.{Ordering}
use Rattle.std.specs.Ordering.{is_eq, nat_cmp}
use Rattle.sq_algebra.specs.Listed.{count, in_order, first_of_each}
use Rattle.sq_algebra.specs.ZSet.{ZSet, entries}
use Rattle.sq_algebra.specs.Groups.{AbelianGroup, sum_over}
use Rattle.sq_algebra.specs.Operators.{keep}

module _ {C : Type 0} (Q : C → C → Ordering) {K : Type 0} (key : K → C) where
  -- the members of a list that have the key c
  abbrev pub members_at : C → List K → List K
  members_at c xs = filter (λ x. is_eq (Q c (key x))) xs

  -- what out gives for each key of a list and its members with this key, in the order in which the keys first appear
  abbrev pub groups_by : {L : Type 0} → (C → List K → List L) → List K → List L
  groups_by out xs = flat_map (λ c. out c (members_at c xs)) (first_of_each Q (map key xs))

  module _ {R : K → K → Ordering} where
    -- the part of a Z-set whose keys have the key c
    unfoldable pub at_key : C → ZSet K R → ZSet K R
    at_key c z = keep (λ k. is_eq (Q c (key k))) z

    -- the keys that the keys of a Z-set have, each once, ascending
    unfoldable pub keys_of : ZSet K R → List C
    keys_of z = in_order Q (map (λ e. key e.0) (entries z))

    -- each key that z has stands once in a list
    abbrev pub CoversOnce : List C → ZSet K R → Type 0
    CoversOnce cs z = All (λ e. count Q (key e.0) cs ≡ 1) (entries z)

  -- the sum, over the keys that z has, of what part gives for the key and its part of z
  unfoldable pub by_key : {A : Type 0} → AbelianGroup A → {R : K → K → Ordering} → (C → ZSet K R → A) → ZSet K R → A
  by_key G part z = sum_over G (λ c. part c (at_key c z)) (keys_of z)

module _ {C : Type 0} (Q : C → C → Ordering) where
  -- whether a key is there and is c
  abbrev pub is_key : C → Option C → Bool
  is_key c None = false
  is_key c (Some d) = is_eq (Q c d)

  module _ {K : Type 0} (key : K → Option C) {R : K → K → Ordering} where
    -- the part of a Z-set whose keys have a key, and the key c
    unfoldable pub at_some_key : C → ZSet K R → ZSet K R
    at_some_key c z = keep (λ k. is_key c (key k)) z

    -- the keys that those of a Z-set with a key have, each once, ascending
    unfoldable pub some_keys_of : ZSet K R → List C
    some_keys_of z = in_order Q (filter_map (λ e. key e.0) (entries z))

    -- each key that one of z has stands once in a list
    abbrev pub CoversSomeOnce : List C → ZSet K R → Type 0
    CoversSomeOnce cs z = All (λ e. (c : C) → key e.0 ≡ Some c → count Q c cs ≡ 1) (entries z)

-- a list of shard numbers, in which the shard of each key stands once
pub record Shards (C : Type 0) : Type 0 where
  pub numbers : List ℕ
  pub shard : C → ℕ
  pub once : (c : C) → count nat_cmp (shard c) numbers ≡ 1

-- the numbers below n, ascending
abbrev pub numbers_below : ℕ → List ℕ
numbers_below zero = []
numbers_below (suc n) = numbers_below n ++ n ∷ []

-- the part of a Z-set in the shard s, by the shard of the key of each of its keys
abbrev pub cut : {C : Type 0} (S : Shards C) {K : Type 0} {R : K → K → Ordering} (key : K → C) → ℕ → ZSet K R → ZSet K R
cut S key s z = at_key nat_cmp (λ k. S.shard (key k)) s z

-- the sum over the shards
abbrev pub over_shards : {A : Type 0} → AbelianGroup A → {C : Type 0} → Shards C → (ℕ → A) → A
over_shards G S f = sum_over G f S.numbers
