-- The laws of parts of Z-sets by a key of their rows, where the keys are rows too, and by shard.
use Rattle.std.proofs.Common.{◌≡◌, ◌==◌, ◌⊎◌, List, Bool, cond, pos, is_eq, ℕ}
use Rattle.sq_value.specs.declared.value.Value.{Value}
use Rattle.sq_value.specs.Order.{row_cmp}
use Rattle.sq_value.specs.OrderLaws.{row_cmp-total, row_cmp-antisymmetric}
use Rattle.sq_algebra.specs.Listed.{count}
use Rattle.sq_algebra.specs.ZSet.{ZSet, zero, weight, plus}
use Rattle.sq_algebra.specs.Groups.{AbelianGroup, IsAbelian, IsAdditive, z_sets, sum_over, minus as minus_in}
use Rattle.sq_algebra.specs.Operators.{lin, keep, distinct}
use Rattle.sq_algebra.specs.Keyed.{at_key, keys_of, by_key, CoversOnce, Shards, cut, over_shards}
use Rattle.sq_algebra.proofs.KeyedLemmas as keyed
use Rattle.sq_algebra.proofs.ShardLemmas as shards

-- ---- keys
-- two lists that hold each key equally often, but for keys at which nothing is added, have the same sum
pub sums_agree : {A : Type 0} (G : AbelianGroup A) (laws : IsAbelian G) (F : List Value → A) (cs ds : List (List Value)) → ((c : List Value) → (F c ≡ G.zero) ⊎ (count row_cmp c cs ≡ count row_cmp c ds)) → sum_over G F cs ≡ sum_over G F ds
sums_agree = keyed.sums_agree row_cmp row_cmp-total row_cmp-antisymmetric

-- what a cover says of a key of z
pub covered : (key : List Value → List Value) (cs : List (List Value)) (z : ZSet (List Value) row_cmp) → CoversOnce row_cmp key cs z → (k : List Value) → (weight k z ≡ pos 0) ⊎ (count row_cmp (key k) cs ≡ 1)
covered = keyed.covered row_cmp row_cmp-total row_cmp-antisymmetric row_cmp row_cmp-total row_cmp-antisymmetric

pub covers-keep : (key : List Value → List Value) (p : List Value → Bool) (cs : List (List Value)) (z : ZSet (List Value) row_cmp) → CoversOnce row_cmp key cs z → CoversOnce row_cmp key cs (keep p z)
covers-keep = keyed.covers-keep row_cmp row_cmp-total row_cmp-antisymmetric row_cmp row_cmp-total row_cmp-antisymmetric

pub covers-keys_of : (key : List Value → List Value) (z : ZSet (List Value) row_cmp) → CoversOnce row_cmp key (keys_of row_cmp key z) z
covers-keys_of = keyed.covers-keys_of row_cmp row_cmp-total row_cmp-antisymmetric row_cmp row_cmp-total row_cmp-antisymmetric

pub at_key-IsAdditive : (key : List Value → List Value) (c : List Value) → IsAdditive (z_sets row_cmp) (z_sets row_cmp) (at_key row_cmp key c)
at_key-IsAdditive = keyed.at_key-IsAdditive row_cmp row_cmp-total row_cmp-antisymmetric row_cmp row_cmp-total row_cmp-antisymmetric

pub at_key-plus : (key : List Value → List Value) (c : List Value) (y z : ZSet (List Value) row_cmp) → at_key row_cmp key c (plus y z) ≡ plus (at_key row_cmp key c y) (at_key row_cmp key c z)
at_key-plus = keyed.at_key-plus row_cmp row_cmp-total row_cmp-antisymmetric row_cmp row_cmp-total row_cmp-antisymmetric

pub at_key-zero : (key : List Value → List Value) (c : List Value) → at_key row_cmp key c (zero row_cmp) ≡ zero row_cmp
at_key-zero = keyed.at_key-zero row_cmp row_cmp-total row_cmp-antisymmetric row_cmp row_cmp-total row_cmp-antisymmetric

pub weight-at_key : (key : List Value → List Value) (k : List Value) (c : List Value) (z : ZSet (List Value) row_cmp) → weight k (at_key row_cmp key c z) ≡ cond (is_eq (row_cmp c (key k))) (weight k z) (pos 0)
weight-at_key = keyed.weight-at_key row_cmp row_cmp-total row_cmp-antisymmetric row_cmp row_cmp-total row_cmp-antisymmetric

pub lin-at_key : (key : List Value → List Value) {A : Type 0} (G : AbelianGroup A) (laws : IsAbelian G) (h : List Value → A) (c : List Value) (z : ZSet (List Value) row_cmp) → lin G h (at_key row_cmp key c z) ≡ lin G (λ k. cond (is_eq (row_cmp c (key k))) (h k) G.zero) z
lin-at_key = keyed.lin-at_key row_cmp row_cmp-total row_cmp-antisymmetric row_cmp row_cmp-total row_cmp-antisymmetric

-- the parts add up to the whole
pub parts_add_up : (key : List Value → List Value) (cs : List (List Value)) (z : ZSet (List Value) row_cmp) → CoversOnce row_cmp key cs z → sum_over (z_sets row_cmp) (λ c. at_key row_cmp key c z) cs ≡ z
parts_add_up = keyed.parts_add_up row_cmp row_cmp-total row_cmp-antisymmetric row_cmp row_cmp-total row_cmp-antisymmetric

-- and so do what an additive map gives for the parts
pub additive_parts : (key : List Value → List Value) {A : Type 0} (G : AbelianGroup A) (laws : IsAbelian G) (f : ZSet (List Value) row_cmp → A) → IsAdditive (z_sets row_cmp) G f → (cs : List (List Value)) (z : ZSet (List Value) row_cmp) → CoversOnce row_cmp key cs z → sum_over G (λ c. f (at_key row_cmp key c z)) cs ≡ f z
additive_parts = keyed.additive_parts row_cmp row_cmp-total row_cmp-antisymmetric row_cmp row_cmp-total row_cmp-antisymmetric

-- the sum over the keys is that over any list of keys that covers them
pub by_key_over : (key : List Value → List Value) {A : Type 0} (G : AbelianGroup A) (laws : IsAbelian G) (part : List Value → ZSet (List Value) row_cmp → A) (none : (c : List Value) → part c (zero row_cmp) ≡ G.zero) (cs : List (List Value)) (z : ZSet (List Value) row_cmp) → CoversOnce row_cmp key cs z → by_key row_cmp key G part z ≡ sum_over G (λ c. part c (at_key row_cmp key c z)) cs
by_key_over = keyed.by_key_over row_cmp row_cmp-total row_cmp-antisymmetric row_cmp row_cmp-total row_cmp-antisymmetric

pub by_key-zero : (key : List Value → List Value) {A : Type 0} (G : AbelianGroup A) (laws : IsAbelian G) (part : List Value → ZSet (List Value) row_cmp → A) (none : (c : List Value) → part c (zero row_cmp) ≡ G.zero) → by_key row_cmp key G part (zero row_cmp) ≡ G.zero
by_key-zero = keyed.by_key-zero row_cmp row_cmp-total row_cmp-antisymmetric row_cmp row_cmp-total row_cmp-antisymmetric

-- the change of the sum by a change of the Z-set is the sum, over the keys of the change, of the changes of the parts
pub by_key-change : (key : List Value → List Value) {A : Type 0} (G : AbelianGroup A) (laws : IsAbelian G) (part : List Value → ZSet (List Value) row_cmp → A) (none : (c : List Value) → part c (zero row_cmp) ≡ G.zero) (cs : List (List Value)) (z d : ZSet (List Value) row_cmp) → CoversOnce row_cmp key cs d → minus_in G (by_key row_cmp key G part (plus z d)) (by_key row_cmp key G part z) ≡ sum_over G (λ c. minus_in G (part c (at_key row_cmp key c (plus z d))) (part c (at_key row_cmp key c z))) cs
by_key-change = keyed.by_key-change row_cmp row_cmp-total row_cmp-antisymmetric row_cmp row_cmp-total row_cmp-antisymmetric

-- what is additive in each part is additive
pub by_key-IsAdditive : (key : List Value → List Value) {A : Type 0} (G : AbelianGroup A) (laws : IsAbelian G) (part : List Value → ZSet (List Value) row_cmp → A) → ((c : List Value) → IsAdditive (z_sets row_cmp) G (part c)) → IsAdditive (z_sets row_cmp) G (by_key row_cmp key G part)
by_key-IsAdditive = keyed.by_key-IsAdditive row_cmp row_cmp-total row_cmp-antisymmetric row_cmp row_cmp-total row_cmp-antisymmetric

-- and a linear extension that knows the key is one linear extension
pub by_key-lin : (key : List Value → List Value) {A : Type 0} (G : AbelianGroup A) (laws : IsAbelian G) (h : List Value → List Value → A) (z : ZSet (List Value) row_cmp) → by_key row_cmp key G (λ c y. lin G (h c) y) z ≡ lin G (λ k. h (key k) k) z
by_key-lin = keyed.by_key-lin row_cmp row_cmp-total row_cmp-antisymmetric row_cmp row_cmp-total row_cmp-antisymmetric

-- ---- shards
pub cuts_add_up : {D : Type 0} (S : Shards D) (key : List Value → D) (z : ZSet (List Value) row_cmp) → over_shards (z_sets row_cmp) S (λ s. cut S key s z) ≡ z
cuts_add_up S key = shards.cuts_add_up S row_cmp key row_cmp-total row_cmp-antisymmetric

pub cut-IsAdditive : {D : Type 0} (S : Shards D) (key : List Value → D) (s : ℕ) → IsAdditive (z_sets row_cmp) (z_sets row_cmp) (cut S key s)
cut-IsAdditive S key = shards.cut-IsAdditive S row_cmp key row_cmp-total row_cmp-antisymmetric

pub cut-zero : {D : Type 0} (S : Shards D) (key : List Value → D) (s : ℕ) → cut S key s (zero row_cmp) ≡ zero row_cmp
cut-zero S key = shards.cut-zero S row_cmp key row_cmp-total row_cmp-antisymmetric

-- a part of a part is the part in the same shard, and else empty
pub cut-cut : {D : Type 0} (S : Shards D) (key : List Value → D) (s t : ℕ) (z : ZSet (List Value) row_cmp) → cut S key s (cut S key t z) ≡ cond (t == s) (cut S key s z) (zero row_cmp)
cut-cut S key = shards.cut-cut S row_cmp key row_cmp-total row_cmp-antisymmetric

pub additive_cuts : {D : Type 0} (S : Shards D) (key : List Value → D) {A : Type 0} (G : AbelianGroup A) (laws : IsAbelian G) (f : ZSet (List Value) row_cmp → A) → IsAdditive (z_sets row_cmp) G f → (z : ZSet (List Value) row_cmp) → over_shards G S (λ s. f (cut S key s z)) ≡ f z
additive_cuts S key = shards.additive_cuts S row_cmp key row_cmp-total row_cmp-antisymmetric

-- a sum over the keys, where the key of a key of z tells its shard
pub by_key_cuts : {D : Type 0} (S : Shards D) (key : List Value → D) (fine : List Value → List Value) (coarse : List Value → D) → ((k : List Value) → key k ≡ coarse (fine k)) → {A : Type 0} (G : AbelianGroup A) (laws : IsAbelian G) (part : List Value → ZSet (List Value) row_cmp → A) → ((c : List Value) → part c (zero row_cmp) ≡ G.zero) → (z : ZSet (List Value) row_cmp) → over_shards G S (λ s. by_key row_cmp fine G part (cut S key s z)) ≡ by_key row_cmp fine G part z
by_key_cuts S key = shards.by_key_cuts S row_cmp key row_cmp-total row_cmp-antisymmetric row_cmp row_cmp-total row_cmp-antisymmetric

pub distinct_cuts : {D : Type 0} (S : Shards D) (key : List Value → D) (z : ZSet (List Value) row_cmp) → over_shards (z_sets row_cmp) S (λ s. distinct (cut S key s z)) ≡ distinct z
distinct_cuts S key = shards.distinct_cuts S row_cmp key row_cmp-total row_cmp-antisymmetric
