-- The parts of Z-sets in the shards add up, and so do the operators over them.
use Rattle.std.proofs.Common.{◌≡◌, ℕ, pos, map, zero, suc, ◌+◌, List, [], ◌∷◌, true, false, cond, ◌==◌, get_or, refl, sym, ap, ap₂, ◌∙◌, arith, ltb, add-zero, Ordering, is_eq}
use Rattle.std.specs.Prelude.{Option, Some}
use Rattle.std.specs.Ordering.{nat_cmp}
use Rattle.std.specs.Cmp.{IsTotalOrder, nat_cmp_total}
use Rattle.std.specs.FinMap.{IsAntisymmetric, nat_cmp-IsAntisymmetric}
use Rattle.std.proofs.lemmas.Cmp.{tied_itself}
use Rattle.std.proofs.lemmas.Bool.Decides.{nat_tests}
use Rattle.sq_algebra.specs.Listed.{count}
use Rattle.sq_algebra.specs.ZSet.{weight, ZSet, entries, zero as no_keys}
use Rattle.sq_algebra.specs.Groups.{AbelianGroup, IsAbelian, z_sets, minus, multiple, sum_over, IsAdditive}
use Rattle.sq_algebra.specs.Operators.{distinct, product, pairs_where}
use Rattle.sq_algebra.specs.Keyed.{CoversOnce, by_key, Shards, cut, over_shards, numbers_below}
use Rattle.sq_algebra.proofs.Tests.{equal}
use Rattle.sq_algebra.proofs.Lists.{count-cons, count-append}
use Rattle.sq_algebra.proofs.GroupLemmas.{times-one, sum_over-map, z_sets-IsAbelian, sum_over_agree, sum_over-minus}
use Rattle.sq_algebra.proofs.KeyedLemmas.{sum_at, weight-at_key, pairs_where_apart, at_key-IsAdditive, at_key-zero, at_key-at_key, parts_add_up, additive_parts, by_key_parts, product_parts, distinct_part, distinct_part-zero, distinct_by_key}

-- ---- shards by number
below_step : (s n : ℕ) (a : ℕ) → a ≡ cond (ltb s n) 1 0 → a + cond (is_eq (nat_cmp s n)) 1 0 ≡ cond (ltb s (suc n)) 1 0
below_step s n a e = grind (arith, nat_tests)

-- each number below n stands once among them
pub count-numbers_below : (s n : ℕ) → count nat_cmp s (numbers_below n) ≡ cond (ltb s n) 1 0
count-numbers_below s zero = grind (arith, nat_tests)
count-numbers_below s (suc n) =
    count-append nat_cmp s (numbers_below n) (n ∷ [])
    ∙ ap (λ a. count nat_cmp s (numbers_below n) + a) (count-cons nat_cmp s n [] ∙ add-zero (cond (is_eq (nat_cmp s n)) 1 0))
    ∙ below_step s n (count nat_cmp s (numbers_below n)) (count-numbers_below s n)

pub same_number : (t s : ℕ) → is_eq (nat_cmp t s) ≡ (t == s)
same_number t s = grind (arith, nat_tests)

-- a list in which the shard of each key stands once covers every Z-set
module _ {D : Type 0} (S : Shards D) {K : Type 0} (R : K → K → Ordering) (key : K → D) where
  pub covers-shards : (z : ZSet K R) → CoversOnce nat_cmp (λ k. S.shard (key k)) S.numbers z
  covers-shards z i d l = S.once (key (get_or (entries z) i d).0)

  module _ (o : IsTotalOrder R) (identical : IsAntisymmetric R) where
    pub cuts_add_up : (z : ZSet K R) → over_shards (z_sets R) S (λ s. cut S key s z) ≡ z
    cuts_add_up z = parts_add_up nat_cmp nat_cmp_total nat_cmp-IsAntisymmetric R o identical (λ k. S.shard (key k)) S.numbers z (covers-shards z)

    -- the list of the parts adds up
    pub parts_gathered : (z : ZSet K R) → sum_over (z_sets R) (λ y. y) (map (λ s. cut S key s z) S.numbers) ≡ z
    parts_gathered z = sum_over-map (z_sets R) (λ y. y) (λ s. cut S key s z) S.numbers ∙ cuts_add_up z

    pub weight-cut : (k : K) (s : ℕ) (z : ZSet K R) → weight k (cut S key s z) ≡ cond (s == S.shard (key k)) (weight k z) (pos 0)
    weight-cut k s z =
        weight-at_key nat_cmp nat_cmp_total nat_cmp-IsAntisymmetric R o identical (λ k. S.shard (key k)) k s z
        ∙ ap (λ b. cond b (weight k z) (pos 0)) (same_number s (S.shard (key k)))

    pub cut-IsAdditive : (s : ℕ) → IsAdditive (z_sets R) (z_sets R) (cut S key s)
    cut-IsAdditive = at_key-IsAdditive nat_cmp nat_cmp_total nat_cmp-IsAntisymmetric R o identical (λ k. S.shard (key k))

    pub cut-zero : (s : ℕ) → cut S key s (no_keys R) ≡ no_keys R
    cut-zero = at_key-zero nat_cmp nat_cmp_total nat_cmp-IsAntisymmetric R o identical (λ k. S.shard (key k))

    -- a part of a part is the part in the same shard, and else empty
    pub cut-cut : (s t : ℕ) (z : ZSet K R) → cut S key s (cut S key t z) ≡ cond (t == s) (cut S key s z) (no_keys R)
    cut-cut s t z =
        at_key-at_key nat_cmp nat_cmp_total nat_cmp-IsAntisymmetric R o identical (λ k. S.shard (key k)) nat_cmp (λ k. S.shard (key k)) (λ s. s) (λ k. refl) s t z
        ∙ ap (λ b. cond b (cut S key s z) (no_keys R)) (same_number t s)

    pub additive_cuts : {A : Type 0} (G : AbelianGroup A) (laws : IsAbelian G) (f : ZSet K R → A) → IsAdditive (z_sets R) G f → (z : ZSet K R) → over_shards G S (λ s. f (cut S key s z)) ≡ f z
    additive_cuts G laws f additive z = additive_parts nat_cmp nat_cmp_total nat_cmp-IsAntisymmetric R o identical (λ k. S.shard (key k)) G laws f additive S.numbers z (covers-shards z)

    -- a sum over the keys, where the key of a key of z tells its shard
    pub by_key_cuts : {C : Type 0} (Q : C → C → Ordering) (q : IsTotalOrder Q) (alike : IsAntisymmetric Q) (fine : K → C) (coarse : C → D) → ((k : K) → key k ≡ coarse (fine k)) → {A : Type 0} (G : AbelianGroup A) (laws : IsAbelian G) (part : C → ZSet K R → A) → ((c : C) → part c (no_keys R) ≡ G.zero) →
        (z : ZSet K R) → over_shards G S (λ s. by_key Q fine G part (cut S key s z)) ≡ by_key Q fine G part z
    by_key_cuts Q q alike fine coarse tells G laws part none z =
        by_key_parts Q q alike R o identical fine G laws part none nat_cmp nat_cmp_total nat_cmp-IsAntisymmetric (λ k. S.shard (key k)) (λ c. S.shard (coarse c)) (λ k. ap S.shard (tells k)) S.numbers z (covers-shards z)

    pub distinct_cuts : (z : ZSet K R) → over_shards (z_sets R) S (λ s. distinct (cut S key s z)) ≡ distinct z
    distinct_cuts z =
        sum_over_agree (z_sets R) (λ s. distinct (cut S key s z)) (λ s. by_key R (λ k. k) (z_sets R) (distinct_part R o identical) (cut S key s z)) (λ s. distinct_by_key R o identical (cut S key s z)) S.numbers
        ∙ by_key_cuts R o identical (λ k. k) key (λ k. refl) (z_sets R) (z_sets-IsAbelian R o identical) (distinct_part R o identical) (distinct_part-zero R o identical) z
        ∙ sym (distinct_by_key R o identical z)

-- what stands in the shard of one key alone
pub at_one_shard : {D : Type 0} (S : Shards D) {A : Type 0} (G : AbelianGroup A) (laws : IsAbelian G) (c : D) (a : A) → over_shards G S (λ s. cond (s == S.shard c) a G.zero) ≡ a
at_one_shard S G laws c a =
    sum_over_agree G (λ s. cond (s == S.shard c) a G.zero) (λ s. cond (is_eq (nat_cmp s (S.shard c))) a G.zero) (λ s. ap (λ b. cond b a G.zero) (sym (same_number s (S.shard c)))) S.numbers
    ∙ sum_at nat_cmp nat_cmp_total nat_cmp-IsAntisymmetric G laws (λ _. a) (S.shard c) S.numbers
    ∙ ap (λ n. multiple G n a) (S.once c)
    ∙ times-one G laws a

-- both sides of a product
module _ {D : Type 0} (Q : D → D → Ordering) (q : IsTotalOrder Q) (alike : IsAntisymmetric Q) (S : Shards D) {J : Type 0} (P : J → J → Ordering) (p : IsTotalOrder P) (same : IsAntisymmetric P) {K : Type 0} (R : K → K → Ordering) (o : IsTotalOrder R) (identical : IsAntisymmetric R) {L : Type 0} (U : L → L → Ordering) (u : IsTotalOrder U) (one : IsAntisymmetric U) where
  pub product_cuts : (left : J → D) (right : K → D) (f : J → K → List L) → ((j : J) (k : K) → is_eq (Q (left j) (right k)) ≡ false → f j k ≡ []) →
      (y : ZSet J P) (z : ZSet K R) → over_shards (z_sets U) S (λ s. product U f (cut S left s y) (cut S right s z)) ≡ product U f y z
  product_cuts left right f apart y z =
      product_parts nat_cmp nat_cmp_total nat_cmp-IsAntisymmetric P p same R o identical U u one (λ j. S.shard (left j)) (λ k. S.shard (right k)) f (λ j k e. apart j k (other (left j) (right k) e)) S.numbers y z (covers-shards S P left y)
    where
      other : (c d : D) → is_eq (nat_cmp (S.shard c) (S.shard d)) ≡ false → is_eq (Q c d) ≡ false
      other c d e = elim (is_eq (Q c d)) as (λ b. is_eq (Q c d) ≡ b → b ≡ false) [
        | false ↦ λ _. refl
        | true ↦ λ t. sym (ap is_eq (tied_itself nat_cmp_total (S.shard c))) ∙ ap (λ x. is_eq (nat_cmp (S.shard c) (S.shard x))) (alike c d (equal (Q c d) t)) ∙ e
      ] refl

  -- and of one by keys that may be missing, cut by columns that tell these keys
  pub product_some_cuts : (left : J → Option D) (right : K → Option D) (pair : J → K → Option L) (left_of : J → D) (right_of : K → D) → ((j : J) (c : D) → left j ≡ Some c → left_of j ≡ c) → ((k : K) (c : D) → right k ≡ Some c → right_of k ≡ c) →
      (y : ZSet J P) (z : ZSet K R) → over_shards (z_sets U) S (λ s. product U (pairs_where Q left right pair) (cut S left_of s y) (cut S right_of s z)) ≡ product U (pairs_where Q left right pair) y z
  product_some_cuts left right pair left_of right_of on_left on_right =
      product_cuts left_of right_of (pairs_where Q left right pair) (pairs_where_apart Q q alike P p same R o identical U u one left right pair left_of right_of on_left on_right)

-- the changes of an operator that adds up over the parts add up to its change
pub changes_add_up : {A B : Type 0} (H : AbelianGroup B) (G : AbelianGroup A) (laws : IsAbelian G) {D : Type 0} (S : Shards D) (piece : ℕ → B → B) (f : B → A) → ((b : B) → over_shards G S (λ s. f (piece s b)) ≡ f b) →
    (z d : B) → over_shards G S (λ s. minus G (f (piece s (H.plus z d))) (f (piece s z))) ≡ minus G (f (H.plus z d)) (f z)
changes_add_up H G laws S piece f adds z d = sum_over-minus G laws (λ s. f (piece s (H.plus z d))) (λ s. f (piece s z)) S.numbers ∙ ap₂ (minus G) (adds (H.plus z d)) (adds z)
