-- The parts of a Z-set by a key of its keys: sums over the keys do not depend on the list of keys, and changes stay in the keys of the change.
use Rattle.std.proofs.Common.{◌≡◌, ℕ, zero, suc, ◌+◌, ◌<◌, ◌≤◌, List, [], ◌∷◌, ◌++◌, map, Bool, true, false, cond, ◌==◌, ℤ, pos, ◌+ℤ◌, length, get_or, filter, refl, sym, ap, ap₂, subst, ◌∙◌, arith, zero-add, Ordering, Less, Equal, Greater, is_eq}
use Rattle.std.specs.Prelude.{int_lt, Option, Some, None}
use Rattle.std.specs.List.{All, filter_map, cons_option}
use Rattle.std.specs.Cmp.{IsTotalOrder}
use Rattle.std.specs.FinMap.{IsAntisymmetric}
use Rattle.std.proofs.lemmas.Cmp.{tied_itself}
use Rattle.std.proofs.lemmas.Bool.Decides.{nat_tests}
use mathlib.Core.Logic.{◌⊎◌, inl, inr}
use borrow.Author.Differences.{ints}
use Rattle.sq_algebra.specs.Listed.{count, in_order}
use Rattle.sq_algebra.specs.ZSet.{weight_in, ZSet, entries, entries-zero, zero as no_keys, single, of_list, from_pairs, weight, plus as plus_keys}
use Rattle.sq_algebra.specs.Groups.{AbelianGroup, IsAbelian, integers, z_sets, minus, multiple, times, sum_over, IsAdditive}
use Rattle.sq_algebra.specs.Operators.{lin, keep, distinct, product, where_same, pairs_where}
use Rattle.sq_algebra.specs.Keyed.{at_key, keys_of, CoversOnce, by_key, is_key, at_some_key, some_keys_of, CoversSomeOnce}
use Rattle.sq_algebra.proofs.Tests.{equal}
use Rattle.sq_algebra.proofs.Lists.{count-cons, count-append, count-in_order}
use Rattle.sq_algebra.proofs.Weights.{weight-zero, weight-single, weight-of_list, same_weights}
use Rattle.sq_algebra.proofs.GroupLemmas.{integers-IsAbelian, z_sets-IsAbelian, neutral_right, minus-self, times-one, times_of_zero, additive-zero, additive-sum_over, sum_over_agree, sum_over-zero, sum_over-plus, sum_over-minus, sum_over-swap}
use Rattle.sq_algebra.proofs.LinearLemmas.{lin-of_list, lin_agree, lin_agree_at, lin_of_zero, lin_of_sum, lin_same, weight-IsAdditive, entry_weight, entry_nonzero, from_pairs_is}
use Rattle.sq_algebra.proofs.OperatorLemmas.{of_list-nil, product_is, keep-IsAdditive, keep-zero, weight-keep, lin-keep}
use Rattle.sq_algebra.proofs.ListLemmas.{tie_back, sign_up, weight-distinct}

counted_step : {A : Type 0} (G : AbelianGroup A) (laws : IsAbelian G) (b : Bool) (n : ℕ) (a x : A) → (b ≡ true → a ≡ x) → G.plus (cond b a G.zero) (multiple G n x) ≡ multiple G (cond b 1 0 + n) x
counted_step G laws true n a x same = ap (λ y. G.plus y (multiple G n x)) (same refl) ∙ ap (λ m. multiple G m x) (suc_is n)
  where
    suc_is : (n : ℕ) → suc n ≡ 1 + n
    suc_is n = omega arith
counted_step G laws false n a x same = laws.neutral (multiple G n x) ∙ ap (λ m. multiple G m x) (sym (zero-add n))

module _ {C : Type 0} (Q : C → C → Ordering) (q : IsTotalOrder Q) (alike : IsAntisymmetric Q) {A : Type 0} (G : AbelianGroup A) (laws : IsAbelian G) where
  -- of a sum over a list only the members that tie with j are left
  pub sum_at : (F : C → A) (j : C) (cs : List C) → sum_over G (λ c. cond (is_eq (Q c j)) (F c) G.zero) cs ≡ multiple G (count Q j cs) (F j)
  sum_at F j [] = refl
  sum_at F j (c ∷ cs) =
      ap (G.plus (cond (is_eq (Q c j)) (F c) G.zero)) (sum_at F j cs)
      ∙ counted_step G laws (is_eq (Q c j)) (count Q j cs) (F c) (F j) (λ t. ap F (alike c j (equal (Q c j) t)))
      ∙ ap (λ n. multiple G n (F j)) (ap (λ b. cond b 1 0 + count Q j cs) (tie_back Q q c j) ∙ sym (count-cons Q j c cs))

  -- two lists that hold each key equally often, but for keys at which nothing is added, have the same sum
  pub sums_agree : (F : C → A) (cs ds : List C) → ((c : C) → (F c ≡ G.zero) ⊎ (count Q c cs ≡ count Q c ds)) → sum_over G F cs ≡ sum_over G F ds
  sums_agree F cs ds each =
      sym (lin-of_list Q q alike G laws F cs)
      ∙ lin_same Q q alike G laws F (of_list Q cs) (of_list Q ds) (λ c.
      ap (λ n. times G n (F c)) (weight-of_list Q q c cs) ∙ step c (each c) ∙ sym (ap (λ n. times G n (F c)) (weight-of_list Q q c ds)))
      ∙ lin-of_list Q q alike G laws F ds
    where
      step : (c : C) → (F c ≡ G.zero) ⊎ (count Q c cs ≡ count Q c ds) → times G (pos (count Q c cs)) (F c) ≡ times G (pos (count Q c ds)) (F c)
      step c (inl e) =
          ap (times G (pos (count Q c cs))) e ∙ times_of_zero G laws (pos (count Q c cs))
          ∙ sym (ap (times G (pos (count Q c ds))) e ∙ times_of_zero G laws (pos (count Q c ds)))
      step c (inr e) = ap (λ n. times G (pos n) (F c)) e

one_more : (t : Bool) (n m : ℕ) → t ≡ true → m ≡ cond t 1 0 + n → 1 ≤ m
one_more true n m e c = omega arith
one_more false n m e c = cc

nested : (a b c : Bool) (n : ℤ) → (a ≡ true → b ≡ c) → cond a (cond b n (pos 0)) (pos 0) ≡ cond c (cond a n (pos 0)) (pos 0)
nested true b c n same = ap (λ t. cond t n (pos 0)) (same refl)
nested false b true n same = refl
nested false b false n same = refl

-- the keys of the entries, as they stand
abbrev raw_keys : {K C : Type 0} {R : K → K → Ordering} → (K → C) → ZSet K R → List C
raw_keys key z = map (λ e. key e.0) (entries z)

-- ---- lists of keys that cover a Z-set
module _ {C : Type 0} (Q : C → C → Ordering) (q : IsTotalOrder Q) (alike : IsAntisymmetric Q) {K : Type 0} (R : K → K → Ordering) (o : IsTotalOrder R) (identical : IsAntisymmetric R) (key : K → C) where
  -- a key without a weight in a list of pairs, or with a pair
  pub found : (k : K) (X : Type 0) (ps : List (K × ℤ)) → ((i : ℕ) (d : K × ℤ) → i < length ps → R k (get_or ps i d).0 ≡ Equal → X) → (weight_in R k ps ≡ pos 0) ⊎ X
  found k X [] at = inl refl
  found k X (p ∷ ps) at =
      elim (R k p.0) as (λ r. R k p.0 ≡ r → (cond (is_eq r) p.1 (pos 0) +ℤ weight_in R k ps ≡ pos 0) ⊎ X) [
        | Less ↦ λ e. later (found k X ps (λ i d l. at (suc i) d (omega arith)))
        | Equal ↦ λ e. inr (at 0 p (omega arith) e)
        | Greater ↦ λ e. later (found k X ps (λ i d l. at (suc i) d (omega arith)))
      ] refl
    where
      later : (weight_in R k ps ≡ pos 0) ⊎ X → (pos 0 +ℤ weight_in R k ps ≡ pos 0) ⊎ X
      later (inl e) = inl (omega (arith, ints))
      later (inr x) = inr x

  -- a key without a member in a list of pairs, or with one
  found_key : (c : C) (X : Type 0) (ps : List (K × ℤ)) → ((i : ℕ) (d : K × ℤ) → i < length ps → Q c (key (get_or ps i d).0) ≡ Equal → X) → (filter (λ p. is_eq (Q c (key p.0))) ps ≡ []) ⊎ X
  found_key c X [] at = inl refl
  found_key c X (p ∷ ps) at =
      elim (Q c (key p.0)) as (λ r. Q c (key p.0) ≡ r → (cond (is_eq r) (p ∷ filter (λ p. is_eq (Q c (key p.0))) ps) (filter (λ p. is_eq (Q c (key p.0))) ps) ≡ []) ⊎ X) [
        | Less ↦ λ e. found_key c X ps (λ i d l. at (suc i) d (omega arith))
        | Equal ↦ λ e. inr (at 0 p (omega arith) e)
        | Greater ↦ λ e. found_key c X ps (λ i d l. at (suc i) d (omega arith))
      ] refl

  -- what a cover says of a key of z
  pub covered : (cs : List C) (z : ZSet K R) → CoversOnce Q key cs z → (k : K) → (weight k z ≡ pos 0) ⊎ (count Q (key k) cs ≡ 1)
  unfolding weight
  covered cs z covers k = found k (count Q (key k) cs ≡ 1) (entries z) (λ i d l e. ap (λ j. count Q (key j) cs) (identical k (get_or (entries z) i d).0 e) ∙ covers i d l)

  -- and it is a cover where it says so of each
  pub covers_from : (cs : List C) (z : ZSet K R) → ((k : K) → (weight k z ≡ pos 0) ⊎ (count Q (key k) cs ≡ 1)) → CoversOnce Q key cs z
  covers_from cs z each i d l = step (each (get_or (entries z) i d).0)
    where
      step : (weight (get_or (entries z) i d).0 z ≡ pos 0) ⊎ (count Q (key (get_or (entries z) i d).0) cs ≡ 1) → count Q (key (get_or (entries z) i d).0) cs ≡ 1
      step (inl none) = absurd (entry_nonzero R z i d l (sym (entry_weight R o z i d l) ∙ none))
      step (inr once) = once

  pub covers-keep : (p : K → Bool) (cs : List C) (z : ZSet K R) → CoversOnce Q key cs z → CoversOnce Q key cs (keep p z)
  covers-keep p cs z covers = covers_from cs (keep p z) (λ k. step k (covered cs z covers k))
    where
      step : (k : K) → (weight k z ≡ pos 0) ⊎ (count Q (key k) cs ≡ 1) → (weight k (keep p z) ≡ pos 0) ⊎ (count Q (key k) cs ≡ 1)
      step k (inl none) = inl (weight-keep R o identical p k z ∙ ap (λ n. cond (p k) n (pos 0)) none ∙ elim (p k) as (λ b. ◌≡◌ {A = ℤ} (cond b (pos 0) (pos 0)) (pos 0)) [ true ↦ refl | false ↦ refl ])
      step k (inr once) = inr once

  -- a key without a part, or one that stands in each cover
  pub part_or_covered : (c : C) (z : ZSet K R) → (at_key Q key c z ≡ no_keys R) ⊎ ((cs : List C) → CoversOnce Q key cs z → count Q c cs ≡ 1)
  unfolding at_key keep
  part_or_covered c z = step (found_key c ((cs : List C) → CoversOnce Q key cs z → count Q c cs ≡ 1) (entries z) (λ i d l e cs covers. ap (λ j. count Q j cs) (alike c (key (get_or (entries z) i d).0) e) ∙ covers i d l))
    where
      step : (filter (λ p. is_eq (Q c (key p.0))) (entries z) ≡ []) ⊎ ((cs : List C) → CoversOnce Q key cs z → count Q c cs ≡ 1) → (from_pairs R (filter (λ p. is_eq (Q c (key p.0))) (entries z)) ≡ no_keys R) ⊎ ((cs : List C) → CoversOnce Q key cs z → count Q c cs ≡ 1)
      step (inl none) = inl (ap (from_pairs R) none ∙ from_pairs_is R o identical [])
      step (inr once) = inr once

  pub count-member : {X : Type 0} (f : X → C) (xs : List X) (i : ℕ) (d : X) → i < length xs → 1 ≤ count Q (f (get_or xs i d)) (map f xs)
  count-member f [] i d l = absurd (omega arith)
  count-member f (x ∷ xs) zero d l =
      one_more (is_eq (Q (f x) (f x))) (count Q (f x) (map f xs)) (count Q (f x) (f x ∷ map f xs)) (ap is_eq (tied_itself q (f x))) (count-cons Q (f x) (f x) (map f xs))
  count-member f (x ∷ xs) (suc i) d l =
      let step = count-cons Q (f (get_or xs i d)) (f x) (map f xs) in
      let rest : 1 ≤ count Q (f (get_or xs i d)) (map f xs) = count-member f xs i d (omega arith) in
      omega arith

  -- the keys of a list in order cover what the list has
  pub covers-in_order : (cs : List C) (z : ZSet K R) → ((i : ℕ) (d : K × ℤ) → i < length (entries z) → 1 ≤ count Q (key (get_or (entries z) i d).0) cs) → CoversOnce Q key (in_order Q cs) z
  covers-in_order cs z has i d l = count-in_order Q q (key (get_or (entries z) i d).0) cs ∙ some (count Q (key (get_or (entries z) i d).0) cs) (has i d l)
    where
      some : (n : ℕ) → 1 ≤ n → ◌≡◌ {A = ℕ} (cond (n == 0) 0 1) 1
      some n l = grind (arith, nat_tests)

  pub covers-keys_of : (z : ZSet K R) → CoversOnce Q key (keys_of Q key z) z
  unfolding keys_of
  covers-keys_of z = covers-in_order (map (λ e. key e.0) (entries z)) z (count-member (λ (e : K × ℤ). key e.0) (entries z))

  count-none : (c : C) (ps : List (K × ℤ)) → filter (λ p. is_eq (Q c (key p.0))) ps ≡ [] → count Q c (map (λ p. key p.0) ps) ≡ 0
  count-none c [] e = refl
  count-none c (p ∷ ps) e = step (is_eq (Q c (key p.0))) refl e (count-none c ps)
    where
      step : (b : Bool) → is_eq (Q c (key p.0)) ≡ b → cond b (p ∷ filter (λ p. is_eq (Q c (key p.0))) ps) (filter (λ p. is_eq (Q c (key p.0))) ps) ≡ [] → (filter (λ p. is_eq (Q c (key p.0))) ps ≡ [] → count Q c (map (λ p. key p.0) ps) ≡ 0) → count Q c (map (λ p. key p.0) (p ∷ ps)) ≡ 0
      step true t e rest = cc
      step false t e rest = count-cons Q c (key p.0) (map (λ p. key p.0) ps) ∙ ap (λ b. cond b 1 0 + count Q c (map (λ p. key p.0) ps)) t ∙ zero-add (count Q c (map (λ p. key p.0) ps)) ∙ rest e

  -- ---- the part of one key
  abbrev sums : IsAbelian (z_sets R)
  sums = z_sets-IsAbelian R o identical

  pub at_key-IsAdditive : (c : C) → IsAdditive (z_sets R) (z_sets R) (at_key Q key c)
  unfolding at_key
  at_key-IsAdditive c = keep-IsAdditive R o identical (λ k. is_eq (Q c (key k)))

  pub at_key-plus : (c : C) (y z : ZSet K R) → at_key Q key c (plus_keys y z) ≡ plus_keys (at_key Q key c y) (at_key Q key c z)
  at_key-plus c = (at_key-IsAdditive c).of_plus

  pub at_key-zero : (c : C) → at_key Q key c (no_keys R) ≡ no_keys R
  unfolding at_key
  at_key-zero c = keep-zero R o identical (λ k. is_eq (Q c (key k)))

  pub weight-at_key : (k : K) (c : C) (z : ZSet K R) → weight k (at_key Q key c z) ≡ cond (is_eq (Q c (key k))) (weight k z) (pos 0)
  unfolding at_key
  weight-at_key k c z = weight-keep R o identical (λ k. is_eq (Q c (key k))) k z

  -- the keys that a Z-set has are those with a part that is not empty
  pub no_key_from : (c : C) (z : ZSet K R) → at_key Q key c z ≡ no_keys R → count Q c (keys_of Q key z) ≡ 0
  unfolding keys_of
  no_key_from c z none = count-in_order Q q c (map (λ e. key e.0) (entries z)) ∙ ap (λ (n : ℕ). cond (n == 0) 0 1) (step (found_key c ⊥ (entries z) at))
    where
      at : (i : ℕ) (d : K × ℤ) → i < length (entries z) → Q c (key (get_or (entries z) i d).0) ≡ Equal → ⊥
      at i d l e = entry_nonzero R z i d l
          (sym (entry_weight R o z i d l)
          ∙ sym (weight-at_key (get_or (entries z) i d).0 c z ∙ ap (λ r. cond (is_eq r) (weight (get_or (entries z) i d).0 z) (pos 0)) e)
          ∙ ap (weight (get_or (entries z) i d).0) none ∙ weight-zero R (get_or (entries z) i d).0)

      step : (filter (λ p. is_eq (Q c (key p.0))) (entries z) ≡ []) ⊎ ⊥ → count Q c (map (λ e. key e.0) (entries z)) ≡ 0
      step (inl none) = count-none c (entries z) none
      step (inr h) = absurd h

  pub no_part_from : (c : C) (z : ZSet K R) → count Q c (keys_of Q key z) ≡ 0 → at_key Q key c z ≡ no_keys R
  no_part_from c z none = step (part_or_covered c z)
    where
      step : (at_key Q key c z ≡ no_keys R) ⊎ ((cs : List C) → CoversOnce Q key cs z → count Q c cs ≡ 1) → at_key Q key c z ≡ no_keys R
      step (inl e) = e
      step (inr once) = let one : count Q c (keys_of Q key z) ≡ 1 = once (keys_of Q key z) (covers-keys_of z) in absurd (omega arith)

  pub lin-at_key : {A : Type 0} (G : AbelianGroup A) (laws : IsAbelian G) (h : K → A) (c : C) (z : ZSet K R) → lin G h (at_key Q key c z) ≡ lin G (λ k. cond (is_eq (Q c (key k))) (h k) G.zero) z
  unfolding at_key
  lin-at_key G laws h c z = lin-keep R o identical G laws h (λ k. is_eq (Q c (key k))) z

  pub covers-at_key : {D : Type 0} (P : D → D → Ordering) (place : K → D) (d : D) (cs : List C) (z : ZSet K R) → CoversOnce Q key cs z → CoversOnce Q key cs (at_key P place d z)
  unfolding at_key
  covers-at_key P place d cs z = covers-keep (λ k. is_eq (P d (place k))) cs z

  -- the parts add up to the whole
  pub parts_add_up : (cs : List C) (z : ZSet K R) → CoversOnce Q key cs z → sum_over (z_sets R) (λ c. at_key Q key c z) cs ≡ z
  parts_add_up cs z covers = same_weights R o identical (sum_over (z_sets R) (λ c. at_key Q key c z) cs) z (λ k.
      additive-sum_over (z_sets R) integers sums integers-IsAbelian (weight k) (weight-IsAdditive R o k) (λ c. at_key Q key c z) cs
      ∙ sum_over_agree integers (λ c. weight k (at_key Q key c z)) (λ c. cond (is_eq (Q c (key k))) (weight k z) (pos 0)) (λ c. weight-at_key k c z) cs
      ∙ sum_at Q q alike integers integers-IsAbelian (λ _. weight k z) (key k) cs
      ∙ step k (covered cs z covers k))
    where
      step : (k : K) → (weight k z ≡ pos 0) ⊎ (count Q (key k) cs ≡ 1) → multiple integers (count Q (key k) cs) (weight k z) ≡ weight k z
      step k (inl none) = ap (multiple integers (count Q (key k) cs)) none ∙ times_of_zero integers integers-IsAbelian (pos (count Q (key k) cs)) ∙ sym none
      step k (inr once) = ap (λ n. multiple integers n (weight k z)) once ∙ times-one integers integers-IsAbelian (weight k z)

  -- and so do what an additive map gives for the parts
  pub additive_parts : {A : Type 0} (G : AbelianGroup A) (laws : IsAbelian G) (f : ZSet K R → A) → IsAdditive (z_sets R) G f → (cs : List C) (z : ZSet K R) → CoversOnce Q key cs z → sum_over G (λ c. f (at_key Q key c z)) cs ≡ f z
  additive_parts G laws f additive cs z covers =
      sym (additive-sum_over (z_sets R) G sums laws f additive (λ c. at_key Q key c z) cs) ∙ ap f (parts_add_up cs z covers)

  -- the part of a key in the part of a place is the part of the key where it stands at that place, and else empty
  pub at_key-at_key : {D : Type 0} (P : D → D → Ordering) (place : K → D) (inner : C → D) → ((k : K) → place k ≡ inner (key k)) → (c : C) (d : D) (z : ZSet K R) → at_key Q key c (at_key P place d z) ≡ cond (is_eq (P d (inner c))) (at_key Q key c z) (no_keys R)
  unfolding at_key
  at_key-at_key P place inner stands c d z = same_weights R o identical (keep (λ k. is_eq (Q c (key k))) (keep (λ k. is_eq (P d (place k))) z)) (cond (is_eq (P d (inner c))) (keep (λ k. is_eq (Q c (key k))) z) (no_keys R)) (λ k.
      weight-keep R o identical (λ k. is_eq (Q c (key k))) k (keep (λ k. is_eq (P d (place k))) z)
      ∙ ap (λ n. cond (is_eq (Q c (key k))) n (pos 0)) (weight-keep R o identical (λ k. is_eq (P d (place k))) k z)
      ∙ nested (is_eq (Q c (key k))) (is_eq (P d (place k))) (is_eq (P d (inner c))) (weight k z) (λ t. ap (λ e. is_eq (P d e)) (stands k ∙ ap inner (sym (alike c (key k) (equal (Q c (key k)) t)))))
      ∙ sym (elim (is_eq (P d (inner c))) as (λ b. weight k (cond b (keep (λ k. is_eq (Q c (key k))) z) (no_keys R)) ≡ cond b (cond (is_eq (Q c (key k))) (weight k z) (pos 0)) (pos 0)) [
        | true ↦ weight-keep R o identical (λ k. is_eq (Q c (key k))) k z
        | false ↦ weight-zero R k
      ]))

  -- a key of z stands at a place that the list of places has once
  at_place : {D : Type 0} (P : D → D → Ordering) (place : K → D) (inner : C → D) → ((k : K) → place k ≡ inner (key k)) → (ds : List D) (z : ZSet K R) → CoversOnce P place ds z → (c : C) → (at_key Q key c z ≡ no_keys R) ⊎ (count P (inner c) ds ≡ 1)
  unfolding at_key keep
  at_place P place inner stands ds z covers c = step (found_key c (count P (inner c) ds ≡ 1) (entries z) (λ i d l e.
      ap (λ j. count P j ds) (ap inner (alike c (key (get_or (entries z) i d).0) e) ∙ sym (stands (get_or (entries z) i d).0)) ∙ covers i d l))
    where
      step : (filter (λ p. is_eq (Q c (key p.0))) (entries z) ≡ []) ⊎ (count P (inner c) ds ≡ 1) → (from_pairs R (filter (λ p. is_eq (Q c (key p.0))) (entries z)) ≡ no_keys R) ⊎ (count P (inner c) ds ≡ 1)
      step (inl none) = inl (ap (from_pairs R) none ∙ from_pairs_is R o identical [])
      step (inr once) = inr once

  covers_more : (cs : List C) (z : ZSet K R) → ((c : C) → count Q c (raw_keys key z) ≤ count Q c cs) → CoversOnce Q key (in_order Q cs) z
  covers_more cs z has = covers-in_order cs z (λ i d l. more (count Q (key (get_or (entries z) i d).0) (raw_keys key z)) (count Q (key (get_or (entries z) i d).0) cs) (count-member (λ (e : K × ℤ). key e.0) (entries z) i d l) (has (key (get_or (entries z) i d).0)))
    where
      more : (a b : ℕ) → 1 ≤ a → a ≤ b → 1 ≤ b
      more a b g h = omega arith

module _ {C : Type 0} (Q : C → C → Ordering) {K : Type 0} (R : K → K → Ordering) (key : K → C) {A : Type 0} (G : AbelianGroup A) where
  -- parts that agree have the same sum
  pub by_key_agree : (part other : C → ZSet K R → A) → ((c : C) (y : ZSet K R) → part c y ≡ other c y) → (z : ZSet K R) → by_key Q key G part z ≡ by_key Q key G other z
  unfolding by_key
  by_key_agree part other same z = sum_over_agree G (λ c. part c (at_key Q key c z)) (λ c. other c (at_key Q key c z)) (λ c. same c (at_key Q key c z)) (keys_of Q key z)

  -- an additive map goes inside
  pub by_key_inside : (laws : IsAbelian G) {B : Type 0} (H : AbelianGroup B) (others : IsAbelian H) (f : A → B) → IsAdditive G H f → (part : C → ZSet K R → A) (z : ZSet K R) → f (by_key Q key G part z) ≡ by_key Q key H (λ c y. f (part c y)) z
  unfolding by_key
  by_key_inside laws H others f additive part z = additive-sum_over G H laws others f additive (λ c. part c (at_key Q key c z)) (keys_of Q key z)

-- ---- sums over the keys
module _ {C : Type 0} (Q : C → C → Ordering) (q : IsTotalOrder Q) (alike : IsAntisymmetric Q) {K : Type 0} (R : K → K → Ordering) (o : IsTotalOrder R) (identical : IsAntisymmetric R) (key : K → C) {A : Type 0} (G : AbelianGroup A) (laws : IsAbelian G) where
  module _ (part : C → ZSet K R → A) (none : (c : C) → part c (no_keys R) ≡ G.zero) where
    -- any two covers give the same sum
    pub by_key_covers : (cs ds : List C) (z : ZSet K R) → CoversOnce Q key cs z → CoversOnce Q key ds z → sum_over G (λ c. part c (at_key Q key c z)) cs ≡ sum_over G (λ c. part c (at_key Q key c z)) ds
    by_key_covers cs ds z left right = sums_agree Q q alike G laws (λ c. part c (at_key Q key c z)) cs ds (λ c. step c (part_or_covered Q q alike R o identical key c z))
      where
        step : (c : C) → (at_key Q key c z ≡ no_keys R) ⊎ ((es : List C) → CoversOnce Q key es z → count Q c es ≡ 1) → (part c (at_key Q key c z) ≡ G.zero) ⊎ (count Q c cs ≡ count Q c ds)
        step c (inl e) = inl (ap (part c) e ∙ none c)
        step c (inr once) = inr (once cs left ∙ sym (once ds right))

    -- the sum over the keys is that over any list of keys that covers them
    pub by_key_over : (cs : List C) (z : ZSet K R) → CoversOnce Q key cs z → by_key Q key G part z ≡ sum_over G (λ c. part c (at_key Q key c z)) cs
    unfolding by_key
    by_key_over cs z covers = by_key_covers (keys_of Q key z) cs z (covers-keys_of Q q alike R o identical key z) covers

    pub by_key-zero : by_key Q key G part (no_keys R) ≡ G.zero
    unfolding by_key keys_of
    by_key-zero = ap (λ es. sum_over G (λ c. part c (at_key Q key c (no_keys R))) (in_order Q (map (λ e. key e.0) es))) (entries-zero R)

    -- the change of the sum by a change of the Z-set is the sum, over the keys of the change, of the changes of the parts
    pub by_key-change : (cs : List C) (z d : ZSet K R) → CoversOnce Q key cs d →
        minus G (by_key Q key G part (plus_keys z d)) (by_key Q key G part z) ≡ sum_over G (λ c. minus G (part c (at_key Q key c (plus_keys z d))) (part c (at_key Q key c z))) cs
    by_key-change cs z d covers =
        let three : List C = in_order Q (raw_keys key z ++ (raw_keys key d ++ raw_keys key (plus_keys z d))) in
        let first_in : CoversOnce Q key three z = covers_more Q q alike R o identical key (raw_keys key z ++ (raw_keys key d ++ raw_keys key (plus_keys z d))) z (λ c. omega (arith, count-append Q c (raw_keys key z) (raw_keys key d ++ raw_keys key (plus_keys z d)))) in
        let second_in : CoversOnce Q key three d = covers_more Q q alike R o identical key (raw_keys key z ++ (raw_keys key d ++ raw_keys key (plus_keys z d))) d (λ c. omega (arith, count-append Q c (raw_keys key z) (raw_keys key d ++ raw_keys key (plus_keys z d)), count-append Q c (raw_keys key d) (raw_keys key (plus_keys z d)))) in
        let third_in : CoversOnce Q key three (plus_keys z d) = covers_more Q q alike R o identical key (raw_keys key z ++ (raw_keys key d ++ raw_keys key (plus_keys z d))) (plus_keys z d) (λ c. omega (arith, count-append Q c (raw_keys key z) (raw_keys key d ++ raw_keys key (plus_keys z d)), count-append Q c (raw_keys key d) (raw_keys key (plus_keys z d)))) in
        ap₂ (minus G) (by_key_over three (plus_keys z d) third_in) (by_key_over three z first_in)
        ∙ sym (sum_over-minus G laws (λ c. part c (at_key Q key c (plus_keys z d))) (λ c. part c (at_key Q key c z)) three)
        ∙ sums_agree Q q alike G laws (λ c. minus G (part c (at_key Q key c (plus_keys z d))) (part c (at_key Q key c z))) three cs (λ c. step three second_in c (part_or_covered Q q alike R o identical key c d))
      where
        step : (three : List C) → CoversOnce Q key three d → (c : C) → (at_key Q key c d ≡ no_keys R) ⊎ ((es : List C) → CoversOnce Q key es d → count Q c es ≡ 1) →
            (minus G (part c (at_key Q key c (plus_keys z d))) (part c (at_key Q key c z)) ≡ G.zero) ⊎ (count Q c three ≡ count Q c cs)
        step three second_in c (inl e) =
            inl (ap (λ y. minus G (part c y) (part c (at_key Q key c z)))
            (at_key-plus Q q alike R o identical key c z d ∙ ap (plus_keys (at_key Q key c z)) e ∙ neutral_right (z_sets R) (z_sets-IsAbelian R o identical) (at_key Q key c z))
            ∙ minus-self G laws (part c (at_key Q key c z)))
        step three second_in c (inr once) = inr (once three second_in ∙ sym (once cs covers))

    -- where place tells of a key c of z that its part stands at inner c, the sum over the keys adds up over the parts by place
    pub by_key_parts : {D : Type 0} (P : D → D → Ordering) (p : IsTotalOrder P) (single_place : IsAntisymmetric P) (place : K → D) (inner : C → D) → ((k : K) → place k ≡ inner (key k)) →
        (ds : List D) (z : ZSet K R) → CoversOnce P place ds z → sum_over G (λ d. by_key Q key G part (at_key P place d z)) ds ≡ by_key Q key G part z
    by_key_parts {D} P p single_place place inner stands ds z covers =
        sum_over_agree G (λ d. by_key Q key G part (at_key P place d z)) (λ d. sum_over G (λ c. part c (at_key Q key c (at_key P place d z))) (keys_of Q key z))
        (λ d. by_key_over (keys_of Q key z) (at_key P place d z) (covers-at_key Q q alike R o identical key P place d (keys_of Q key z) z (covers-keys_of Q q alike R o identical key z))) ds
        ∙ sum_over-swap G laws (λ d c. part c (at_key Q key c (at_key P place d z))) ds (keys_of Q key z)
        ∙ sum_over_agree G (λ c. sum_over G (λ d. part c (at_key Q key c (at_key P place d z))) ds) (λ c. part c (at_key Q key c z)) column (keys_of Q key z)
        ∙ sym (by_key_over (keys_of Q key z) z (covers-keys_of Q q alike R o identical key z))
      where
        piece : (c : C) (d : D) → part c (at_key Q key c (at_key P place d z)) ≡ cond (is_eq (P d (inner c))) (part c (at_key Q key c z)) G.zero
        piece c d =
            ap (part c) (at_key-at_key Q q alike R o identical key P place inner stands c d z)
            ∙ elim (is_eq (P d (inner c))) as (λ b. part c (cond b (at_key Q key c z) (no_keys R)) ≡ cond b (part c (at_key Q key c z)) G.zero) [ true ↦ refl | false ↦ none c ]

        last : (c : C) → (at_key Q key c z ≡ no_keys R) ⊎ (count P (inner c) ds ≡ 1) → multiple G (count P (inner c) ds) (part c (at_key Q key c z)) ≡ part c (at_key Q key c z)
        last c (inl e) = ap (λ y. multiple G (count P (inner c) ds) (part c y)) e ∙ ap (multiple G (count P (inner c) ds)) (none c) ∙ times_of_zero G laws (pos (count P (inner c) ds)) ∙ sym (ap (part c) e ∙ none c)
        last c (inr once) = ap (λ n. multiple G n (part c (at_key Q key c z))) once ∙ times-one G laws (part c (at_key Q key c z))

        column : (c : C) → sum_over G (λ d. part c (at_key Q key c (at_key P place d z))) ds ≡ part c (at_key Q key c z)
        column c =
            sum_over_agree G (λ d. part c (at_key Q key c (at_key P place d z))) (λ d. cond (is_eq (P d (inner c))) (part c (at_key Q key c z)) G.zero) (piece c) ds
            ∙ sum_at P p single_place G laws (λ _. part c (at_key Q key c z)) (inner c) ds
            ∙ last c (at_place Q q alike R o identical key P place inner stands ds z covers c)

  -- what is additive in each part is additive
  pub by_key-IsAdditive : (part : C → ZSet K R → A) → ((c : C) → IsAdditive (z_sets R) G (part c)) → IsAdditive (z_sets R) G (by_key Q key G part)
  by_key-IsAdditive part additive = record {
    of_plus = λ y z.
        let none : (c : C) → part c (no_keys R) ≡ G.zero = λ c. additive-zero (z_sets R) G (z_sets-IsAbelian R o identical) laws (part c) (additive c) in
        let keys : List C = raw_keys key y ++ (raw_keys key z ++ raw_keys key (plus_keys y z)) in
        let left : CoversOnce Q key (in_order Q keys) y = covers_more Q q alike R o identical key keys y (λ c. omega (arith, count-append Q c (raw_keys key y) (raw_keys key z ++ raw_keys key (plus_keys y z)))) in
        let right : CoversOnce Q key (in_order Q keys) z = covers_more Q q alike R o identical key keys z (λ c. omega (arith, count-append Q c (raw_keys key y) (raw_keys key z ++ raw_keys key (plus_keys y z)), count-append Q c (raw_keys key z) (raw_keys key (plus_keys y z)))) in
        let both : CoversOnce Q key (in_order Q keys) (plus_keys y z) = covers_more Q q alike R o identical key keys (plus_keys y z) (λ c. omega (arith, count-append Q c (raw_keys key y) (raw_keys key z ++ raw_keys key (plus_keys y z)), count-append Q c (raw_keys key z) (raw_keys key (plus_keys y z)))) in
        by_key_over part none (in_order Q keys) (plus_keys y z) both
        ∙ sum_over_agree G (λ c. part c (at_key Q key c (plus_keys y z))) (λ c. G.plus (part c (at_key Q key c y)) (part c (at_key Q key c z)))
        (λ c. ap (part c) (at_key-plus Q q alike R o identical key c y z) ∙ (additive c).of_plus (at_key Q key c y) (at_key Q key c z)) (in_order Q keys)
        ∙ sum_over-plus G laws (λ c. part c (at_key Q key c y)) (λ c. part c (at_key Q key c z)) (in_order Q keys)
        ∙ sym (ap₂ G.plus (by_key_over part none (in_order Q keys) y left) (by_key_over part none (in_order Q keys) z right));
  }

  -- and a linear extension that knows the key is one linear extension
  pub by_key-lin : (h : C → K → A) (z : ZSet K R) → by_key Q key G (λ c y. lin G (h c) y) z ≡ lin G (λ k. h (key k) k) z
  unfolding by_key
  by_key-lin h z =
      sum_over_agree G (λ c. lin G (h c) (at_key Q key c z)) (λ c. lin G (λ k. cond (is_eq (Q c (key k))) (h c k) G.zero) z) (λ c. lin-at_key Q q alike R o identical key G laws (h c) c z) (keys_of Q key z)
      ∙ sym (lin_of_sum R o identical G laws (λ c k. cond (is_eq (Q c (key k))) (h c k) G.zero) (keys_of Q key z) z)
      ∙ lin_agree_at R o identical G laws (λ k. sum_over G (λ c. cond (is_eq (Q c (key k))) (h c k) G.zero) (keys_of Q key z)) (λ k. h (key k) k) z
      (λ i d l. at (get_or (entries z) i d).0 (covers-keys_of Q q alike R o identical key z i d l))
    where
      at : (k : K) → count Q (key k) (keys_of Q key z) ≡ 1 → sum_over G (λ c. cond (is_eq (Q c (key k))) (h c k) G.zero) (keys_of Q key z) ≡ h (key k) k
      at k once = sum_at Q q alike G laws (λ c. h c k) (key k) (keys_of Q key z) ∙ ap (λ n. multiple G n (h (key k) k)) once ∙ times-one G laws (h (key k) k)

  -- over the part of one key only what is given for this key is left
  pub by_key_at_key : (part : C → ZSet K R → A) → ((c : C) → part c (no_keys R) ≡ G.zero) → (c : C) (z : ZSet K R) → by_key Q key G part (at_key Q key c z) ≡ part c (at_key Q key c z)
  by_key_at_key part none c z =
      by_key_over part none (c ∷ []) (at_key Q key c z) (covers_from Q q alike R o identical key (c ∷ []) (at_key Q key c z) (λ k. step k (is_eq (Q c (key k))) refl))
      ∙ neutral_right G laws (part c (at_key Q key c (at_key Q key c z)))
      ∙ ap (part c) (at_key-at_key Q q alike R o identical key Q key (λ d. d) (λ k. refl) c c z ∙ ap (λ r. cond (is_eq r) (at_key Q key c z) (no_keys R)) (tied_itself q c))
    where
      step : (k : K) (b : Bool) → is_eq (Q c (key k)) ≡ b → (weight k (at_key Q key c z) ≡ pos 0) ⊎ (count Q (key k) (c ∷ []) ≡ 1)
      step k true e = inr (count-cons Q (key k) c [] ∙ ap (λ b. cond b 1 0 + count Q (key k) []) (tie_back Q q (key k) c ∙ e))
      step k false e = inl (weight-at_key Q q alike R o identical key k c z ∙ ap (λ b. cond b (weight k z) (pos 0)) e)

-- ---- products by key
module _ {C : Type 0} {J : Type 0} (S : J → J → Ordering) (s : IsTotalOrder S) (same : IsAntisymmetric S) {K : Type 0} (R : K → K → Ordering) (o : IsTotalOrder R) (identical : IsAntisymmetric R) {L : Type 0} (U : L → L → Ordering) (u : IsTotalOrder U) (one : IsAntisymmetric U) where
  -- where the images of each two keys are found once in the products of the parts, these add up to the product
  product_by_parts : (left : C → J → Bool) (right : C → K → Bool) (f : J → K → List L) (cs : List C) (y : ZSet J S) (z : ZSet K R) →
      All (λ e. (k : K) → sum_over (z_sets U) (λ c. cond (left c e.0) (cond (right c k) (of_list U (f e.0 k)) (no_keys U)) (no_keys U)) cs ≡ of_list U (f e.0 k)) (entries y) →
      sum_over (z_sets U) (λ c. product U f (keep (left c) y) (keep (right c) z)) cs ≡ product U f y z
  product_by_parts left right f cs y z once =
      sum_over_agree (z_sets U) (λ c. product U f (keep (left c) y) (keep (right c) z)) (λ c. lin (z_sets U) (λ j. lin (z_sets U) (λ k. piece c j k) z) y) part cs
      ∙ sym (lin_of_sum S s same (z_sets U) sums_of (λ c j. lin (z_sets U) (λ k. piece c j k) z) cs y)
      ∙ lin_agree_at S s same (z_sets U) sums_of (λ j. sum_over (z_sets U) (λ c. lin (z_sets U) (λ k. piece c j k) z) cs) (λ j. lin (z_sets U) (λ k. of_list U (f j k)) z) y
      (λ i d l. sym (lin_of_sum R o identical (z_sets U) sums_of (λ c k. piece c (get_or (entries y) i d).0 k) cs z)
      ∙ lin_agree R o identical (z_sets U) sums_of (λ k. sum_over (z_sets U) (λ c. piece c (get_or (entries y) i d).0 k) cs) (λ k. of_list U (f (get_or (entries y) i d).0 k)) (once i d l) z)
      ∙ sym (product_is U u one S s same R o identical f y z)
    where
      sums_of : IsAbelian (z_sets U)
      sums_of = z_sets-IsAbelian U u one

      piece : C → J → K → ZSet L U
      piece c j k = cond (left c j) (cond (right c k) (of_list U (f j k)) (no_keys U)) (no_keys U)

      outside : (c : C) (j : J) → cond (left c j) (lin (z_sets U) (λ k. cond (right c k) (of_list U (f j k)) (no_keys U)) z) (no_keys U) ≡ lin (z_sets U) (λ k. piece c j k) z
      outside c j = elim (left c j) as (λ b. cond b (lin (z_sets U) (λ k. cond (right c k) (of_list U (f j k)) (no_keys U)) z) (no_keys U) ≡ lin (z_sets U) (λ k. cond b (cond (right c k) (of_list U (f j k)) (no_keys U)) (no_keys U)) z) [
        | true ↦ refl
        | false ↦ sym (lin_of_zero R o identical (z_sets U) sums_of z)
      ]

      part : (c : C) → product U f (keep (left c) y) (keep (right c) z) ≡ lin (z_sets U) (λ j. lin (z_sets U) (λ k. piece c j k) z) y
      part c =
          product_is U u one S s same R o identical f (keep (left c) y) (keep (right c) z)
          ∙ lin-keep S s same (z_sets U) sums_of (λ j. lin (z_sets U) (λ k. of_list U (f j k)) (keep (right c) z)) (left c) y
          ∙ lin_agree S s same (z_sets U) sums_of (λ j. cond (left c j) (lin (z_sets U) (λ k. of_list U (f j k)) (keep (right c) z)) (no_keys U)) (λ j. lin (z_sets U) (λ k. piece c j k) z)
          (λ j. ap (λ x. cond (left c j) x (no_keys U)) (lin-keep R o identical (z_sets U) sums_of (λ k. of_list U (f j k)) (right c) z) ∙ outside c j) y

module _ {C : Type 0} (Q : C → C → Ordering) (q : IsTotalOrder Q) (alike : IsAntisymmetric Q) {J : Type 0} (S : J → J → Ordering) (s : IsTotalOrder S) (same : IsAntisymmetric S) {K : Type 0} (R : K → K → Ordering) (o : IsTotalOrder R) (identical : IsAntisymmetric R) {L : Type 0} (U : L → L → Ordering) (u : IsTotalOrder U) (one : IsAntisymmetric U) where
  -- a key that stands once in the list is found once
  found_once : (cs : List C) (c : C) (F : C → ZSet L U) → count Q c cs ≡ 1 → sum_over (z_sets U) (λ d. cond (is_eq (Q d c)) (F d) (no_keys U)) cs ≡ F c
  found_once cs c F once =
      sum_at Q q alike (z_sets U) (z_sets-IsAbelian U u one) F c cs ∙ ap (λ n. multiple (z_sets U) n (F c)) once ∙ times-one (z_sets U) (z_sets-IsAbelian U u one) (F c)

  -- where only keys with the same key have images, the products of the parts add up to the product
  pub product_parts : (left : J → C) (right : K → C) (f : J → K → List L) → ((j : J) (k : K) → is_eq (Q (left j) (right k)) ≡ false → f j k ≡ []) →
      (cs : List C) (y : ZSet J S) (z : ZSet K R) → CoversOnce Q left cs y → sum_over (z_sets U) (λ c. product U f (at_key Q left c y) (at_key Q right c z)) cs ≡ product U f y z
  unfolding at_key
  product_parts left right f apart cs y z covers =
      product_by_parts S s same R o identical U u one (λ c j. is_eq (Q c (left j))) (λ c k. is_eq (Q c (right k))) f cs y z
      (λ i d l k. found_once cs (left (get_or (entries y) i d).0) (λ c. cond (is_eq (Q c (right k))) (of_list U (f (get_or (entries y) i d).0 k)) (no_keys U)) (covers i d l) ∙ images (get_or (entries y) i d).0 k)
    where
      images : (j : J) (k : K) → cond (is_eq (Q (left j) (right k))) (of_list U (f j k)) (no_keys U) ≡ of_list U (f j k)
      images j k = elim (is_eq (Q (left j) (right k))) as (λ b. is_eq (Q (left j) (right k)) ≡ b → cond b (of_list U (f j k)) (no_keys U) ≡ of_list U (f j k)) [
        | true ↦ λ _. refl
        | false ↦ λ e. sym (ap (of_list U) (apart j k e) ∙ of_list-nil U u one)
      ] refl

  -- the image of two keys that have keys stands at their key, and there is none elsewhere
  image_at : (c : C) (b : Option C) (x : Option L) → cond (is_key Q c b) (of_list U (where_same Q (Some c) b x)) (no_keys U) ≡ of_list U (where_same Q (Some c) b x)
  image_at c None x = sym (of_list-nil U u one)
  image_at c (Some d) None = elim (is_eq (Q c d)) as (λ t. cond t (of_list U []) (no_keys U) ≡ of_list U []) [ true ↦ refl | false ↦ sym (of_list-nil U u one) ]
  image_at c (Some d) (Some x) = elim (is_eq (Q c d)) as (λ t. cond t (of_list U (cond t (x ∷ []) [])) (no_keys U) ≡ of_list U (cond t (x ∷ []) [])) [ true ↦ refl | false ↦ sym (of_list-nil U u one) ]

  -- two keys without a common key have no image
  pub pairs_where_apart : (left : J → Option C) (right : K → Option C) (pair : J → K → Option L) (left_of : J → C) (right_of : K → C) → ((j : J) (c : C) → left j ≡ Some c → left_of j ≡ c) → ((k : K) (c : C) → right k ≡ Some c → right_of k ≡ c) →
      (j : J) (k : K) → is_eq (Q (left_of j) (right_of k)) ≡ false → pairs_where Q left right pair j k ≡ []
  pairs_where_apart left right pair left_of right_of on_left on_right j k apart = step (left j) (right k) (pair j k) (on_left j) (on_right k)
    where
      step : (a b : Option C) (x : Option L) → ((c : C) → a ≡ Some c → left_of j ≡ c) → ((c : C) → b ≡ Some c → right_of k ≡ c) → where_same Q a b x ≡ []
      step None b x at bt = refl
      step (Some c) None x at bt = refl
      step (Some c) (Some d) None at bt = refl
      step (Some c) (Some d) (Some x) at bt = ap (λ t. cond t (x ∷ []) []) ((λ i. is_eq (Q (sym (at c refl) i) (sym (bt d refl) i))) ∙ apart)

  pub product_some_parts : (left : J → Option C) (right : K → Option C) (pair : J → K → Option L) (cs : List C) (y : ZSet J S) (z : ZSet K R) → CoversSomeOnce Q left cs y →
      sum_over (z_sets U) (λ c. product U (pairs_where Q left right pair) (at_some_key Q left c y) (at_some_key Q right c z)) cs ≡ product U (pairs_where Q left right pair) y z
  unfolding at_some_key
  product_some_parts left right pair cs y z covers =
      product_by_parts S s same R o identical U u one (λ c j. is_key Q c (left j)) (λ c k. is_key Q c (right k)) (pairs_where Q left right pair) cs y z
      (λ i d l k. step (left (get_or (entries y) i d).0) (right k) (pair (get_or (entries y) i d).0 k) (covers i d l))
    where
      step : (a b : Option C) (x : Option L) → ((c : C) → a ≡ Some c → count Q c cs ≡ 1) → sum_over (z_sets U) (λ c. cond (is_key Q c a) (cond (is_key Q c b) (of_list U (where_same Q a b x)) (no_keys U)) (no_keys U)) cs ≡ of_list U (where_same Q a b x)
      step None b x once = sum_over-zero (z_sets U) (z_sets-IsAbelian U u one) cs ∙ sym (of_list-nil U u one)
      step (Some d) b x once = found_once cs d (λ c. cond (is_key Q c b) (of_list U (where_same Q (Some d) b x)) (no_keys U)) (once d refl) ∙ image_at d b x

-- ---- lists that cover the keys that are there
module _ {C : Type 0} (Q : C → C → Ordering) (q : IsTotalOrder Q) {K : Type 0} (R : K → K → Ordering) (key : K → Option C) where
  count-some : (ps : List (K × ℤ)) (i : ℕ) (d : K × ℤ) → i < length ps → (c : C) → key (get_or ps i d).0 ≡ Some c → 1 ≤ count Q c (filter_map (λ p. key p.0) ps)
  count-some [] i d l c e = absurd (omega arith)
  count-some (p ∷ ps) zero d l c e =
      subst (λ b. 1 ≤ count Q c (cons_option b (filter_map (λ p. key p.0) ps))) (sym e)
      (one_more (is_eq (Q c c)) (count Q c (filter_map (λ p. key p.0) ps)) (count Q c (c ∷ filter_map (λ p. key p.0) ps)) (ap is_eq (tied_itself q c)) (count-cons Q c c (filter_map (λ p. key p.0) ps)))
  count-some (p ∷ ps) (suc i) d l c e = later (key p.0) (filter_map (λ p. key p.0) ps) (count-some ps i d (omega arith) c e)
    where
      later : (b : Option C) (cs : List C) → 1 ≤ count Q c cs → 1 ≤ count Q c (cons_option b cs)
      later None cs h = h
      later (Some e) cs h = omega (arith, h, count-cons Q c e cs)

  pub covers-some_keys_of : (z : ZSet K R) → CoversSomeOnce Q key (some_keys_of Q key z) z
  unfolding some_keys_of
  covers-some_keys_of z i d l c e = count-in_order Q q c (filter_map (λ p. key p.0) (entries z)) ∙ some (count Q c (filter_map (λ p. key p.0) (entries z))) (count-some (entries z) i d l c e)
    where
      some : (n : ℕ) → 1 ≤ n → ◌≡◌ {A = ℕ} (cond (n == 0) 0 1) 1
      some n l = grind (arith, nat_tests)

-- ---- distinct, key by key
module _ {K : Type 0} (R : K → K → Ordering) (o : IsTotalOrder R) (identical : IsAntisymmetric R) where
  -- the part of one key of the distinct Z-set
  abbrev pub distinct_part : K → ZSet K R → ZSet K R
  distinct_part k z = cond (int_lt (pos 0) (weight k z)) (single R k) (no_keys R)

  pub distinct_part-zero : (k : K) → distinct_part k (no_keys R) ≡ no_keys R
  distinct_part-zero k = ap (λ n. cond (int_lt (pos 0) n) (single R k) (no_keys R)) (weight-zero R k)

  weight-distinct_part : (j k : K) (z : ZSet K R) → weight k (distinct_part j (at_key R (λ k. k) j z)) ≡ cond (is_eq (R j k)) (sign_up (weight j z)) (pos 0)
  weight-distinct_part j k z =
      ap (λ n. weight k (cond (int_lt (pos 0) n) (single R j) (no_keys R))) (weight-at_key R o identical R o identical (λ k. k) j j z ∙ ap (λ r. cond (is_eq r) (weight j z) (pos 0)) (tied_itself o j))
      ∙ elim (int_lt (pos 0) (weight j z)) as (λ b. weight k (cond b (single R j) (no_keys R)) ≡ cond (is_eq (R j k)) (cond b (pos 1) (pos 0)) (pos 0)) [
        | true ↦ weight-single R o k j ∙ ap (λ b. cond b (pos 1) (pos 0)) (tie_back R o k j)
        | false ↦ weight-zero R k ∙ sym (elim (is_eq (R j k)) as (λ b. ◌≡◌ {A = ℤ} (cond b (pos 0) (pos 0)) (pos 0)) [ true ↦ refl | false ↦ refl ])
      ]

  pub distinct_by_key : (z : ZSet K R) → distinct z ≡ by_key R (λ k. k) (z_sets R) distinct_part z
  unfolding by_key
  distinct_by_key z = same_weights R o identical (distinct z) (sum_over (z_sets R) (λ c. distinct_part c (at_key R (λ k. k) c z)) (keys_of R (λ k. k) z)) (λ k.
      weight-distinct R o k z
      ∙ sym (additive-sum_over (z_sets R) integers (z_sets-IsAbelian R o identical) integers-IsAbelian (weight k) (weight-IsAdditive R o k) (λ c. distinct_part c (at_key R (λ k. k) c z)) (keys_of R (λ k. k) z)
      ∙ sum_over_agree integers (λ c. weight k (distinct_part c (at_key R (λ k. k) c z))) (λ c. cond (is_eq (R c k)) (sign_up (weight c z)) (pos 0)) (λ c. weight-distinct_part c k z) (keys_of R (λ k. k) z)
      ∙ sum_at R o identical integers integers-IsAbelian (λ c. sign_up (weight c z)) k (keys_of R (λ k. k) z)
      ∙ step k (covered R o identical R o identical (λ k. k) (keys_of R (λ k. k) z) z (covers-keys_of R o identical R o identical (λ k. k) z) k)))
    where
      step : (k : K) → (weight k z ≡ pos 0) ⊎ (count R k (keys_of R (λ k. k) z) ≡ 1) → multiple integers (count R k (keys_of R (λ k. k) z)) (sign_up (weight k z)) ≡ sign_up (weight k z)
      step k (inl none) = ap (λ n. multiple integers (count R k (keys_of R (λ k. k) z)) (sign_up n)) none ∙ times_of_zero integers integers-IsAbelian (pos (count R k (keys_of R (λ k. k) z))) ∙ sym (ap sign_up none)
      step k (inr once) = ap (λ n. multiple integers n (sign_up (weight k z))) once ∙ times-one integers integers-IsAbelian (sign_up (weight k z))
