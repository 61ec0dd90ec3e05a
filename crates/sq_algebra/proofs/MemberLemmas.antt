-- The entries of a Z-set as its members, those of a list's Z-set, and members of lists that have a property.
use Rattle.std.proofs.Common.{◌≡◌, ℕ, zero, suc, ◌+◌, ◌<◌, ◌≤◌, List, [], ◌∷◌, ◌++◌, map, Bool, true, false, cond, ◌||◌, ◌==◌, T, ℤ, pos, length, get_or, refl, sym, ap, subst, ◌∙◌, arith, IsTrue, Ordering, Equal, is_eq}
use Rattle.std.specs.List.{Any, Contains, list_all, list_any}
use Rattle.std.specs.Ordering.{nat_cmp}
use Rattle.std.specs.Cmp.{IsTotalOrder, nat_cmp_total}
use Rattle.std.specs.FinMap.{IsAntisymmetric, nat_cmp-IsAntisymmetric}
use Rattle.std.proofs.lemmas.Cmp.{tied_itself}
use Rattle.std.proofs.lemmas.Bool.Decides.{nat_tests}
use Rattle.std.proofs.lemmas.List.{get_or_default, map-id}
use mathlib.Core.Logic.{◌⊎◌, inl, inr}
use borrow.Author.Differences.{ints}
use Rattle.sq_algebra.specs.Listed.{count, is_ascending, in_order}
use Rattle.sq_algebra.specs.ZSet.{is_nonzero, is_canonical, weight_in, ZSet, entries, entries-from_entries, from_entries, of_list, weight}
use Rattle.sq_algebra.specs.Operators.{keep}
use Rattle.sq_algebra.specs.Keyed.{at_key, Shards, cut}
use Rattle.sq_algebra.proofs.Tests.{both, equal}
use Rattle.sq_algebra.proofs.Lists.{count-cons, count-in_order, is_ascending-in_order}
use Rattle.sq_algebra.proofs.Weights.{nonzero_T, canonical_from, weight-from_entries, weight-of_list, same_weights}
use Rattle.sq_algebra.proofs.Changes.{weighed, keys-weighed, weight_in-weighed}
use Rattle.sq_algebra.proofs.LinearLemmas.{entry_weight, entry_nonzero}
use Rattle.sq_algebra.proofs.OperatorLemmas.{weight-keep}
use Rattle.sq_algebra.proofs.KeyedLemmas.{found, count-member}

-- ---- members of lists
module _ {X : Type 0} (P : X → Type 0) where
  pub any-nil : Any P [] → ⊥
  any-nil (k, x, l, e, h) = absurd (omega arith)

  pub any-here : (x : X) (xs : List X) → P x → Any P (x ∷ xs)
  any-here x xs h = (0, x, omega arith, refl, h)

  pub any-later : (x : X) (xs : List X) → Any P xs → Any P (x ∷ xs)
  any-later x xs (k, y, l, e, h) = (suc k, y, omega arith, e, h)

  pub any-cons : (x : X) (xs : List X) → Any P (x ∷ xs) → P x ⊎ Any P xs
  any-cons x xs (zero, y, l, e, h) = inl (subst P (sym e) h)
  any-cons x xs (suc k, y, l, e, h) = inr (k, y, omega arith, e, h)

  later_left : (x : X) (xs ys : List X) → Any P xs ⊎ Any P ys → Any P (x ∷ xs) ⊎ Any P ys
  later_left x xs ys (inl h) = inl (any-later x xs h)
  later_left x xs ys (inr h) = inr h

  either : {B : Type 0} (x : X) (xs : List X) → (P x → B) → (Any P xs → B) → P x ⊎ Any P xs → B
  either x xs here rest (inl h) = here h
  either x xs here rest (inr h) = rest h

  pub any-append : (xs ys : List X) → Any P (xs ++ ys) → Any P xs ⊎ Any P ys
  any-append [] ys h = inr h
  any-append (x ∷ xs) ys h = either x (xs ++ ys) (λ here. inl (any-here x xs here)) (λ rest. later_left x xs ys (any-append xs ys rest)) (any-cons x (xs ++ ys) h)

  pub any-left : (xs ys : List X) → Any P xs → Any P (xs ++ ys)
  any-left [] ys h = absurd (any-nil h)
  any-left (x ∷ xs) ys h = either x xs (λ here. any-here x (xs ++ ys) here) (λ rest. any-later x (xs ++ ys) (any-left xs ys rest)) (any-cons x xs h)

  pub any-right : (xs ys : List X) → Any P ys → Any P (xs ++ ys)
  any-right [] ys h = h
  any-right (x ∷ xs) ys h = any-later x (xs ++ ys) (any-right xs ys h)

  pub any-one_more : (x : X) (xs : List X) → P x ⊎ Any P xs → Any P (x ∷ xs)
  any-one_more x xs (inl h) = any-here x xs h
  any-one_more x xs (inr h) = any-later x xs h

  pub any-joined : (xs ys : List X) → Any P xs ⊎ Any P ys → Any P (xs ++ ys)
  any-joined xs ys (inl h) = any-left xs ys h
  any-joined xs ys (inr h) = any-right xs ys h

  -- a member with the property, and what holds of each such member
  pub any-from : (xs : List X) (x : X) → Contains xs x → P x → Any P xs
  any-from xs x (k, l, e) h = (k, x, l, e, h)

  pub any-to : (B : Type 0) (xs : List X) → ((x : X) → Contains xs x → P x → B) → Any P xs → B
  any-to B xs each (k, x, l, e, h) = each x (k, l, e) h

-- a test that some member passes
module _ {X : Type 0} (p : X → Bool) where
  pub any-from_list_any : (xs : List X) → IsTrue (list_any p xs) → Any (λ x. IsTrue (p x)) xs
  any-from_list_any [] e = absurd (cc)
  any-from_list_any (x ∷ xs) e =
      elim (p x) as (λ b. p x ≡ b → (b || list_any p xs) ≡ true → Any (λ x. IsTrue (p x)) (x ∷ xs)) [
        | true ↦ λ t _. any-here (λ x. IsTrue (p x)) x xs t
        | false ↦ λ _ rest. any-later (λ x. IsTrue (p x)) x xs (any-from_list_any xs rest)
      ] refl e

  pub list_any-from_any : (xs : List X) → Any (λ x. IsTrue (p x)) xs → IsTrue (list_any p xs)
  list_any-from_any [] h = absurd (any-nil (λ x. IsTrue (p x)) h)
  list_any-from_any (x ∷ xs) h =
      either (λ x. IsTrue (p x)) x xs (λ here. ap (λ b. b || list_any p xs) here)
      (λ rest. ap (λ b. p x || b) (list_any-from_any xs rest) ∙ elim (p x) as (λ b. (b || true) ≡ true) [ true ↦ refl | false ↦ refl ])
      (any-cons (λ x. IsTrue (p x)) x xs h)

counted_at : (n c : ℕ) (w : ℤ) → c ≡ cond (n == 0) 0 1 → (c ≡ 0 → w ≡ pos 0) × (c ≡ 1 → w ≡ pos n) → w ≡ pos n
counted_at zero c w e (none, once) = none e
counted_at (suc n) c w e (none, once) = once (e ∙ one n)
  where
    one : (n : ℕ) → ◌≡◌ {A = ℕ} (cond (suc n == 0) 0 1) 1
    one n = grind (arith, nat_tests)

-- ---- the entries of a Z-set
module _ {K : Type 0} (R : K → K → Ordering) (o : IsTotalOrder R) where
  -- each entry is a key with its weight, which is not 0
  pub entry_is : (z : ZSet K R) (k : K) (n : ℤ) → Contains (entries z) (k, n) → (weight k z ≡ n) × (n ≡ pos 0 → ⊥)
  entry_is z k n (i, l, e) = (
    ap (λ (p : K × ℤ). weight p.0 z) (sym e) ∙ entry_weight R o z i (k, n) l ∙ ap (λ (p : K × ℤ). p.1) e,
    λ none. entry_nonzero R z i (k, n) l (ap (λ (p : K × ℤ). p.1) e ∙ none),
  )

  module _ (identical : IsAntisymmetric R) where
    -- and each key with another weight than 0 is an entry
    pub entry_from : (z : ZSet K R) (k : K) → (weight k z ≡ pos 0 → ⊥) → Contains (entries z) (k, weight k z)
    unfolding weight
    entry_from z k some = step (found R o identical R o identical (λ k. k) k (Contains (entries z) (k, weight k z)) (entries z) at)
      where
        at : (i : ℕ) (d : K × ℤ) → i < length (entries z) → R k (get_or (entries z) i d).0 ≡ Equal → Contains (entries z) (k, weight k z)
        at i d l e =
            let same : k ≡ (get_or (entries z) i d).0 = identical k (get_or (entries z) i d).0 e in
            (i, l, get_or_default (entries z) i (k, weight k z) d l ∙ (λ j. (sym same j, (sym (entry_weight R o z i d l) ∙ ap (λ h. weight h z) (sym same)) j)))

        step : (weight_in R k (entries z) ≡ pos 0) ⊎ Contains (entries z) (k, weight k z) → Contains (entries z) (k, weight k z)
        step (inl none) = absurd (some none)
        step (inr there) = there

    -- the entries of a list's Z-set are its keys in order with their counts
    counts_nonzero : (xs : List K) (ks : List K) → ((i : ℕ) (d : K) → i < length ks → count R (get_or ks i d) xs ≡ 0 → ⊥) → T (list_all (λ q. is_nonzero q.1) (weighed R (λ k. pos (count R k xs)) ks))
    counts_nonzero xs [] some = tt
    counts_nonzero xs (k ∷ ks) some =
        both (is_nonzero (pos (count R k xs))) (list_all (λ q. is_nonzero q.1) (weighed R (λ k. pos (count R k xs)) ks))
        (nonzero_T (pos (count R k xs)) (λ e. some 0 k (omega arith) (omega (arith, ints)))) (counts_nonzero xs ks (λ i d l. some (suc i) d (omega arith)))

    stands : (xs : List K) (i : ℕ) (d : K) → i < length (in_order R xs) → count R (get_or (in_order R xs) i d) xs ≡ 0 → ⊥
    stands xs i d l none =
        let once : 1 ≤ count R (get_or (in_order R xs) i d) (in_order R xs) = subst (λ ks. 1 ≤ count R (get_or (in_order R xs) i d) ks) (map-id (in_order R xs)) (count-member R o identical R o identical (λ k. k) (λ k. k) (in_order R xs) i d l) in
        let none_there : count R (get_or (in_order R xs) i d) (in_order R xs) ≡ 0 = count-in_order R o (get_or (in_order R xs) i d) xs ∙ ap (λ (n : ℕ). cond (n == 0) 0 1) none in
        omega arith

    pub entries-of_list : (xs : List K) → entries (of_list R xs) ≡ map (λ k. (k, pos (count R k xs))) (in_order R xs)
    entries-of_list xs =
        ap entries (same_weights R o identical (of_list R xs) (from_entries R (weighed R (λ k. pos (count R k xs)) (in_order R xs))) (λ k.
        weight-of_list R o k xs ∙ sym (weight-from_entries R k (weighed R (λ k. pos (count R k xs)) (in_order R xs)) (canonical xs) ∙ at k)))
        ∙ entries-from_entries R (weighed R (λ k. pos (count R k xs)) (in_order R xs)) (canonical xs)
      where
        canonical : (xs : List K) → T (is_canonical R (weighed R (λ k. pos (count R k xs)) (in_order R xs)))
        canonical xs = canonical_from R (weighed R (λ k. pos (count R k xs)) (in_order R xs))
            (subst (λ ks. T (is_ascending R ks)) (sym (keys-weighed R (λ k. pos (count R k xs)) (in_order R xs))) (is_ascending-in_order R o xs))
            (counts_nonzero xs (in_order R xs) (stands xs))

        at : (k : K) → weight_in R k (weighed R (λ k. pos (count R k xs)) (in_order R xs)) ≡ pos (count R k xs)
        at k = counted_at (count R k xs) (count R k (in_order R xs)) (weight_in R k (weighed R (λ k. pos (count R k xs)) (in_order R xs))) (count-in_order R o k xs) (weight_in-weighed R identical (λ k. pos (count R k xs)) k (in_order R xs))

    entry_of : (z : ZSet K R) (k : K) (n : ℤ) → weight k z ≡ n → (n ≡ pos 0 → ⊥) → Contains (entries z) (k, n)
    entry_of z k n e some = subst (λ m. Contains (entries z) (k, m)) e (entry_from z k (λ none. some (sym e ∙ none)))

    -- the entries of the keys that pass are the entries whose keys pass
    pub entry-from_keep : (p : K → Bool) (z : ZSet K R) (k : K) (n : ℤ) → Contains (entries (keep p z)) (k, n) → Contains (entries z) (k, n) × IsTrue (p k)
    entry-from_keep p z k n there = step (p k) refl
      where
        is : (weight k (keep p z) ≡ n) × (n ≡ pos 0 → ⊥)
        is = entry_is (keep p z) k n there

        step : (b : Bool) → p k ≡ b → Contains (entries z) (k, n) × IsTrue (p k)
        step true t = (entry_of z k n (sym (weight-keep R o identical p k z ∙ ap (λ b. cond b (weight k z) (pos 0)) t) ∙ is.0) is.1, t)
        step false t = absurd (is.1 (sym is.0 ∙ weight-keep R o identical p k z ∙ ap (λ b. cond b (weight k z) (pos 0)) t))

    pub entry-to_keep : (p : K → Bool) (z : ZSet K R) (k : K) (n : ℤ) → Contains (entries z) (k, n) × IsTrue (p k) → Contains (entries (keep p z)) (k, n)
    entry-to_keep p z k n (there, passes) =
        let is : (weight k z ≡ n) × (n ≡ pos 0 → ⊥) = entry_is z k n there in
        entry_of (keep p z) k n (weight-keep R o identical p k z ∙ ap (λ b. cond b (weight k z) (pos 0)) passes ∙ is.0) is.1

-- ---- entries in shards
contains_from_count : (s : ℕ) (ns : List ℕ) → 1 ≤ count nat_cmp s ns → Contains ns s
contains_from_count s [] l = absurd (omega arith)
contains_from_count s (n ∷ ns) l = step (is_eq (nat_cmp s n)) refl (λ h. contains_from_count s ns h)
  where
    step : (b : Bool) → is_eq (nat_cmp s n) ≡ b → (1 ≤ count nat_cmp s ns → Contains ns s) → Contains (n ∷ ns) s
    step true t later = (0, omega arith, sym (nat_cmp-IsAntisymmetric s n (equal (nat_cmp s n) t)))
    step false t later =
        let rest : count nat_cmp s (n ∷ ns) ≡ 0 + count nat_cmp s ns = count-cons nat_cmp s n ns ∙ ap (λ b. cond b 1 0 + count nat_cmp s ns) t in
        let found : Contains ns s = later (omega (arith, rest, l)) in
        (suc found.0, omega (arith, found.1), found.2)

module _ {D : Type 0} (S : Shards D) {K : Type 0} (R : K → K → Ordering) (o : IsTotalOrder R) (identical : IsAntisymmetric R) (key : K → D) (P : K × ℤ → Type 0) where
  -- some entry has a property exactly where one of some part has it
  pub any-to_shards : (z : ZSet K R) → Any P (entries z) → Any (λ s. Any P (entries (cut S key s z))) S.numbers
  unfolding at_key
  any-to_shards z some = any-to P (Any (λ s. Any P (entries (cut S key s z))) S.numbers) (entries z) (λ e there holds.
      let inside : Contains (entries (keep (λ k. is_eq (nat_cmp (S.shard (key e.0)) (S.shard (key k)))) z)) e = entry-to_keep R o identical (λ k. is_eq (nat_cmp (S.shard (key e.0)) (S.shard (key k)))) z e.0 e.1 (there, ap is_eq (tied_itself nat_cmp_total (S.shard (key e.0)))) in
      any-from (λ s. Any P (entries (cut S key s z))) S.numbers (S.shard (key e.0)) (contains_from_count (S.shard (key e.0)) S.numbers (omega (arith, S.once (key e.0))))
      (any-from P (entries (cut S key (S.shard (key e.0)) z)) e inside holds)) some

  pub any-from_shards : (z : ZSet K R) → Any (λ s. Any P (entries (cut S key s z))) S.numbers → Any P (entries z)
  unfolding at_key
  any-from_shards z some = any-to (λ s. Any P (entries (cut S key s z))) (Any P (entries z)) S.numbers (λ s _ inside.
      any-to P (Any P (entries z)) (entries (cut S key s z)) (λ e there holds.
      any-from P (entries z) e (entry-from_keep R o identical (λ k. is_eq (nat_cmp s (S.shard (key k)))) z e.0 e.1 there).0 holds) inside) some
