-- The part of a shard has what is asked of the whole.
use Rattle.std.proofs.Common.{◌≡◌, ◌==◌, ℕ, Bool, true, false, cond, List, [], ◌∷◌, ℤ, pos, sym, ap, subst, ◌∙◌, filter}
use Rattle.std.specs.Prelude.{◌≤ℤ◌}
use Rattle.std.specs.List.{All, AllByRecursion}
use Rattle.std.proofs.lemmas.List.Elements.{All-from_recursion, recursion_from_All}
use borrow.Author.Differences.{ints}
use Rattle.std.proofs.Common.{arith}
use Rattle.sq_value.specs.declared.value.Value.{Value}
use Rattle.sq_value.specs.Order.{row_cmp}
use Rattle.sq_value.specs.OrderLaws.{row_cmp-total, row_cmp-antisymmetric}
use Rattle.sq_algebra.specs.Keyed.{Shards, at_key, cut}
use Rattle.sq_algebra.specs.Operators.{IsNonNegative}
use Rattle.sq_algebra.specs.ZSet.{entries, plus, total, weight}
use Rattle.sq_algebra.proofs.EntryLemmas.{entries-cut}
use Rattle.sq_algebra.proofs.NonNegativeLemmas.{total-keep-le}
use Rattle.sq_algebra.proofs.ShardLemmas.{weight-cut}
use Rattle.sq_circuit.specs.Invariant.{IsListed}
use Rattle.sq_circuit.specs.Nodes.{Rows}
use Rattle.sq_join.specs.Stepping.{IsSmall}
use Rattle.sq_states.proofs.Rising.{cut_plus}

kept_by : {X : Type 0} (P : X → Type 0) (p : X → Bool) (xs : List X) → AllByRecursion P xs → AllByRecursion P (filter p xs)
kept_by P p [] h = tt
kept_by P p (x ∷ xs) h = elim (p x) as (λ b. AllByRecursion P (cond b (x ∷ filter p xs) (filter p xs))) [ true ↦ (h.0, kept_by P p xs h.1) | false ↦ kept_by P p xs h.1 ]

module _ (S : Shards (List Value)) (key : List Value → List Value) (s : ℕ) where
  -- what holds of each row
  pub each_cut : (P : List Value → Type 0) (z : Rows) → All (λ (e : List Value × ℤ). P e.0) (entries z) → All (λ (e : List Value × ℤ). P e.0) (entries (cut S key s z))
  each_cut P z h =
      subst (λ es. All (λ (e : List Value × ℤ). P e.0) es) (sym (entries-cut row_cmp row_cmp-total S key s z))
      (All-from_recursion (λ (e : List Value × ℤ). P e.0) (filter (λ e. s == S.shard (key e.0)) (entries z))
      (kept_by (λ (e : List Value × ℤ). P e.0) (λ e. s == S.shard (key e.0)) (entries z) (recursion_from_All (λ (e : List Value × ℤ). P e.0) (entries z) h)))

  not_below : (b : Bool) (n : ℤ) → pos 0 ≤ℤ n → pos 0 ≤ℤ cond b n (pos 0)
  not_below true n h = h
  not_below false n h = omega (arith, ints)

  nonnegative_cut : (z : Rows) → IsNonNegative z → IsNonNegative (cut S key s z)
  nonnegative_cut z h row =
      subst (λ n. pos 0 ≤ℤ n) (sym (weight-cut S row_cmp key row_cmp-total row_cmp-antisymmetric row s z)) (not_below (s == S.shard (key row)) (weight row z) (h row))

  total_cut : (z : Rows) → IsNonNegative z → total (cut S key s z) ≤ℤ total z
  unfolding at_key
  total_cut z h = total-keep-le row_cmp row_cmp-total row_cmp-antisymmetric _ z h

  pub small_cut : (z : Rows) → IsListed z → IsSmall (cut S key s z)
  small_cut z h = record { not_negative = nonnegative_cut z h.above; bounded = let low = total_cut z h.above in let few = h.few in omega (arith, ints) }

  -- the part of the new rows, as the part of the old ones with the part of the change
  pub small_after : (y dy d : Rows) → d ≡ cut S key s dy → IsListed (plus y dy) → IsSmall (plus (cut S key s y) d)
  small_after y dy d is h = subst IsSmall (cut_plus S key s y dy ∙ ap (plus (cut S key s y)) (sym is)) (small_cut (plus y dy) h)

  pub each_of : (P : List Value → Type 0) (dy d : Rows) → d ≡ cut S key s dy → All (λ (e : List Value × ℤ). P e.0) (entries dy) → All (λ (e : List Value × ℤ). P e.0) (entries d)
  each_of P dy d is h = subst (λ z. All (λ (e : List Value × ℤ). P e.0) (entries z)) (sym is) (each_cut P dy h)

  pub after_cut : (y dy d : Rows) → d ≡ cut S key s dy → plus (cut S key s y) d ≡ cut S key s (plus y dy)
  after_cut y dy d is = ap (plus (cut S key s y)) is ∙ sym (cut_plus S key s y dy)
