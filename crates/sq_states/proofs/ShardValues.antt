-- No number that is tested of a row is outside the range of BIGINT exactly if none is in any shard; and how changes tell of new rows.
use Rattle.std.proofs.Common.{◌≡◌, ◌↔◌, ◌==◌, ℕ, Bool, true, false, cond, not, List, [], ◌∷◌, ◌++◌, None, Some, ℤ, pos, ◌+ℤ◌, refl, sym, ap, ◌∙◌, arith}
use Rattle.std.specs.List.{AllByRecursion, flat_map}
use Rattle.std.specs.Option.{option_or}
use Rattle.std.specs.Ordering.{int_eq}
use Rattle.std.proofs.lemmas.Bool.Decides.{nat_tests}
use Rattle.std.proofs.lemmas.List.Elements.{All-contains, All-from_recursion, Contains-get_or, recursion_from_All}
use Rattle.std.proofs.lemmas.List.Folds.{find-append}
use borrow.Author.Differences.{ints}
use Rattle.sq_value.specs.declared.value.Value.{Value}
use Rattle.sq_value.specs.Order.{row_cmp}
use Rattle.sq_value.specs.OrderLaws.{row_cmp-total, row_cmp-antisymmetric}
use Rattle.sq_algebra.specs.Keyed.{Shards, cut}
use Rattle.sq_algebra.specs.ZSet.{entries, plus, weight}
use Rattle.sq_algebra.proofs.MemberLemmas.{entry_from, entry_is}
use Rattle.sq_algebra.proofs.ShardLemmas.{weight-cut}
use Rattle.sq_algebra.proofs.Weights.{zero_from}
use Rattle.sq_expr.specs.Bigint.{first_not_bigint, is_bigint}
use Rattle.sq_circuit.specs.Nodes.{Rows}
use Rattle.sq_join.specs.Stepping.{Row}
use Rattle.sq_ops.specs.Extensions.{first_value_outside}
use Rattle.sq_zset.proofs.Rows.{weight-plus}

itself : (n : ℕ) → (n == n) ≡ true
itself n = grind (arith, nat_tests)

zero_left : (n : ℤ) → pos 0 +ℤ n ≡ n
zero_left n = omega (arith, ints)

module _ (tested : Row → List ℤ) where
  abbrev IsFine : Row → Type 0
  IsFine row = first_not_bigint (tested row) ≡ None

  abbrev AllFine : Rows → Type 0
  AllFine z = (row : Row) → (weight row z ≡ pos 0 → ⊥) → IsFine row

  both : (xs ys : List ℤ) → first_not_bigint (xs ++ ys) ≡ None → (first_not_bigint xs ≡ None) × (first_not_bigint ys ≡ None)
  both xs ys e =
      elim (first_not_bigint xs) as (λ o. option_or o (first_not_bigint ys) ≡ None → (o ≡ None) × (first_not_bigint ys ≡ None)) [
        | None ↦ λ later. (refl, later)
        | Some x ↦ λ here. absurd (cc here)
      ] (sym (find-append (λ n. not (is_bigint n)) xs ys) ∙ e)

  each_fine : (es : List (Row × ℤ)) → first_not_bigint (flat_map (λ e. tested e.0) es) ≡ None → AllByRecursion (λ (e : Row × ℤ). IsFine e.0) es
  each_fine [] e = tt
  each_fine (x ∷ es) e = let parts = both (tested x.0) (flat_map (λ e. tested e.0) es) e in (parts.0, each_fine es parts.1)

  fine_each : (es : List (Row × ℤ)) → AllByRecursion (λ (e : Row × ℤ). IsFine e.0) es → first_not_bigint (flat_map (λ e. tested e.0) es) ≡ None
  fine_each [] h = refl
  fine_each (x ∷ es) h =
      find-append (λ n. not (is_bigint n)) (tested x.0) (flat_map (λ e. tested e.0) es) ∙ ap (λ o. option_or o (first_not_bigint (flat_map (λ e. tested e.0) es))) h.0 ∙ fine_each es h.1

  rows_fine : (z : Rows) → first_value_outside tested z ≡ None → AllFine z
  rows_fine z e row some =
      All-contains (λ (x : Row × ℤ). IsFine x.0) (entries z) (row, weight row z) (All-from_recursion (λ (x : Row × ℤ). IsFine x.0) (entries z) (each_fine (entries z) e))
      (entry_from row_cmp row_cmp-total row_cmp-antisymmetric z row some)

  fine_rows : (z : Rows) → AllFine z → first_value_outside tested z ≡ None
  fine_rows z fine = fine_each (entries z) (recursion_from_All (λ (x : Row × ℤ). IsFine x.0) (entries z) (λ i d low.
      let entry = entry_is row_cmp row_cmp-total z _ _ (Contains-get_or (entries z) i d low) in
      fine _ (λ none. entry.1 (sym entry.0 ∙ none))))

  module _ (S : Shards (List Value)) (key : List Value → List Value) (z : Rows) where
    cut_is : (row : Row) (s : ℕ) → weight row (cut S key s z) ≡ cond (s == S.shard (key row)) (weight row z) (pos 0)
    cut_is row s = weight-cut S row_cmp key row_cmp-total row_cmp-antisymmetric row s z

    either : (b : Bool) (n : ℤ) → n ≡ pos 0 → cond b n (pos 0) ≡ pos 0
    either true n e = e
    either false n e = refl

    pub values_in_shard : first_value_outside tested z ≡ None → (s : ℕ) → first_value_outside tested (cut S key s z) ≡ None
    values_in_shard e s = fine_rows (cut S key s z) (λ row some. rows_fine z e row (λ none. some (cut_is row s ∙ either (s == S.shard (key row)) (weight row z) none)))

    pub values_from_shards : ((s : ℕ) → first_value_outside tested (cut S key s z) ≡ None) → first_value_outside tested z ≡ None
    values_from_shards all = fine_rows z (λ row some.
        rows_fine (cut S key (S.shard (key row)) z) (all (S.shard (key row))) row (λ none. some (sym (cut_is row (S.shard (key row)) ∙ ap (λ b. cond b (weight row z) (pos 0)) (itself (S.shard (key row)))) ∙ none)))

  -- ---- changes
  module _ (y d : Rows) (old : first_value_outside tested y ≡ None) where
    -- a row without a weight before
    by_old : (row : Row) → (weight row y ≡ pos 0 → IsFine row) → IsFine row
    by_old row new = elim (int_eq (weight row y) (pos 0)) as (λ b. int_eq (weight row y) (pos 0) ≡ b → IsFine row) [
      | true ↦ λ e. new (zero_from (weight row y) e)
      | false ↦ λ e. rows_fine y old row (λ none. absurd (cc (e, none)))
    ] refl

    sum_is : (row : Row) → weight row y ≡ pos 0 → weight row (plus y d) ≡ weight row d
    sum_is row none = weight-plus row y d ∙ ap (λ n. n +ℤ weight row d) none ∙ zero_left (weight row d)

    pub values_follow : (first_value_outside tested d ≡ None) ↔ (first_value_outside tested (plus y d) ≡ None)
    values_follow = (
      λ e. fine_rows (plus y d) (λ row some. by_old row (λ none. rows_fine d e row (λ zero. some (sum_is row none ∙ zero)))),
      λ e. fine_rows d (λ row some. by_old row (λ none. rows_fine (plus y d) e row (λ zero. some (sym (sum_is row none) ∙ zero)))),
    )
