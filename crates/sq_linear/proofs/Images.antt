-- The images of the rows of a Z-set, row after row, each with the weight of its row.
use Rattle.std.proofs.Common.{◌≡◌, ℕ, suc, ◌+◌, ◌*◌, ◌^◌, ◌≤◌, List, [], ◌∷◌, ◌++◌, take, drop, length, ℤ, unsigned_abs, Some, None, sym, ap, subst, ◌∙◌, append-nil, take_all}
use Rattle.std.specs.Prelude.{slice_get}
use Rattle.std.specs.List.{AllByRecursion, flat_map}
use Rattle.std.proofs.lemmas.Grind.{flat_map-append}
use Rattle.std.proofs.lemmas.List.Elements.{All-from_recursion}
use Rattle.std.proofs.lemmas.List.Sums.{sum_by-le}
use Rattle.sq_value.specs.declared.value.Value.{Value}
use Rattle.sq_value.specs.Order.{row_cmp}
use Rattle.sq_algebra.specs.Operators.{weighing}
use Rattle.sq_algebra.specs.ZSet.{ZSet, entries}
use Rattle.sq_expr.proofs.Lists.{all_flattened, all_weaker, take_more}
use Rattle.sq_expr.specs.Bigint.{first_not_bigint}
use Rattle.sq_ops.specs.Extensions.{first_value_outside}
use Rattle.sq_ops.proofs.Lists.{split_here}
use Rattle.sq_ops.proofs.Ranges.{first_here, first_later}
use Rattle.sq_zset.specs.declared.pair.Pair.{Pair}
use Rattle.sq_zset.specs.Pairs.{mass, weighted_rows}
use Rattle.sq_zset.specs.Range.{first_outside_in, IsInRange}
use Rattle.sq_zset.proofs.Entries.{in_range_abs, none_first}

-- ---- a list that is mapped to lists, up to a place and at it
module _ {A B : Type 0} (f : A → List B) (xs : List A) (i : ℕ) (x : A) (found : slice_get xs i ≡ Some x) where
  flat_more : flat_map f (take (i + 1) xs) ≡ flat_map f (take i xs) ++ f x
  flat_more =
      ap (flat_map f) (take_more xs i x found)
      ∙ flat_map-append f (take i xs) (x ∷ [])
      ∙ ap (λ ys. flat_map f (take i xs) ++ ys) (append-nil (f x))

  flat_split : flat_map f xs ≡ flat_map f (take i xs) ++ (f x ++ flat_map f (drop (suc i) xs))
  flat_split = ap (flat_map f) (split_here xs i x found) ∙ flat_map-append f (take i xs) (x ∷ drop (suc i) xs)

-- ---- the weights of the pairs

abbrev IsSmall : List Value × ℤ → Type 0
IsSmall e = unsigned_abs e.1 ≤ 2 ^ 62

small_entries : (es : List (List Value × ℤ)) → first_outside_in es ≡ None → AllByRecursion IsSmall es
small_entries [] h = tt
small_entries (e ∷ es) h = let parts = none_first e es h in (in_range_abs e.1 parts.0, small_entries es parts.1)

small_weighing : (rows : List (List Value)) (n : ℤ) → unsigned_abs n ≤ 2 ^ 62 → AllByRecursion IsSmall (weighing n rows)
small_weighing [] n h = tt
small_weighing (row ∷ rows) n h = (h, small_weighing rows n h)

small_pairs : (pairs : List Pair) → AllByRecursion IsSmall (weighted_rows pairs) → AllByRecursion (λ p. unsigned_abs p.weight ≤ 2 ^ 62) pairs
small_pairs [] h = tt
small_pairs (p ∷ ps) h = (h.0, small_pairs ps h.1)

module _ (images : List Value → List (List Value)) where
  pub mass_bound : (z : ZSet (List Value) row_cmp) (pairs : List Pair) → IsInRange z → weighted_rows pairs ≡ flat_map (λ e. weighing e.1 (images e.0)) (entries z) → mass pairs ≤ length pairs * 2 ^ 62
  mass_bound z pairs in_range made =
      let each : AllByRecursion (λ (e : List Value × ℤ). AllByRecursion IsSmall (weighing e.1 (images e.0))) (entries z) =
      all_weaker IsSmall (λ e. AllByRecursion IsSmall (weighing e.1 (images e.0))) (entries z) (λ e h. small_weighing (images e.0) e.1 h) (small_entries (entries z) in_range) in
      let small : AllByRecursion IsSmall (weighted_rows pairs) = subst (AllByRecursion IsSmall) (sym made) (all_flattened IsSmall (λ (e : List Value × ℤ). weighing e.1 (images e.0)) (entries z) each) in
      sum_by-le (λ (p : Pair). unsigned_abs p.weight) (2 ^ 62) pairs (All-from_recursion (λ (p : Pair). unsigned_abs p.weight ≤ 2 ^ 62) pairs (small_pairs pairs small))

  -- ---- row after row
  module _ (tested : List Value → List ℤ) (z : ZSet (List Value) row_cmp) where
    -- the images of the first i rows are moved, and no number of theirs lies outside
    pub record Moved (i : ℕ) (rows : List (List Value)) (pairs : List Pair) : Type 0 where
      pub emptied : rows ≡ []
      pub moved : weighted_rows pairs ≡ flat_map (λ e. weighing e.1 (images e.0)) (take i (entries z))
      pub in_range : first_not_bigint (flat_map (λ e. tested e.0) (take i (entries z))) ≡ None

    module _ (i : ℕ) (row : List Value) (weight : ℤ) (rows : List (List Value)) (olds : List Pair) (found : slice_get (entries z) i ≡ Some (row, weight)) (so_far : Moved i rows olds) where
      pub one_moved : (more rest : List (List Value)) (news : List Pair) → more ≡ rows ++ images row → first_not_bigint (tested row) ≡ None → weighted_rows news ≡ weighted_rows olds ++ weighing weight more → rest ≡ [] → Moved (i + 1) rest news
      one_moved more rest news given inside made empty = record {
        emptied = empty;
        moved =
            made
            ∙ (λ j. so_far.moved j ++ weighing weight ((given ∙ ap (λ rs. rs ++ images row) so_far.emptied) j))
            ∙ sym (flat_more (λ (e : List Value × ℤ). weighing e.1 (images e.0)) (entries z) i (row, weight) found);
        in_range =
            ap first_not_bigint (flat_more (λ (e : List Value × ℤ). tested e.0) (entries z) i (row, weight) found)
            ∙ first_later (flat_map (λ e. tested e.0) (take i (entries z))) (tested row) so_far.in_range
            ∙ inside;
      }

      pub one_outside : (n : ℤ) → first_not_bigint (tested row) ≡ Some n → first_value_outside tested z ≡ Some n
      one_outside n out =
          ap first_not_bigint (flat_split (λ (e : List Value × ℤ). tested e.0) (entries z) i (row, weight) found)
          ∙ first_later (flat_map (λ e. tested e.0) (take i (entries z))) (tested row ++ flat_map (λ e. tested e.0) (drop (suc i) (entries z))) so_far.in_range
          ∙ first_here (tested row) (flat_map (λ e. tested e.0) (drop (suc i) (entries z))) n out

    module _ (i : ℕ) (rows : List (List Value)) (pairs : List Pair) (past : length (entries z) ≤ i) (so_far : Moved i rows pairs) where
      pub all_moved : weighted_rows pairs ≡ flat_map (λ e. weighing e.1 (images e.0)) (entries z)
      all_moved = so_far.moved ∙ ap (flat_map (λ e. weighing e.1 (images e.0))) (take_all i (entries z) past)

      pub none_outside : first_value_outside tested z ≡ None
      none_outside = sym (ap (λ es. first_not_bigint (flat_map (λ e. tested e.0) es)) (take_all i (entries z) past)) ∙ so_far.in_range
