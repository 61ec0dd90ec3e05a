-- The rows of the groups, and the first SUM outside the range of BIGINT, group after group.
use Rattle.std.proofs.Common.{◌≡◌, List, [], ◌∷◌, ◌++◌, map, true, false, cond, not, ℤ, Option, Some, None, refl, sym, ap, ◌∙◌, append_assoc, append-nil}
use Rattle.std.specs.List.{find, flat_map}
use Rattle.std.specs.Option.{option_map, option_or}
use Rattle.std.proofs.lemmas.List.Folds.{find-append}
use Rattle.sq_value.specs.declared.value.Value.{Value}
use Rattle.sq_value.specs.Order.{row_cmp}
use Rattle.sq_algebra.specs.ZSet.{ZSet}
use Rattle.sq_ops.specs.declared.aggregate.AggSpec.{AggSpec}
use Rattle.sq_ops.specs.Aggregates.{group_row, rows_of_group, sums_of}
use Rattle.sq_expr.specs.Bigint.{first_not_bigint, is_bigint}

abbrev pub keyed : List Value → ℤ → List Value × ℤ
keyed c n = (c, n)

abbrev pub first_keyed : List (List Value × ℤ) → Option (List Value × ℤ)
first_keyed ss = find (λ s. not (is_bigint s.1)) ss

pub with_its_key : (c : List Value) (ns : List ℤ) → first_keyed (map (λ n. (c, n)) ns) ≡ option_map (keyed c) (first_not_bigint ns)
with_its_key c [] = refl
with_its_key c (n ∷ ns) =
    elim (is_bigint n) as (λ b. cond (not b) (Some (c, n)) (first_keyed (map (λ n. (c, n)) ns)) ≡ option_map (keyed c) (cond (not b) (Some n) (first_not_bigint ns))) [
      | true ↦ with_its_key c ns
      | false ↦ refl
    ]

module _ (spec : AggSpec) (z : ZSet (List Value) row_cmp) where
  abbrev pub shown : List Value → List Value
  shown c = group_row spec.calls c (rows_of_group spec z c)

  abbrev pub tested : List Value → List (List Value × ℤ)
  tested c = map (λ n. (c, n)) (sums_of spec.calls (rows_of_group spec z c))

  -- the groups before those that are left have their rows, and none of their SUMs lies outside
  pub record Shown (keys left rows : List (List Value)) : Type 0 where
    pub computed : rows ++ map shown left ≡ map shown keys
    pub in_range : first_keyed (flat_map tested keys) ≡ first_keyed (flat_map tested left)

  module _ (keys left rows : List (List Value)) (so_far : Shown keys left rows) where
    module _ (key : List Value) (rest : List (List Value)) (next : left ≡ key ∷ rest) where
      -- what the SUMs of the next group say, or else those of the groups behind it
      next_or_rest : first_keyed (flat_map tested keys) ≡ option_or (option_map (keyed key) (first_not_bigint (sums_of spec.calls (rows_of_group spec z key)))) (first_keyed (flat_map tested rest))
      next_or_rest =
          so_far.in_range ∙ ap (λ cs. first_keyed (flat_map tested cs)) next
          ∙ find-append (λ (s : List Value × ℤ). not (is_bigint s.1)) (tested key) (flat_map tested rest)
          ∙ ap (λ o. option_or o (first_keyed (flat_map tested rest))) (with_its_key key (sums_of spec.calls (rows_of_group spec z key)))

      pub one_shown : (news : List (List Value)) (row : List Value) → news ≡ rows ++ row ∷ [] → row ≡ shown key → first_not_bigint (sums_of spec.calls (rows_of_group spec z key)) ≡ None → Shown keys rest news
      one_shown news row made value inside = record {
        computed =
            ap (λ xs. xs ++ map shown rest) (made ∙ ap (λ x. rows ++ x ∷ []) value)
            ∙ append_assoc rows (shown key ∷ []) (map shown rest) ∙ ap (λ cs. rows ++ map shown cs) (sym next) ∙ so_far.computed;
        in_range = next_or_rest ∙ ap (λ o. option_or (option_map (keyed key) o) (first_keyed (flat_map tested rest))) inside;
      }

      -- a SUM outside is that of the first such group
      pub one_outside : (c : List Value) (n : ℤ) → c ≡ key → first_not_bigint (sums_of spec.calls (rows_of_group spec z key)) ≡ Some n → first_keyed (flat_map tested keys) ≡ Some (c, n)
      one_outside c n is out = next_or_rest ∙ ap (λ o. option_or (option_map (keyed key) o) (first_keyed (flat_map tested rest))) out ∙ ap (λ k. Some (k, n)) (sym is)

    module _ (done : left ≡ []) where
      pub all_shown : rows ≡ map shown keys
      all_shown = sym (append-nil rows) ∙ ap (λ cs. rows ++ map shown cs) (sym done) ∙ so_far.computed

      pub none_outside : first_keyed (flat_map tested keys) ≡ None
      none_outside = so_far.in_range ∙ ap (λ cs. first_keyed (flat_map tested cs)) done
