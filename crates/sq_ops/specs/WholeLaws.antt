-- Distinct and aggregates are the sums of their parts by key, and a part over no rows is empty.
use Rattle.std.specs.Prelude.{◌≡◌, ℕ, ◌<◌, ◌≤◌, Bool, true, false, not, ◌&&◌, if◌then◌else◌, List, [], ◌∷◌, map, length}
use Rattle.std.specs.List.{flat_map}
use Rattle.std.proofs.Common.{refl, sym, ap, subst, ◌∙◌, get_or, arith}
use Rattle.std.proofs.lemmas.List.{map-id}
use Rattle.sq_value.specs.declared.value.Value.{Value}
use Rattle.sq_value.specs.Order.{row_cmp}
use Rattle.sq_value.specs.OrderLaws.{row_cmp-total, row_cmp-antisymmetric}
use Rattle.sq_algebra.specs.Groups.{z_sets, sum_over}
use Rattle.sq_algebra.specs.Keyed.{at_key, by_key, keys_of}
use Rattle.sq_algebra.specs.Listed.{count}
use Rattle.sq_algebra.specs.Operators.{distinct}
use Rattle.sq_algebra.specs.ZSet.{ZSet, zero, entries, entries-zero, same_entries, of_list, plus}
use Rattle.sq_algebra.proofs.GroupLemmas.{minus-zero, minus-self, neutral_right, plus-minus_back, sum_over_agree_at}
use Rattle.sq_algebra.proofs.KeyedLemmas.{by_key_agree, by_key_over, count-member, distinct_by_key, distinct_part, distinct_part-zero, no_key_from}
use Rattle.sq_algebra.proofs.OperatorLemmas.{keep_all, of_list-flat_map, of_list-nil}
use Rattle.sq_zset.specs.GroupLaws.{rows_are_abelian}
use Rattle.sq_ops.specs.declared.aggregate.AggSpec.{AggSpec}
use Rattle.sq_ops.specs.declared.aggregate.Call.{Call}
use Rattle.sq_ops.specs.Aggregates.{aggregated, group_of, group_row, part_of, rows_of_group}
use Rattle.sq_expr.specs.Meaning.{columns_of}
use Rattle.sq_ops.specs.Wholes.{IsNothingForNone, beyond_none, has_no_values, sum_of_parts}

-- ---- parts that are empty over no rows
module _ (key : List Value → List Value) (part : List Value → ZSet (List Value) row_cmp → ZSet (List Value) row_cmp) (nothing : (c : List Value) → part c (zero row_cmp) ≡ zero row_cmp) where
  sum_of_all_parts : (z : ZSet (List Value) row_cmp) → by_key row_cmp key (z_sets row_cmp) part z ≡ sum_of_parts part false key z
  sum_of_all_parts z =
      sym (rows_are_abelian.neutral (by_key row_cmp key (z_sets row_cmp) (beyond_none part) z)
      ∙ by_key_agree row_cmp row_cmp key (z_sets row_cmp) (beyond_none part) part
      (λ c y. ap (λ none. (z_sets row_cmp).plus (part c y) ((z_sets row_cmp).negate none)) (nothing c) ∙ minus-zero (z_sets row_cmp) rows_are_abelian (part c y)) z)

-- ---- distinct
pub distinct_is_nothing_for_none : IsNothingForNone (distinct_part row_cmp row_cmp-total row_cmp-antisymmetric) false
distinct_is_nothing_for_none c e = distinct_part-zero row_cmp row_cmp-total row_cmp-antisymmetric c

pub distinct_adds_up : (z : ZSet (List Value) row_cmp) → distinct z ≡ sum_of_parts (distinct_part row_cmp row_cmp-total row_cmp-antisymmetric) false (λ row. row) z
distinct_adds_up z =
    distinct_by_key row_cmp row_cmp-total row_cmp-antisymmetric z
    ∙ sum_of_all_parts (λ row. row) (distinct_part row_cmp row_cmp-total row_cmp-antisymmetric) (distinct_part-zero row_cmp row_cmp-total row_cmp-antisymmetric) z

-- ---- aggregates
module _ (stands : Bool) (calls : List Call) where
  pub part_is_nothing_for_none : IsNothingForNone (part_of stands calls) stands
  part_is_nothing_for_none c e =
      ap (λ es. of_list row_cmp (if has_no_values es && not (stands && has_no_values c) then [] else group_row calls c (zero row_cmp) ∷ [])) (entries-zero row_cmp)
      ∙ ap (λ b. of_list row_cmp (if not b then [] else group_row calls c (zero row_cmp) ∷ [])) e
      ∙ of_list-nil row_cmp row_cmp-total row_cmp-antisymmetric

maps_flat : {X Y : Type 0} (g : X → Y) (xs : List X) → map g xs ≡ flat_map (λ x. g x ∷ []) xs
maps_flat g [] = refl
maps_flat g (x ∷ xs) = ap (λ ys. g x ∷ ys) (maps_flat g xs)

-- a list of rows, counted, is the sum of them one by one
counted_one_by_one : {X : Type 0} (g : X → List Value) (xs : List X) → of_list row_cmp (map g xs) ≡ sum_over (z_sets row_cmp) (λ x. of_list row_cmp (g x ∷ [])) xs
counted_one_by_one g xs = ap (of_list row_cmp) (maps_flat g xs) ∙ of_list-flat_map row_cmp row_cmp-total row_cmp-antisymmetric (λ x. g x ∷ []) xs

none_without_values : {X : Type 0} (xs : List X) → has_no_values xs ≡ true → xs ≡ []
none_without_values [] e = refl
none_without_values (x ∷ xs) e = absurd (cc e)

module _ (key : List Value → List Value) (calls : List Call) (z : ZSet (List Value) row_cmp) where
  -- the rows with a key that stands in z
  there : (i : ℕ) (d : List Value) → i < length (keys_of row_cmp key z) → has_no_values (entries (at_key row_cmp key (get_or (keys_of row_cmp key z) i d) z)) ≡ false
  there i d low =
      elim (has_no_values (entries (at_key row_cmp key (get_or (keys_of row_cmp key z) i d) z))) as (λ b. has_no_values (entries (at_key row_cmp key (get_or (keys_of row_cmp key z) i d) z)) ≡ b → b ≡ false) [
        | true ↦ λ e. absurd (never (no_key_from row_cmp row_cmp-total row_cmp-antisymmetric row_cmp row_cmp-total row_cmp-antisymmetric key (get_or (keys_of row_cmp key z) i d) z
            (same_entries _ _ (none_without_values _ e ∙ sym (entries-zero row_cmp)))))
        | false ↦ λ e. refl
      ] refl
    where
      some : 1 ≤ count row_cmp (get_or (keys_of row_cmp key z) i d) (keys_of row_cmp key z)
      some = subst (λ cs. 1 ≤ count row_cmp (get_or (keys_of row_cmp key z) i d) cs) (map-id (keys_of row_cmp key z))
          (count-member row_cmp row_cmp-total row_cmp-antisymmetric row_cmp row_cmp-total row_cmp-antisymmetric key (λ c. c) (keys_of row_cmp key z) i d low)

      never : count row_cmp (get_or (keys_of row_cmp key z) i d) (keys_of row_cmp key z) ≡ 0 → ⊥
      never e = let more = some in absurd (omega arith)

  grouped : of_list row_cmp (map (λ c. group_row calls c (at_key row_cmp key c z)) (keys_of row_cmp key z)) ≡ by_key row_cmp key (z_sets row_cmp) (part_of false calls) z
  unfolding by_key
  grouped =
      counted_one_by_one (λ c. group_row calls c (at_key row_cmp key c z)) (keys_of row_cmp key z)
      ∙ sum_over_agree_at (z_sets row_cmp) (λ c. of_list row_cmp (group_row calls c (at_key row_cmp key c z) ∷ [])) (λ c. part_of false calls c (at_key row_cmp key c z)) (keys_of row_cmp key z)
      (λ i d low. ap (λ b. of_list row_cmp (if b && true then [] else group_row calls (get_or (keys_of row_cmp key z) i d) (at_key row_cmp key (get_or (keys_of row_cmp key z) i d) z) ∷ [])) (sym (there i d low)))

-- with no key column there is one group, of all rows
module _ (calls : List Call) (z : ZSet (List Value) row_cmp) where
  all_rows : at_key row_cmp (columns_of []) [] z ≡ z
  unfolding at_key
  all_rows = keep_all row_cmp row_cmp-total row_cmp-antisymmetric z

  nothing_beyond : (c : List Value) → beyond_none (part_of true calls) c (zero row_cmp) ≡ zero row_cmp
  nothing_beyond c = minus-self (z_sets row_cmp) rows_are_abelian (part_of true calls c (zero row_cmp))

  shown_without_values : (y : ZSet (List Value) row_cmp) → part_of true calls [] y ≡ of_list row_cmp (group_row calls [] y ∷ [])
  shown_without_values y =
      elim (has_no_values (entries y)) as (λ b. of_list row_cmp (if b && false then [] else group_row calls [] y ∷ []) ≡ of_list row_cmp (group_row calls [] y ∷ [])) [ true ↦ refl | false ↦ refl ]

  one_group : of_list row_cmp (group_row calls [] (at_key row_cmp (columns_of []) [] z) ∷ []) ≡ sum_of_parts (part_of true calls) true (columns_of []) z
  one_group =
      ap (λ y. of_list row_cmp (group_row calls [] y ∷ [])) all_rows
      ∙ sym (ap (plus (part_of true calls [] (zero row_cmp)))
      (by_key_over row_cmp row_cmp-total row_cmp-antisymmetric row_cmp row_cmp-total row_cmp-antisymmetric (columns_of [])
      (z_sets row_cmp) rows_are_abelian (beyond_none (part_of true calls)) nothing_beyond ([] ∷ []) z (λ i d low. refl)
      ∙ neutral_right (z_sets row_cmp) rows_are_abelian (beyond_none (part_of true calls) [] (at_key row_cmp (columns_of []) [] z))
      ∙ ap (beyond_none (part_of true calls) []) all_rows)
      ∙ plus-minus_back (z_sets row_cmp) rows_are_abelian (part_of true calls [] (zero row_cmp)) (part_of true calls [] z)
      ∙ shown_without_values z)

pub aggregates_add_up : (spec : AggSpec) (z : ZSet (List Value) row_cmp) → aggregated spec z ≡ sum_of_parts (part_of spec.global spec.calls) spec.global (group_of spec) z
aggregates_add_up spec z =
    elim (spec.global) as (λ b. of_list row_cmp (map (λ c. group_row spec.calls c (at_key row_cmp (columns_of (if b then [] else spec.group)) c z))
    (if b then [] ∷ [] else keys_of row_cmp (columns_of (if b then [] else spec.group)) z))
    ≡ sum_of_parts (part_of b spec.calls) b (columns_of (if b then [] else spec.group)) z) [
      | true ↦ one_group spec.calls z
      | false ↦
          grouped (columns_of spec.group) spec.calls z
          ∙ sum_of_all_parts (columns_of spec.group) (part_of false spec.calls) (λ c. part_is_nothing_for_none false spec.calls c refl) z
    ]

-- ---- the rows of all groups
pub grouped_by_key : (spec : AggSpec) (z : ZSet (List Value) row_cmp) → spec.global ≡ false → aggregated spec z ≡ by_key row_cmp (group_of spec) (z_sets row_cmp) (part_of false spec.calls) z
grouped_by_key spec z e =
    ap (λ b. of_list row_cmp (map (λ c. group_row spec.calls c (rows_of_group spec z c)) (if b then [] ∷ [] else keys_of row_cmp (group_of spec) z))) e
    ∙ grouped (group_of spec) spec.calls z

pub one_of_all : (spec : AggSpec) (z : ZSet (List Value) row_cmp) → spec.global ≡ true → aggregated spec z ≡ of_list row_cmp (group_row spec.calls [] z ∷ [])
one_of_all spec z e =
    ap (λ b. of_list row_cmp (map (λ c. group_row spec.calls c (at_key row_cmp (columns_of (if b then [] else spec.group)) c z)) (if b then [] ∷ [] else keys_of row_cmp (columns_of (if b then [] else spec.group)) z))) e
    ∙ ap (λ y. of_list row_cmp (group_row spec.calls [] y ∷ [])) (all_rows spec.calls z)
