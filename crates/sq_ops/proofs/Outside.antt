-- Numbers outside BIGINT: of the rows of a list as of its Z-set, of the groups of a list as of the keys of its Z-set, and key by key.
use Rattle.std.proofs.Common.{◌≡◌, ◌↔◌, ℕ, ℤ, List, [], ◌∷◌, ◌++◌, map, Bool, true, false, cond, not, Some, None, refl, sym, ap, ap₂, ◌∙◌}
use Rattle.std.specs.Prelude.{is_some}
use Rattle.std.specs.List.{All, AllByRecursion, find, flat_map, list_any}
use Rattle.std.specs.Option.{option_or}
use Rattle.std.proofs.lemmas.List.Elements.{All-from_recursion, recursion_from_All}
use Rattle.std.proofs.lemmas.List.Folds.{find-append}
use Rattle.sq_value.specs.Order.{row_cmp}
use Rattle.sq_value.specs.OrderLaws.{row_cmp-total, row_cmp-antisymmetric}
use Rattle.sq_algebra.specs.Groups.{integers}
use Rattle.sq_algebra.specs.Keyed.{keys_of, members_at}
use Rattle.sq_algebra.specs.Listed.{first_of_each}
use Rattle.sq_algebra.specs.ZSet.{ZSet, entries, of_list}
use Rattle.sq_algebra.proofs.AnyLemmas.{any_entry, any_firsts, any_flat, any_mapped, any_ordered, any_same, find_is}
use Rattle.sq_algebra.proofs.GroupingLemmas.{at_key-of_list}
use Rattle.sq_expr.specs.Bigint.{first_not_bigint, is_bigint}
use Rattle.sq_expr.specs.declared.expr.Func.{Func}
use Rattle.sq_expr.specs.declared.expr.Func.TheVariants.{CountAll, Count, Sum, Min, Max}
use Rattle.sq_zset.proofs.RowOperators.{lin-of_list}
use Rattle.sq_zset.specs.GroupLaws.{integers_are_abelian}
use Rattle.sq_ops.specs.Aggregates.{first_sum_outside, group_of, groups_of, keyed_sums, number_at, rows_of_group, sums_of, tested_sum}
use Rattle.sq_ops.specs.Extensions.{first_value_outside}
use Rattle.sq_ops.specs.Lists.{keys_of_list, list_sum, sums_of_groups, sums_of_list}
use Rattle.sq_ops.specs.Rows.{Row}
use Rattle.sq_ops.specs.declared.aggregate.AggSpec.{AggSpec}
use Rattle.sq_ops.specs.declared.aggregate.Call.{Call}

abbrev no_bigint : ℤ → Bool
no_bigint n = not (is_bigint n)

-- ---- values

pub values_outside : (tested : Row → List ℤ) (rows : List Row) → is_some (first_value_outside tested (of_list row_cmp rows)) ≡ is_some (first_not_bigint (flat_map tested rows))
values_outside tested rows =
    find_is no_bigint (flat_map (λ e. tested e.0) (entries (of_list row_cmp rows)))
    ∙ any_flat no_bigint (λ e. tested e.0) (entries (of_list row_cmp rows))
    ∙ any_entry row_cmp row_cmp-total row_cmp-antisymmetric (λ row. list_any no_bigint (tested row)) rows
    ∙ sym (find_is no_bigint (flat_map tested rows) ∙ any_flat no_bigint tested rows)

-- ---- sums

sum_is : (f : Func) (n : ℕ) (rows : List Row) → tested_sum f n (of_list row_cmp rows) ≡ list_sum f n rows
sum_is CountAll n rows = refl
sum_is Count n rows = refl
sum_is Sum n rows = ap (λ s. s ∷ []) (lin-of_list integers integers_are_abelian (number_at n) rows)
sum_is Min n rows = refl
sum_is Max n rows = refl

sums_are : (calls : List Call) (rows : List Row) → sums_of calls (of_list row_cmp rows) ≡ sums_of_list calls rows
sums_are [] rows = refl
sums_are (call ∷ calls) rows = ap₂ (λ ms ns. ms ++ ns) (sum_is call.func call.arg rows) (sums_are calls rows)

module _ (spec : AggSpec) (rows : List Row) where
  abbrev z : ZSet Row row_cmp
  z = of_list row_cmp rows

  abbrev group_at : Row → List Row
  group_at c = members_at row_cmp (group_of spec) c rows

  abbrev is_outside_at : Row → Bool
  is_outside_at c = list_any no_bigint (sums_of_list spec.calls (group_at c))

  sums_at : (c : Row) → sums_of spec.calls (rows_of_group spec z c) ≡ sums_of_list spec.calls (group_at c)
  sums_at c =
      ap (sums_of spec.calls) (at_key-of_list row_cmp row_cmp-total row_cmp-antisymmetric row_cmp row_cmp-total row_cmp-antisymmetric (group_of spec) c rows)
      ∙ sums_are spec.calls (group_at c)

  some_key : is_some (first_sum_outside spec z) ≡ list_any is_outside_at (groups_of spec z)
  some_key =
      find_is {A = Row × ℤ} (λ s. no_bigint s.1) (keyed_sums spec z)
      ∙ any_flat {B = Row × ℤ} (λ s. no_bigint s.1) (λ c. map (λ n. (c, n)) (sums_of spec.calls (rows_of_group spec z c))) (groups_of spec z)
      ∙ any_same (λ c. list_any {X = Row × ℤ} (λ s. no_bigint s.1) (map (λ n. (c, n)) (sums_of spec.calls (rows_of_group spec z c)))) is_outside_at (groups_of spec z)
      (λ c. any_mapped {B = Row × ℤ} (λ s. no_bigint s.1) (λ n. (c, n)) (sums_of spec.calls (rows_of_group spec z c)) ∙ ap (list_any no_bigint) (sums_at c))

  same_keys : (p : Row → Bool) → list_any p (keys_of row_cmp (group_of spec) z) ≡ list_any p (first_of_each row_cmp (map (group_of spec) rows))
  unfolding keys_of
  same_keys p =
      any_ordered row_cmp row_cmp-total row_cmp-antisymmetric p (map (λ e. group_of spec e.0) (entries z))
      ∙ any_mapped p (λ e. group_of spec e.0) (entries z)
      ∙ any_entry row_cmp row_cmp-total row_cmp-antisymmetric (λ row. p (group_of spec row)) rows
      ∙ sym (any_firsts row_cmp row_cmp-total row_cmp-antisymmetric p (map (group_of spec) rows) ∙ any_mapped p (group_of spec) rows)

  same_groups : (p : Row → Bool) → list_any p (groups_of spec z) ≡ list_any p (keys_of_list spec rows)
  same_groups p =
      elim spec.global as (λ b. list_any p (cond b ([] ∷ []) (keys_of row_cmp (group_of spec) z)) ≡ list_any p (cond b ([] ∷ []) (first_of_each row_cmp (map (group_of spec) rows)))) [
        | true ↦ refl
        | false ↦ same_keys p
      ]

  pub sums_outside : is_some (first_sum_outside spec z) ≡ is_some (first_not_bigint (sums_of_groups spec rows))
  sums_outside =
      some_key ∙ same_groups is_outside_at
      ∙ sym (find_is no_bigint (sums_of_groups spec rows) ∙ any_flat no_bigint (λ c. sums_of_list spec.calls (group_at c)) (keys_of_list spec rows))

-- ---- sums key by key

abbrev is_outside : Row × ℤ → Bool
is_outside s = no_bigint s.1

none_in_both : {A : Type 0} (p : A → Bool) (xs ys : List A) → find p (xs ++ ys) ≡ None → (find p xs ≡ None) × (find p ys ≡ None)
none_in_both p xs ys e =
    elim (find p xs) as (λ o. option_or o (find p ys) ≡ None → (o ≡ None) × (find p ys ≡ None)) [
      | None ↦ λ later. (refl, later)
      | Some x ↦ λ here. absurd (cc here)
    ] (sym (find-append p xs ys) ∙ e)

none_keyed : (c : Row) (ns : List ℤ) → find is_outside (map (λ n. (c, n)) ns) ≡ None → first_not_bigint ns ≡ None
none_keyed c [] e = refl
none_keyed c (n ∷ ns) e =
    elim (is_bigint n) as (λ b. cond (not b) (Some (c, n)) (find is_outside (map (λ m. (c, m)) ns)) ≡ None → cond (not b) (Some n) (first_not_bigint ns) ≡ None) [
      | true ↦ λ later. none_keyed c ns later
      | false ↦ λ here. absurd (cc here)
    ] e

all_keyed : (c : Row) (ns : List ℤ) → first_not_bigint ns ≡ None → find is_outside (map (λ n. (c, n)) ns) ≡ None
all_keyed c [] e = refl
all_keyed c (n ∷ ns) e =
    elim (is_bigint n) as (λ b. cond (not b) (Some n) (first_not_bigint ns) ≡ None → cond (not b) (Some (c, n)) (find is_outside (map (λ m. (c, m)) ns)) ≡ None) [
      | true ↦ λ later. all_keyed c ns later
      | false ↦ λ here. absurd (cc here)
    ] e

module _ (sums : Row → List ℤ) where
  abbrev with_keys : List Row → List (Row × ℤ)
  with_keys cs = flat_map (λ c. map (λ n. (c, n)) (sums c)) cs

  none_in_groups : (cs : List Row) → find is_outside (with_keys cs) ≡ None → AllByRecursion (λ c. first_not_bigint (sums c) ≡ None) cs
  none_in_groups [] e = tt
  none_in_groups (c ∷ cs) e = let both = none_in_both is_outside (map (λ n. (c, n)) (sums c)) (with_keys cs) e in (none_keyed c (sums c) both.0, none_in_groups cs both.1)

  none_from_groups : (cs : List Row) → AllByRecursion (λ c. first_not_bigint (sums c) ≡ None) cs → find is_outside (with_keys cs) ≡ None
  none_from_groups [] h = refl
  none_from_groups (c ∷ cs) h =
      find-append is_outside (map (λ n. (c, n)) (sums c)) (with_keys cs)
      ∙ ap (λ o. option_or o (find is_outside (with_keys cs))) (all_keyed c (sums c) h.0)
      ∙ none_from_groups cs h.1

pub sums_of_each_key : (spec : AggSpec) (z : ZSet Row row_cmp) → (first_sum_outside spec z ≡ None) ↔ All (λ c. first_not_bigint (sums_of spec.calls (rows_of_group spec z c)) ≡ None) (groups_of spec z)
sums_of_each_key spec z = (
  λ none. All-from_recursion (λ c. first_not_bigint (sums_of spec.calls (rows_of_group spec z c)) ≡ None) (groups_of spec z) (none_in_groups (λ c. sums_of spec.calls (rows_of_group spec z c)) (groups_of spec z) none),
  λ each. none_from_groups (λ c. sums_of spec.calls (rows_of_group spec z c)) (groups_of spec z) (recursion_from_All (λ c. first_not_bigint (sums_of spec.calls (rows_of_group spec z c)) ≡ None) (groups_of spec z) each),
)
