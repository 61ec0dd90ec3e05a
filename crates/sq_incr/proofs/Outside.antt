-- Numbers outside BIGINT: there are some in a Z-set exactly if there are some in one of its parts by shard.
use Rattle.std.proofs.Common.{◌≡◌, ℕ, ◌+◌, ◌≤◌, ◌==◌, ℤ, List, [], ◌∷◌, map, filter, Bool, true, false, cond, not, ◌&&◌, ◌||◌, refl, sym, ap, ap₂, ◌∙◌, arith, is_eq}
use Rattle.std.specs.Prelude.{is_some}
use Rattle.std.specs.List.{flat_map, list_any}
use Rattle.std.specs.Ordering.{nat_cmp}
use Rattle.std.proofs.lemmas.Bool.{eq-eqb, eqb-true}
use Rattle.std.proofs.lemmas.Bool.Decides.{nat_tests}
use Rattle.std.proofs.lemmas.List.Folds.{list_any-append}
use Rattle.sq_value.specs.declared.value.Value.{Value}
use Rattle.sq_value.specs.Order.{row_cmp}
use Rattle.sq_value.specs.OrderLaws.{row_cmp-total, row_cmp-antisymmetric}
use Rattle.sq_algebra.specs.Groups.{integers}
use Rattle.sq_algebra.specs.Keyed.{Shards, cut, keys_of}
use Rattle.sq_algebra.specs.Listed.{count}
use Rattle.sq_algebra.specs.ZSet.{entries}
use Rattle.sq_algebra.proofs.AnyLemmas.{or_false, any_flat, any_mapped, any_ordered, any_same, any_swapped, find_is}
use Rattle.sq_algebra.proofs.EntryLemmas.{entries-cut}
use Rattle.sq_algebra.proofs.KeyedLemmas.{at_key-at_key}
use Rattle.sq_algebra.proofs.Lists.{count-cons}
use Rattle.sq_algebra.proofs.ShardLemmas.{same_number}
use Rattle.sq_expr.specs.Bigint.{is_bigint}
use Rattle.sq_expr.specs.declared.expr.Func.{Func}
use Rattle.sq_expr.specs.declared.expr.Func.TheVariants.{CountAll, Count, Sum, Min, Max}
use Rattle.sq_zset.proofs.RowOperators.{lin-zero}
use Rattle.sq_zset.specs.GroupLaws.{integers_are_abelian}
use Rattle.sq_ops.specs.Aggregates.{first_sum_outside, group_of, groups_of, keyed_sums, number_at, rows_of_group, sums_of, tested_sum}
use Rattle.sq_ops.specs.Extensions.{first_value_outside}
use Rattle.sq_ops.specs.declared.aggregate.AggSpec.{AggSpec}
use Rattle.sq_ops.specs.declared.aggregate.Call.{Call}
use Rattle.sq_circuit.specs.Circuits.{has_number_outside}
use Rattle.sq_circuit.specs.LinearOps.{tested_of}
use Rattle.sq_circuit.specs.Nodes.{Rows, left_key, none}
use Rattle.sq_circuit.specs.declared.node.Node.{Node}
use Rattle.sq_circuit.specs.declared.node.Node.TheVariants.{Table, Linear, Join, Distinct, Aggregate, Plus, Minus, View}

abbrev no_bigint : ℤ → Bool
no_bigint n = not (is_bigint n)

-- ---- some member of a list
any_kept : {A : Type 0} (p q : A → Bool) (xs : List A) → list_any p (filter q xs) ≡ list_any (λ x. q x && p x) xs
any_kept p q [] = refl
any_kept p q (x ∷ xs) =
    elim (q x) as (λ b. list_any p (cond b (x ∷ filter q xs) (filter q xs)) ≡ ((b && p x) || list_any (λ x. q x && p x) xs)) [
      | true ↦ ap (λ b. p x || b) (any_kept p q xs)
      | false ↦ any_kept p q xs
    ]

pub none_false : {A : Type 0} (xs : List A) → list_any (λ x. false) xs ≡ false
none_false [] = refl
none_false (x ∷ xs) = none_false xs

or_absorbs : (a b : Bool) → (a || (b && a)) ≡ a
or_absorbs true b = refl
or_absorbs false true = refl
or_absorbs false false = refl

-- one number alone passes the first test
any_at : (k : ℕ) (p : ℕ → Bool) (ns : List ℕ) → list_any (λ s. (s == k) && p s) ns ≡ (list_any (λ s. s == k) ns && p k)
any_at k p [] = refl
any_at k p (n ∷ ns) =
    elim (n == k) as (λ b. (n == k) ≡ b → ((b && p n) || list_any (λ s. (s == k) && p s) ns) ≡ ((b || list_any (λ s. s == k) ns) && p k)) [
      | true ↦ λ e. ap₂ (λ a b. a || b) (ap p (eqb-true n k e)) (any_at k p ns) ∙ or_absorbs (p k) (list_any (λ s. s == k) ns)
      | false ↦ λ e. any_at k p ns
    ] refl

counted : (k : ℕ) (ns : List ℕ) → 1 ≤ count nat_cmp k ns → list_any (λ s. s == k) ns ≡ true
counted k [] l = absurd (omega arith)
counted k (n ∷ ns) l =
    elim (n == k) as (λ b. (n == k) ≡ b → (b || list_any (λ s. s == k) ns) ≡ true) [
      | true ↦ λ e. refl
      | false ↦ λ e.
          let apart : is_eq (nat_cmp k n) ≡ false = grind (arith, nat_tests) in
          let rest : count nat_cmp k (n ∷ ns) ≡ 0 + count nat_cmp k ns = count-cons nat_cmp k n ns ∙ ap (λ b. cond b 1 0 + count nat_cmp k ns) apart in
          counted k ns (omega (arith, rest, l))
    ] refl

module _ (S : Shards (List Value)) where
  pub any_at_shard : (x : List Value) (p : ℕ → Bool) → list_any (λ s. (s == S.shard x) && p s) S.numbers ≡ p (S.shard x)
  any_at_shard x p = any_at (S.shard x) p S.numbers ∙ ap (λ b. b && p (S.shard x)) (counted (S.shard x) S.numbers (omega (arith, S.once x)))

  -- some entry of some part, where the test may know the shard
  any_over_shards : (key : List Value → List Value) (p : ℕ → List Value × ℤ → Bool) (z : Rows)
      → list_any (λ s. list_any (p s) (entries (cut S key s z))) S.numbers ≡ list_any (λ e. p (S.shard (key e.0)) e) (entries z)
  any_over_shards key p z =
      any_same (λ s. list_any (p s) (entries (cut S key s z))) (λ s. list_any (λ e. (s == S.shard (key e.0)) && p s e) (entries z)) S.numbers
      (λ s. ap (list_any (p s)) (entries-cut row_cmp row_cmp-total S key s z) ∙ any_kept (p s) (λ e. s == S.shard (key e.0)) (entries z))
      ∙ any_swapped (λ s e. (s == S.shard (key e.0)) && p s e) S.numbers (entries z)
      ∙ any_same (λ e. list_any (λ s. (s == S.shard (key e.0)) && p s e) S.numbers) (λ e. p (S.shard (key e.0)) e) (entries z) (λ e. any_at_shard (key e.0) (λ s. p s e))

  -- ---- values
  some_value : (tested : List Value → List ℤ) (z : Rows) → is_some (first_value_outside tested z) ≡ list_any (λ e. list_any no_bigint (tested e.0)) (entries z)
  some_value tested z = find_is no_bigint (flat_map (λ e. tested e.0) (entries z)) ∙ any_flat no_bigint (λ e. tested e.0) (entries z)

  pub values_over_shards : (key : List Value → List Value) (tested : List Value → List ℤ) (z : Rows)
      → list_any (λ s. is_some (first_value_outside tested (cut S key s z))) S.numbers ≡ is_some (first_value_outside tested z)
  values_over_shards key tested z =
      any_same (λ s. is_some (first_value_outside tested (cut S key s z))) (λ s. list_any (λ e. list_any no_bigint (tested e.0)) (entries (cut S key s z))) S.numbers (λ s. some_value tested (cut S key s z))
      ∙ any_over_shards key (λ s e. list_any no_bigint (tested e.0)) z
      ∙ sym (some_value tested z)

  -- ---- sums
  module _ (spec : AggSpec) where
    abbrev has_sum_outside : Rows → Bool
    has_sum_outside y = list_any no_bigint (sums_of spec.calls y)

    abbrev of_group : Rows → List Value → Bool
    of_group z c = has_sum_outside (rows_of_group spec z c)

    some_sum : (z : Rows) → is_some (first_sum_outside spec z) ≡ list_any (of_group z) (groups_of spec z)
    some_sum z =
        find_is {A = List Value × ℤ} (λ s. no_bigint s.1) (keyed_sums spec z)
        ∙ any_flat {B = List Value × ℤ} (λ s. no_bigint s.1) (λ c. map (λ n. (c, n)) (sums_of spec.calls (rows_of_group spec z c))) (groups_of spec z)
        ∙ any_same (λ c. list_any {X = List Value × ℤ} (λ s. no_bigint s.1) (map (λ n. (c, n)) (sums_of spec.calls (rows_of_group spec z c)))) (of_group z) (groups_of spec z)
        (λ c. any_mapped {B = List Value × ℤ} (λ s. no_bigint s.1) (λ n. (c, n)) (sums_of spec.calls (rows_of_group spec z c)))

    some_key : (z : Rows) (p : List Value → Bool) → list_any p (keys_of row_cmp (group_of spec) z) ≡ list_any (λ e. p (group_of spec e.0)) (entries z)
    unfolding keys_of
    some_key z p = any_ordered row_cmp row_cmp-total row_cmp-antisymmetric p (map (λ e. group_of spec e.0) (entries z)) ∙ any_mapped p (λ e. group_of spec e.0) (entries z)

    -- over no rows each sum is 0
    no_sum : (f : Func) (column : ℕ) → list_any no_bigint (tested_sum f column none) ≡ false
    no_sum CountAll column = refl
    no_sum Count column = refl
    no_sum Sum column = ap (λ n. list_any no_bigint (n ∷ [])) (lin-zero integers integers_are_abelian (number_at column))
    no_sum Min column = refl
    no_sum Max column = refl

    no_sums : (calls : List Call) → list_any no_bigint (sums_of calls none) ≡ false
    no_sums [] = refl
    no_sums (call ∷ calls) = list_any-append no_bigint (tested_sum call.func call.arg none) (sums_of calls none) ∙ ap₂ (λ a b. a || b) (no_sum call.func call.arg) (no_sums calls)

    -- a group stands whole in its shard, and nowhere else
    group_in : (s : ℕ) (c : List Value) (z : Rows) → of_group (cut S (group_of spec) s z) c ≡ ((s == S.shard c) && of_group z c)
    group_in s c z =
        ap has_sum_outside (
        at_key-at_key row_cmp row_cmp-total row_cmp-antisymmetric row_cmp row_cmp-total row_cmp-antisymmetric (group_of spec) nat_cmp (λ k. S.shard (group_of spec k)) S.shard (λ k. refl) c s z
        ∙ ap (λ b. cond b (rows_of_group spec z c) none) (same_number s (S.shard c)))
        ∙ elim (s == S.shard c) as (λ b. has_sum_outside (cond b (rows_of_group spec z c) none) ≡ (b && of_group z c)) [ true ↦ refl | false ↦ no_sums spec.calls ]

    module _ (z : Rows) where
      abbrev cut_at : ℕ → Rows
      cut_at s = cut S (group_of spec) s z

      -- the group of all rows
      one_group : list_any (λ s. list_any (of_group (cut_at s)) ([] ∷ [])) S.numbers ≡ list_any (of_group z) ([] ∷ [])
      one_group =
          any_same (λ s. list_any (of_group (cut_at s)) ([] ∷ [])) (λ s. (s == S.shard []) && of_group z []) S.numbers (λ s. or_false (of_group (cut_at s) []) ∙ group_in s [] z)
          ∙ any_at_shard [] (λ s. of_group z [])
          ∙ sym (or_false (of_group z []))

      each_group : list_any (λ s. list_any (of_group (cut_at s)) (keys_of row_cmp (group_of spec) (cut_at s))) S.numbers ≡ list_any (of_group z) (keys_of row_cmp (group_of spec) z)
      each_group =
          any_same (λ s. list_any (of_group (cut_at s)) (keys_of row_cmp (group_of spec) (cut_at s))) (λ s. list_any (λ e. of_group (cut_at s) (group_of spec e.0)) (entries (cut_at s))) S.numbers
          (λ s. some_key (cut_at s) (of_group (cut_at s)))
          ∙ any_over_shards (group_of spec) (λ s e. of_group (cut_at s) (group_of spec e.0)) z
          ∙ any_same (λ e. of_group (cut_at (S.shard (group_of spec e.0))) (group_of spec e.0)) (λ e. of_group z (group_of spec e.0)) (entries z)
          (λ e. group_in (S.shard (group_of spec e.0)) (group_of spec e.0) z ∙ ap (λ b. b && of_group z (group_of spec e.0)) (eq-eqb (S.shard (group_of spec e.0)) (S.shard (group_of spec e.0)) refl))
          ∙ sym (some_key z (of_group z))

      groups_over_shards : (b : Bool) → list_any (λ s. list_any (of_group (cut_at s)) (cond b ([] ∷ []) (keys_of row_cmp (group_of spec) (cut_at s)))) S.numbers ≡ list_any (of_group z) (cond b ([] ∷ []) (keys_of row_cmp (group_of spec) z))
      groups_over_shards true = one_group
      groups_over_shards false = each_group

      pub sums_over_shards : list_any (λ s. is_some (first_sum_outside spec (cut_at s))) S.numbers ≡ is_some (first_sum_outside spec z)
      sums_over_shards =
          any_same (λ s. is_some (first_sum_outside spec (cut_at s))) (λ s. list_any (of_group (cut_at s)) (groups_of spec (cut_at s))) S.numbers (λ s. some_sum (cut_at s))
          ∙ groups_over_shards spec.global
          ∙ sym (some_sum z)

  -- ---- a node
  pub numbers_over_shards : (node : Node) (y : Rows) → list_any (λ s. has_number_outside node (cut S (left_key node) s y)) S.numbers ≡ has_number_outside node y
  numbers_over_shards (Table t) y = none_false S.numbers
  numbers_over_shards (Linear i op) y = values_over_shards (λ row. row) (tested_of op) y
  numbers_over_shards (Join l r op) y = none_false S.numbers
  numbers_over_shards (Distinct i) y = none_false S.numbers
  numbers_over_shards (Aggregate i spec) y = sums_over_shards spec y
  numbers_over_shards (Plus l r) y = none_false S.numbers
  numbers_over_shards (Minus l r) y = none_false S.numbers
  numbers_over_shards (View i v) y = none_false S.numbers
