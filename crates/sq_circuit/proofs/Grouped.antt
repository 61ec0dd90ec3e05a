-- The rows of an aggregate are of the kinds that it gives.
use Rattle.std.proofs.Common.{◌≡◌, ℕ, ◌^◌, Bool, true, false, ◌||◌, cond, List, [], ◌∷◌, map, ℤ, pos, ◌≤ℤ◌, Some, None, refl, sym, subst, arith}
use Rattle.std.specs.Prelude.{FitsSigned, fold, is_some, slice_get}
use Rattle.std.specs.Int.{w64}
use Rattle.std.specs.List.{AllByRecursion}
use Rattle.std.specs.Ordering.{int_eq, is_eq, is_lt}
use Rattle.std.proofs.lemmas.Int.{fits_signed_from_abs}
use Rattle.std.proofs.lemmas.List.Elements.{recursion_from_All}
use borrow.Author.Differences.{ints}
use Rattle.sq_value.specs.Order.{row_cmp, value_cmp}
use Rattle.sq_value.specs.OrderLaws.{row_cmp-total, row_cmp-antisymmetric}
use Rattle.sq_value.specs.declared.value.Value.{Value}
use Rattle.sq_value.specs.declared.value.Value.TheVariants.{Null, Int}
use Rattle.sq_expr.specs.Kinds.{AreOfKinds, IsOfKind}
use Rattle.sq_expr.specs.Meaning.{column_of, is_null}
use Rattle.sq_expr.specs.Bigint.{first_not_bigint}
use Rattle.sq_expr.specs.declared.expr.Func.{Func}
use Rattle.sq_expr.specs.declared.expr.Func.TheVariants.{CountAll, Count, Sum, Min, Max}
use Rattle.sq_expr.specs.declared.expr.Kind.{Kind}
use Rattle.sq_expr.specs.declared.expr.Kind.TheVariants as kind
use Rattle.sq_expr.proofs.Lists.{all_over, all_weaker}
use Rattle.sq_expr.proofs.Rows.{kind_of_column, kinds_joined}
use Rattle.sq_algebra.specs.Keyed.{at_key, keys_of}
use Rattle.sq_algebra.specs.Operators.{keep}
use Rattle.sq_algebra.specs.ZSet.{entries, total}
use Rattle.sq_algebra.proofs.EachLemmas.{each-at_key, each-in_order, each-of_list}
use Rattle.sq_algebra.proofs.NonNegativeLemmas.{nonnegative-keep, total-keep-le}
use Rattle.sq_zset.proofs.Masses.{mass-total}
use Rattle.sq_ops.specs.Aggregates.{aggregated, call_value, count_in, first_sum_outside, greater, group_columns, group_of, group_row, groups_of, has_value, lesser, rows_of_group, shown_rows, sum_in, sums_of, tested_sum, values_in}
use Rattle.sq_ops.specs.declared.aggregate.AggSpec.{AggSpec}
use Rattle.sq_ops.specs.declared.aggregate.Call.{Call}
use Rattle.sq_ops.proofs.Outside.{sums_of_each_key}
use Rattle.sq_ops.proofs.Ranges.{none_of_each, none_outside}
use Rattle.sq_circuit.specs.Invariant.{HasKinds, IsListed}
use Rattle.sq_circuit.specs.Nodes.{Rows}
use Rattle.sq_circuit.specs.Gives.{CallKind, CallKinds, ColumnKinds, GroupKinds}
use Rattle.sq_circuit.proofs.Following.{columns_kinds, none_is}

-- ---- numbers of rows
few_fit : (n : ℤ) → pos 0 ≤ℤ n → n ≤ℤ pos (2 ^ 61) → FitsSigned w64 n
few_fit n low high = fits_signed_from_abs w64 n (let a = low in let b = high in omega (arith, ints))

above_zero : (z : Rows) → IsListed z → pos 0 ≤ℤ total z
above_zero z h = subst (λ n. pos 0 ≤ℤ n) (mass-total z h.above) (omega (arith, ints))

total_fits : (z : Rows) → IsListed z → FitsSigned w64 (total z)
total_fits z h = few_fit (total z) (above_zero z h) h.few

pub kept_listed : (p : List Value → Bool) (z : Rows) → IsListed z → IsListed (keep p z)
kept_listed p z h = record {
  above = nonnegative-keep row_cmp row_cmp-total row_cmp-antisymmetric p z h.above;
  few = let less = total-keep-le row_cmp row_cmp-total row_cmp-antisymmetric p z h.above in let few = h.few in omega (arith, ints);
}

pub part_listed : (key : List Value → List Value) (c : List Value) (z : Rows) → IsListed z → IsListed (at_key row_cmp key c z)
unfolding at_key
part_listed key c z h = kept_listed (λ row. is_eq (row_cmp c (key row))) z h

part_kinds : (kinds : List Kind) (key : List Value → List Value) (c : List Value) (z : Rows) → HasKinds kinds z → HasKinds kinds (at_key row_cmp key c z)
part_kinds kinds key c z h = each-at_key (λ row. AreOfKinds row kinds) row_cmp row_cmp-total row_cmp key c z h

-- ---- the least and the greatest value
either : (b : Bool) (x y : Value) (k : Kind) → IsOfKind x k → IsOfKind y k → IsOfKind (cond b x y) k
either true x y k h l = h
either false x y k h l = l

least_kind : (k : Kind) (xs : List Value) (x : Value) → IsOfKind x k → AllByRecursion (λ y. IsOfKind y k) xs → IsOfKind (fold lesser x xs) k
least_kind k [] x h l = h
least_kind k (y ∷ ys) x h l = least_kind k ys (lesser x y) (either (is_null y) x _ k h (either (is_null x || is_lt (value_cmp y x)) y x k l.0 h)) l.1

greatest_kind : (k : Kind) (xs : List Value) (x : Value) → IsOfKind x k → AllByRecursion (λ y. IsOfKind y k) xs → IsOfKind (fold greater x xs) k
greatest_kind k [] x h l = h
greatest_kind k (y ∷ ys) x h l = greatest_kind k ys (greater x y) (either (is_lt (value_cmp x y)) y x k l.0 h) l.1

values_kinds : (kinds : List Kind) (n : ℕ) (k : Kind) → slice_get kinds n ≡ Some k → (es : List (List Value × ℤ)) → AllByRecursion (λ e. AreOfKinds e.0 kinds) es → AllByRecursion (λ y. IsOfKind y k) (map (λ e. column_of e.0 n) es)
values_kinds kinds n k at [] h = tt
values_kinds kinds n k at (e ∷ es) h = (kind_of_column e.0 kinds n k h.0 at, values_kinds kinds n k at es h.1)

-- ---- calls
is_bigint_kind : (x : Value) (k : Kind) → k ≡ kind.Bigint → IsOfKind x kind.Bigint → IsOfKind x k
is_bigint_kind x k is h = subst (λ l. IsOfKind x l) (sym is) h

call_kind : (kinds : List Kind) (z : Rows) → HasKinds kinds z → IsListed z → (f : Func) (n : ℕ) (k : Kind) → CallKind kinds f n k → first_not_bigint (tested_sum f n z) ≡ None → IsOfKind (call_value f n z) k
call_kind kinds z h l CountAll n k g inside = is_bigint_kind (Int (total z)) k g (total_fits z l)
call_kind kinds z h l Count n k g inside = is_bigint_kind (Int (count_in n z)) k g (total_fits (keep (has_value n) z) (kept_listed (has_value n) z l))
call_kind kinds z h l Sum n k g inside =
    is_bigint_kind (call_value Sum n z) k g (either (int_eq (count_in n z) (pos 0)) Null (Int (sum_in n z)) kind.Bigint tt (none_outside (sum_in n z ∷ []) inside).0)
call_kind kinds z h l Min n k g inside = least_kind k (values_in n z) Null tt (values_kinds kinds n k g (entries z) (recursion_from_All (λ (e : List Value × ℤ). AreOfKinds e.0 kinds) (entries z) h))
call_kind kinds z h l Max n k g inside = greatest_kind k (values_in n z) Null tt (values_kinds kinds n k g (entries z) (recursion_from_All (λ (e : List Value × ℤ). AreOfKinds e.0 kinds) (entries z) h))

calls_kinds : (kinds : List Kind) (z : Rows) → HasKinds kinds z → IsListed z → (calls : List Call) (ks : List Kind) → CallKinds kinds calls ks → AllByRecursion (λ call. first_not_bigint (tested_sum call.func call.arg z) ≡ None) calls
    → AreOfKinds (map (λ call. call_value call.func call.arg z) calls) ks
calls_kinds kinds z h l [] [] g inside = tt
calls_kinds kinds z h l [] (k ∷ ks) g inside = absurd g
calls_kinds kinds z h l (call ∷ calls) [] g inside = absurd g
calls_kinds kinds z h l (call ∷ calls) (k ∷ ks) g inside = (call_kind kinds z h l call.func call.arg k g.0 inside.0, calls_kinds kinds z h l calls ks g.1 inside.1)

-- ---- keys
module _ (kinds : List Kind) (spec : AggSpec) (own : List Kind) (g : GroupKinds kinds spec own) (z : Rows) (h : HasKinds kinds z) (l : IsListed z) where
  keys_kinds : AllByRecursion (λ c. AreOfKinds c g.keys) (keys_of row_cmp (group_of spec) z)
  unfolding keys_of
  keys_kinds =
      each-in_order (λ c. AreOfKinds c g.keys) row_cmp (map (λ e. group_of spec e.0) (entries z))
      (all_over (λ c. AreOfKinds c g.keys) (λ (e : List Value × ℤ). group_of spec e.0) (entries z)
      (all_weaker (λ (e : List Value × ℤ). AreOfKinds e.0 kinds) (λ e. AreOfKinds (group_of spec e.0) g.keys) (entries z) (λ e r. columns_kinds kinds e.0 r (group_columns spec) g.keys g.of_keys)
      (recursion_from_All (λ (e : List Value × ℤ). AreOfKinds e.0 kinds) (entries z) h)))

  no_columns : (ks : List Kind) → ColumnKinds kinds [] ks → AreOfKinds [] ks
  no_columns [] c = tt
  no_columns (k ∷ ks) c = absurd c

  groups_kinds : AllByRecursion (λ c. AreOfKinds c g.keys) (groups_of spec z)
  groups_kinds = step (spec.global) refl
    where
      step : (b : Bool) → spec.global ≡ b → AllByRecursion (λ c. AreOfKinds c g.keys) (cond b ([] ∷ []) (keys_of row_cmp (group_of spec) z))
      step true e = (no_columns g.keys (subst (λ b. ColumnKinds kinds (cond b [] spec.group) g.keys) e g.of_keys), tt)
      step false e = keys_kinds

  row_kinds : (c : List Value) → AreOfKinds c g.keys → first_not_bigint (sums_of spec.calls (rows_of_group spec z c)) ≡ None → AreOfKinds (group_row spec.calls c (rows_of_group spec z c)) own
  row_kinds c k inside =
      subst (λ ks. AreOfKinds (group_row spec.calls c (rows_of_group spec z c)) ks) (sym g.is)
      (kinds_joined c (map (λ call. call_value call.func call.arg (rows_of_group spec z c)) spec.calls) g.keys g.values k
      (calls_kinds kinds (rows_of_group spec z c) (part_kinds kinds (group_of spec) c z h) (part_listed (group_of spec) c z l) spec.calls g.values g.of_values
      (recursion_from_All (λ (call : Call). first_not_bigint (tested_sum call.func call.arg (rows_of_group spec z c)) ≡ None) spec.calls
      ((none_of_each (λ (call : Call). tested_sum call.func call.arg (rows_of_group spec z c)) spec.calls).0 inside))))

  all_rows : (cs : List (List Value)) → AllByRecursion (λ c. AreOfKinds c g.keys) cs → AllByRecursion (λ c. first_not_bigint (sums_of spec.calls (rows_of_group spec z c)) ≡ None) cs
      → AllByRecursion (λ row. AreOfKinds row own) (map (λ c. group_row spec.calls c (rows_of_group spec z c)) cs)
  all_rows [] k inside = tt
  all_rows (c ∷ cs) k inside = (row_kinds c k.0 inside.0, all_rows cs k.1 inside.1)

  pub aggregate_follows : is_some (first_sum_outside spec z) ≡ false → HasKinds own (aggregated spec z)
  aggregate_follows inside =
      each-of_list (λ row. AreOfKinds row own) row_cmp row_cmp-total (shown_rows spec z)
      (all_rows (groups_of spec z) groups_kinds (recursion_from_All (λ c. first_not_bigint (sums_of spec.calls (rows_of_group spec z c)) ≡ None) (groups_of spec z) ((sums_of_each_key spec z).0 (none_is (first_sum_outside spec z) inside))))
