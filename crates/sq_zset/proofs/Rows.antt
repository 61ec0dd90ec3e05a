-- The laws of Z-sets and of lists with counts, for rows.
use Rattle.std.proofs.Common.{◌≡◌, List, ◌++◌, map, Bool, cond, ◌==◌, T, ℤ, pos, ◌+ℤ◌, ◌-ℤ◌, neg_ℤ, length, IsPermutation, is_eq}
use Rattle.std.specs.List.{list_all}
use Rattle.sq_value.specs.declared.value.Value.{Value}
use Rattle.sq_value.specs.Order.{row_cmp}
use Rattle.sq_value.specs.OrderLaws.{row_cmp-total, row_cmp-antisymmetric}
use Rattle.sq_algebra.specs.Listed.{count, is_ascending, in_order, changed}
use Rattle.sq_algebra.specs.ZSet.{ZSet, entries, zero, single, from_pairs, of_list, weight, weight_in, total, plus, negate, minus}
use Rattle.sq_algebra.specs.Operators.{IsNonNegative, repeated}
use Rattle.sq_algebra.specs.Passing.{all_pass}
use Rattle.sq_algebra.proofs.Lists as lists
use Rattle.sq_algebra.proofs.NonNegativeLemmas as nonnegative
use Rattle.sq_algebra.proofs.Weights as weights
use Rattle.sq_algebra.proofs.Changes as changes

pub same_weights : (y z : ZSet (List Value) row_cmp) → ((row : List Value) → weight row y ≡ weight row z) → y ≡ z
same_weights = weights.same_weights row_cmp row_cmp-total row_cmp-antisymmetric

pub weight-zero : (row : List Value) → weight row (zero row_cmp) ≡ pos 0
weight-zero = weights.weight-zero row_cmp

pub weight-single : (row other : List Value) → weight row (single row_cmp other) ≡ cond (is_eq (row_cmp row other)) (pos 1) (pos 0)
weight-single = weights.weight-single row_cmp row_cmp-total

pub weight-plus : (row : List Value) (y z : ZSet (List Value) row_cmp) → weight row (plus y z) ≡ weight row y +ℤ weight row z
weight-plus = weights.weight-plus row_cmp row_cmp-total

pub weight-negate : (row : List Value) (z : ZSet (List Value) row_cmp) → weight row (negate z) ≡ neg_ℤ (weight row z)
weight-negate = weights.weight-negate row_cmp row_cmp-total

pub weight-minus : (row : List Value) (y z : ZSet (List Value) row_cmp) → weight row (minus y z) ≡ weight row y -ℤ weight row z
weight-minus = weights.weight-minus row_cmp row_cmp-total

pub weight-from_pairs : (row : List Value) (ps : List (List Value × ℤ)) → weight row (from_pairs row_cmp ps) ≡ weight_in row_cmp row ps
weight-from_pairs = weights.weight-from_pairs row_cmp row_cmp-total

pub weight-of_list : (row : List Value) (rows : List (List Value)) → weight row (of_list row_cmp rows) ≡ pos (count row_cmp row rows)
weight-of_list = weights.weight-of_list row_cmp row_cmp-total

pub total-plus : (y z : ZSet (List Value) row_cmp) → total (plus y z) ≡ total y +ℤ total z
total-plus = weights.total-plus row_cmp row_cmp-total

pub total-negate : (z : ZSet (List Value) row_cmp) → total (negate z) ≡ neg_ℤ (total z)
total-negate = weights.total-negate row_cmp row_cmp-total

pub total-minus : (y z : ZSet (List Value) row_cmp) → total (minus y z) ≡ total y -ℤ total z
total-minus = weights.total-minus row_cmp row_cmp-total

pub total-of_list : (rows : List (List Value)) → total (of_list row_cmp rows) ≡ pos (length rows)
total-of_list = weights.total-of_list row_cmp row_cmp-total

pub from_pairs-append : (ps qs : List (List Value × ℤ)) → from_pairs row_cmp (ps ++ qs) ≡ plus (from_pairs row_cmp ps) (from_pairs row_cmp qs)
from_pairs-append = weights.from_pairs-append row_cmp row_cmp-total row_cmp-antisymmetric

pub from_pairs-IsPermutation : (ps qs : List (List Value × ℤ)) → IsPermutation ps qs → from_pairs row_cmp qs ≡ from_pairs row_cmp ps
from_pairs-IsPermutation = weights.from_pairs-IsPermutation row_cmp row_cmp-total row_cmp-antisymmetric

pub of_list-append : (rows more : List (List Value)) → of_list row_cmp (rows ++ more) ≡ plus (of_list row_cmp rows) (of_list row_cmp more)
of_list-append = weights.of_list-append row_cmp row_cmp-total row_cmp-antisymmetric

pub is_ascending-in_order : (rows : List (List Value)) → T (is_ascending row_cmp (in_order row_cmp rows))
is_ascending-in_order = lists.is_ascending-in_order row_cmp row_cmp-total

pub count-in_order : (row : List Value) (rows : List (List Value)) → count row_cmp row (in_order row_cmp rows) ≡ cond (count row_cmp row rows == 0) 0 1
count-in_order = lists.count-in_order row_cmp row_cmp-total

pub is_ascending-changed : (before now : List (List Value)) → T (is_ascending row_cmp (changed row_cmp before now))
is_ascending-changed = lists.is_ascending-changed row_cmp row_cmp-total

pub count-changed : (row : List Value) (before now : List (List Value)) → count row_cmp row (changed row_cmp before now) ≡ cond (count row_cmp row before == count row_cmp row now) 0 1
count-changed = lists.count-changed row_cmp row_cmp-total

pub entries_change : (before now : List (List Value)) → entries (minus (of_list row_cmp now) (of_list row_cmp before)) ≡ map (λ row. (row, pos (count row_cmp row now) -ℤ pos (count row_cmp row before))) (changed row_cmp before now)
entries_change = changes.entries_change row_cmp row_cmp-total row_cmp-antisymmetric

-- ---- Z-sets without weights below 0
pub nonnegative-of_list : (rows : List (List Value)) → IsNonNegative (of_list row_cmp rows)
nonnegative-of_list = nonnegative.nonnegative-of_list row_cmp row_cmp-total

pub of_list-repeated : (z : ZSet (List Value) row_cmp) → IsNonNegative z → of_list row_cmp (repeated z) ≡ z
of_list-repeated = nonnegative.of_list-repeated row_cmp row_cmp-total row_cmp-antisymmetric

pub total-repeated : (z : ZSet (List Value) row_cmp) → IsNonNegative z → total z ≡ pos (length (repeated z))
total-repeated = nonnegative.total-repeated row_cmp row_cmp-total row_cmp-antisymmetric

pub list_all-repeated : (p : List Value → Bool) (z : ZSet (List Value) row_cmp) → IsNonNegative z → list_all p (repeated z) ≡ all_pass p z
list_all-repeated = nonnegative.list_all-repeated row_cmp row_cmp-total row_cmp-antisymmetric
