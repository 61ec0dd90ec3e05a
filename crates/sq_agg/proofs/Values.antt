-- The values of calls that are told by the accumulator, and by the kept arguments and their change, are those over the rows of the group.
use Rattle.std.proofs.Common.{◌≡◌, ℕ, ◌+◌, ◌-◌, ◌*◌, ◌<◌, ◌≤◌, add-mul, arith, true, List, [], ◌∷◌, ◌++◌, map, take, take_all, length, subst, ℤ, Option, Some, None, refl, sym, ap, ap₂, subst₂, ◌∙◌}
use Rattle.std.specs.Prelude.{MatchOption, slice_get}
use Rattle.sq_value.specs.declared.value.Value.{Value}
use Rattle.sq_value.specs.declared.value.Value.TheVariants.{Int}
use Rattle.sq_algebra.specs.Operators.{IsNonNegative}
use Rattle.sq_algebra.specs.ZSet.{weight}
use Rattle.sq_expr.specs.Bigint.{first_not_bigint}
use Rattle.sq_expr.specs.declared.expr.Func.{Func}
use Rattle.sq_expr.specs.declared.expr.Func.TheVariants.{CountAll, Count, Sum, Min, Max}
use Rattle.sq_ops.specs.Aggregates.{call_value, sums_of, tested_sum}
use Rattle.sq_ops.specs.Arguments.{arguments}
use Rattle.sq_ops.specs.declared.aggregate.AggSpec.{AggSpec}
use Rattle.sq_ops.specs.declared.aggregate.Call.{Call}
use Rattle.sq_trace.specs.Extremes.{IsGreatest, IsKeptNowhere, IsLeast, weight_after}
use Rattle.sq_agg.specs.Accumulators.{call_count, call_sum, count_place, sum_place}
use Rattle.sq_agg.specs.Kept.{Row, Rows, argument_key, has_ends}
use Rattle.sq_agg.specs.Stepping.{Accumulator, GroupAfter, IsCallValue, IsGreatestValue, IsLeastValue, KeptWeights, end_value, kept_sum, rows_after, sum_value}
use Rattle.sq_ops.proofs.Calling.{Called, one_called, one_outside}
use Rattle.sq_agg.proofs.Adding.{count_held, rows_held, sum_held}
use Rattle.sq_agg.proofs.Ends.{after_change, greatest_told, group_proper, least_told, none_told}

module _ (parts : KeptWeights) (key kept : Row) (change other : Rows) (same : kept ≡ key) (is : change ≡ other) (answer : Option Row) (value : Value) (told : value ≡ end_value answer) where
  pub least_value : MatchOption answer (IsKeptNowhere (weight_after kept parts change)) (IsLeast (weight_after kept parts change)) → IsLeastValue (weight_after key parts other) value
  least_value found = record { answer = answer; found = subst₂ (λ k d. MatchOption answer (IsKeptNowhere (weight_after k parts d)) (IsLeast (weight_after k parts d))) same is found; is = told }

  pub greatest_value : MatchOption answer (IsKeptNowhere (weight_after kept parts change)) (IsGreatest (weight_after kept parts change)) → IsGreatestValue (weight_after key parts other) value
  greatest_value found = record { answer = answer; found = subst₂ (λ k d. MatchOption answer (IsKeptNowhere (weight_after k parts d)) (IsGreatest (weight_after k parts d))) same is found; is = told }

-- ---- the steps of the calls
pub one_cost : (i m : ℕ) → i * m + m ≡ (i + 1) * m
one_cost i m = let spread = add-mul i 1 m in omega arith

pub calls_few : (i k m : ℕ) → i < k → i * m + m ≤ k * m
calls_few i k m low =
    let rest = k - (i + 1) in
    let all : k ≡ (i + 1) + rest = omega arith in
    let spread = ap (λ n. n * m) all ∙ add-mul (i + 1) rest m in
    let one = one_cost i m in
    omega arith

module _ (spec : AggSpec) (ordered : KeptWeights) (c : Row) (changed : Rows) (acc : Accumulator) (g : GroupAfter spec ordered c changed acc) (i : ℕ) (call : Call) (found : slice_get spec.calls i ≡ Some call) where
  abbrev w : Row → ℤ
  w row = weight_after (argument_key c i) ordered (arguments call.arg changed) row

  proper : IsNonNegative (rows_after g)
  proper = group_proper spec ordered g.old g.change c i call g.proper

  same : has_ends call.func ≡ true → (row : Row) → w row ≡ weight row (arguments call.arg (rows_after g))
  same ends row = ap (λ y. weight_after (argument_key c i) ordered (arguments call.arg y) row) (sym g.part) ∙ after_change spec ordered g.old g.change c i call g.held found ends row

  count_told : weight (count_place i) acc ≡ call_count call.func call.arg (rows_after g)
  count_told = ap (weight (count_place i)) g.counted ∙ count_held spec.calls (rows_after g) i call found

  sum_told : weight (sum_place i) acc ≡ call_sum call.func call.arg (rows_after g)
  sum_told = ap (weight (sum_place i)) g.counted ∙ sum_held spec.calls (rows_after g) i call found

  least_of_all : has_ends call.func ≡ true → (answer : Option Row) → MatchOption answer (IsKeptNowhere w) (IsLeast w) → end_value answer ≡ call_value Min call.arg (rows_after g)
  least_of_all ends None none = sym (none_told call.arg (rows_after g) proper w (same ends) none).0
  least_of_all ends (Some row) least = sym (least_told call.arg (rows_after g) proper w (same ends) row least)

  greatest_of_all : has_ends call.func ≡ true → (answer : Option Row) → MatchOption answer (IsKeptNowhere w) (IsGreatest w) → end_value answer ≡ call_value Max call.arg (rows_after g)
  greatest_of_all ends None none = sym (none_told call.arg (rows_after g) proper w (same ends) none).1
  greatest_of_all ends (Some row) greatest = sym (greatest_told call.arg (rows_after g) proper w (same ends) row greatest)

  value_by : (f : Func) → call.func ≡ f → (value : Value) → IsCallValue f i call.arg c acc ordered changed value → value ≡ call_value f call.arg (rows_after g)
  value_by CountAll is value told = told ∙ ap Int (ap (weight 0) g.counted ∙ rows_held spec.calls (rows_after g))
  value_by Count is value told = told ∙ ap Int (count_told ∙ ap (λ f. call_count f call.arg (rows_after g)) is)
  value_by Sum is value told = told ∙ ap₂ sum_value (count_told ∙ ap (λ f. call_count f call.arg (rows_after g)) is) (sum_told ∙ ap (λ f. call_sum f call.arg (rows_after g)) is)
  value_by Min is value told = told.is ∙ least_of_all (ap has_ends is) told.answer told.found
  value_by Max is value told = told.is ∙ greatest_of_all (ap has_ends is) told.answer told.found

  sum_by : (f : Func) → call.func ≡ f → kept_sum f i acc ≡ tested_sum f call.arg (rows_after g)
  sum_by CountAll is = refl
  sum_by Count is = refl
  sum_by Sum is = ap (λ n. n ∷ []) (sum_told ∙ ap (λ f. call_sum f call.arg (rows_after g)) is)
  sum_by Min is = refl
  sum_by Max is = refl

  -- the value of the call
  pub value_told : (value : Value) → IsCallValue call.func i call.arg c acc ordered changed value → value ≡ call_value call.func call.arg (rows_after g)
  value_told value told = value_by call.func refl value told

  -- its SUM
  pub tested_told : (n : Option ℤ) → first_not_bigint (kept_sum call.func i acc) ≡ n → first_not_bigint (tested_sum call.func call.arg (rows_after g)) ≡ n
  tested_told n is = sym (ap first_not_bigint (sum_by call.func refl)) ∙ is

module _ (spec : AggSpec) (ordered : KeptWeights) (c : Row) (changed : Rows) (acc : Accumulator) (g : GroupAfter spec ordered c changed acc) (cs : List Call) (is : cs ≡ spec.calls) (i : ℕ) where
  module _ (call : Call) (found : slice_get cs i ≡ Some call) where
    there : slice_get spec.calls i ≡ Some call
    there = subst (λ xs. slice_get xs i ≡ Some call) is found

    pub one_value : (olds news : List Value) (x : Value) → Called spec.calls (rows_after g) i olds → news ≡ olds ++ x ∷ [] → IsCallValue call.func i call.arg c acc ordered changed x
        → first_not_bigint (kept_sum call.func i acc) ≡ None → Called spec.calls (rows_after g) (i + 1) news
    one_value olds news x so_far made told inside =
        one_called spec.calls (rows_after g) i call there olds news x so_far made (value_told spec ordered c changed acc g i call there x told) (tested_told spec ordered c changed acc g i call there None inside)

    pub sum_outside : (values : List Value) (n : ℤ) → Called spec.calls (rows_after g) i values → first_not_bigint (kept_sum call.func i acc) ≡ Some n → first_not_bigint (sums_of spec.calls (rows_after g)) ≡ Some n
    sum_outside values n so_far out = one_outside spec.calls (rows_after g) i call there values n so_far (tested_told spec ordered c changed acc g i call there (Some n) out)

  module _ (values : List Value) (so_far : Called spec.calls (rows_after g) i values) (past : length cs ≤ i) where
    all_taken : take i spec.calls ≡ spec.calls
    all_taken = take_all i spec.calls (subst (λ xs. length xs ≤ i) is past)

    pub all_values : values ≡ map (λ call. call_value call.func call.arg (rows_after g)) spec.calls
    all_values = so_far.computed ∙ ap (map (λ (call : Call). call_value call.func call.arg (rows_after g))) all_taken

    pub none_outside : first_not_bigint (sums_of spec.calls (rows_after g)) ≡ None
    none_outside = sym (ap (λ xs. first_not_bigint (sums_of xs (rows_after g))) all_taken) ∙ so_far.in_range
