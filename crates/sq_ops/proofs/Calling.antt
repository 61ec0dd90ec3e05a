-- The values of calls, and the first SUM outside the range of BIGINT, call after call.
use Rattle.std.proofs.Common.{◌≡◌, ℕ, suc, ◌+◌, List, [], ◌∷◌, ◌++◌, map, take, drop, ℤ, Some, None, sym, ap, ap₂, ◌∙◌, append-nil}
use Rattle.std.specs.Prelude.{slice_get}
use Rattle.std.proofs.lemmas.List.{map-append}
use Rattle.std.proofs.lemmas.Grind.{flat_map-append}
use Rattle.sq_expr.proofs.Lists.{take_more}
use Rattle.sq_value.specs.declared.value.Value.{Value}
use Rattle.sq_value.specs.Order.{row_cmp}
use Rattle.sq_algebra.specs.ZSet.{ZSet}
use Rattle.sq_ops.specs.declared.aggregate.Call.{Call}
use Rattle.sq_ops.specs.Aggregates.{call_value, sums_of, tested_sum}
use Rattle.sq_expr.specs.Bigint.{first_not_bigint}
use Rattle.sq_ops.proofs.Lists.{split_here}
use Rattle.sq_ops.proofs.Ranges.{first_here, first_later}

module _ (calls : List Call) (z : ZSet (List Value) row_cmp) where
  -- the first i calls are computed, and none of their SUMs lies outside
  pub record Called (i : ℕ) (values : List Value) : Type 0 where
    pub computed : values ≡ map (λ call. call_value call.func call.arg z) (take i calls)
    pub in_range : first_not_bigint (sums_of (take i calls) z) ≡ None

  module _ (i : ℕ) (call : Call) (found : slice_get calls i ≡ Some call) where
    pub one_called : (olds news : List Value) (x : Value) → Called i olds → news ≡ olds ++ x ∷ [] → x ≡ call_value call.func call.arg z → first_not_bigint (tested_sum call.func call.arg z) ≡ None → Called (i + 1) news
    one_called olds news x so_far made value inside = record {
      computed =
          made ∙ ap₂ (λ xs y. xs ++ y ∷ []) so_far.computed value
          ∙ sym (map-append (λ (c : Call). call_value c.func c.arg z) (take i calls) (call ∷ []))
          ∙ ap (map (λ c. call_value c.func c.arg z)) (sym (take_more calls i call found));
      in_range =
          ap (λ cs. first_not_bigint (sums_of cs z)) (take_more calls i call found)
          ∙ ap first_not_bigint (flat_map-append (λ (c : Call). tested_sum c.func c.arg z) (take i calls) (call ∷ []))
          ∙ first_later (sums_of (take i calls) z) (sums_of (call ∷ []) z) so_far.in_range
          ∙ ap first_not_bigint (append-nil (tested_sum call.func call.arg z))
          ∙ inside;
    }

    -- a SUM outside is the first such one
    pub one_outside : (values : List Value) (n : ℤ) → Called i values → first_not_bigint (tested_sum call.func call.arg z) ≡ Some n → first_not_bigint (sums_of calls z) ≡ Some n
    one_outside values n so_far out =
        ap (λ cs. first_not_bigint (sums_of cs z)) (split_here calls i call found)
        ∙ ap first_not_bigint (flat_map-append (λ (c : Call). tested_sum c.func c.arg z) (take i calls) (call ∷ drop (suc i) calls))
        ∙ first_later (sums_of (take i calls) z) (sums_of (call ∷ drop (suc i) calls) z) so_far.in_range
        ∙ first_here (tested_sum call.func call.arg z) (sums_of (drop (suc i) calls) z) n out
