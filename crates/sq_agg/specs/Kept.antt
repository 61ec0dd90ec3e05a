-- What the traces of an aggregate hold of the rows of a Z-set, group by group.
--     has_ends f                whether the arguments of a call are kept: those of MIN and MAX are
--     argument_key c i          the key of the arguments of call i, counted from 0: the group, and the number of the call behind it
--     HoldsAccumulators spec parts z    under each group stands the accumulator of its rows, with the row without values
--     HoldsArguments spec parts z       the arguments of each call of MIN or MAX that are not NULL, with their weights
--     IsOtherKey spec k                 no call of MIN or MAX has arguments under this key.      HoldsNoOthers spec parts     there is nothing there
--     kept_accumulator parts c, group_accumulator spec z c      the accumulator that is kept of a group, and that of its rows
--     CallAfter f, weights_after, value_after      a group, and a call of MIN or MAX, after a change: the weights of its arguments, and its value
use Rattle.std.specs.Prelude.{◌≡◌, ℕ, Bool, true, false, if◌then◌else◌, List, [], ◌∷◌, ◌++◌, slice_get, ℤ, pos, Some}
use Rattle.std.specs.Ordering.{nat_cmp}
use Rattle.sq_value.specs.declared.value.Value.{Value}
use Rattle.sq_value.specs.declared.value.Value.TheVariants.{Int}
use Rattle.sq_value.specs.Order.{row_cmp}
use Rattle.sq_algebra.specs.Groups.{integers, z_sets}
use Rattle.sq_algebra.specs.Operators.{IsNonNegative}
use Rattle.sq_algebra.specs.ZSet.{ZSet, plus, weight, zero}
use Rattle.sq_expr.specs.declared.expr.Func.{Func}
use Rattle.sq_expr.specs.declared.expr.Func.TheVariants.{CountAll, Count, Sum, Min, Max}
use Rattle.sq_ops.specs.Aggregates.{call_value, rows_of_group}
use Rattle.sq_ops.specs.Arguments.{arguments_of_group}
use Rattle.sq_ops.specs.Wholes.{has_no_values}
use Rattle.sq_ops.specs.declared.aggregate.AggSpec.{AggSpec}
use Rattle.sq_ops.specs.declared.aggregate.Call.{Call}
use Rattle.sq_trace.specs.declared.entry.Entry.{Entry}
use Rattle.sq_trace.specs.Extremes.{weight_after}
use Rattle.sq_trace.specs.Runs.{content}
use Rattle.sq_agg.specs.Accumulators.{accumulated}

abbrev pub has_ends : Func → Bool
has_ends CountAll = false
has_ends Count = false
has_ends Sum = false
has_ends Min = true
has_ends Max = true

abbrev pub argument_key : List Value → ℕ → List Value
argument_key c i = c ++ Int (pos i) ∷ []

pub record HoldsAccumulators (spec : AggSpec) (parts : List (List (Entry (ZSet ℕ nat_cmp)))) (z : ZSet (List Value) row_cmp) : Type 0 where
  pub held : (c row : List Value) → content (z_sets nat_cmp) (c, row) parts ≡ (if has_no_values row then accumulated spec.calls (rows_of_group spec z c) else zero nat_cmp)

pub record HoldsArguments (spec : AggSpec) (parts : List (List (Entry ℤ))) (z : ZSet (List Value) row_cmp) : Type 0 where
  pub held : (c row : List Value) (i : ℕ) (call : Call) → slice_get spec.calls i ≡ Some call → has_ends call.func ≡ true
      → content integers (argument_key c i, row) parts ≡ weight row (arguments_of_group spec call.arg c z)

abbrev pub IsOtherKey : AggSpec → List Value → Type 0
IsOtherKey spec k = (c : List Value) (i : ℕ) (call : Call) → slice_get spec.calls i ≡ Some call → has_ends call.func ≡ true → k ≡ argument_key c i → ⊥

pub record HoldsNoOthers (spec : AggSpec) (parts : List (List (Entry ℤ))) : Type 0 where
  pub none : (k row : List Value) → IsOtherKey spec k → content integers (k, row) parts ≡ pos 0

-- ---- words of the laws
abbrev pub Row : Type 0
Row = List Value

abbrev pub Rows : Type 0
Rows = ZSet Row row_cmp

abbrev pub KeptAccumulators : Type 0
KeptAccumulators = List (List (Entry (ZSet ℕ nat_cmp)))

abbrev pub kept_accumulator : KeptAccumulators → Row → ZSet ℕ nat_cmp
kept_accumulator parts c = content (z_sets nat_cmp) (c, []) parts

abbrev pub group_accumulator : AggSpec → Rows → Row → ZSet ℕ nat_cmp
group_accumulator spec z c = accumulated spec.calls (rows_of_group spec z c)

-- a group and a call of this function, over old rows that a trace holds, and a change that leaves no weight below 0
pub record CallAfter (f : Func) : Type 0 where
  pub spec : AggSpec
  pub parts : List (List (Entry ℤ))
  pub z : Rows
  pub d : Rows
  pub group : Row
  pub number : ℕ
  pub call : Call
  pub found : slice_get spec.calls number ≡ Some call
  pub is : call.func ≡ f
  pub held : HoldsArguments spec parts z
  pub proper : IsNonNegative (plus z d)

-- the weight of an argument of the call after the change, as the trace and the change tell it
abbrev pub weights_after : {f : Func} → CallAfter f → Row → ℤ
weights_after a row = weight_after (argument_key a.group a.number) a.parts (arguments_of_group a.spec a.call.arg a.group a.d) row

-- the value of the call over the rows of the group after the change
abbrev pub value_after : {f : Func} → CallAfter f → Value
value_after {f} a = call_value f a.call.arg (rows_of_group a.spec (plus a.z a.d) a.group)
