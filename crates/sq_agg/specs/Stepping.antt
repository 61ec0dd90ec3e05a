-- A step of an aggregate: what is known of a group after a change, its values, and the steps that they take.
--     GroupAfter spec ordered c changed acc     old rows whose arguments a trace holds, and a change of them: the changed rows of the
--                                               group c, and the accumulator of its rows after the change
--     rows_after g                the rows of the group after the change
--     end_value answer            the one value of a row that a look-up for an end answers, and NULL if there is none
--     IsLeastValue w value, IsGreatestValue w value      what MIN and MAX are by the weights after the change
--     argument_pairs column es    the arguments of rows, in their order
--     IsCallValue f i column c acc ordered changed value, kept_sum f i acc      the value of a call by what is kept, and its SUM
--     OnGroup .. P                P holds of the rows of a group after the change
--     sum_value n s               SUM from a count and a sum
--     call_cost n, calls_cost k n          the steps at most for a call, or for so many, if so many rows of the group changed
use Rattle.std.specs.Prelude.{◌≡◌, ℕ, ◌+◌, ◌*◌, if◌then◌else◌, List, [], ◌∷◌, ℤ, pos, Option, Some, None, MatchOption}
use Rattle.std.specs.List.{flat_map}
use Rattle.std.specs.Ordering.{int_eq, nat_cmp}
use Rattle.sq_value.specs.declared.value.Value.{Value}
use Rattle.sq_value.specs.declared.value.Value.TheVariants.{Null, Int}
use Rattle.sq_algebra.specs.Operators.{IsNonNegative, weighing}
use Rattle.sq_algebra.specs.ZSet.{ZSet, plus, weight}
use Rattle.sq_expr.specs.Meaning.{column_of}
use Rattle.sq_expr.specs.declared.expr.Func.{Func}
use Rattle.sq_expr.specs.declared.expr.Func.TheVariants.{CountAll, Count, Sum, Min, Max}
use Rattle.sq_ops.specs.Aggregates.{rows_of_group}
use Rattle.sq_ops.specs.Arguments.{argument_of, arguments}
use Rattle.sq_ops.specs.declared.aggregate.AggSpec.{AggSpec}
use Rattle.sq_trace.specs.declared.entry.Entry.{Entry}
use Rattle.sq_trace.specs.Extremes.{IsGreatest, IsKeptNowhere, IsLeast, weight_after}
use Rattle.sq_agg.specs.Accumulators.{count_place, sum_place}
use Rattle.sq_agg.specs.Kept.{HoldsArguments, Row, Rows, argument_key, group_accumulator}

abbrev pub KeptWeights : Type 0
KeptWeights = List (List (Entry ℤ))

abbrev pub Accumulator : Type 0
Accumulator = ZSet ℕ nat_cmp

pub record GroupAfter (spec : AggSpec) (ordered : KeptWeights) (c : Row) (changed : Rows) (acc : Accumulator) : Type 0 where
  pub old : Rows
  pub change : Rows
  pub held : HoldsArguments spec ordered old
  pub proper : IsNonNegative (plus old change)
  pub part : rows_of_group spec change c ≡ changed
  pub counted : acc ≡ group_accumulator spec (plus old change) c

abbrev pub rows_after : {spec : AggSpec} {ordered : KeptWeights} {c : Row} {changed : Rows} {acc : Accumulator} → GroupAfter spec ordered c changed acc → Rows
rows_after {spec} {ordered} {c} g = rows_of_group spec (plus g.old g.change) c

abbrev pub end_value : Option Row → Value
end_value None = Null
end_value (Some row) = column_of row 0

-- what a look-up for an end answers, and its value
pub record IsLeastValue (w : Row → ℤ) (value : Value) : Type 0 where
  pub answer : Option Row
  pub found : MatchOption answer (IsKeptNowhere w) (IsLeast w)
  pub is : value ≡ end_value answer

pub record IsGreatestValue (w : Row → ℤ) (value : Value) : Type 0 where
  pub answer : Option Row
  pub found : MatchOption answer (IsKeptNowhere w) (IsGreatest w)
  pub is : value ≡ end_value answer

-- the arguments of rows with these weights, in their order
abbrev pub argument_pairs : ℕ → List (Row × ℤ) → List (Row × ℤ)
argument_pairs column es = flat_map (λ e. weighing e.1 (argument_of column e.0)) es

abbrev pub sum_value : ℤ → ℤ → Value
sum_value n s = if int_eq n (pos 0) then Null else Int s

-- the value of a call with the number i, by the accumulator after the change, and by the kept arguments and their change
abbrev pub IsCallValue : Func → ℕ → ℕ → Row → Accumulator → KeptWeights → Rows → Value → Type 0
IsCallValue CountAll i column c acc ordered changed value = value ≡ Int (weight 0 acc)
IsCallValue Count i column c acc ordered changed value = value ≡ Int (weight (count_place i) acc)
IsCallValue Sum i column c acc ordered changed value = value ≡ sum_value (weight (count_place i) acc) (weight (sum_place i) acc)
IsCallValue Min i column c acc ordered changed value = IsLeastValue (weight_after (argument_key c i) ordered (arguments column changed)) value
IsCallValue Max i column c acc ordered changed value = IsGreatestValue (weight_after (argument_key c i) ordered (arguments column changed)) value

-- the sum of the call that is tested against the range of BIGINT, by the accumulator
abbrev pub kept_sum : Func → ℕ → Accumulator → List ℤ
kept_sum CountAll i acc = []
kept_sum Count i acc = []
kept_sum Sum i acc = weight (sum_place i) acc ∷ []
kept_sum Min i acc = []
kept_sum Max i acc = []

-- what holds of the rows of a group after a change, whatever old rows the trace holds
abbrev pub OnGroup : AggSpec → KeptWeights → Row → Rows → Accumulator → (Rows → Type 0) → Type 0
OnGroup spec ordered c changed acc P = (g : GroupAfter spec ordered c changed acc) → P (rows_after g)

abbrev pub call_cost : ℕ → ℕ
call_cost n = 1 + n

abbrev pub calls_cost : ℕ → ℕ → ℕ
calls_cost k n = k * call_cost n
