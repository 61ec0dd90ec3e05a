-- What is kept of a group for its aggregates: the number of its rows, and for each call a count and a sum.
-- An accumulator is a Z-set of places, in which each of these numbers other than 0 stands at its place. So accumulators of any
-- numbers of calls add up, place by place.
--     count_place i, sum_place i       the places of the count and the sum of call i, counted from 0; the number of rows stands at place 0
--     is_number_in_range place n       whether a number may stand at a place.       first_number_outside acc      the first that may not
--     tallied i ts                     the counts and sums ts of the calls from number i on, each at its place
--     accumulator rows ts              the number of rows with these counts and sums
--     accumulated calls z              the accumulator of the rows of a group
use Rattle.std.specs.Prelude.{ℕ, zero, suc, ◌^◌, nat_le, nat_lt, Bool, true, false, if◌then◌else◌, List, [], ◌∷◌, map, ℤ, pos, unsigned_abs, Option, Some, None}
use Rattle.std.specs.Ordering.{nat_cmp}
use Rattle.sq_value.specs.declared.value.Value.{Value}
use Rattle.sq_value.specs.Order.{row_cmp}
use Rattle.sq_algebra.specs.ZSet.{ZSet, entries, from_pairs, total}
use Rattle.sq_expr.specs.declared.expr.Func.{Func}
use Rattle.sq_expr.specs.declared.expr.Func.TheVariants.{CountAll, Count, Sum, Min, Max}
use Rattle.sq_ops.specs.declared.aggregate.Call.{Call}
use Rattle.sq_ops.specs.Aggregates.{count_in, sum_in}
use Rattle.sq_agg.specs.declared.tally.Tally.{Tally}

-- ---- places

abbrev pub count_place : ℕ → ℕ
count_place zero = 1
count_place (suc i) = suc (suc (count_place i))

abbrev pub sum_place : ℕ → ℕ
sum_place i = suc (count_place i)

abbrev pub is_sum_place : ℕ → Bool
is_sum_place zero = false
is_sum_place (suc zero) = false
is_sum_place (suc (suc zero)) = true
is_sum_place (suc (suc (suc place))) = is_sum_place (suc place)

abbrev pub tallied : ℕ → List Tally → List (ℕ × ℤ)
tallied i [] = []
tallied i (t ∷ ts) = (count_place i, t.count) ∷ (sum_place i, t.sum) ∷ tallied (suc i) ts

abbrev pub accumulator : ℤ → List Tally → ZSet ℕ nat_cmp
accumulator rows ts = from_pairs nat_cmp ((0, rows) ∷ tallied 0 ts)

-- ---- ranges

abbrev pub is_count_in_range : ℤ → Bool
is_count_in_range n = nat_le (unsigned_abs n) (2 ^ 62)

abbrev pub is_sum_in_range : ℤ → Bool
is_sum_in_range n = nat_lt (unsigned_abs n) (2 ^ 126)

abbrev pub is_number_in_range : ℕ → ℤ → Bool
is_number_in_range place n = if is_sum_place place then is_sum_in_range n else is_count_in_range n

abbrev pub first_number_in : List (ℕ × ℤ) → Option ℤ
first_number_in [] = None
first_number_in (e ∷ es) = if is_number_in_range e.0 e.1 then first_number_in es else Some e.1

abbrev pub first_number_outside : ZSet ℕ nat_cmp → Option ℤ
first_number_outside acc = first_number_in (entries acc)

-- ---- the rows of a group

-- COUNT of all rows counts each, and any other call those with a value in its column
abbrev pub call_count : Func → ℕ → ZSet (List Value) row_cmp → ℤ
call_count CountAll column z = total z
call_count Count column z = count_in column z
call_count Sum column z = count_in column z
call_count Min column z = count_in column z
call_count Max column z = count_in column z

-- the sum of a call that is no SUM is 0
abbrev pub call_sum : Func → ℕ → ZSet (List Value) row_cmp → ℤ
call_sum CountAll column z = pos 0
call_sum Count column z = pos 0
call_sum Sum column z = sum_in column z
call_sum Min column z = pos 0
call_sum Max column z = pos 0

abbrev pub call_tally : ZSet (List Value) row_cmp → Call → Tally
call_tally z call = record { count = call_count call.func call.arg z; sum = call_sum call.func call.arg z }

abbrev pub accumulated : List Call → ZSet (List Value) row_cmp → ZSet ℕ nat_cmp
accumulated calls z = accumulator (total z) (map (call_tally z) calls)
