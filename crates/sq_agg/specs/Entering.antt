-- The entries by which the traces of an aggregate change, group by group.
--     accumulator_entries calls c z      the accumulator of the changed rows z of the group c
--     argument_entries c i calls z       the arguments of the calls with the numbers from i on
--     is_same_row r q, shown_entries c r q     whether two rows, or none, are the same; what is shown goes from r to q
--     row_before first spec y c, row_after spec y d c     the row that is shown of the group before the change d of y, and after it
--     as_pairs es                        the rows of entries with their weights
--     accumulators_of first spec d, arguments_of_calls first spec d, moves_of first spec y d      those of all groups that a step looks at
--     MovesShown .. olds news, NamesSum .. group sum      what is shown of a group moves, and the first SUM outside is one of this group
use Rattle.std.specs.Prelude.{◌≡◌, ℕ, suc, Bool, true, false, if◌then◌else◌, List, [], ◌∷◌, ◌++◌, map, ℤ, pos, negsuc, Option, Some, None}
use Rattle.std.specs.List.{flat_map}
use Rattle.std.specs.Ordering.{is_eq}
use Rattle.sq_value.specs.Order.{row_cmp}
use Rattle.sq_algebra.specs.ZSet.{entries, plus}
use Rattle.sq_ops.specs.Aggregates.{rows_of_group}
use Rattle.sq_ops.specs.Arguments.{arguments}
use Rattle.sq_ops.specs.declared.aggregate.AggSpec.{AggSpec}
use Rattle.sq_ops.specs.declared.aggregate.Call.{Call}
use Rattle.sq_trace.specs.declared.entry.Entry.{Entry}
use Rattle.sq_agg.specs.Accumulators.{accumulated}
use Rattle.sq_agg.specs.Aggregating.{touched}
use Rattle.sq_agg.specs.Kept.{KeptAccumulators, Row, Rows, argument_key, has_ends}
use Rattle.sq_agg.specs.Shifts.{FirstSum, OnState, ShowsRow, shown_row}
use Rattle.sq_agg.specs.Stepping.{Accumulator, KeptWeights}

abbrev pub entry : {A : Type 0} → Row → Row → A → Entry A
entry c row payload = record { key = c; row = row; payload = payload }

-- ---- accumulators
abbrev pub accumulator_entries : List Call → Row → Rows → List (Entry Accumulator)
accumulator_entries calls c z = entry c [] (accumulated calls z) ∷ []

-- ---- arguments
abbrev pub kept_entries : Row → ℕ → List (Row × ℤ) → List (Entry ℤ)
kept_entries c i es = map (λ e. entry (argument_key c i) e.0 e.1) es

abbrev pub call_entries : Row → ℕ → Call → Rows → List (Entry ℤ)
call_entries c i call z = if has_ends call.func then kept_entries c i (entries (arguments call.arg z)) else []

abbrev pub argument_entries : Row → ℕ → List Call → Rows → List (Entry ℤ)
argument_entries c i [] z = []
argument_entries c i (call ∷ calls) z = call_entries c i call z ++ argument_entries c (suc i) calls z

-- ---- shown rows
abbrev pub is_same_row : Option Row → Option Row → Bool
is_same_row None None = true
is_same_row None (Some q) = false
is_same_row (Some r) None = false
is_same_row (Some r) (Some q) = is_eq (row_cmp r q)

abbrev pub one_shown : Row → Option Row → ℤ → List (Entry ℤ)
one_shown c None n = []
one_shown c (Some r) n = entry c r n ∷ []

abbrev pub shown_entries : Row → Option Row → Option Row → List (Entry ℤ)
shown_entries c r q = if is_same_row r q then [] else one_shown c r (negsuc 0) ++ one_shown c q (pos 1)

abbrev pub row_before : Bool → AggSpec → Rows → Row → Option Row
row_before first spec y c = if first then None else shown_row spec.global spec.calls c (rows_of_group spec y c)

abbrev pub row_after : AggSpec → (y d : Rows) → Row → Option Row
row_after spec y d c = shown_row spec.global spec.calls c (rows_of_group spec (plus y d) c)

abbrev pub as_pairs : List (Entry ℤ) → List (Row × ℤ)
as_pairs es = map (λ e. (e.row, e.payload)) es

-- ---- all groups that a step looks at
abbrev pub accumulators_of : Bool → AggSpec → Rows → List (Entry Accumulator)
accumulators_of first spec d = flat_map (λ c. accumulator_entries spec.calls c (rows_of_group spec d c)) (touched first spec d)

abbrev pub arguments_of_calls : Bool → AggSpec → Rows → List (Entry ℤ)
arguments_of_calls first spec d = flat_map (λ c. argument_entries c 0 spec.calls (rows_of_group spec d c)) (touched first spec d)

abbrev pub moves_of : Bool → AggSpec → (y d : Rows) → List (Entry ℤ)
moves_of first spec y d = flat_map (λ c. shown_entries c (row_before first spec y c) (row_after spec y d c)) (touched first spec d)

-- ---- one group, whatever old rows the traces hold
abbrev pub MovesShown : AggSpec → KeptAccumulators → (ordered shown : KeptWeights) → Row → Rows → (olds news : List (Entry ℤ)) → Type 0
MovesShown spec accs ordered shown c z olds news =
    (r : Option Row) → ShowsRow shown c r → OnState spec accs ordered c z (λ new. news ≡ olds ++ shown_entries c r (shown_row spec.global spec.calls c new))

abbrev pub NamesSum : AggSpec → KeptAccumulators → KeptWeights → Row → Rows → Row → ℤ → Type 0
NamesSum spec accs ordered c z group sum = (group ≡ c) × OnState spec accs ordered c z (λ new. FirstSum spec.calls new sum)
