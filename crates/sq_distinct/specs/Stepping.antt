-- What the trace of a distinct holds, and by what distinct rises row by row when the rows change.
--     HoldsRows parts z       under each row stands the row itself with its weight in z, and nothing else
--     held_weight parts row   the weight that the parts hold there
--     rise_of before n        by what the presence of a row rises when its weight, `before`, rises by n
--     unless_zero n           n, or none if it is 0
--     rises_of held es        that of each row of a change, unless it is 0
use Rattle.std.specs.Prelude.{◌≡◌, List, [], if◌then◌else◌, ℤ, pos, ◌+ℤ◌, ◌-ℤ◌, Option, Some, None}
use Rattle.std.specs.List.{flat_map}
use Rattle.std.specs.Ordering.{int_eq, is_eq}
use Rattle.sq_value.specs.declared.value.Value.{Value}
use Rattle.sq_value.specs.Order.{row_cmp}
use Rattle.sq_algebra.specs.Groups.{integers}
use Rattle.sq_algebra.specs.Operators.{presence}
use Rattle.sq_algebra.specs.ZSet.{ZSet, in_front, weight}
use Rattle.sq_trace.specs.declared.entry.Entry.{Entry}
use Rattle.sq_trace.specs.Runs.{content}

-- the kept state of a distinct
pub record HoldsRows (parts : List (List (Entry ℤ))) (z : ZSet (List Value) row_cmp) : Type 0 where
  pub held : (key row : List Value) → content integers (key, row) parts ≡ (if is_eq (row_cmp key row) then weight row z else pos 0)

abbrev pub held_weight : List (List (Entry ℤ)) → List Value → ℤ
held_weight parts row = content integers (row, row) parts

abbrev pub rise_of : ℤ → ℤ → ℤ
rise_of before n = presence (before +ℤ n) -ℤ presence before

abbrev pub unless_zero : ℤ → Option ℤ
unless_zero n = if int_eq n (pos 0) then None else Some n

abbrev pub rises_of : (List Value → ℤ) → List (List Value × ℤ) → List (List Value × ℤ)
rises_of held es = flat_map (λ e. in_front e.0 (rise_of (held e.0) e.1) []) es
