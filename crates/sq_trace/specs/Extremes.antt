-- The first and the last row of a key that is left after a change of the key's rows.
--     weight_after key parts change row     the weight of a row of the key after the change
--     IsLeast w row, IsGreatest w row       the row has a weight above 0, and no row below it, or above it, has one
--     IsKeptNowhere w                       no row has a weight above 0
use Rattle.std.specs.Prelude.{◌≡◌, ℕ, ◌≤◌, ℤ, pos, ◌+ℤ◌, ◌≤ℤ◌, List, length, false}
use Rattle.std.specs.Ordering.{is_lt}
use Rattle.sq_value.specs.declared.value.Value.{Value}
use Rattle.sq_value.specs.Order.{row_cmp}
use Rattle.sq_base.specs.Causes.{raised}
use Rattle.sq_algebra.specs.Groups.{integers}
use Rattle.sq_algebra.specs.ZSet.{ZSet, entries, weight}
use Rattle.sq_trace.specs.declared.entry.Entry.{Entry}
use Rattle.sq_trace.specs.Runs.{content}
use Rattle.sq_trace.specs.Looking.{stepped}

abbrev pub weight_after : List Value → List (List (Entry ℤ)) → ZSet (List Value) row_cmp → List Value → ℤ
weight_after key parts change row = content integers (key, row) parts +ℤ weight row change

pub record IsLeast (w : List Value → ℤ) (row : List Value) : Type 0 where
  pub there : pos 1 ≤ℤ w row
  pub none_below : (q : List Value) → pos 1 ≤ℤ w q → is_lt (row_cmp q row) ≡ false

pub record IsGreatest (w : List Value → ℤ) (row : List Value) : Type 0 where
  pub there : pos 1 ≤ℤ w row
  pub none_above : (q : List Value) → pos 1 ≤ℤ w q → is_lt (row_cmp row q) ≡ false

abbrev pub IsKeptNowhere : (List Value → ℤ) → Type 0
IsKeptNowhere w = (row : List Value) → pos 1 ≤ℤ w row → ⊥

-- one step, and at most one more for each row of the change
pub record StepsFor (change : ZSet (List Value) row_cmp) (before now : ℕ) : Type 0 where
  pub more : ℕ
  pub few : more ≤ length (entries change)
  pub count : now ≡ stepped more (raised before)
