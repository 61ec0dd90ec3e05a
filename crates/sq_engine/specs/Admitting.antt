-- What updates make of the tables of an engine, and what they change.
--     signed u                the row of an update, once more or once less
--     net t us                what the updates change in the table t, those of one row added up
--     netted n us             the changes of n tables
--     step_at t row u         what an update adds to the weight of a row in a table
--     lacks tables u          it deletes a row of which its table has no copy
--     made tables us          the tables after the updates in order, or the line of the first that lacks its row
--     Makes tables us         each of the updates finds its row
--     inserted t us           how many of the updates put a row into the table t
--     MayAdmit s us           updates that speak of the tables of an engine, with rows of their kinds, and not too many
--     count_of, count_at      what is counted of a row in a map, and in that of a table
--     is_gone tables counts u     with what is counted, an update lacks its row
--     in_z_sets, outcome      the Z-sets of lists of rows, and of what updates make of lists
--     AreOfLists              tables that are the Z-sets of some lists, with updates that speak of these
use Rattle.std.specs.Prelude.{◌≡◌, ℕ, ◌<◌, ◌^◌, ◌==◌, ◌&&◌, Bool, not, if◌then◌else◌, List, [], ◌∷◌, length, map, slice_get, ℤ, pos, negsuc, ◌+ℤ◌, ◌≤ℤ◌, int_lt, Option, Some, None}
use Rattle.std.specs.List.{AllByRecursion, filter}
use Rattle.std.specs.Ordering.{is_eq}
use Rattle.std.specs.BTreeMap.{BTreeMap, get}
use Rattle.std.specs.declared.result.Result.{Result}
use Rattle.std.specs.declared.result.Result.TheVariants.{Ok, Err}
use Rattle.sq_value.specs.declared.value.Value.{Value}
use Rattle.sq_value.specs.Order.{row_cmp}
use Rattle.sq_algebra.specs.ZSet.{from_pairs, of_list, total, weight}
use Rattle.sq_expr.specs.Kinds.{AreOfKinds}
use Rattle.sq_typed.specs.Tables.{Tables}
use Rattle.sq_typed.specs.declared.update.Update.{Update}
use Rattle.sq_circuit.specs.Along.{each_below}
use Rattle.sq_circuit.specs.Circuits.{kinds_at, table_at}
use Rattle.sq_circuit.specs.Nodes.{Rows}
use Rattle.sq_engine.specs.Engines.{State, with_changes}

-- ---- what updates change
abbrev pub signed : Update → List Value × ℤ
signed u = (u.row, if u.insert then pos 1 else negsuc 0)

abbrev pub net : ℕ → List Update → Rows
net t us = from_pairs row_cmp (map signed (filter (λ u. u.table == t) us))

abbrev pub netted : ℕ → List Update → List Rows
netted n us = each_below (λ t. net t us) n

-- what an update adds to the weight of a row in a table
abbrev pub step_at : ℕ → List Value → Update → ℤ
step_at t row u = if u.table == t then (if is_eq (row_cmp row u.row) then (signed u).1 else pos 0) else pos 0

-- ---- what they make of the tables
abbrev pub lacks : List Rows → Update → Bool
lacks tables u = not u.insert && not (int_lt (pos 0) (weight u.row (table_at tables u.table)))

abbrev pub made : List Rows → List Update → Result (List Rows) ℕ
made tables [] = Ok tables
made tables (u ∷ us) = if lacks tables u then Err u.line else made (with_changes tables (netted (length tables) (u ∷ []))) us

-- each update finds its row
abbrev pub Makes : List Rows → List Update → Type 0
Makes tables us = made tables us ≡ Ok (with_changes tables (netted (length tables) us))

-- ---- which updates may be asked for
abbrev pub inserted : ℕ → List Update → ℕ
inserted t us = length (filter (λ u. u.insert && (u.table == t)) us)

pub record MayAdmit (s : State) (us : List Update) : Type 0 where
  pub inside : AllByRecursion (λ u. u.table < length s.tables) us
  pub of_kinds : AllByRecursion (λ u. AreOfKinds u.row (kinds_at s.circuit u.table)) us
  pub few : (t : ℕ) → (total (table_at s.tables t) +ℤ pos (inserted t us)) ≤ℤ pos (2 ^ 61)

-- ---- counting rows
abbrev pub count_in : Option ℤ → ℤ
count_in None = pos 0
count_in (Some n) = n

abbrev pub count_of : BTreeMap (List Value) ℤ → List Value → ℤ
count_of counts row = count_in (get row_cmp counts row)

abbrev pub counts_in : Option (BTreeMap (List Value) ℤ) → List Value → ℤ
counts_in None row = pos 0
counts_in (Some counts) row = count_of counts row

-- what is counted of a row in the map of a table
abbrev pub count_at : List (BTreeMap (List Value) ℤ) → ℕ → List Value → ℤ
count_at maps t row = counts_in (slice_get maps t) row

-- whether an update deletes a row of which its table, with what is counted, has no copy
abbrev pub is_gone : List Rows → List (BTreeMap (List Value) ℤ) → Update → Bool
is_gone tables counts u = not u.insert && not (int_lt (pos 0) (weight u.row (table_at tables u.table) +ℤ count_at counts u.table u.row))

-- ---- tables as lists
abbrev pub in_z_sets : Tables → List Rows
in_z_sets tables = map (of_list row_cmp) tables

abbrev pub outcome : Result Tables ℕ → Result (List Rows) ℕ
outcome (Ok tables) = Ok (in_z_sets tables)
outcome (Err line) = Err line

pub record AreOfLists (tables : List Rows) (lists : Tables) (us : List Update) : Type 0 where
  pub same : tables ≡ in_z_sets lists
  pub inside : AllByRecursion (λ u. u.table < length lists) us
