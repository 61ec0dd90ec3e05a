-- The tables of the sample are small: no view of the program is out of range over them, and no engine that runs it refuses a tick.
use Rattle.std.proofs.Common.{◌≡◌, ℕ, zero, suc, ◌+◌, ◌*◌, ◌<◌, ◌≤◌, ◌^◌, ◌/◌, ◌%◌, pos, List, [], ◌∷◌, length, map, slice_get, Some, None, refl, sym, ap, subst, ◌∙◌, arith}
use Rattle.std.proofs.Math.Nat.{mod-lt}
use Rattle.std.proofs.lemmas.Option.{same_Some}
use Rattle.std.specs.List.{AllByRecursion}
use Rattle.sq_algebra.specs.ZSet.{total}
use Rattle.sq_zset.proofs.Rows.{total-of_list}
use Rattle.sq_expr.specs.Kinds.{AreOfKinds}
use Rattle.sq_expr.proofs.Lists.{all_append}
use Rattle.sq_typed.specs.Fit.{TablesAreOfKinds}
use Rattle.sq_typed.specs.From.{Answer, Row}
use Rattle.sq_typed.specs.Tables.{Tables}
use Rattle.sq_typed.specs.Views as typed
use Rattle.sq_typed.proofs.FitRows.{length_filter}
use Rattle.sq_circuit.specs.Along.{each_below}
use Rattle.sq_circuit.specs.Circuits.{kinds_in, verdict, whole}
use Rattle.sq_circuit.specs.Invariant.{is_view}
use Rattle.sq_circuit.specs.Nodes.{Rows, none}
use Rattle.sq_circuit.specs.declared.circuit.Part.{Part}
use Rattle.sq_plan.specs.Program.{IsPlanOf}
use Rattle.sq_compile.proofs.EmptyTables.{none_is}
use Rattle.sq_engine.specs.Admitting.{in_z_sets}
use Rattle.sq_engine.specs.Engines.{State, begun, fresh, moved, no_tables, view_node, with_changes}
use Rattle.sq_meant.specs.Program.{program, relations}
use Rattle.sq_meant.specs.Small.{AreSmall, IsUpTo}
use Rattle.sq_meant.proofs.Ranges.{few_listed, in_range}
use Rattle.sq_sample.specs.Accepted.{HasTables, IsBehind, d_kinds, e_kinds}
use Rattle.sq_sample.specs.Numbers.{d_row, drawn, e_row, next, state_at}
use Rattle.sq_sample.specs.Printed.{rows_listed}
use Rattle.sq_sample.specs.Ticks.{d_rows, e_rows, tables_after}
use Rattle.sq_sample.proofs.Accepting.{d_row_fits, many_d, many_e, row_from_fits}
use Rattle.sq_sample.proofs.Making.{no_tables_yet, with_rows}

-- ---- each row is small, and of its kinds
d_row_small : (k : ℕ) → k < 2 ^ 31 → AllByRecursion (IsUpTo (2 ^ 31)) (d_row k)
d_row_small k low = ((omega arith), ((let few : k % 10 < 10 = mod-lt k (omega arith) in omega arith), tt))

below_thousand : (n : ℕ) → n % 1000 ≤ 2 ^ 31
below_thousand n = let few : n % 1000 < 1000 = mod-lt n (omega arith) in omega arith

e_row_small : (x i : ℕ) → i < 2 ^ 31 → AllByRecursion (IsUpTo (2 ^ 31)) (e_row x i)
e_row_small x i low = ((omega arith), (below_thousand (drawn (next (state_at x (2 * i)))), (below_thousand (drawn (next (next (state_at x (2 * i))))), tt)))

each_d : (P : Row → Type 0) → ((k : ℕ) → k < 2 ^ 31 → P (d_row k)) → (n : ℕ) → n < 2 ^ 31 → AllByRecursion P (d_rows n)
unfolding d_rows
each_d P of_row zero low = tt
each_d P of_row (suc n) low = all_append P (d_rows n) _ (each_d P of_row n (omega arith)) (of_row n (omega arith), tt)

each_e : (P : Row → Type 0) (x : ℕ) → ((i : ℕ) → i < 2 ^ 31 → P (e_row x i)) → (first n : ℕ) → first + n < 2 ^ 31 → AllByRecursion P (e_rows x first n)
unfolding e_rows
each_e P x of_row first zero low = tt
each_e P x of_row first (suc n) low = all_append P (e_rows x first n) _ (each_e P x of_row first n (omega arith)) (of_row (first + n) (omega arith), tt)

-- ---- what holds of no rows, and of so many rows of e behind each first one, holds after all ticks
after_ticks : (P : Tables → Type 0) → P ([] ∷ [] ∷ []) → ((x first n : ℕ) → first ≤ 500000 → n ≤ 100001 → P (d_rows 1010 ∷ e_rows x first n ∷ [])) → (x t : ℕ) → t ≤ 1000001 → P (tables_after x t)
after_ticks P empty filled x zero few = subst P (sym (no_tables_yet x)) empty
after_ticks P empty filled x (suc m) few =
    let small : m % 2 < 2 = mod-lt m (omega arith) in
    subst P (sym (with_rows x m (m / 2) (100000 + m % 2) refl refl)) (filled x (m / 2) (100000 + m % 2) (omega arith) (omega arith))

-- ---- lists
nothing_is_small : AreSmall [] []
nothing_is_small = record { few_d = omega arith; few_e = omega arith; small_d = tt; small_e = tt }

rows_are_small : (x first n : ℕ) → first ≤ 500000 → n ≤ 100001 → AreSmall (d_rows 1010) (e_rows x first n)
rows_are_small x first n low few = record {
  few_d = (let many = many_d 1010 in omega arith);
  few_e = (let many = many_e x first n in omega arith);
  small_d = each_d (λ row. AllByRecursion (IsUpTo (2 ^ 31)) row) d_row_small 1010 (omega arith);
  small_e = each_e (λ row. AllByRecursion (IsUpTo (2 ^ 31)) row) x (e_row_small x) first n (omega arith);
}

pub no_rows_in_range : typed.verdict program ([] ∷ [] ∷ []) ≡ None
no_rows_in_range = in_range [] [] nothing_is_small

pub tables_in_range : (x t : ℕ) → t ≤ 1000001 → typed.verdict program (tables_after x t) ≡ None
tables_in_range x t few =
    after_ticks (λ ts. typed.verdict program ts ≡ None) no_rows_in_range
    (λ x first n low few. in_range (d_rows 1010) (e_rows x first n) (rows_are_small x first n low few)) x t few

pub views_list_few : (x t : ℕ) → t ≤ 1000001 → AllByRecursion (λ rows. length rows ≤ 2 ^ 28) (typed.shown program (tables_after x t))
views_list_few x t few =
    after_ticks (λ ts. AllByRecursion (λ rows. length rows ≤ 2 ^ 28) (typed.shown program ts)) (few_listed [] [] nothing_is_small)
    (λ x first n low few. few_listed (d_rows 1010) (e_rows x first n) (rows_are_small x first n low few)) x t few

pub tables_of_kinds : (x t : ℕ) → t ≤ 1000001 → TablesAreOfKinds (tables_after x t) relations
tables_of_kinds x t few =
    after_ticks (λ ts. TablesAreOfKinds ts relations) (tt, (tt, tt))
    (λ x first n low few. (
      each_d (λ row. AreOfKinds row d_kinds) d_row_fits 1010 (omega arith),
      (each_e (λ row. AreOfKinds row e_kinds) x (λ i small. row_from_fits (state_at x (2 * i)) i small) first n (omega arith), tt),
    )) x t few

-- ---- engines
module _ (c : List Part) (plan : IsPlanOf program c) where
  pub planned_in_range : (x t : ℕ) → t ≤ 1000001 → verdict c (in_z_sets (tables_after x t)) ≡ None
  planned_in_range x t few = plan.verdict (tables_after x t) (tables_of_kinds x t few) ∙ tables_in_range x t few

  no_tables_are : (x : ℕ) → no_tables c ≡ in_z_sets (tables_after x 0)
  no_tables_are x = ap (λ n. each_below (λ t. none) n) plan.tables.many ∙ ap (λ z. z ∷ z ∷ []) none_is ∙ ap in_z_sets (sym (no_tables_yet x))

  has_tables : HasTables c
  has_tables = record { d = ap kinds_in (plan.tables.each 0 d_kinds refl); e = ap kinds_in (plan.tables.each 1 e_kinds refl) }

  pub begins_behind : (shards x : ℕ) → IsBehind (begun (fresh c shards)) x 0
  begins_behind shards x = record { kinds = has_tables; tables = no_tables_are x }

  pub starts_in_range : verdict c (no_tables c) ≡ None
  starts_in_range = ap (verdict c) (no_tables_are 0) ∙ planned_in_range 0 0 (omega arith)

pub ticks_in_range : (s : State) (x t : ℕ) (delta : List Rows) → t ≤ 1000001 → IsPlanOf program s.circuit → IsBehind (moved s delta) x t → verdict s.circuit (with_changes s.tables delta) ≡ None
ticks_in_range s x t delta few plan behind = ap (verdict s.circuit) behind.tables ∙ planned_in_range s.circuit plan x t few

-- ---- how many rows each view lists
at_mapped : {A B : Type 0} (f : A → B) (xs : List A) (i : ℕ) (y : B) → slice_get (map f xs) i ≡ Some y → (x : A) × (slice_get xs i ≡ Some x) × (y ≡ f x)
at_mapped f [] i y e = absurd (cc e)
at_mapped f (x ∷ xs) zero y e = (x, refl, sym (same_Some (f x) y e))
at_mapped f (x ∷ xs) (suc i) y e = at_mapped f xs i y e

pub rows_counted : (c : List Part) (x t v n : ℕ) → t ≤ 1000001 → IsPlanOf program c → slice_get (rows_listed x t) v ≡ Some n → total (whole c (in_z_sets (tables_after x t)) (view_node c v)) ≡ pos n
rows_counted c x t v n few plan at =
    let rows = at_mapped (λ (rows : List Row). length rows) (typed.shown program (tables_after x t)) v n at in
    let given = at_mapped (λ (a : Answer). a.rows) (typed.views program (tables_after x t)) v rows.0 rows.1 in
    let shows = plan.views (tables_after x t) (tables_of_kinds x t few) in
    let some = length_filter (λ (p : Part). is_view p.node) c in
    ap total (shows.each v (view_node c v) given.0 given.1 (omega arith)) ∙ total-of_list given.0.rows ∙ ap (λ rows. pos (length rows)) (sym given.2) ∙ ap pos (sym rows.2)
