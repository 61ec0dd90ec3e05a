-- An engine and the lists of rows that it stands for: how it begins, and what is told of its changes.
use Rattle.std.proofs.Common.{◌≡◌, ℕ, zero, suc, ◌+◌, ◌<◌, ◌≤◌, true, false, List, [], ◌∷◌, ◌++◌, length, map, ℤ, pos, Some, refl, sym, ap, ap₂, subst, ◌∙◌, arith}
use Rattle.std.specs.Prelude.{slice_get, if◌then◌else◌}
use Rattle.std.specs.List.{enumerate_from, flat_map, zip}
use mathlib.Core.Logic.{◌⊎◌, inl, inr}
use Rattle.std.proofs.lemmas.Bool.{cases_lt}
use borrow.Author.Differences.{ints}
use Rattle.sq_value.specs.Order.{row_cmp}
use Rattle.sq_algebra.specs.ZSet.{entries, entries-zero, minus, of_list, weight}
use Rattle.sq_zset.proofs.Rows.{entries_change, same_weights, weight-minus, weight-of_list}
use Rattle.sq_bridge.specs.Rows.{listed}
use Rattle.sq_catalog.specs.Sorts.{is_printed, tables_of, views_of}
use Rattle.sq_catalog.specs.declared.relation.Relation.{Relation}
use Rattle.sq_circuit.specs.Circuits as circuits
use Rattle.sq_circuit.specs.Circuits.{table_at, whole}
use Rattle.sq_circuit.specs.Invariant.{is_view, table_count, view_count}
use Rattle.sq_circuit.specs.Nodes.{Rows, none}
use Rattle.sq_circuit.specs.declared.circuit.Part.{Part}
use Rattle.sq_circuit.proofs.Alongside.{each-length}
use Rattle.sq_engine.specs.Admitting.{in_z_sets}
use Rattle.sq_engine.specs.Engines.{State, begun, no_tables, view_node, views_between, views_over}
use Rattle.sq_engine.proofs.Listing.{each_got, each_past, none_past, same_tables}
use Rattle.sq_plan.specs.Program.{IsPlanOf}
use Rattle.sq_print.specs.Texts as told
use Rattle.sq_print.specs.Texts.{told_block}
use Rattle.sq_typed.specs.Fit.{TablesAreOfKinds, kinds_of}
use Rattle.sq_typed.specs.From.{Answer, Row}
use Rattle.sq_typed.specs.Laws.{rows_in}
use Rattle.sq_typed.specs.Tables.{Tables}
use Rattle.sq_typed.specs.Views.{Meant, shown, views}
use Rattle.sq_ticks.specs.Over.{IsOver}
use Rattle.sq_compile.specs.Programs.{empty_verdict}
use Rattle.sq_compile.specs.Relations.{empty_tables}
use Rattle.sq_ticks.specs.Texts.{change_text, changes, view_text}
use Rattle.sq_compile.proofs.EmptyTables.{kinds_by_table, kinds_empty, many_mapped, none_in}

-- ---- tables without rows

pub no_tables_are : (p : Meant) (c : List Part) → IsPlanOf p c → no_tables c ≡ in_z_sets (empty_tables p.catalog)
no_tables_are p c plan =
    let long = each-length (λ t. none) (table_count c) in
    let many : table_count c ≡ length (tables_of p.catalog) = plan.tables.many ∙ ap length (kinds_by_table p.catalog) ∙ many_mapped kinds_of (tables_of p.catalog) in
    let other : length (in_z_sets (empty_tables p.catalog)) ≡ length (tables_of p.catalog) =
    many_mapped (of_list row_cmp) (empty_tables p.catalog) ∙ many_mapped (λ (r : Relation). []) (tables_of p.catalog) in
    same_tables (no_tables c) (in_z_sets (empty_tables p.catalog)) (omega arith)
    (λ t low. each_got (λ t. none) (table_count c) t (omega arith) ∙ sym (none_in (tables_of p.catalog) t))

-- an engine that has begun is over tables without rows
pub over_begun : (p : Meant) (e : State) → IsPlanOf p e.circuit → IsOver p (empty_tables p.catalog) (begun e)
over_begun p e plan = record {
  plan = plan;
  started = refl;
  many = many_mapped (λ (r : Relation). []) (tables_of p.catalog);
  kinds = kinds_empty p.catalog;
  tables = no_tables_are p e.circuit plan;
}

-- a view is out of range over the circuit's tables without rows exactly if it is over the program's
pub empty_same : (p : Meant) (c : List Part) → IsPlanOf p c → circuits.verdict c (no_tables c) ≡ empty_verdict p
empty_same p c plan = ap (circuits.verdict c) (no_tables_are p c plan) ∙ plan.verdict (empty_tables p.catalog) (kinds_empty p.catalog)

-- ---- the views of the circuit and of the program

answer_at : (given : List Answer) (v : ℕ) → v < length given → (a : Answer) × (slice_get given v ≡ Some a) × (a.rows ≡ rows_in (map (λ (a : Answer). a.rows) given) v)
answer_at [] v low = absurd (omega arith)
answer_at (a ∷ given) zero low = (a, refl, refl)
answer_at (a ∷ given) (suc v) low = answer_at given v (omega arith)

no_rows_past : (given : List Answer) (v : ℕ) → length given ≤ v → rows_in (map (λ (a : Answer). a.rows) given) v ≡ []
no_rows_past [] v high = refl
no_rows_past (a ∷ given) zero high = absurd (omega arith)
no_rows_past (a ∷ given) (suc v) high = no_rows_past given v (omega arith)

module _ (p : Meant) (c : List Part) (plan : IsPlanOf p c) (tables : Tables) (kinds : TablesAreOfKinds tables p.catalog) where
  view_is : (v : ℕ) → v < view_count c → whole c (in_z_sets tables) (view_node c v) ≡ listed (rows_in (shown p tables) v)
  view_is v low =
      let shows = plan.views tables kinds in
      let many = shows.many in
      let few : view_count c ≤ length c = none_past is_view c in
      let found = answer_at (views p tables) v (omega arith) in
      shows.each v (view_node c v) found.0 found.1 (omega arith) ∙ ap listed found.2

  view_past : (v : ℕ) → view_count c ≤ v → rows_in (shown p tables) v ≡ []
  view_past v high = let many = (plan.views tables kinds).many in no_rows_past (views p tables) v (omega arith)

-- ---- texts

text_same : (view : Relation) (z : Rows) (before now : List Row) → entries z ≡ changes before now → told.view_text view z ≡ view_text view before now
text_same view z before now same = ap (λ (es : List (Row × ℤ)). if is_printed view.kind then flat_map (λ (e : Row × ℤ). told.rise_text view e.0 e.1) es else []) same

text_of_none : (view : Relation) → told.view_text view none ≡ []
text_of_none view =
    elim (is_printed view.kind) as (λ b. (if b then flat_map (λ (e : Row × ℤ). told.rise_text view e.0 e.1) (entries none) else []) ≡ []) [
      | true ↦ ap (flat_map (λ (e : Row × ℤ). told.rise_text view e.0 e.1)) (entries-zero row_cmp)
      | false ↦ refl
    ]

none_beside : (vs : List Relation) → ◌≡◌ {A = List (Relation × Rows)} (zip vs []) []
none_beside [] = refl
none_beside (v ∷ vs) = refl

-- the texts of some views, the first of them with this number
texts_same : (vs : List Relation) (n : ℕ) (zs : List Rows) (before now : List (List Row))
    → ((k m : ℕ) → m ≡ n + k → entries (table_at zs k) ≡ changes (rows_in before m) (rows_in now m))
    → flat_map (λ (v : Relation × Rows). told.view_text v.0 v.1) (zip vs zs) ≡ flat_map (λ (v : ℕ × Relation). view_text v.1 (rows_in before v.0) (rows_in now v.0)) (enumerate_from n vs)
texts_same [] n zs before now same = refl
texts_same (v ∷ vs) n [] before now same =
    ap₂ (λ a b. a ++ b)
    (sym (text_of_none v) ∙ text_same v none (rows_in before n) (rows_in now n) (same zero n (omega arith)))
    (ap (flat_map (λ (v : Relation × Rows). told.view_text v.0 v.1)) (sym (none_beside vs)) ∙ texts_same vs (n + 1) [] before now (λ k m is. same (suc k) m (omega arith)))
texts_same (v ∷ vs) n (z ∷ zs) before now same =
    ap₂ (λ a b. a ++ b)
    (text_same v z (rows_in before n) (rows_in now n) (same zero n (omega arith)))
    (texts_same vs (n + 1) zs before now (λ k m is. same (suc k) m (omega arith)))

block_same : (relations : List Relation) (tick : ℕ) (zs : List Rows) (before now : List (List Row)) → ((k : ℕ) → entries (table_at zs k) ≡ changes (rows_in before k) (rows_in now k))
    → told_block relations tick zs ≡ change_text relations before now tick
block_same relations tick zs before now same =
    ap (λ t. t ++ told.accepted_text tick) (texts_same (views_of relations) 0 zs before now (λ k m is.
    let here : k ≡ m = omega arith in subst (λ m. entries (table_at zs k) ≡ changes (rows_in before m) (rows_in now m)) here (same k)))

-- ---- the first block

entries_listed : (rows : List Row) → entries (listed rows) ≡ changes [] rows
entries_listed rows =
    ap entries (same_weights (listed rows) (minus (listed rows) (listed [])) (λ row.
    let less = weight-minus row (listed rows) (listed []) in
    let nothing : weight row (listed []) ≡ pos 0 = weight-of_list row [] in
    omega (arith, ints)))
    ∙ entries_change [] rows

-- the first block tells what the views show over tables without rows
pub first_block : (p : Meant) (c : List Part) → IsPlanOf p c
    → told_block p.catalog 0 (views_over c (no_tables c)) ≡ change_text p.catalog [] (shown p (empty_tables p.catalog)) 0
first_block p c plan =
    ap (λ ts. told_block p.catalog 0 (views_over c ts)) (no_tables_are p c plan)
    ∙ block_same p.catalog 0 (views_over c (in_z_sets (empty_tables p.catalog))) [] (shown p (empty_tables p.catalog)) (λ k. step k (cases_lt k (view_count c)))
  where
    step : (k : ℕ) → (k < view_count c) ⊎ (view_count c ≤ k)
        → entries (table_at (views_over c (in_z_sets (empty_tables p.catalog))) k) ≡ changes [] (rows_in (shown p (empty_tables p.catalog)) k)
    step k (inl low) =
        ap entries (each_got (λ v. whole c (in_z_sets (empty_tables p.catalog)) (view_node c v)) (view_count c) k low
        ∙ view_is p c plan (empty_tables p.catalog) (kinds_empty p.catalog) k low)
        ∙ entries_listed (rows_in (shown p (empty_tables p.catalog)) k)
    step k (inr high) =
        ap entries (each_past (λ v. whole c (in_z_sets (empty_tables p.catalog)) (view_node c v)) (view_count c) k high)
        ∙ entries-zero row_cmp ∙ ap (changes []) (sym (view_past p c plan (empty_tables p.catalog) (kinds_empty p.catalog) k high))

-- ---- a later block

-- what is told of the changes of the circuit's views is what is printed of the views over the lists
pub block_told : (p : Meant) (tick : ℕ) (e : State) (old now : Tables) → IsOver p old e → TablesAreOfKinds now p.catalog
    → told_block p.catalog tick (views_between e.circuit e.tables (in_z_sets now)) ≡ change_text p.catalog (shown p old) (shown p now) tick
block_told p tick e old now over kinds =
    ap (λ ts. told_block p.catalog tick (views_between e.circuit ts (in_z_sets now))) over.tables
    ∙ block_same p.catalog tick (views_between e.circuit (in_z_sets old) (in_z_sets now)) (shown p old) (shown p now) (λ k. step k (cases_lt k (view_count e.circuit)))
  where
    step : (k : ℕ) → (k < view_count e.circuit) ⊎ (view_count e.circuit ≤ k)
        → entries (table_at (views_between e.circuit (in_z_sets old) (in_z_sets now)) k) ≡ changes (rows_in (shown p old) k) (rows_in (shown p now) k)
    step k (inl low) =
        ap entries (each_got (λ v. minus (whole e.circuit (in_z_sets now) (view_node e.circuit v)) (whole e.circuit (in_z_sets old) (view_node e.circuit v))) (view_count e.circuit) k low
        ∙ ap₂ minus (view_is p e.circuit over.plan now kinds k low) (view_is p e.circuit over.plan old over.kinds k low))
        ∙ entries_change (rows_in (shown p old) k) (rows_in (shown p now) k)
    step k (inr high) =
        ap entries (each_past (λ v. minus (whole e.circuit (in_z_sets now) (view_node e.circuit v)) (whole e.circuit (in_z_sets old) (view_node e.circuit v))) (view_count e.circuit) k high)
        ∙ entries-zero row_cmp
        ∙ ap₂ changes (sym (view_past p e.circuit over.plan old over.kinds k high)) (sym (view_past p e.circuit over.plan now kinds k high))
