-- What the run of the sample prints: a line for each view, and the whole text before any tick.
use Rattle.std.proofs.Common.{◌≡◌, ℕ, ℤ, ◌+◌, ◌≤◌, ◌^◌, List, [], ◌∷◌, ◌++◌, length, map, refl, sym, ap, ap₂, ◌∙◌, arith}
use Rattle.std.specs.Prelude.{◌+ℤ◌}
use Rattle.std.specs.Fmt.{digits}
use Rattle.std.specs.List.{AllByRecursion, flat_map, zip}
use Rattle.json.specs.Print.{escape_byte}
use borrow.Author.Differences.{ints}
use Rattle.sq_algebra.specs.ZSet.{minus, total}
use Rattle.sq_zset.proofs.Rows.{total-minus}
use Rattle.sq_catalog.specs.Sorts.{views_of}
use Rattle.sq_expr.proofs.Lists.{all_over}
use Rattle.sq_typed.specs.From.{Answer}
use Rattle.sq_typed.specs.Views.{shown, views}
use Rattle.sq_circuit.specs.Along.{each_below}
use Rattle.sq_circuit.specs.Circuits.{whole}
use Rattle.sq_circuit.specs.Invariant.{view_count}
use Rattle.sq_circuit.specs.Nodes.{Rows}
use Rattle.sq_circuit.specs.declared.circuit.Part.{Part}
use Rattle.sq_plan.specs.Program.{IsPlanOf}
use Rattle.sq_engine.specs.Admitting.{in_z_sets}
use Rattle.sq_engine.specs.Engines.{State, moved, no_tables, view_node, views_between, views_over}
use Rattle.sq_meant.specs.Program.{program, relations}
use Rattle.sq_meant.proofs.Ranges.{by_group_are, by_key_are, seen_are, totals_are, unused_are}
use Rattle.sq_sample.specs.Accepted.{IsBehind, rises}
use Rattle.sq_sample.specs.Printed.{before_any_tick, counts, raised, rows_line, rows_listed, sample_text, ticks_line}
use Rattle.sq_sample.specs.Ticks.{tables_after}
use Rattle.sq_sample.proofs.Making.{no_tables_yet}
use Rattle.sq_sample.proofs.Ranges.{begins_behind, rows_counted, views_list_few}

pub five_views : (x t : ℕ) → length (rows_listed x t) ≡ 5
unfolding views
five_views x t = refl

-- ---- the totals of views and of their changes
pub few_rows : (x t : ℕ) → t ≤ 1000001 → AllByRecursion (λ n. n ≤ 2 ^ 28) (rows_listed x t)
few_rows x t few =
    all_over (λ n. n ≤ 2 ^ 28) (λ rows. length rows) (shown program (tables_after x t)) (views_list_few x t few)

module _ (c : List Part) (plan : IsPlanOf program c) where
  five_nodes : view_count c ≡ 5
  unfolding views
  five_nodes = (plan.views ([] ∷ [] ∷ []) (tt, (tt, tt))).many

  pub five_starts : (tables : List Rows) → length (views_over c tables) ≡ 5
  five_starts tables = ap (λ n. length (each_below (λ v. whole c tables (view_node c v)) n)) five_nodes

  pub five_changes : (old new : List Rows) → length (views_between c old new) ≡ 5
  five_changes old new = ap (λ n. length (each_below (λ v. minus (whole c new (view_node c v)) (whole c old (view_node c v))) n)) five_nodes

  abbrev five_totals : List Rows → List ℤ
  five_totals tables =
      total (whole c tables (view_node c 0)) ∷ total (whole c tables (view_node c 1)) ∷ total (whole c tables (view_node c 2))
      ∷ total (whole c tables (view_node c 3)) ∷ total (whole c tables (view_node c 4)) ∷ []

  totals_are_five : (tables : List Rows) → map total (views_over c tables) ≡ five_totals tables
  totals_are_five tables = ap (λ n. map total (each_below (λ v. whole c tables (view_node c v)) n)) five_nodes

  five_are_listed : (x t : ℕ) → t ≤ 1000001 → five_totals (in_z_sets (tables_after x t)) ≡ counts x t
  unfolding views
  five_are_listed x t few =
      ap₂ (λ (n : ℤ) ns. n ∷ ns) (rows_counted c x t 0 _ few plan refl)
      (ap₂ (λ (n : ℤ) ns. n ∷ ns) (rows_counted c x t 1 _ few plan refl)
      (ap₂ (λ (n : ℤ) ns. n ∷ ns) (rows_counted c x t 2 _ few plan refl)
      (ap₂ (λ (n : ℤ) ns. n ∷ ns) (rows_counted c x t 3 _ few plan refl)
      (ap₂ (λ (n : ℤ) ns. n ∷ ns) (rows_counted c x t 4 _ few plan refl) refl))))

  totals_listed : (x t : ℕ) → t ≤ 1000001 → map total (views_over c (in_z_sets (tables_after x t))) ≡ counts x t
  totals_listed x t few = totals_are_five (in_z_sets (tables_after x t)) ∙ five_are_listed x t few

-- an old total with that of its change is the new one
one_raised : (old new : Rows) → (total old +ℤ total (minus new old)) ≡ total new
one_raised old new = let change = total-minus new old in omega (arith, ints)

module _ (c : List Part) (plan : IsPlanOf program c) (old new : List Rows) where
  five_raised : raised (five_totals c plan old) (map total (each_below (λ v. minus (whole c new (view_node c v)) (whole c old (view_node c v))) 5)) ≡ five_totals c plan new
  five_raised =
      ap₂ (λ (n : ℤ) ns. n ∷ ns) (one_raised (whole c old (view_node c 0)) (whole c new (view_node c 0)))
      (ap₂ (λ (n : ℤ) ns. n ∷ ns) (one_raised (whole c old (view_node c 1)) (whole c new (view_node c 1)))
      (ap₂ (λ (n : ℤ) ns. n ∷ ns) (one_raised (whole c old (view_node c 2)) (whole c new (view_node c 2)))
      (ap₂ (λ (n : ℤ) ns. n ∷ ns) (one_raised (whole c old (view_node c 3)) (whole c new (view_node c 3)))
      (ap₂ (λ (n : ℤ) ns. n ∷ ns) (one_raised (whole c old (view_node c 4)) (whole c new (view_node c 4))) refl))))

  totals_raised : raised (five_totals c plan old) (map total (views_between c old new)) ≡ five_totals c plan new
  totals_raised = ap (λ n. raised (five_totals c plan old) (map total (each_below (λ v. minus (whole c new (view_node c v)) (whole c old (view_node c v))) n))) (five_nodes c plan) ∙ five_raised

pub start_counts : (c : List Part) (x : ℕ) → IsPlanOf program c → map total (views_over c (no_tables c)) ≡ counts x 0
start_counts c x plan =
    let begun = begins_behind c plan 1 x in
    ap (λ ts. map total (views_over c ts)) begun.tables ∙ totals_listed c plan x 0 (omega arith)

pub tick_counts : (s : State) (x t : ℕ) (delta : List Rows) → t ≤ 1000000 → IsPlanOf program s.circuit → IsBehind s x t → IsBehind (moved s delta) x (t + 1)
    → raised (counts x t) (rises s delta) ≡ counts x (t + 1)
tick_counts s x t delta few plan before behind =
    let c = s.circuit in
    let old = in_z_sets (tables_after x t) in
    let new = in_z_sets (tables_after x (t + 1)) in
    ap₂ (λ a b. raised (counts x t) (map total (views_between c a b))) before.tables behind.tables
    ∙ ap (λ ns. raised ns (map total (views_between c old new))) (sym (five_are_listed c plan x t (omega arith)))
    ∙ totals_raised c plan old new ∙ five_are_listed c plan x (t + 1) (omega arith)

-- ---- an example
abbrev many : Answer → ℕ
many a = length a.rows

no_rows_listed : map (λ rows. length rows) (shown program ([] ∷ [] ∷ [])) ≡ 1 ∷ 0 ∷ 0 ∷ 0 ∷ 0 ∷ []
unfolding views
no_rows_listed =
    ap₂ (λ (n : ℕ) ns. n ∷ ns) (ap many (totals_are [] [] _))
    (ap₂ (λ (n : ℕ) ns. n ∷ ns) (ap many (by_key_are [] [] _))
    (ap₂ (λ (n : ℕ) ns. n ∷ ns) (ap many (by_group_are [] [] _))
    (ap₂ (λ (n : ℕ) ns. n ∷ ns) (ap many (unused_are [] [] _))
    (ap₂ (λ (n : ℕ) ns. n ∷ ns) (ap many (seen_are [] [] _)) refl))))

pub printed_before : sample_text 7 0 ≡ before_any_tick
unfolding digits escape_byte
printed_before =
    ap (λ ns. ticks_line 7 0 ++ flat_map (λ line. rows_line line.0.name line.1) (zip (views_of relations) ns))
    (ap (λ ts. map (λ rows. length rows) (shown program ts)) (no_tables_yet 7) ∙ no_rows_listed)
