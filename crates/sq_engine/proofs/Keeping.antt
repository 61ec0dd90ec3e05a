-- What an engine keeps, through its calls.
use Rattle.std.proofs.Common.{◌≡◌, ℕ, ◌<◌, ◌≤◌, ◌^◌, ◌≤ℤ◌, ℤ, Bool, true, false, List, length, pos, replicate, None, refl, sym, ap, ap₂, subst, subst₂, ◌∙◌, arith}
use Rattle.std.specs.List.{All}
use Rattle.std.proofs.lemmas.Bool.{cases_lt}
use Rattle.std.proofs.lemmas.List.{length-replicate}
use borrow.Author.Differences.{ints}
use mathlib.Core.Logic.{◌⊎◌, inl, inr}
use Rattle.sq_expr.specs.declared.expr.Kind.{Kind}
use Rattle.sq_expr.specs.Kinds.{AreOfKinds}
use Rattle.sq_value.specs.declared.value.Value.{Value}
use Rattle.sq_value.specs.Order.{row_cmp}
use Rattle.sq_algebra.specs.Groups.{z_sets}
use Rattle.sq_algebra.specs.ZSet.{entries-zero, int_sum_by, plus, total}
use Rattle.sq_algebra.proofs.AbelianLemmas.{minus-zero}
use Rattle.sq_zset.specs.GroupLaws.{rows_are_abelian}
use Rattle.sq_zset.proofs.Rows.{weight-zero}
use Rattle.sq_circuit.specs.Along.{each_below}
use Rattle.sq_circuit.specs.Circuits.{table_at, verdict, whole}
use Rattle.sq_circuit.specs.Invariant.{HasKinds, IsCircuit, IsGood, IsListed, table_count, view_count}
use Rattle.sq_circuit.specs.Nodes.{Rows, none}
use Rattle.sq_circuit.specs.Pieces.{AreChanged}
use Rattle.sq_circuit.specs.declared.circuit.Part.{Part}
use Rattle.sq_circuit.proofs.Alongside.{each-length}
use Rattle.sq_states.specs.Empty.{empty_states}
use Rattle.sq_states.specs.declared.kept.NodeState.{NodeState}
use Rattle.sq_states.specs.declared.ready.Ready.{Ready}
use Rattle.sq_incr.specs.Ready.{IsReady, Keeps}
use Rattle.sq_incr.proofs.Beginning.{starts_ready}
use Rattle.sq_engine.specs.Engines.{IsKept, State, fresh, no_tables, view_node, views_between, views_over, with_changes}
use Rattle.sq_engine.specs.Ticking.{AreAllPut, IsPrepared, node_change}
use Rattle.sq_engine.proofs.Readied.{keeps_after}
use Rattle.sq_tables.specs.Tables.{HoldTables, tables_in}
use Rattle.sq_tables.proofs.Standing.{each_same, hold_tables, tables_begun, tables_kept}
use Rattle.sq_engine.proofs.Listing.{each_got, each_past, past_tables, plus_none}

-- ---- tables without rows are good
pub total_none : total none ≡ pos 0
unfolding total
total_none = ap (int_sum_by (λ (e : List Value × ℤ). e.1)) (entries-zero row_cmp)

listed_none : IsListed none
listed_none = record {
  above = λ row. let nothing = weight-zero row in subst (λ w. pos 0 ≤ℤ w) (sym nothing) (omega (arith, ints));
  few = subst (λ w. w ≤ℤ pos (2 ^ 61)) (sym total_none) (omega (arith, ints));
}

kinds_none : (kinds : List Kind) → HasKinds kinds none
kinds_none kinds = subst (λ (es : List (List Value × ℤ)). All (λ e. AreOfKinds e.0 kinds) es) (sym (entries-zero row_cmp)) (λ i d low. absurd (omega arith))

pub none_at : (n t : ℕ) → table_at (each_below (λ t. none) n) t ≡ none
none_at n t = step (cases_lt t n)
  where
    step : (t < n) ⊎ (n ≤ t) → table_at (each_below (λ t. none) n) t ≡ none
    step (inl low) = each_got (λ t. none) n t low
    step (inr high) = each_past (λ t. none) n t high

pub good_none : (c : List Part) → IsGood c (no_tables c)
good_none c = record {
  count = each-length (λ t. none) (table_count c);
  of_kinds = λ i p t e is. subst (λ z. HasKinds p.kinds z) (sym (none_at (table_count c) t)) (kinds_none p.kinds);
  listed = λ t. subst (λ z. IsListed z) (sym (none_at (table_count c) t)) listed_none;
}

-- ---- a new engine
pub tables_fresh : (c : List Part) (states : List (List NodeState)) (workers : ℕ) → states ≡ replicate workers (empty_states c) → tables_in c states ≡ no_tables c
tables_fresh c states workers is = ap (tables_in c) is ∙ tables_begun c workers

pub kept_fresh : (c : List Part) (states : List (List NodeState)) (totals : List ℤ) (workers : ℕ) → 1 ≤ workers → workers ≤ 64 → length c < 2 ^ 26 → states ≡ replicate workers (empty_states c)
    → totals ≡ replicate (length c) (pos 0) → IsKept (record { circuit = c; started = false; tables = tables_in c states; shards = length states }) states totals
kept_fresh c states totals workers some few nodes empty nothing =
    let is = tables_fresh c states workers empty in
    let many : length states ≡ workers = ap length empty ∙ length-replicate workers (empty_states c) in
    record {
      some = omega (arith, many, some);
      few = omega (arith, many, few);
      nodes = nodes;
      good = subst (λ ts. IsGood c ts) (sym is) (good_none c);
      empty = λ _. is;
      fresh_states = λ _. empty ∙ ap (λ n. replicate n (empty_states c)) (sym many);
      fresh_totals = λ _. nothing;
      sound = λ e. absurd (cc e);
      keeps = λ e. absurd (cc e);
    }

pub fresh_is : (c : List Part) (states : List (List NodeState)) (workers : ℕ) → states ≡ replicate workers (empty_states c)
    → ◌≡◌ {A = State} (record { circuit = c; started = false; tables = tables_in c states; shards = length states }) (fresh c workers)
fresh_is c states workers empty =
    let is = tables_fresh c states workers empty in
    let many : length states ≡ workers = ap length empty ∙ length-replicate workers (empty_states c) in
    λ i. record { circuit = c; started = false; tables = is i; shards = many i }

-- ---- the start
-- what is kept at the start depends on no tables
keeps_anywhere : (c : List Part) (old tables : List Rows) (states : List (List NodeState)) (totals : List ℤ) → Keeps true c old states totals → Keeps true c tables states totals
keeps_anywhere c old tables states totals k = record { nodes = k.nodes; each = k.each; totals_count = k.totals_count; total_of = k.total_of }

pub start_ready : (s : State) (states : List (List NodeState)) (totals : List ℤ) → IsKept s states totals → s.started ≡ false → (r : IsReady s.circuit states totals s.tables true) × (r.new ≡ s.tables)
start_ready s states totals kept not =
    let begun = starts_ready s.circuit (length states) kept.some kept.few s.tables kept.good in (
      record {
        old = s.tables;
        new = s.tables;
        some = kept.some;
        few = kept.few;
        keeps = subst₂ (λ (a : List (List NodeState)) (b : List ℤ). Keeps true s.circuit s.tables a b) (sym (kept.fresh_states not)) (sym (kept.fresh_totals not)) (keeps_anywhere s.circuit begun.old s.tables _ _ begun.keeps);
        was_good = λ later. absurd (cc later);
        was_clear = λ later. absurd (cc later);
        tables = kept.good.count;
        changed = λ t. sym (rows_are_abelian.neutral (table_at s.tables t));
        good = kept.good;
      },
      refl,
    )

-- the same by other names of what is kept
pub begun_ready : {s : State} {states : List (List NodeState)} {totals : List ℤ} → IsKept s states totals → s.started ≡ false → (a : List (List NodeState)) (b : List ℤ) (ts : List Rows) → a ≡ states → b ≡ totals → ts ≡ s.tables
    → (r : IsReady s.circuit a b ts true) × (r.new ≡ s.tables)
begun_ready {s} {states} {totals} kept not a b ts same sums is =
    subst₂ (λ (a : List (List NodeState)) (b : List ℤ). (r : IsReady s.circuit a b ts true) × (r.new ≡ s.tables)) (sym same) (sym sums)
    (subst (λ (ts : List Rows). (r : IsReady s.circuit states totals ts true) × (r.new ≡ s.tables)) (sym is) (start_ready s states totals kept not))

-- an engine that has started
pub kept_started : (c : List Part) (tables : List Rows) (states : List (List NodeState)) (totals : List ℤ) → 0 < length states → length states ≤ 64 → length c < 2 ^ 26 → IsGood c tables → verdict c tables ≡ None → Keeps false c tables states totals
    → IsKept (record { circuit = c; started = true; tables = tables; shards = length states }) states totals
kept_started c tables states totals some few nodes good clear keeps = record {
  some = some;
  few = few;
  nodes = nodes;
  good = good;
  empty = λ e. absurd (cc e);
  fresh_states = λ e. absurd (cc e);
  fresh_totals = λ e. absurd (cc e);
  sound = λ _. clear;
  keeps = λ _. keeps;
}

-- what views have more at the start is what they have
pub begun_views : (c : List Part) {states : List (List NodeState)} {totals : List ℤ} {changes : List Rows} (r : IsReady c states totals changes true) → (tables : List Rows) → r.new ≡ tables
    → each_below (λ v. node_change r (view_node c v)) (view_count c) ≡ views_over c tables
begun_views c r tables is =
    each_same _ _ (view_count c) (λ v low. minus-zero (z_sets row_cmp) rows_are_abelian (whole c r.new (view_node c v)) ∙ ap (λ ts. whole c ts (view_node c v)) is)

-- what they have more behind a tick
pub moved_views : (c : List Part) {states : List (List NodeState)} {totals : List ℤ} {changes : List Rows} (r : IsReady c states totals changes false) (old new : List Rows) → r.old ≡ old → r.new ≡ new
    → each_below (λ v. node_change r (view_node c v)) (view_count c) ≡ views_between c old new
moved_views c r old new was is = ap₂ (λ a b. views_between c a b) was is

-- ---- what was prepared, in place
module _ {c : List Part} (circuit : IsCircuit c) {states : List (List NodeState)} {totals : List ℤ} {changes : List Rows} {first : Bool} (r : IsReady c states totals changes first) (ready : List (List Ready)) (sums : List ℤ) (views : List Rows)
    (p : IsPrepared r ready sums views) where
  -- the states have the new tables
  pub tables_after : (now : List (List NodeState)) → AreAllPut states ready now → tables_in c now ≡ r.new
  tables_after now put = tables_kept c r.new now sums circuit (keeps_after circuit r ready sums views p now put) (subst (λ n. 0 < n) (sym put.count) r.some) r.good.count

  pub kept_after : (now : List (List NodeState)) → AreAllPut states ready now → length c < 2 ^ 26 → IsKept (record { circuit = c; started = true; tables = tables_in c now; shards = length now }) now sums
  kept_after now put nodes =
      let is = tables_after now put in
      kept_started c (tables_in c now) now sums (subst (λ n. 0 < n) (sym put.count) r.some) (subst (λ n. n ≤ 64) (sym put.count) r.few) nodes (subst (IsGood c) (sym is) r.good) (ap (verdict c) is ∙ p.played.clear)
      (subst (λ ts. Keeps false c ts now sums) (sym is) (keeps_after circuit r ready sums views p now put))

-- ---- updates
-- the states of an engine that has started hold its tables
pub tables_held : (c : List Part) (states : List (List NodeState)) (totals : List ℤ) (started : Bool) → IsKept (record { circuit = c; started = started; tables = tables_in c states; shards = length states }) states totals → started ≡ true
    → IsCircuit c → HoldTables c (tables_in c states) states
tables_held c states totals started kept is circuit = hold_tables c (tables_in c states) states totals circuit (kept.keeps is) kept.some kept.few

-- ---- a tick
module _ (tables delta changes : List Rows) (is : changes ≡ each_below (λ t. table_at delta t) (length tables)) where
  pub changed_fitted : AreChanged false tables (table_at changes) (with_changes tables delta)
  changed_fitted t = step (cases_lt t (length tables))
    where
      step : (t < length tables) ⊎ (length tables ≤ t) → table_at (with_changes tables delta) t ≡ plus (table_at tables t) (table_at changes t)
      step (inl low) =
          each_got (λ t. plus (table_at tables t) (table_at delta t)) (length tables) t low
          ∙ ap (λ z. plus (table_at tables t) z) (sym (ap (λ zs. table_at zs t) is ∙ each_got (λ t. table_at delta t) (length tables) t low))
      step (inr high) =
          each_past (λ t. plus (table_at tables t) (table_at delta t)) (length tables) t high ∙ sym (plus_none none)
          ∙ sym (ap₂ plus (past_tables tables t high) (ap (λ zs. table_at zs t) is ∙ each_past (λ t. table_at delta t) (length tables) t high))

  pub tick_ready : (s : State) (states : List (List NodeState)) (totals : List ℤ) → IsKept s states totals → s.started ≡ true → s.tables ≡ tables → IsGood s.circuit (with_changes tables delta)
      → (r : IsReady s.circuit states totals changes false) × (r.old ≡ tables) × (r.new ≡ with_changes tables delta)
  tick_ready s states totals kept started same good = (
    record {
      old = tables;
      new = with_changes tables delta;
      some = kept.some;
      few = kept.few;
      keeps = subst (λ ts. Keeps false s.circuit ts states totals) same (kept.keeps started);
      was_good = λ _. subst (IsGood s.circuit) same kept.good;
      was_clear = λ _. ap (verdict s.circuit) (sym same) ∙ kept.sound started;
      tables = ap length is ∙ each-length (λ t. table_at delta t) (length tables) ∙ ap length (sym same) ∙ kept.good.count;
      changed = changed_fitted;
      good = good;
    },
    refl,
    refl,
  )

-- the same by other names of what is kept
pub later_ready : {s : State} {states : List (List NodeState)} {totals : List ℤ} → IsKept s states totals → s.started ≡ true → (delta : List Rows) → IsGood s.circuit (with_changes s.tables delta) → (a : List (List NodeState)) (b : List ℤ) (ds : List Rows)
    → a ≡ states → b ≡ totals → ds ≡ each_below (λ t. table_at delta t) (length s.tables) → (r : IsReady s.circuit a b ds false) × (r.old ≡ s.tables) × (r.new ≡ with_changes s.tables delta)
later_ready {s} {states} {totals} kept started delta good a b ds same sums is =
    subst₂ (λ (a : List (List NodeState)) (b : List ℤ). (r : IsReady s.circuit a b ds false) × (r.old ≡ s.tables) × (r.new ≡ with_changes s.tables delta)) (sym same) (sym sums)
    (tick_ready s.tables delta ds is s states totals kept started refl good)
