-- The tables that states hold: from what is kept of each node, shard by shard.
use Rattle.std.proofs.Common.{◌≡◌, ℕ, zero, suc, ◌+◌, ◌<◌, ◌≤◌, ◌==◌, true, false, cond, List, [], ◌∷◌, ◌++◌, length, take, take_all, replicate, ℤ, pos, refl, sym, ap, ap₂, subst, ◌∙◌, arith}
use Rattle.std.specs.Prelude.{Some, slice_get, ⊤}
use Rattle.std.proofs.lemmas.Bool.Decides.{nat_tests}
use Rattle.std.proofs.lemmas.List.{get_or_default, same_lists}
use Rattle.std.proofs.lemmas.Option.{get_or_from_slice_get}
use Rattle.sq_expr.proofs.Lists.{take_more}
use Rattle.sq_value.specs.declared.value.Value.{Value}
use Rattle.sq_value.specs.Order.{row_cmp}
use Rattle.sq_value.specs.OrderLaws.{row_cmp-total, row_cmp-antisymmetric}
use Rattle.sq_algebra.specs.Groups.{integers, sum_over, z_sets}
use Rattle.sq_algebra.specs.Keyed.{cut, numbers_below}
use Rattle.sq_algebra.specs.ZSet.{weight}
use Rattle.sq_algebra.proofs.GroupLemmas.{sum_over-append}
use Rattle.sq_algebra.proofs.ShardLemmas.{cuts_add_up, weight-cut}
use Rattle.sq_zset.specs.GroupLaws.{rows_are_abelian}
use Rattle.sq_circuit.specs.Along.{each_below}
use Rattle.sq_circuit.specs.Circuits.{table_at}
use Rattle.sq_circuit.specs.Invariant.{IsCircuit, table_count}
use Rattle.sq_circuit.specs.Nodes.{Rows, left_source, none, right_source}
use Rattle.sq_circuit.specs.declared.circuit.Part.{Part}
use Rattle.sq_circuit.specs.declared.node.Node.{Node}
use Rattle.sq_circuit.specs.declared.node.Node.TheVariants.{Table, Linear, Join, Distinct, Aggregate, Plus, Minus, View}
use Rattle.sq_circuit.proofs.Alongside.{each-length, each_at}
use Rattle.sq_shard.specs.Shards.{shard_number, shards}
use Rattle.sq_shard.proofs.Parting.{numbers_are, shard_is}
use Rattle.sq_states.specs.Empty.{empty_state, empty_states}
use Rattle.sq_states.specs.Keeps.{KeepsNode, OnRows}
use Rattle.sq_states.specs.declared.kept.NodeState.{NodeState}
use Rattle.sq_states.specs.declared.kept.NodeState.TheVariants as state
use Rattle.sq_distinct.specs.Stepping.{HoldsRows}
use Rattle.sq_trace.specs.Runs.{content}
use Rattle.sq_trace.specs.declared.entry.Entry.{Entry}
use Rattle.sq_incr.specs.Ready.{Keeps, read_over}
use Rattle.sq_incr.proofs.Noting.{there_is}
use Rattle.sq_tables.specs.Tables.{HoldTables, HoldsTable, rows_kept, table_in, tables_in}
use Rattle.sq_tables.proofs.Held.{held_none, itself, kept_is}
use Rattle.sq_tables.proofs.Ordered.{inside, table_there}

-- ---- sums over a list, place by place
module _ {X : Type 0} (f : X → Rows) (g : ℕ → Rows) (xs : List X) (same : (s : ℕ) (x : X) → slice_get xs s ≡ Some x → f x ≡ g s) where
  fronts : (k : ℕ) → k ≤ length xs → sum_over (z_sets row_cmp) f (take k xs) ≡ sum_over (z_sets row_cmp) g (numbers_below k)
  fronts zero low = refl
  fronts (suc k) low =
      let there = there_is xs k (omega (arith, low)) in
      let next : suc k ≡ k + 1 = omega arith in
      ap (λ n. sum_over (z_sets row_cmp) f (take n xs)) next
      ∙ ap (sum_over (z_sets row_cmp) f) (take_more xs k there.0 there.1)
      ∙ sum_over-append (z_sets row_cmp) rows_are_abelian f (take k xs) (there.0 ∷ [])
      ∙ ap₂ (z_sets row_cmp).plus (fronts k (omega (arith, low))) (ap (λ z. (z_sets row_cmp).plus z none) (same k there.0 there.1))
      ∙ sym (sum_over-append (z_sets row_cmp) rows_are_abelian g (numbers_below k) (k ∷ []))

  by_place : sum_over (z_sets row_cmp) f xs ≡ sum_over (z_sets row_cmp) g (numbers_below (length xs))
  by_place = ap (sum_over (z_sets row_cmp) f) (sym (take_all (length xs) xs (omega arith))) ∙ fronts (length xs) (omega arith)

-- ---- a table over the shards
module _ (states : List (List NodeState)) (t : ℕ) (z : Rows) (some : 0 < length states) (holds : HoldsTable states t z) where
  in_shard : (s : ℕ) (shard : List NodeState) → slice_get states s ≡ Some shard → rows_kept (slice_get shard t) ≡ cut (shards (length states)) (λ row. row) s z
  in_shard s shard at =
      let kept = there_is shard t (holds.inside s shard at) in
      ap rows_kept kept.1 ∙ kept_is kept.0 (cut (shards (length states)) (λ row. row) s z) (holds.each s kept.0 (record { shard = shard; of_shard = at; of_node = kept.1 }))

  pub table_is : table_in states t ≡ z
  unfolding table_in
  table_is =
      by_place (λ shard. rows_kept (slice_get shard t)) (λ s. cut (shards (length states)) (λ row. row) s z) states in_shard
      ∙ ap (sum_over (z_sets row_cmp) (λ s. cut (shards (length states)) (λ row. row) s z)) (sym (numbers_are (length states) some))
      ∙ cuts_add_up (shards (length states)) row_cmp (λ row. row) row_cmp-total row_cmp-antisymmetric z

  -- what a trace holds of a row, in the shard of the row
  pub asked : (s : ℕ) (shard : List NodeState) (parts : List (List (Entry ℤ))) (row : List Value) → s ≡ shard_number (length states) row → slice_get states s ≡ Some shard → slice_get shard t ≡ Some (state.Rows parts)
      → content integers (row, row) parts ≡ weight row z
  asked s shard parts row is at of_node =
      itself parts (cut (shards (length states)) (λ r. r) s z) row (holds.each s (state.Rows parts) (record { shard = shard; of_shard = at; of_node = of_node }))
      ∙ weight-cut (shards (length states)) row_cmp (λ r. r) row_cmp-total row_cmp-antisymmetric row s z
      ∙ ap (λ b. cond b (weight row z) (pos 0)) here
    where
      itself_too : (n : ℕ) → (n == n) ≡ true
      itself_too n = grind (arith, nat_tests)

      here : (s == (shards (length states)).shard row) ≡ true
      here = ap (λ k. k == (shards (length states)).shard row) (is ∙ sym (shard_is (length states) row some)) ∙ itself_too ((shards (length states)).shard row)

-- ---- all tables
pub each_same : {A : Type 0} (f g : ℕ → A) (n : ℕ) → ((i : ℕ) → i < n → f i ≡ g i) → each_below f n ≡ each_below g n
each_same f g zero same = refl
each_same f g (suc n) same = ap₂ (λ xs x. xs ++ x ∷ []) (each_same f g n (λ i low. same i (omega (arith, low)))) (same n (omega arith))

tables_are : (f : ℕ → Rows) (tables : List Rows) (n : ℕ) → length tables ≡ n → ((t : ℕ) → t < n → f t ≡ table_at tables t) → each_below f n ≡ tables
tables_are f tables n many same =
    same_lists (each_below f n) tables (each-length f n ∙ sym many) (λ k d below.
    let low : k < n = subst (λ m. k < m) (each-length f n) below in
    get_or_from_slice_get (each_below f n) k (f k) d (each_at f n k low) ∙ same k low ∙ get_or_default tables k none d (subst (λ m. k < m) (sym many) low))

pub table_got : (c : List Part) (states : List (List NodeState)) (t : ℕ) → t < table_count c → table_at (tables_in c states) t ≡ table_in states t
table_got c states t low = get_or_from_slice_get (tables_in c states) t (table_in states t) none (each_at (table_in states) (table_count c) t low)

pub only_these : (c : List Part) (tables : List Rows) (states : List (List NodeState)) → length tables ≡ table_count c → HoldTables c tables states → tables_in c states ≡ tables
only_these c tables states many hold = tables_are (table_in states) tables (table_count c) many (λ t low. table_is states t (table_at tables t) hold.some (hold.each t low))

-- ---- from what is kept of each node
module _ (c : List Part) (tables : List Rows) (states : List (List NodeState)) (totals : List ℤ) (circuit : IsCircuit c) (keeps : Keeps false c tables states totals) where
  at_table : (t s : ℕ) (kept : NodeState) (n : Node) → n ≡ Table t → KeepsNode false (shards (length states)) s n kept (read_over false c tables (left_source n)) (read_over false c tables (right_source n))
      → OnRows kept (λ parts. HoldsRows parts (cut (shards (length states)) (λ row. row) s (table_at tables t)))
  at_table t s kept n is h = subst (λ m. KeepsNode false (shards (length states)) s m kept (read_over false c tables (left_source m)) (read_over false c tables (right_source m))) is h

  holds_table : (t : ℕ) → t < table_count c → HoldsTable states t (table_at tables t)
  holds_table t low =
      let table = table_there c t circuit low in
      record {
        inside = λ s shard at. subst (λ k. t < k) (sym (keeps.nodes s shard at)) (inside c t low);
        each = λ s kept is. at_table t s kept table.part.node table.is (keeps.each t s table.part kept table.at is);
      }

  pub hold_tables : 0 < length states → length states ≤ 64 → HoldTables c tables states
  hold_tables some few = record { some = some; few = few; each = holds_table }

  pub tables_kept : 0 < length states → length tables ≡ table_count c → tables_in c states ≡ tables
  tables_kept some many = tables_are (table_in states) tables (table_count c) many (λ t low. table_is states t (table_at tables t) some (holds_table t low))

-- ---- before anything was there
nothing_kept : (n : Node) → rows_kept (Some (empty_state n)) ≡ none
nothing_kept (Table t) = held_none
nothing_kept (Linear i op) = refl
nothing_kept (Join l r op) = refl
nothing_kept (Distinct i) = held_none
nothing_kept (Aggregate i spec) = refl
nothing_kept (Plus l r) = refl
nothing_kept (Minus l r) = refl
nothing_kept (View i v) = refl

nothing_there : (c : List Part) (t : ℕ) → rows_kept (slice_get (empty_states c) t) ≡ none
nothing_there [] t = refl
nothing_there (p ∷ c) zero = nothing_kept p.node
nothing_there (p ∷ c) (suc t) = nothing_there c t

empty_table : (c : List Part) (t n : ℕ) → table_in (replicate n (empty_states c)) t ≡ none
unfolding table_in
empty_table c t zero = refl
empty_table c t (suc n) = ap₂ (z_sets row_cmp).plus (nothing_there c t) (empty_table c t n) ∙ rows_are_abelian.neutral none

pub tables_begun : (c : List Part) (n : ℕ) → tables_in c (replicate n (empty_states c)) ≡ each_below (λ t. none) (table_count c)
tables_begun c n = each_same (table_in (replicate n (empty_states c))) (λ t. none) (table_count c) (λ t low. empty_table c t n)

-- ---- the trace of a table in a shard
rows_only : (kept : NodeState) (P : List (List (Entry ℤ)) → Type 0) → OnRows kept P → OnRows kept (λ _. ⊤)
rows_only state.Nothing P h = absurd h
rows_only (state.Rows parts) P h = tt
rows_only (state.Sides left right) P h = absurd h
rows_only (state.Groups accs ordered shown) P h = absurd h

pub rows_there : (states : List (List NodeState)) (t : ℕ) (z : Rows) → HoldsTable states t z → (s : ℕ) (shard : List NodeState) (kept : NodeState) → slice_get states s ≡ Some shard → slice_get shard t ≡ Some kept → OnRows kept (λ _. ⊤)
rows_there states t z holds s shard kept at of_node = rows_only kept (λ parts. HoldsRows parts (cut (shards (length states)) (λ row. row) s z)) (holds.each s kept (record { shard = shard; of_shard = at; of_node = of_node }))
