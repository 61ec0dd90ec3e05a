-- What the tasks of a tick cost together: those of all shards what the tick costs, and those of a legal order no more.
use Rattle.std.proofs.Common.{◌≡◌, ℕ, suc, zero, pred, ◌<◌, ◌≤◌, ◌==◌, Bool, true, false, not, ◌||◌, if◌then◌else◌, cond, List, [], ◌∷◌, length, replicate, take, ℤ, pos, Some, None, refl, sym, ap, ap₂, subst, ◌∙◌, arith, eq-eqb}
use Rattle.std.specs.Prelude.{Option, slice_get, ⊤}
use Rattle.std.specs.List.{AllByRecursion, filter, list_any, sum_by}
use Rattle.std.proofs.lemmas.Bool.{and_from, and_parts, eqb-true}
use Rattle.std.proofs.lemmas.List.Filters.{sum_by-filter_both}
use Rattle.std.proofs.lemmas.List.Sums.{sum_by-cons}
use Rattle.std.proofs.lemmas.Option.{get_or_from_slice_get, slice_get-get_or, slice_get_within}
use Rattle.sq_algebra.specs.Groups.{integers, sum_over}
use Rattle.sq_algebra.specs.Keyed.{numbers_below}
use Rattle.sq_algebra.specs.ZSet.{minus, plus}
use Rattle.sq_algebra.proofs.GroupLemmas.{integers-IsAbelian, sum_over-flat_map, sum_over-map, sum_over_agree}
use Rattle.sq_zset.specs.GroupLaws.{rows_are_abelian}
use Rattle.sq_circuit.specs.Along.{along}
use Rattle.sq_circuit.specs.Circuits.{table_at, value_of, whole, whole_from}
use Rattle.sq_circuit.specs.Costs.{before, change, changed_tables, cost_at, held, node_cost}
use Rattle.sq_circuit.specs.Invariant.{table_count}
use Rattle.sq_circuit.specs.Nodes.{Rows, Source, left_source, none, read, right_source}
use Rattle.sq_circuit.specs.Pieces.{AreChanged}
use Rattle.sq_circuit.specs.declared.circuit.Part.{Part}
use Rattle.sq_shard.specs.Shards.{shards}
use Rattle.sq_shard.proofs.Parting.{empty_key}
use Rattle.sq_states.specs.declared.kept.NodeState.{NodeState}
use Rattle.sq_incr.specs.Orders.{IsLegal, all_tasks, is_same, task, tasks_of}
use Rattle.sq_incr.specs.Ready.{IsReady, change_at, cost_in, old_at, part_cost}
use Rattle.sq_incr.specs.TickCosts.{OrdersCostAtMost, PartsCostTheNode, TasksCostTheTick, tick_cost}
use Rattle.sq_incr.specs.declared.task.Task.{Task}
use Rattle.sq_incr.proofs.Ordering.{all_whole, contains_in, got_taken, in_contains}
use Rattle.sq_incr.proofs.Playing.{same_task}
use Rattle.sq_incr.proofs.ShardCosts.{counted, node_costs, no_costs, same_counts}

-- ---- a node over n shards
numbers_are : (n : ℕ) → 0 < n → numbers_below (suc (pred n)) ≡ numbers_below n
numbers_are n some = let same : suc (pred n) ≡ n = omega arith in ap numbers_below same

pub parts_cost_the_node : (n : ℕ) → 0 < n → PartsCostTheNode n
parts_cost_the_node n some first node y dy z dz =
    ap (sum_by _) (sym (numbers_are n some)) ∙ node_costs (shards n) (empty_key (suc (pred n))) first node y dy z dz

-- ---- the tables of a tick
changed_at : (tables changes : List Rows) (t : ℕ) → length tables ≡ length changes → table_at (changed_tables tables changes) t ≡ plus (table_at tables t) (table_at changes t)
changed_at [] [] t e = sym (rows_are_abelian.neutral none)
changed_at [] (d ∷ changes) t e = absurd (omega arith)
changed_at (z ∷ tables) [] t e = absurd (omega arith)
changed_at (z ∷ tables) (d ∷ changes) zero e = refl
changed_at (z ∷ tables) (d ∷ changes) (suc t) e = changed_at tables changes t (omega arith)

nothing_at : (k t : ℕ) → table_at (replicate k none) t ≡ none
nothing_at zero t = refl
nothing_at (suc k) zero = refl
nothing_at (suc k) (suc t) = nothing_at k t

long : (k : ℕ) → length (replicate k none) ≡ k
long zero = refl
long (suc k) = ap suc (long k)

-- at the start there were no rows
abbrev begun : Bool → ℕ → List Rows → List Rows
begun first k old = if first then replicate k none else old

new_at : (first : Bool) (k : ℕ) (old changes new : List Rows) → length changes ≡ k → (first ≡ false → length old ≡ k) → AreChanged first old (table_at changes) new → (t : ℕ) → table_at new t ≡ table_at (changed_tables (begun first k old) changes) t
new_at true k old changes new count was changed t =
    changed t ∙ ap (λ z. plus z (table_at changes t)) (sym (nothing_at k t)) ∙ sym (changed_at (replicate k none) changes t (long k ∙ sym count))
new_at false k old changes new count was changed t = changed t ∙ sym (changed_at old changes t (was refl ∙ sym count))

-- what stands over tables depends on the table of each number alone
whole_same : (c : List Part) (tables others : List Rows) → ((t : ℕ) → table_at tables t ≡ table_at others t) → (s : Source) → whole_from c tables s ≡ whole_from c others s
unfolding whole
whole_same c tables others same s = ap (λ (outer : ℕ → Rows). read outer (λ i. along none (λ j below. value_of (slice_get c j) (read outer below none)) i) none s) (λ i t. same t i)

held_same : (first : Bool) (k : ℕ) (c : List Part) (old : List Rows) (s : Source) → before first (whole_from c old s) ≡ before first (whole_from c (begun first k old) s)
held_same true k c old s = refl
held_same false k c old s = refl

module _ (first : Bool) (k : ℕ) (c : List Part) (old changes new : List Rows) (count : length changes ≡ k) (was : first ≡ false → length old ≡ k) (changed : AreChanged first old (table_at changes) new) where
  abbrev after : List Rows
  after = changed_tables (begun first k old) changes

  change_same : (s : Source) → change first c old new s ≡ change first c (begun first k old) after s
  change_same s = ap₂ (λ y z. minus y z) (whole_same c new after (new_at first k old changes new count was changed) s) (held_same first k c old s)

  cost_same : (o : Option Part) → cost_at first c old new o ≡ cost_at first c (begun first k old) after o
  cost_same None = refl
  cost_same (Some p) =
      ap₂ (λ y dy. node_cost first p.node y dy (held first c old new (right_source p.node)) (change first c old new (right_source p.node))) (held_same first k c old (left_source p.node)) (change_same (left_source p.node))
      ∙ ap₂ (λ z dz. node_cost first p.node (held first c (begun first k old) after (left_source p.node)) (change first c (begun first k old) after (left_source p.node)) z dz) (held_same first k c old (right_source p.node)) (change_same (right_source p.node))

-- ---- all tasks
module _ {c : List Part} {states : List (List NodeState)} {totals : List ℤ} {changes : List Rows} {first : Bool} (r : IsReady c states totals changes first) where
  abbrev n : ℕ
  n = length states

  over_shards_at : (o : Option Part) → sum_by (λ s. cost_in r o s) (numbers_below n) ≡ cost_at first c r.old r.new o
  over_shards_at None = no_costs (numbers_below n)
  over_shards_at (Some p) = parts_cost_the_node n r.some first p.node (old_at r (left_source p.node)) (change_at r (left_source p.node)) (old_at r (right_source p.node)) (change_at r (right_source p.node))

  of_node : (i : ℕ) → sum_over integers (λ t. pos (part_cost r t)) (tasks_of n i) ≡ pos (cost_at first c r.old r.new (slice_get c i))
  of_node i =
      sum_over-map integers (λ t. pos (part_cost r t)) (task i) (numbers_below n)
      ∙ counted (λ s. part_cost r (task i s)) (numbers_below n)
      ∙ ap pos (over_shards_at (slice_get c i))

  over_nodes : sum_by (part_cost r) (all_tasks c n) ≡ sum_by (λ i. cost_at first c r.old r.new (slice_get c i)) (numbers_below (length c))
  over_nodes = same_counts (sum_by (part_cost r) (all_tasks c n)) (sum_by (λ i. cost_at first c r.old r.new (slice_get c i)) (numbers_below (length c)))
      (sym (counted (part_cost r) (all_tasks c n))
      ∙ sum_over-flat_map integers integers-IsAbelian (λ t. pos (part_cost r t)) (tasks_of n) (numbers_below (length c))
      ∙ sum_over_agree integers (λ i. sum_over integers (λ t. pos (part_cost r t)) (tasks_of n i)) (λ i. pos (cost_at first c r.old r.new (slice_get c i))) of_node (numbers_below (length c))
      ∙ counted (λ i. cost_at first c r.old r.new (slice_get c i)) (numbers_below (length c)))

  all_cost : sum_by (part_cost r) (all_tasks c n) ≡ tick_cost r
  all_cost = over_nodes ∙ ap (λ (f : ℕ → ℕ). sum_by f (numbers_below (length c))) (λ j i. cost_same first (table_count c) c r.old changes r.new r.tables (λ later. (r.was_good later).count) r.changed (slice_get c i) j)

pub tasks_cost_the_tick : (c : List Part) → TasksCostTheTick c
tasks_cost_the_tick c states totals changes first r = all_cost r

-- ---- a list that repeats nothing costs no more than one that has all its members
same_is : (t u : Task) → is_same t u ≡ true → t ≡ u
same_is t u e = let both = and_parts (t.node == u.node) (t.shard == u.shard) e in same_task t u (eqb-true t.node u.node both.0) (eqb-true t.shard u.shard both.1)

same_itself : (t : Task) → is_same t t ≡ true
same_itself t = and_from (t.node == t.node) (t.shard == t.shard) (eq-eqb t.node t.node refl) (eq-eqb t.shard t.shard refl)

abbrev has : List Task → Task → Bool
has ts t = list_any (is_same t) ts

abbrev NoRepeats : List Task → Type 0
NoRepeats [] = ⊤
NoRepeats (t ∷ ts) = (has ts t ≡ false) × NoRepeats ts

has_fewer : (p : Task → Bool) (t : Task) (ts : List Task) → has ts t ≡ false → has (filter p ts) t ≡ false
has_fewer p t [] e = refl
has_fewer p t (u ∷ ts) e = by (is_same t u) (p u) refl refl e (has_fewer p t ts)
  where
    by : (b a : Bool) → is_same t u ≡ b → p u ≡ a → (b || has ts t) ≡ false → (has ts t ≡ false → has (filter p ts) t ≡ false) → has (cond (p u) (u ∷ filter p ts) (filter p ts)) t ≡ false
    by true a f g e rest = absurd (cc e)
    by false true f g e rest = ap (λ x. has (cond x (u ∷ filter p ts) (filter p ts)) t) g ∙ ap (λ x. x || has (filter p ts) t) f ∙ rest e
    by false false f g e rest = ap (λ x. has (cond x (u ∷ filter p ts) (filter p ts)) t) g ∙ rest e

fewer_apart : (p : Task → Bool) (ts : List Task) → NoRepeats ts → NoRepeats (filter p ts)
fewer_apart p [] h = tt
fewer_apart p (t ∷ ts) h =
    let rest : NoRepeats (filter p ts) = fewer_apart p ts h.1 in
    elim (p t) as (λ b. NoRepeats (cond b (t ∷ filter p ts) (filter p ts))) [ true ↦ (has_fewer p t ts h.0, rest) | false ↦ rest ]

module _ (f : Task → ℕ) where
  none_of : (u : Task) (ts : List Task) → has ts u ≡ false → sum_by f (filter (λ t. is_same t u) ts) ≡ 0
  none_of u [] e = refl
  none_of u (t ∷ ts) e = by (is_same u t) (is_same t u) refl refl e (none_of u ts)
    where
      by : (b a : Bool) → is_same u t ≡ b → is_same t u ≡ a → (b || has ts u) ≡ false → (has ts u ≡ false → sum_by f (filter (λ t. is_same t u) ts) ≡ 0) → sum_by f (cond (is_same t u) (t ∷ filter (λ t. is_same t u) ts) (filter (λ t. is_same t u) ts)) ≡ 0
      by true a g h e rest = absurd (cc e)
      by false true g h e rest = let wrong : true ≡ false = sym (same_itself u) ∙ ap (is_same u) (sym (same_is t u h)) ∙ g in absurd (cc wrong)
      by false false g h e rest = ap (λ b. sum_by f (cond b (t ∷ filter (λ t. is_same t u) ts) (filter (λ t. is_same t u) ts))) h ∙ rest e

  once_of : (u : Task) (ts : List Task) → NoRepeats ts → sum_by f (filter (λ t. is_same t u) ts) ≤ f u
  once_of u [] h = omega arith
  once_of u (t ∷ ts) h = by (is_same t u) refl (once_of u ts h.1)
    where
      by : (b : Bool) → is_same t u ≡ b → sum_by f (filter (λ t. is_same t u) ts) ≤ f u → sum_by f (cond b (t ∷ filter (λ t. is_same t u) ts) (filter (λ t. is_same t u) ts)) ≤ f u
      by true e rest =
          let same = same_is t u e in
          let own = ap f same in
          let none : sum_by f (filter (λ t. is_same t u) ts) ≡ 0 = none_of u ts (ap (has ts) (sym same) ∙ h.0) in
          let more = sum_by-cons f t (filter (λ t. is_same t u) ts) in
          omega (arith, own, none, more)
      by false e rest = rest

  others_there : (u : Task) (all ts : List Task) → AllByRecursion (λ t. has (u ∷ all) t ≡ true) ts → AllByRecursion (λ t. has all t ≡ true) (filter (λ t. not (is_same t u)) ts)
  others_there u all [] h = tt
  others_there u all (t ∷ ts) h = by (is_same t u) refl h.0 (others_there u all ts h.1)
    where
      by : (b : Bool) → is_same t u ≡ b → (b || has all t) ≡ true → AllByRecursion (λ t. has all t ≡ true) (filter (λ t. not (is_same t u)) ts)
          → AllByRecursion (λ t. has all t ≡ true) (cond (not (is_same t u)) (t ∷ filter (λ t. not (is_same t u)) ts) (filter (λ t. not (is_same t u)) ts))
      by true e there rest = subst (λ b. AllByRecursion (λ t. has all t ≡ true) (cond (not b) (t ∷ filter (λ t. not (is_same t u)) ts) (filter (λ t. not (is_same t u)) ts))) (sym e) rest
      by false e there rest = subst (λ b. AllByRecursion (λ t. has all t ≡ true) (cond (not b) (t ∷ filter (λ t. not (is_same t u)) ts) (filter (λ t. not (is_same t u)) ts))) (sym e) (there, rest)

  at_most : (all ts : List Task) → NoRepeats ts → AllByRecursion (λ t. has all t ≡ true) ts → sum_by f ts ≤ sum_by f all
  at_most [] [] apart there = omega arith
  at_most [] (t ∷ ts) apart there = absurd (cc there.0)
  at_most (u ∷ all) ts apart there =
      let both = sum_by-filter_both (λ t. is_same t u) (λ t. not (is_same t u)) (λ t. refl) f ts in
      let own = once_of u ts apart in
      let rest = at_most all (filter (λ t. not (is_same t u)) ts) (fewer_apart (λ t. not (is_same t u)) ts apart) (others_there u all ts there) in
      let more = sum_by-cons f u all in
      omega (arith, both, own, rest, more)

-- ---- legal orders
each_from : (P : Task → Type 0) (ts : List Task) → ((i : ℕ) (t : Task) → slice_get ts i ≡ Some t → P t) → AllByRecursion P ts
each_from P [] h = tt
each_from P (t ∷ ts) h = (h 0 t refl, each_from P ts (λ i u e. h (suc i) u e))

apart_from : (ts : List Task) → ((i j : ℕ) (t : Task) → i < j → slice_get ts i ≡ Some t → slice_get ts j ≡ Some t → ⊥) → NoRepeats ts
apart_from [] h = tt
apart_from (t ∷ ts) h = (by (has ts t) refl, apart_from ts (λ i j u low a b. h (suc i) (suc j) u (omega arith) a b))
  where
    by : (b : Bool) → has ts t ≡ b → b ≡ false
    by true e = let at = in_contains ts t e in absurd (h 0 (suc at.0) t (omega arith) refl (slice_get-get_or ts at.0 t at.1 ∙ ap Some at.2))
    by false e = refl

module _ (c : List Part) (k : ℕ) (order : List Task) (legal : IsLegal c k order) where
  order_apart : NoRepeats order
  order_apart = apart_from order (λ i j t low a b.
      let there = got_taken order j i low ∙ a in
      (legal j t b).once (i, slice_get_within (take j order) i t there, get_or_from_slice_get (take j order) i t t there))

  order_there : AllByRecursion (λ t. has (all_tasks c k) t ≡ true) order
  order_there = each_from (λ t. has (all_tasks c k) t ≡ true) order (λ i t e. contains_in (all_tasks c k) t (all_whole c k t (legal i t e).in_range))

pub orders_cost_at_most : (c : List Part) → OrdersCostAtMost c
orders_cost_at_most c states totals changes first r order legal =
    subst (λ m. sum_by (part_cost r) order ≤ m) (all_cost r)
    (at_most (part_cost r) (all_tasks c (length states)) order (order_apart c (length states) order legal) (order_there c (length states) order legal))
