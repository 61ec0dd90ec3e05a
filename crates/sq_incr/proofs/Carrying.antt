-- One task, from the changes of what its node reads to what it tells.
use Rattle.std.proofs.Common.{◌≡◌, ℕ, ◌<◌, ◌≤◌, ◌+◌, ◌==◌, ◌&&◌, Bool, true, false, List, length, ℤ, pos, ◌≤ℤ◌, Some, None, refl, sym, ap, ap₂, subst, ◌∙◌, arith}
use Rattle.std.specs.Prelude.{Option, Result, Ok, Err, IfOk, slice_get}
use Rattle.std.proofs.lemmas.Bool.{and_from}
use Rattle.std.proofs.lemmas.Option.{same_Some, slice_get_within}
use borrow.Author.Differences.{ints}
use Rattle.sq_value.specs.Order.{row_cmp}
use Rattle.sq_algebra.specs.Keyed.{cut}
use Rattle.sq_algebra.specs.ZSet.{total}
use Rattle.sq_algebra.proofs.Weights.{total-zero}
use Rattle.sq_zset.proofs.Masses.{mass-total}
use Rattle.sq_circuit.specs.Circuits.{are_sound, node_at, node_in, place_in, whole}
use Rattle.sq_circuit.specs.Costs.{before}
use Rattle.sq_circuit.specs.Invariant.{IsCircuit, IsEarlier, IsInOrder, IsListed, view_count}
use Rattle.sq_circuit.specs.Nodes.{Rows, Source, Inner, left_key, left_source, right_key, right_source}
use Rattle.sq_circuit.specs.Verdicts.{source_sound}
use Rattle.sq_circuit.specs.declared.circuit.Part.{Part}
use Rattle.sq_circuit.specs.declared.node.Node.{Node}
use Rattle.sq_circuit.specs.declared.node.Node.TheVariants.{Table, Linear, Join, Distinct, Aggregate, Plus, Minus, View}
use Rattle.sq_shard.specs.Shards.{shards}
use Rattle.sq_states.specs.Keeps.{OnNode}
use Rattle.sq_states.specs.Steps.{IsStepped, NodeStep}
use Rattle.sq_states.specs.declared.kept.NodeState.{NodeState}
use Rattle.sq_states.specs.declared.piece.Piece.{Piece}
use Rattle.sq_states.specs.declared.piece.StepRefusal.{StepRefusal}
use Rattle.sq_incr.specs.Inputs.{AreDone, AreSmall, HaveLeftKeys, HaveRightKeys, IsChange, IsSmall, IsThere, Rises}
use Rattle.sq_incr.specs.Ready.{IsKept, IsReady, change_at, part_cost}
use Rattle.sq_incr.specs.Runs.{CanRun, CanStep}
use Rattle.sq_incr.specs.Slots.{IsSlotOf, IsTold}
use Rattle.sq_incr.specs.declared.store.Slot.{Slot}
use Rattle.sq_incr.specs.declared.store.Slot.TheVariants.{Skipped}
use Rattle.sq_incr.specs.declared.task.Task.{Task}
use Rattle.sq_incr.proofs.Noting.{there_is}
use Rattle.sq_incr.proofs.Stepping.{begin, spent, told}
use Rattle.sq_incr.proofs.Taking.{earlier, have_left, have_right, was_sound}

pub if_weaker : {A E : Type 0} {P Q : A → Type 0} (r : Result A E) → ((a : A) → P a → Q a) → IfOk r P → IfOk r Q
if_weaker (Ok a) f h = f a h
if_weaker (Err e) f h = tt

and_none : (a : Bool) → (a && false) ≡ false
and_none true = refl
and_none false = refl

-- ---- a step
module _ {c : List Part} (circuit : IsCircuit c) {states : List (List NodeState)} {first : Bool} {t : Task} {left right : Rows} (b : CanStep c states first t left right) where
  abbrev found : (p : Part) × (slice_get c t.node ≡ Some p)
  found = there_is c t.node b.in_range.low

  abbrev p : Part
  p = found.0

  at_node : node_at c t.node ≡ Some p.node
  at_node = ap node_in found.1

  on_left : Rises b.ready (left_source p.node) left
  on_left = b.left_rises p.node at_node

  on_right : Rises b.ready (right_source p.node) right
  on_right = b.right_rises p.node at_node

  is_node : (n : Node) → node_at c t.node ≡ Some n → p.node ≡ n
  is_node n at = same_Some p.node n (sym at_node ∙ at)

  all_sound : are_sound (Some p) (source_sound c b.ready.new) ≡ true
  all_sound = and_from (source_sound c b.ready.new (left_source p.node)) (source_sound c b.ready.new (right_source p.node)) on_left.sound on_right.sound

  pub left_have : (n : Node) → node_at c t.node ≡ Some n → HaveLeftKeys n left
  left_have n at = subst (λ n. HaveLeftKeys n left) (is_node n at) (subst (HaveLeftKeys p.node) (sym on_left.is) (have_left circuit b.ready t.node p found.1 all_sound))

  pub right_have : (n : Node) → node_at c t.node ≡ Some n → HaveRightKeys n right
  right_have n at = subst (λ n. HaveRightKeys n right) (is_node n at) (subst (HaveRightKeys p.node) (sym on_right.is) (have_right circuit b.ready t.node p found.1 all_sound))

  module _ (shard : List NodeState) (of_shard : slice_get states t.shard ≡ Some shard) where
    pub node_there : t.node < length shard
    node_there = subst (λ k. t.node < k) (sym (b.ready.keeps.nodes t.shard shard of_shard)) b.in_range.low

    module _ (n : Node) (at : node_at c t.node ≡ Some n) (on_l on_r : Rows) (left_is : on_l ≡ cut (shards (length states)) (left_key n) t.shard left) (right_is : on_r ≡ cut (shards (length states)) (right_key n) t.shard right) (f : Bool) (f_is : f ≡ (first && t.shard == 0)) where
      left_part : on_l ≡ cut (shards (length states)) (left_key p.node) t.shard (change_at b.ready (left_source p.node))
      left_part = left_is ∙ ap (λ m. cut (shards (length states)) (left_key m) t.shard left) (sym (is_node n at)) ∙ ap (cut (shards (length states)) (left_key p.node) t.shard) on_left.is

      right_part : on_r ≡ cut (shards (length states)) (right_key p.node) t.shard (change_at b.ready (right_source p.node))
      right_part = right_is ∙ ap (λ m. cut (shards (length states)) (right_key m) t.shard right) (sym (is_node n at)) ∙ ap (cut (shards (length states)) (right_key p.node) t.shard) on_right.is

      the_kept : (kept : NodeState) → slice_get shard t.node ≡ Some kept → IsKept states t.node t.shard kept
      the_kept kept got = record { shard = shard; of_shard = of_shard; of_node = got }

      pub begins : OnNode c t.node shard (λ m kept. NodeStep m kept on_l on_r f)
      begins m kept am got =
          subst (λ m. NodeStep m kept on_l on_r f) (is_node m am) (subst (NodeStep p.node kept on_l on_r) (sym f_is)
          (begin circuit b.ready t.node t.shard p found.1 b.in_range.inside all_sound kept (the_kept kept got) on_l on_r left_part right_part))

      module _ (made : Result Piece StepRefusal) (old new : ℕ) (stepped : OnNode c t.node shard (λ m kept. IsStepped m kept on_l on_r f made old new)) where
        abbrev there : (kept : NodeState) × (slice_get shard t.node ≡ Some kept)
        there = there_is shard t.node node_there

        step : IsStepped p.node there.0 on_l on_r (first && t.shard == 0) made old new
        step = subst (λ f. IsStepped p.node there.0 on_l on_r f made old new) f_is (stepped p.node there.0 at_node there.1)

        pub tells_all : IfOk made (λ piece. piece.node ≡ t.node) → (slot : Slot) → IsSlotOf made slot → IsTold b.ready t.node t.shard slot
        tells_all number slot same =
            told circuit b.ready t.node t.shard p found.1 b.in_range.inside all_sound there.0 (the_kept there.0 there.1) on_l on_r left_part right_part old new made slot same number step

        pub spends : new ≤ old + part_cost b.ready t
        spends = spent circuit b.ready t.node t.shard p found.1 b.in_range.inside all_sound there.0 (the_kept there.0 there.1) on_l on_r left_part right_part old new made step

-- ---- a task
small_before : (first : Bool) (z : Rows) → (first ≡ false → IsListed z) → IsSmall (total (before first z))
small_before true z h = subst IsSmall (sym (total-zero row_cmp)) (record { low = omega (arith, ints); high = omega (arith, ints) })
small_before false z h = let listed = h refl in record { low = subst (λ n. pos 0 ≤ℤ n) (mass-total z listed.above) (omega (arith, ints)); high = listed.few }

module _ {c : List Part} (circuit : IsCircuit c) {states : List (List NodeState)} {totals : List ℤ} {changes : List Rows} {first : Bool} (r : IsReady c states totals changes first) where
  pub all_small : AreSmall c totals
  all_small i t got place =
      let found = there_is c i (subst (λ k. i < k) r.keeps.totals_count (slice_get_within totals i t got)) in
      subst IsSmall (sym (r.keeps.total_of i t got)) (small_before first (whole c r.old i) (λ later. (circuit.bounded r.old i found.0 found.1 (was_sound circuit r later i found.0 found.1)).place (sym (ap place_in found.1) ∙ place)))

module _ {c : List Part} (circuit : IsCircuit c) {states : List (List NodeState)} {totals : List ℤ} {changes : List Rows} {first : Bool} {lines : List (List Slot)} {t : Task} (b : CanRun c states totals changes first lines t) where
  abbrev part_found : (p : Part) × (slice_get c t.node ≡ Some p)
  part_found = there_is c t.node b.in_range.low

  abbrev q : Part
  q = part_found.0

  same_node : (n : Node) → node_at c t.node ≡ Some n → q.node ≡ n
  same_node n at = same_Some q.node n (sym (ap node_in part_found.1) ∙ at)

  inner_there : (j : ℕ) → j < t.node → IsThere c totals changes lines (length states) (Inner j)
  inner_there j low =
      let high = b.in_range.low in
      record {
        node = omega (arith, low, high);
        total_there = subst (λ k. j < k) (sym b.ready.keeps.totals_count) (omega (arith, low, high));
        there = subst (λ k. j < k) (sym b.noted.count) (omega (arith, low, high));
        wide = λ line at. b.noted.wide j line at;
      }

  outer_there : (k : ℕ) → q.node ≡ Table k → k < length changes
  outer_there k is =
      let order : IsInOrder (length c) (view_count c) c t.node (Table k) = subst (λ m. IsInOrder (length c) (view_count c) c t.node m) is (circuit.parts t.node q part_found.1).in_order in
      subst (λ m. k < m) (sym b.ready.tables) order.1

  left_low : (m : Node) → q.node ≡ m → IsEarlier t.node (left_source m)
  left_low m is = subst (λ m. IsEarlier t.node (left_source m)) is (earlier circuit b.ready t.node q part_found.1).0

  right_low : (m : Node) → q.node ≡ m → IsEarlier t.node (right_source m)
  right_low m is = subst (λ m. IsEarlier t.node (right_source m)) is (earlier circuit b.ready t.node q part_found.1).1

  left_of : (m : Node) → q.node ≡ m → IsThere c totals changes lines (length states) (left_source m)
  left_of (Table k) is = outer_there k is
  left_of (Linear j op) is = inner_there j (left_low (Linear j op) is)
  left_of (Join l k op) is = inner_there l (left_low (Join l k op) is)
  left_of (Distinct j) is = inner_there j (left_low (Distinct j) is)
  left_of (Aggregate j spec) is = inner_there j (left_low (Aggregate j spec) is)
  left_of (Plus l k) is = inner_there l (left_low (Plus l k) is)
  left_of (Minus l k) is = inner_there l (left_low (Minus l k) is)
  left_of (View j v) is = inner_there j (left_low (View j v) is)

  right_of : (m : Node) → q.node ≡ m → IsThere c totals changes lines (length states) (right_source m)
  right_of (Table k) is = tt
  right_of (Linear j op) is = tt
  right_of (Join l k op) is = inner_there k (right_low (Join l k op) is)
  right_of (Distinct j) is = tt
  right_of (Aggregate j spec) is = tt
  right_of (Plus l k) is = inner_there k (right_low (Plus l k) is)
  right_of (Minus l k) is = inner_there k (right_low (Minus l k) is)
  right_of (View j v) is = tt

  module _ (n : Node) (at : node_at c t.node ≡ Some n) where
    pub left_there : (s : Source) → s ≡ left_source n → IsThere c totals changes lines (length states) s
    left_there s is = subst (IsThere c totals changes lines (length states)) (sym is) (left_of n (same_node n at))

    pub right_there : (s : Source) → s ≡ right_source n → IsThere c totals changes lines (length states) s
    right_there s is = subst (IsThere c totals changes lines (length states)) (sym is) (right_of n (same_node n at))

    pub left_played : (s : Source) → s ≡ left_source n → AreDone lines s
    left_played s is = subst (AreDone lines) (sym is) (b.left_done n at)

    pub right_played : (s : Source) → s ≡ right_source n → AreDone lines s
    right_played s is = subst (AreDone lines) (sym is) (b.right_done n at)

    pub same_both : (m : Node) → node_at c t.node ≡ Some m → n ≡ m
    same_both m am = same_Some n m (sym at ∙ am)

    abbrev pub can_step : (x : Source) → x ≡ left_source n → (o : Option Rows) → IsChange b.ready x o → (left : Rows) → o ≡ Some left → (y : Source) → y ≡ right_source n → (u : Option Rows) → IsChange b.ready y u → (right : Rows) → u ≡ Some right
        → CanStep c states first t left right
    can_step x x_is o on_left left o_is y y_is u on_right right u_is = record {
      totals = totals;
      changes = changes;
      ready = b.ready;
      in_range = b.in_range;
      left_rises = λ m am. subst (λ s. Rises b.ready s left) (x_is ∙ ap left_source (same_both m am)) (subst (IsChange b.ready x) o_is on_left);
      right_rises = λ m am. subst (λ s. Rises b.ready s right) (y_is ∙ ap right_source (same_both m am)) (subst (IsChange b.ready y) u_is on_right);
    }

    unread : (a d : Bool) → (source_sound c b.ready.new (left_source q.node) ≡ a) → (source_sound c b.ready.new (right_source q.node) ≡ d) → (a && d) ≡ false → IsTold b.ready t.node t.shard Skipped
    unread a d l r over = record {
      done = refl;
      tells = ap (λ o. are_sound o (source_sound c b.ready.new)) part_found.1 ∙ ap₂ (λ v w. v && w) l r ∙ over;
    }

    pub left_skips : (x : Source) → x ≡ left_source n → (o : Option Rows) → IsChange b.ready x o → o ≡ None → IsTold b.ready t.node t.shard Skipped
    left_skips x x_is o on_left o_is =
        unread false (source_sound c b.ready.new (right_source q.node)) (ap (λ m. source_sound c b.ready.new (left_source m)) (same_node n at) ∙ ap (source_sound c b.ready.new) (sym x_is) ∙ subst (IsChange b.ready x) o_is on_left) refl refl

    pub right_skips : (y : Source) → y ≡ right_source n → (u : Option Rows) → IsChange b.ready y u → u ≡ None → IsTold b.ready t.node t.shard Skipped
    right_skips y y_is u on_right u_is =
        unread (source_sound c b.ready.new (left_source q.node)) false refl (ap (λ m. source_sound c b.ready.new (right_source m)) (same_node n at) ∙ ap (source_sound c b.ready.new) (sym y_is) ∙ subst (IsChange b.ready y) u_is on_right)
        (and_none (source_sound c b.ready.new (left_source q.node)))
