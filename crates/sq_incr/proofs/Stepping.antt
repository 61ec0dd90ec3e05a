-- The step of a node in a shard, of which all that it reads is sound: what is taken for granted of it, and what it tells.
use Rattle.std.proofs.Common.{◌≡◌, ℕ, ◌<◌, ◌≤◌, ◌==◌, ◌&&◌, ◌||◌, Bool, true, false, List, [], ◌∷◌, length, ℤ, Some, None, refl, sym, ap, ap₂, subst, ◌∙◌}
use Rattle.std.specs.Prelude.{◌↔◌, ◌+◌, IfOk, Result, Ok, Err, is_some, pred, suc, slice_get}
use Rattle.std.specs.List.{AllByRecursion, flat_map, list_any}
use Rattle.std.proofs.lemmas.Bool.{and_from, and_parts}
use Rattle.std.proofs.lemmas.List.Elements.{All-from_recursion}
use Rattle.std.proofs.lemmas.Option.{same_Some, slice_get_within}
use Rattle.sq_value.specs.declared.value.Value.{Value}
use Rattle.sq_value.specs.Order.{row_cmp}
use Rattle.sq_value.specs.OrderLaws.{row_cmp-total, row_cmp-antisymmetric}
use Rattle.sq_algebra.specs.Keyed.{Shards, cut}
use Rattle.sq_algebra.specs.ZSet.{entries-zero, minus, plus}
use Rattle.sq_algebra.proofs.ShardLemmas.{cut-IsAdditive}
use Rattle.sq_zset.specs.Range.{IsInRange, first_outside}
use Rattle.sq_ops.specs.Aggregates.{first_sum_outside}
use Rattle.sq_ops.specs.Extensions.{first_value_outside}
use Rattle.sq_expr.specs.Bigint.{first_not_bigint}
use Rattle.sq_circuit.specs.Circuits.{are_sound, has_fault, has_number_outside, lists_too_many, table_at, whole, whole_from}
use Rattle.sq_circuit.specs.Costs.{before}
use Rattle.sq_circuit.specs.Invariant.{IsCircuit}
use Rattle.sq_circuit.specs.LinearOps.{tested_of}
use Rattle.sq_circuit.specs.NodeLaws.{share}
use Rattle.sq_circuit.specs.Nodes.{Rows, left_key, left_source, none, right_key, right_source}
use Rattle.sq_circuit.specs.Verdicts.{source_sound}
use Rattle.sq_circuit.specs.declared.circuit.Part.{Part}
use Rattle.sq_circuit.specs.declared.node.LinearOp.{LinearOp}
use Rattle.sq_circuit.specs.declared.node.Node.{Node}
use Rattle.sq_circuit.specs.declared.node.Node.TheVariants.{Table, Linear, Join, Distinct, Aggregate, Plus, Minus, View}
use Rattle.sq_circuit.proofs.Evaluating.{fault_at}
use Rattle.sq_shard.proofs.Parting.{empty_key}
use Rattle.sq_shard.specs.Shards.{shards}
use Rattle.sq_states.specs.Committing.{StaysInRange}
use Rattle.sq_states.specs.Keeps.{IsChanged, KeepsNode, state_kind}
use Rattle.sq_states.specs.Steps.{IsFault, IsStepped, NoFault, NodeStep, sum_outside, value_outside}
use Rattle.sq_states.specs.declared.kept.NodeState.{NodeState}
use Rattle.sq_states.specs.declared.piece.NodeFault.{NodeFault}
use Rattle.sq_states.specs.declared.piece.NodeFault.TheVariants as fault
use Rattle.sq_states.specs.declared.piece.Piece.{Piece}
use Rattle.sq_states.specs.declared.piece.StepRefusal.{StepRefusal}
use Rattle.sq_states.specs.declared.piece.StepRefusal.TheVariants as refusal
use Rattle.sq_states.proofs.ShardValues.{values_follow, values_in_shard}
use Rattle.sq_states.proofs.Staying.{piece_stays}
use Rattle.sq_incr.specs.Orders.{task}
use Rattle.sq_incr.specs.Ready.{IsKept, IsReady, KeepsPart, change_at, cost_in, old_at, part_cost}
use Rattle.sq_incr.specs.Slots.{IsMade, IsSlotOf, IsTold, part_outside, piece_at}
use Rattle.sq_incr.specs.declared.store.Slot.{Slot}
use Rattle.sq_incr.specs.declared.store.Slot.TheVariants.{Broken}
use Rattle.sq_incr.proofs.Fitting.{piece_is, source_fits, unfit_is_faulty}
use Rattle.sq_incr.proofs.Outside.{numbers_over_shards}
use Rattle.sq_incr.proofs.Sharing.{at_shard}
use Rattle.sq_incr.proofs.Taking.{earlier, is_none, no_number, now_is, takes, tick, was_sound}

pub none_there : (b : Bool) (z : Rows) → b ≡ true → before b z ≡ none
none_there true z e = refl
none_there false z e = absurd (cc e)

or_true : (b : Bool) → (b || true) ≡ true
or_true true = refl
or_true false = refl

none_each : {A : Type 0} (p : A → Bool) (xs : List A) → list_any p xs ≡ false → AllByRecursion (λ x. p x ≡ false) xs
none_each p [] e = tt
none_each p (x ∷ xs) e = at (p x) refl e (none_each p xs)
  where
    at : (b : Bool) → p x ≡ b → (b || list_any p xs) ≡ false → (list_any p xs ≡ false → AllByRecursion (λ x. p x ≡ false) xs) → AllByRecursion (λ x. p x ≡ false) (x ∷ xs)
    at true is over rest = absurd (cc over)
    at false is over rest = (is, rest over)

before_values : (b : Bool) (tested : List Value → List ℤ) (z : Rows) → (b ≡ false → first_value_outside tested z ≡ None) → first_value_outside tested (before b z) ≡ None
before_values true tested z h = ap (λ es. first_not_bigint (flat_map (λ e. tested e.0) es)) (entries-zero row_cmp)
before_values false tested z h = h refl

same_kept : (states : List (List NodeState)) (i s : ℕ) (a b : NodeState) → IsKept states i s a → IsKept states i s b → a ≡ b
same_kept states i s a b x y =
    same_Some a b (sym x.of_node ∙ ap (λ ks. slice_get ks i) (same_Some x.shard y.shard (sym x.of_shard ∙ y.of_shard)) ∙ y.of_node)

module _ {c : List Part} (circuit : IsCircuit c) {states : List (List NodeState)} {totals : List ℤ} {changes : List Rows} {first : Bool} (r : IsReady c states totals changes first) (i s : ℕ) (p : Part) (e : slice_get c i ≡ Some p) (low : s < length states) where
  abbrev S : Shards (List Value)
  S = shards (length states)

  abbrev y : Rows
  y = old_at r (left_source p.node)

  abbrev dy : Rows
  dy = change_at r (left_source p.node)

  abbrev z : Rows
  z = old_at r (right_source p.node)

  abbrev dz : Rows
  dz = change_at r (right_source p.node)

  -- ---- numbers outside
  abbrev part_bad : Bool
  part_bad = has_number_outside p.node (cut S (left_key p.node) s (whole_from c r.new (left_source p.node)))

  abbrev whole_bad : Bool
  whole_bad = has_number_outside p.node (whole_from c r.new (left_source p.node))

  cut_now : (key : List Value → List Value) → plus (cut S key s y) (cut S key s dy) ≡ cut S key s (whole_from c r.new (left_source p.node))
  cut_now key = sym ((cut-IsAdditive S row_cmp key row_cmp-total row_cmp-antisymmetric s).of_plus y dy) ∙ ap (cut S key s) (now_is circuit r (left_source p.node))

  old_values : (j : ℕ) (op : LinearOp) → p.node ≡ Linear j op → first_value_outside (tested_of op) y ≡ None
  old_values j op is = before_values first (tested_of op) (whole_from c r.old (left_source p.node)) (λ later.
      is_none (first_value_outside (tested_of op) (whole_from c r.old (left_source p.node))) (subst (λ m. has_number_outside m (whole_from c r.old (left_source p.node)) ≡ false) is (no_number circuit r later i p e)))

  abbrev changed_part : Node → Rows
  changed_part m = cut S (left_key m) s dy

  abbrev new_part : Node → Rows
  new_part m = cut S (left_key m) s (whole_from c r.new (left_source p.node))

  values_same : (j : ℕ) (op : LinearOp) → p.node ≡ Linear j op → (first_value_outside (tested_of op) (changed_part (Linear j op)) ≡ None) ↔ (first_value_outside (tested_of op) (new_part (Linear j op)) ≡ None)
  values_same j op is = subst (λ w. (first_value_outside (tested_of op) (changed_part (Linear j op)) ≡ None) ↔ (first_value_outside (tested_of op) w ≡ None)) (cut_now (left_key (Linear j op)))
      (values_follow (tested_of op) (cut S (left_key (Linear j op)) s y) (changed_part (Linear j op)) (values_in_shard (tested_of op) S (left_key (Linear j op)) y (old_values j op is) s))

  -- what a step tests is what the tasks of the shard tell
  fine_part : (m : Node) → p.node ≡ m → value_outside m (changed_part m) ≡ None → sum_outside m (new_part m) ≡ None → has_number_outside m (new_part m) ≡ false
  fine_part (Table t) is v w = refl
  fine_part (Linear j op) is v w = ap is_some ((values_same j op is).0 v)
  fine_part (Join l k op) is v w = refl
  fine_part (Distinct j) is v w = refl
  fine_part (Aggregate j spec) is v w = ap is_some w
  fine_part (Plus l k) is v w = refl
  fine_part (Minus l k) is v w = refl
  fine_part (View j v) is v' w = refl

  fine_values : (m : Node) → p.node ≡ m → has_number_outside m (new_part m) ≡ false → value_outside m (changed_part m) ≡ None
  fine_values (Table t) is h = refl
  fine_values (Linear j op) is h = (values_same j op is).1 (is_none (first_value_outside (tested_of op) (new_part (Linear j op))) h)
  fine_values (Join l k op) is h = refl
  fine_values (Distinct j) is h = refl
  fine_values (Aggregate j spec) is h = refl
  fine_values (Plus l k) is h = refl
  fine_values (Minus l k) is h = refl
  fine_values (View j v) is h = refl

  fine_sums : (m : Node) → has_number_outside m (new_part m) ≡ false → sum_outside m (new_part m) ≡ None
  fine_sums (Table t) h = refl
  fine_sums (Linear j op) h = refl
  fine_sums (Join l k op) h = refl
  fine_sums (Distinct j) h = refl
  fine_sums (Aggregate j spec) h = is_none (first_sum_outside spec (new_part (Aggregate j spec))) h
  fine_sums (Plus l k) h = refl
  fine_sums (Minus l k) h = refl
  fine_sums (View j v) h = refl

  whole_fault : whole_bad ≡ true → has_fault c r.new i ≡ true
  whole_fault bad = fault_at c (earlier circuit r) r.new i p e ∙ ap (λ b. (p.place && lists_too_many (whole c r.new i)) || b) bad ∙ or_true (p.place && lists_too_many (whole c r.new i))

  part_fault : part_bad ≡ true → has_fault c r.new i ≡ true
  part_fault bad = by_whole whole_bad refl
    where
      by_whole : (b : Bool) → whole_bad ≡ b → has_fault c r.new i ≡ true
      by_whole true all = whole_fault all
      by_whole false all = absurd (
          let fine = at_shard (λ k. has_number_outside p.node (cut S (left_key p.node) k (whole_from c r.new (left_source p.node))) ≡ false) (length states) r.some
          (All-from_recursion (λ k. has_number_outside p.node (cut S (left_key p.node) k (whole_from c r.new (left_source p.node))) ≡ false) S.numbers
          (none_each (λ k. has_number_outside p.node (cut S (left_key p.node) k (whole_from c r.new (left_source p.node)))) S.numbers (numbers_over_shards S p.node (whole_from c r.new (left_source p.node)) ∙ all))) s low in
          let same = sym bad ∙ fine in
          cc)

  -- ---- a step
  module _ (sound : are_sound (Some p) (source_sound c r.new) ≡ true) (kept : NodeState) (is : IsKept states i s kept) (left right : Rows) (left_is : left ≡ cut S (left_key p.node) s dy) (right_is : right ≡ cut S (right_key p.node) s dz) where
    abbrev pub begin : NodeStep p.node kept left right (first && s == 0)
    begin = record {
      S = S;
      s = s;
      start = first;
      y = y;
      dy = dy;
      z = z;
      dz = dz;
      keeps = r.keeps.each i s p kept e is;
      left_is = left_is;
      right_is = right_is;
      first_is = ap (λ k. first && s == k) (sym (empty_key (suc (pred (length states)))));
      begins_left = none_there first (whole_from c r.old (left_source p.node));
      begins_right = none_there first (whole_from c r.old (right_source p.node));
      takes = takes circuit r i p e sound;
    }

    readable : are_sound (slice_get c i) (source_sound c r.new) ≡ true
    readable = ap (λ o. are_sound o (source_sound c r.new)) e ∙ sound

    blamed : has_fault c r.new i ≡ true → IsTold r i s Broken
    blamed fault = record { done = refl; tells = and_from (are_sound (slice_get c i) (source_sound c r.new)) (has_fault c r.new i) readable fault }

    piece_same : minus (share p.node S s (plus y dy) (plus z dz)) (before first (share p.node S s y z)) ≡ piece_at r i s
    piece_same =
        ap₂ (λ a b. minus (share p.node S s a b) (before first (share p.node S s y z))) (now_is circuit r (left_source p.node)) (now_is circuit r (right_source p.node))
        ∙ sym (piece_is first c (length states) r.old (table_at changes) r.new (tick circuit r) i p e s)

    unfit : (sum : ℤ) → first_outside (minus (share p.node S s (plus y dy) (plus z dz)) (before first (share p.node S s y z))) ≡ Some sum → has_fault c r.new i ≡ true
    unfit sum out =
        unfit_is_faulty first c (length states) r.old (table_at changes) r.new (tick circuit r) i p e (record { good = r.good; sound = sound }) (λ later. was_sound circuit r later i p e) s low
        (λ fits. (let same = sym (ap first_outside (sym piece_same) ∙ out) ∙ fits in absurd (cc same)))

    outside_fault : (part_bad ≡ false → ⊥) → has_fault c r.new i ≡ true
    outside_fault bad = by_part part_bad refl
      where
        by_part : (b : Bool) → part_bad ≡ b → has_fault c r.new i ≡ true
        by_part true out = part_fault out
        by_part false fine = absurd (bad fine)

    fault_found : (f : NodeFault) → IsFault begin f → has_fault c r.new i ≡ true
    fault_found (fault.Weight sum) out = unfit sum out
    fault_found (fault.Value value) out = outside_fault (λ fine. (let none = sym out ∙ ap (value_outside p.node) left_is ∙ fine_values p.node refl fine in absurd (cc none)))
    fault_found (fault.Sum sum) out = outside_fault (λ fine. (let none = sym out.is ∙ ap (λ w. sum_outside p.node (cut S (left_key p.node) s w)) (now_is circuit r (left_source p.node)) ∙ fine_sums p.node fine in absurd (cc none)))

    inside : NoFault begin → part_outside r (slice_get c i) s ≡ false
    inside fine = ap (λ o. part_outside r o s) e ∙ fine_part p.node refl (ap (value_outside p.node) (sym left_is) ∙ fine.values)
        (ap (λ w. sum_outside p.node (cut S (left_key p.node) s w)) (sym (now_is circuit r (left_source p.node))) ∙ fine.sums)

    -- ---- what it tells
    left_range : IsInRange (plus y dy)
    left_range = subst IsInRange (sym (now_is circuit r (left_source p.node)))
        (source_fits c circuit r.new r.good i (slice_get_within c i p e) (left_source p.node) (earlier circuit r i p e).0 (and_parts (source_sound c r.new (left_source p.node)) (source_sound c r.new (right_source p.node)) sound).0)

    right_range : IsInRange (plus z dz)
    right_range = subst IsInRange (sym (now_is circuit r (right_source p.node)))
        (source_fits c circuit r.new r.good i (slice_get_within c i p e) (right_source p.node) (earlier circuit r i p e).1 (and_parts (source_sound c r.new (left_source p.node)) (source_sound c r.new (right_source p.node)) sound).1)

    keeps_new : (now : NodeState) → KeepsNode false S s p.node now (plus y dy) (plus z dz) → KeepsPart false c r.new (length states) p s now
    keeps_new now keeps = subst (λ b. KeepsNode false S s p.node now (whole_from c r.new (left_source p.node)) b) (now_is circuit r (right_source p.node)) (subst (λ a. KeepsNode false S s p.node now a (plus z dz)) (now_is circuit r (left_source p.node)) keeps)

    module _ (old new : ℕ) where
      made_piece : (piece : Piece) → piece.node ≡ i → IsStepped p.node kept left right (first && s == 0) (Ok piece) old new → IsMade r i s piece
      made_piece piece number st = record {
        node = number;
        change = st.change begin ∙ piece_same;
        in_range = st.in_range;
        keeps = λ q other now at there changed.
            subst (λ q. KeepsPart false c r.new (length states) q s now) (same_Some p q (sym e ∙ at))
            (keeps_new now (st.keeps begin now (subst (λ k. IsChanged k piece.kept now) (same_kept states i s other kept there is) changed)));
        kind = λ other there. st.kind begin ∙ ap state_kind (same_kept states i s kept other is there);
        stays = λ q other at there.
            subst (λ k. StaysInRange k piece.kept) (same_kept states i s kept other is there)
            (piece_stays begin piece left_range right_range (st.kind begin) st.keeps);
      }

      pub told : (made : Result Piece StepRefusal) (slot : Slot) → IsSlotOf made slot → IfOk made (λ piece. piece.node ≡ i) → IsStepped p.node kept left right (first && s == 0) made old new → IsTold r i s slot
      told (Ok piece) slot same number st =
          subst (IsTold r i s) (sym same) (record { done = refl; tells = record { readable = readable; inside = inside (st.faultless begin); made = made_piece piece number st } })
      told (Err (refusal.Fault f)) slot same number st = subst (IsTold r i s) (sym same) (blamed (fault_found f (st.faulty f refl begin)))
      told (Err refusal.Memory) slot same number st = absurd same

      pub spent : (made : Result Piece StepRefusal) → IsStepped p.node kept left right (first && s == 0) made old new → new ≤ old + part_cost r (task i s)
      spent made st = subst (λ o. new ≤ old + cost_in r o s) (sym e) (st.count begin)
