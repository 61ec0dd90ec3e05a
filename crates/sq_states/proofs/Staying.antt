-- The traces of a node stay in range with the change of a piece, if the new rows are in range.
use Rattle.std.proofs.Common.{◌≡◌, ◌==◌, ℕ, ◌^◌, ◌≤◌, Bool, true, false, cond, not, List, [], ◌∷◌, ◌++◌, ℤ, pos, Some, None, unsigned_abs, refl, sym, ap, subst, ◌∙◌, arith, le-leb}
use Rattle.std.specs.Prelude.{Option, slice_get}
use Rattle.std.specs.Ordering.{nat_cmp}
use Rattle.sq_value.specs.declared.value.Value.{Value}
use Rattle.sq_value.specs.Order.{row_cmp}
use Rattle.sq_value.specs.OrderLaws.{row_cmp-total, row_cmp-antisymmetric}
use Rattle.sq_algebra.specs.Groups.{integers, z_sets}
use Rattle.sq_algebra.specs.Keyed.{Shards, cut, is_key}
use Rattle.sq_algebra.specs.ZSet.{plus, weight, zero as no_keys}
use Rattle.sq_algebra.proofs.EachLemmas.{each-plus}
use Rattle.sq_algebra.proofs.ShardLemmas.{weight-cut}
use Rattle.sq_agg.specs.Accumulators.{accumulated, first_number_outside}
use Rattle.sq_agg.specs.Aggregating.{IsAfter}
use Rattle.sq_agg.specs.GroupLaws.{accumulators_are_abelian, nothing_is_in_range}
use Rattle.sq_agg.specs.Kept.{KeptAccumulators, argument_key, has_ends}
use Rattle.sq_agg.specs.Stepping.{Accumulator, KeptWeights}
use Rattle.sq_agg.proofs.Ranging.{accumulator_in_range, argument_in_range, part_in_range}
use Rattle.sq_circuit.specs.Nodes.{Rows, left_key, right_key}
use Rattle.sq_circuit.specs.declared.node.Node.{Node}
use Rattle.sq_circuit.specs.declared.node.Node.TheVariants.{Table, Linear, Join, Distinct, Aggregate, Plus, Minus, View}
use Rattle.sq_distinct.specs.Stepping.{HoldsRows}
use Rattle.sq_join.specs.Stepping.{HoldsByKey, IsSmall, Row}
use Rattle.sq_ops.specs.Aggregates.{SuitsSpec, rows_of_group}
use Rattle.sq_ops.specs.Fits.{FitsRow, FitsRows}
use Rattle.sq_ops.specs.Joins.{key_in}
use Rattle.sq_ops.specs.Wholes.{has_no_values}
use Rattle.sq_ops.specs.declared.aggregate.AggSpec.{AggSpec}
use Rattle.sq_ops.specs.declared.aggregate.Call.{Call}
use Rattle.sq_trace.specs.Runs.{Place, content}
use Rattle.sq_trace.specs.declared.entry.Entry.{Entry}
use Rattle.sq_trace.proofs.Sums.{content-last}
use Rattle.sq_zset.specs.GroupLaws.{integers_are_abelian}
use Rattle.sq_zset.specs.Range.{IsInRange, number_outside}
use Rattle.sq_zset.proofs.Masses.{in_range-weights, weights-in_range}
use Rattle.sq_states.specs.Committing.{StaysInRange, StaysWithin}
use Rattle.sq_states.specs.Steps.{KeepsState, NodeStep, TakesGroups, TakesRows}
use Rattle.sq_states.specs.declared.piece.Piece.{Piece}
use Rattle.sq_states.specs.Keeps.{HoldsGroups, IsChanged, KeepsNothing, KeepsParts, OnGroups, OnRows, OnSides, change_kind, state_kind}
use Rattle.sq_states.specs.declared.kept.NodeState.{NodeState}
use Rattle.sq_states.specs.declared.kept.NodeState.TheVariants as state
use Rattle.sq_states.specs.declared.piece.StateChange.{StateChange}
use Rattle.sq_states.specs.declared.piece.StateChange.TheVariants as change
use Rattle.sq_states.proofs.Entered.{at_some}
use Rattle.sq_states.proofs.Shares.{each_cut, small_cut}

small_number : (b : Bool) (n : ℤ) → unsigned_abs n ≤ 2 ^ 62 → unsigned_abs (cond b n (pos 0)) ≤ 2 ^ 62
small_number true n h = h
small_number false n h = omega arith

pub cut_in_range : (S : Shards (List Value)) (key : List Value → List Value) (s : ℕ) (z : Rows) → IsInRange z → IsInRange (cut S key s z)
cut_in_range S key s z h = in_range-weights (cut S key s z) (λ row.
    subst (λ n. unsigned_abs n ≤ 2 ^ 62) (sym (weight-cut S row_cmp key row_cmp-total row_cmp-antisymmetric row s z)) (small_number (s == S.shard (key row)) (weight row z) (weights-in_range z h row)))

within : (n : ℤ) → unsigned_abs n ≤ 2 ^ 62 → number_outside n ≡ None
within n h = ap (λ b. cond (not b) (Some n) None) (le-leb _ _ h)

-- ---- one trace
module _ (parts : KeptWeights) (d : List (Entry ℤ)) where
  abbrev later : KeptWeights
  later = parts ++ d ∷ []

  is_later : IsAfter integers parts d later
  is_later = record { held = λ p. content-last integers integers_are_abelian p parts d }

  module _ (z : Rows) (in_range : IsInRange z) where
    held_within : (test : Place → Bool) → ((p : Place) → content integers p later ≡ cond (test p) (weight p.1 z) (pos 0)) → StaysWithin integers number_outside parts d
    held_within test holds p =
        ap number_outside (sym (content-last integers integers_are_abelian p parts d) ∙ holds p)
        ∙ within (cond (test p) (weight p.1 z) (pos 0)) (small_number (test p) (weight p.1 z) (weights-in_range z in_range p.1))

    pub rows_within : ((now : KeptWeights) → IsAfter integers parts d now → HoldsRows now z) → StaysWithin integers number_outside parts d
    rows_within holds = held_within _ (λ p. (holds later is_later).held p.0 p.1)

    pub keys_within : (key : Row → Option Row) → ((now : KeptWeights) → IsAfter integers parts d now → HoldsByKey key now z) → StaysWithin integers number_outside parts d
    keys_within key holds = held_within (λ p. is_key row_cmp p.0 (key p.1)) (λ p. (holds later is_later).held p.0 p.1 ∙ at_some key p.0 p.1 z)

-- ---- kinds of state
nothing_stays : (kept : NodeState) (c : StateChange) → KeepsNothing kept → change_kind c ≡ state_kind kept → StaysInRange kept c
nothing_stays (state.Rows parts) c h e = absurd h
nothing_stays (state.Sides a b) c h e = absurd h
nothing_stays (state.Groups accs ordered shown) c h e = absurd h
nothing_stays state.Nothing change.Nothing h e = tt
nothing_stays state.Nothing (change.Rows d) h e = absurd (omega arith)
nothing_stays state.Nothing (change.Sides da db) h e = absurd (omega arith)
nothing_stays state.Nothing (change.Groups da ds de) h e = absurd (omega arith)

rows_stay : (kept : NodeState) (c : StateChange) (y z : Rows) → IsInRange z → OnRows kept (λ parts. HoldsRows parts y) → change_kind c ≡ state_kind kept → ((now : NodeState) → IsChanged kept c now → OnRows now (λ parts. HoldsRows parts z)) → StaysInRange kept c
rows_stay state.Nothing c y z in_range h e keeps = absurd h
rows_stay (state.Sides a b) c y z in_range h e keeps = absurd h
rows_stay (state.Groups accs ordered shown) c y z in_range h e keeps = absurd h
rows_stay (state.Rows parts) change.Nothing y z in_range h e keeps = absurd (omega arith)
rows_stay (state.Rows parts) (change.Sides da db) y z in_range h e keeps = absurd (omega arith)
rows_stay (state.Rows parts) (change.Groups da ds de) y z in_range h e keeps = absurd (omega arith)
rows_stay (state.Rows parts) (change.Rows d) y z in_range h e keeps = rows_within parts d z in_range (λ now after. keeps (state.Rows now) after)

module _ (left right : Row → Option Row) where
  abbrev Hold : Rows → Rows → KeptWeights → KeptWeights → Type 0
  Hold y z a b = HoldsByKey left a y × HoldsByKey right b z

  sides_stay : (kept : NodeState) (c : StateChange) (x w y z : Rows) → IsInRange y → IsInRange z → OnSides kept (Hold x w) → change_kind c ≡ state_kind kept → ((now : NodeState) → IsChanged kept c now → OnSides now (Hold y z)) → StaysInRange kept c
  sides_stay state.Nothing c x w y z on_left on_right h e keeps = absurd h
  sides_stay (state.Rows parts) c x w y z on_left on_right h e keeps = absurd h
  sides_stay (state.Groups accs ordered shown) c x w y z on_left on_right h e keeps = absurd h
  sides_stay (state.Sides a b) change.Nothing x w y z on_left on_right h e keeps = absurd (omega arith)
  sides_stay (state.Sides a b) (change.Rows d) x w y z on_left on_right h e keeps = absurd (omega arith)
  sides_stay (state.Sides a b) (change.Groups da ds de) x w y z on_left on_right h e keeps = absurd (omega arith)
  sides_stay (state.Sides a b) (change.Sides da db) x w y z on_left on_right h e keeps = (
    keys_within a da y on_left left (λ now after. (keeps (state.Sides now (b ++ db ∷ [])) (after, is_later b db)).0),
    keys_within b db z on_right right (λ now after. (keeps (state.Sides (a ++ da ∷ []) now) (is_later a da, after)).1),
  )

-- ---- the traces of an aggregate
-- what is in range under a premise, and else zero
zero_or_within : (n : ℤ) (Q : Type 0) → (Q → unsigned_abs n ≤ 2 ^ 62) → ((Q → ⊥) → n ≡ pos 0) → number_outside n ≡ None
zero_or_within n Q held none =
    elim (number_outside n) as (λ o. number_outside n ≡ o → number_outside n ≡ None) [
      | None ↦ λ e. e
      | Some m ↦ λ e. ap number_outside (none (λ q. not_both (within n (held q)) e))
    ] refl
  where
    not_both : {m : ℤ} → number_outside n ≡ None → number_outside n ≡ Some m → ⊥
    not_both is e = absurd (cc (is, e))

record IsArgumentKey (spec : AggSpec) (k : Row) : Type 0 where
  pub group : Row
  pub number : ℕ
  pub call : Call
  pub found : slice_get spec.calls number ≡ Some call
  pub ends : has_ends call.func ≡ true
  pub is : k ≡ argument_key group number

-- what is asked of the part of the new rows
record SuitsGroups (spec : AggSpec) (y : Rows) : Type 0 where
  pub fits : FitsRows (SuitsSpec spec) y
  pub small : IsSmall y

module _ (S : Shards (List Value)) (s : ℕ) (spec : AggSpec) (y : Rows) (suits : SuitsGroups spec y) where
  module _ (accs : KeptAccumulators) (ordered shown : KeptWeights) (da : List (Entry Accumulator)) (ds de : List (Entry ℤ)) where
    accumulator_within : (b : Bool) (c : Row) → first_number_outside (cond b (accumulated spec.calls (rows_of_group spec y c)) (no_keys nat_cmp)) ≡ None
    accumulator_within true c = accumulator_in_range spec y suits.small.not_negative suits.small.bounded suits.fits c
    accumulator_within false c = nothing_is_in_range

    module _ (held : HoldsGroups false S s spec (accs ++ da ∷ []) (later ordered ds) (later shown de) y) where
      accumulators_within : StaysWithin (z_sets nat_cmp) first_number_outside accs da
      accumulators_within p =
          ap first_number_outside (sym (content-last (z_sets nat_cmp) accumulators_are_abelian p accs da) ∙ held.accumulators.held p.0 p.1) ∙ accumulator_within (has_no_values p.1) p.0

      arguments_within : StaysWithin integers number_outside ordered ds
      arguments_within p =
          ap number_outside (sym (content-last integers integers_are_abelian p ordered ds))
          ∙ zero_or_within (content integers p (later ordered ds)) (IsArgumentKey spec p.0)
          (λ q. subst (λ n. unsigned_abs n ≤ 2 ^ 62)
          (sym (ap (λ k. content integers (k, p.1) (later ordered ds)) q.is ∙ held.arguments.held q.group p.1 q.number q.call q.found q.ends))
          (argument_in_range spec y suits.small.not_negative suits.small.bounded q.group p.1 q.call.arg))
          (λ other. held.no_others.none p.0 p.1 (λ c i call found ends same. other (record { group = c; number = i; call = call; found = found; ends = ends; is = same })))

      shown_within : StaysWithin integers number_outside shown de
      shown_within p =
          ap number_outside (sym (content-last integers integers_are_abelian p shown de))
          ∙ zero_or_within (content integers p (later shown de)) (S.shard p.0 ≡ s)
          (λ here. subst (λ n. unsigned_abs n ≤ 2 ^ 62) (sym ((held.shown_rows p.0 here).held p.1)) (part_in_range spec.global spec.calls p.0 p.1 (rows_of_group spec y p.0)))
          (held.elsewhere p.0 p.1)

  groups_stay : (start : Bool) (kept : NodeState) (c : StateChange) (x : Rows) → OnGroups kept (λ accs ordered shown. HoldsGroups start S s spec accs ordered shown x) → change_kind c ≡ state_kind kept
      → ((now : NodeState) → IsChanged kept c now → OnGroups now (λ accs ordered shown. HoldsGroups false S s spec accs ordered shown y)) → StaysInRange kept c
  groups_stay start state.Nothing c x h e keeps = absurd h
  groups_stay start (state.Rows parts) c x h e keeps = absurd h
  groups_stay start (state.Sides a b) c x h e keeps = absurd h
  groups_stay start (state.Groups accs ordered shown) change.Nothing x h e keeps = absurd (omega arith)
  groups_stay start (state.Groups accs ordered shown) (change.Rows d) x h e keeps = absurd (omega arith)
  groups_stay start (state.Groups accs ordered shown) (change.Sides da db) x h e keeps = absurd (omega arith)
  groups_stay start (state.Groups accs ordered shown) (change.Groups da ds de) x h e keeps =
      let after : IsAfter (z_sets nat_cmp) accs da (accs ++ da ∷ []) = record { held = λ p. content-last (z_sets nat_cmp) accumulators_are_abelian p accs da } in
      let held : HoldsGroups false S s spec (accs ++ da ∷ []) (later ordered ds) (later shown de) y =
      keeps (state.Groups (accs ++ da ∷ []) (later ordered ds) (later shown de)) (after, is_later ordered ds, is_later shown de) in
      (accumulators_within accs ordered shown da ds de held, arguments_within accs ordered shown da ds de held, shown_within accs ordered shown da ds de held)

-- y, z and x, w are parts of the shard, before and after
parts_stay : (start : Bool) (S : Shards (List Value)) (s : ℕ) (n : Node) (kept : NodeState) (c : StateChange) (x w y z : Rows) → IsInRange y → IsInRange z → KeepsParts start S s n kept x w → change_kind c ≡ state_kind kept
    → ((now : NodeState) → IsChanged kept c now → KeepsParts false S s n now y z) → ((i : ℕ) (spec : AggSpec) → n ≡ Aggregate i spec → SuitsGroups spec y) → StaysInRange kept c
parts_stay start S s (Table t) kept c x w y z on_left on_right h e keeps suits = rows_stay kept c x y on_left h e keeps
parts_stay start S s (Linear i op) kept c x w y z on_left on_right h e keeps suits = nothing_stays kept c h e
parts_stay start S s (Join l r op) kept c x w y z on_left on_right h e keeps suits = sides_stay (key_in op.left op.nulls_match) (key_in op.right op.nulls_match) kept c x w y z on_left on_right h e keeps
parts_stay start S s (Distinct i) kept c x w y z on_left on_right h e keeps suits = rows_stay kept c x y on_left h e keeps
parts_stay start S s (Aggregate i spec) kept c x w y z on_left on_right h e keeps suits = groups_stay S s spec y (suits i spec refl) start kept c x h e keeps
parts_stay start S s (Plus l r) kept c x w y z on_left on_right h e keeps suits = nothing_stays kept c h e
parts_stay start S s (Minus l r) kept c x w y z on_left on_right h e keeps suits = nothing_stays kept c h e
parts_stay start S s (View i v) kept c x w y z on_left on_right h e keeps suits = nothing_stays kept c h e

module _ {n : Node} {kept : NodeState} {left right : Rows} {first : Bool} (b : NodeStep n kept left right first) where
  suits_after : (i : ℕ) (spec : AggSpec) → n ≡ Aggregate i spec → SuitsGroups spec (cut b.S (left_key n) b.s (plus b.y b.dy))
  suits_after i spec is =
      let takes : TakesGroups spec b.y b.dy = subst (λ m. TakesRows m b.y b.dy b.z b.dz) is b.takes in
      record {
        fits = each_cut b.S (left_key n) b.s (FitsRow (SuitsSpec spec)) (plus b.y b.dy) (each-plus (λ row. FitsRow (SuitsSpec spec) row) row_cmp row_cmp-total b.y b.dy takes.old_fits takes.change_fits);
        small = small_cut b.S (left_key n) b.s (plus b.y b.dy) takes.new_listed;
      }

  pub piece_stays : (p : Piece) → IsInRange (plus b.y b.dy) → IsInRange (plus b.z b.dz) → change_kind p.kept ≡ state_kind kept → KeepsState n kept left right first p → StaysInRange kept p.kept
  piece_stays p on_left on_right kind keeps =
      parts_stay b.start b.S b.s n kept p.kept (cut b.S (left_key n) b.s b.y) (cut b.S (right_key n) b.s b.z) (cut b.S (left_key n) b.s (plus b.y b.dy)) (cut b.S (right_key n) b.s (plus b.z b.dz))
      (cut_in_range b.S (left_key n) b.s (plus b.y b.dy) on_left) (cut_in_range b.S (right_key n) b.s (plus b.z b.dz) on_right) b.keeps kind (keeps b) suits_after
