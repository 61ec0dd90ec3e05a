-- The step of an aggregate, from what its traces hold.
use Rattle.std.proofs.Common.{◌≡◌, ◌==◌, ℕ, ◌+◌, ◌≤◌, Bool, true, false, cond, ◌&&◌, List, [], ◌∷◌, None, refl, sym, ap, ap₂, subst, ◌∙◌, ℤ, ◌+ℤ◌, arith}
use Rattle.std.specs.Prelude.{Ok, Err, Some, Option, Result}
use Rattle.std.specs.List.{All}
use Rattle.std.proofs.lemmas.Bool.Decides.{nat_tests}
use Rattle.sq_value.specs.Order.{row_cmp}
use Rattle.sq_algebra.specs.Groups.{z_sets}
use Rattle.sq_algebra.specs.Keyed.{cut}
use Rattle.sq_algebra.specs.ZSet.{minus, negate, plus, weight}
use Rattle.sq_algebra.proofs.AbelianLemmas.{minus-plus_same, minus-zero, plus-minus_back}
use Rattle.sq_agg.specs.Aggregating.{AddsNoOthers, AggState, FirstOutside, HoldsShown, KeepsAccumulators, KeepsArguments, KeepsShown, LeavesOthers, OnOld, agg_cost, aggregate_rise, before, touched}
use Rattle.sq_agg.specs.Kept.{KeptAccumulators, Row, Rows}
use Rattle.sq_agg.specs.Stepping.{Accumulator, KeptWeights}
use Rattle.sq_circuit.specs.Costs.{aggregate_cost}
use Rattle.sq_circuit.specs.NodeLaws.{share}
use Rattle.sq_circuit.specs.Nodes.{none, shown_for_none}
use Rattle.sq_circuit.specs.declared.node.Node.TheVariants.{Aggregate}
use Rattle.sq_ops.specs.Aggregates.{SuitsSpec, aggregated, first_sum_outside, group_of, part_of, rows_of_group}
use Rattle.sq_ops.specs.Fits.{FitsRow}
use Rattle.sq_ops.specs.WholeLaws.{part_is_nothing_for_none}
use Rattle.sq_ops.specs.Wholes.{has_no_values}
use Rattle.sq_ops.specs.declared.aggregate.AggSpec.{AggSpec}
use Rattle.sq_ops.specs.declared.whole.WholeFault.{WholeFault}
use Rattle.sq_ops.specs.declared.whole.WholeFault.TheVariants as whole
use Rattle.sq_trace.specs.declared.entry.Entry.{Entry}
use Rattle.sq_zset.specs.GroupLaws.{rows_are_abelian}
use Rattle.sq_zset.specs.Range.{IsInRange}
use Rattle.sq_zset.proofs.RowKeys.{at_key-zero, cut-zero}
use Rattle.sq_states.specs.Keeps.{HoldsGroups, IsChanged, OnGroups, change_kind}
use Rattle.sq_states.specs.Steps.{IsFault, IsStepped, NodeStep, cost_of, left_after, piece_at}
use Rattle.sq_states.specs.declared.kept.NodeState.{NodeState}
use Rattle.sq_states.specs.declared.kept.NodeState.TheVariants as state
use Rattle.sq_states.specs.Refusals.{of_whole}
use Rattle.sq_states.specs.declared.piece.NodeFault.TheVariants as fault
use Rattle.sq_states.specs.declared.piece.Piece.{Piece}
use Rattle.sq_states.specs.declared.piece.StepRefusal.{StepRefusal}
use Rattle.sq_states.specs.declared.piece.StepRefusal.TheVariants as refusal
use Rattle.sq_states.specs.declared.piece.StateChange.TheVariants as change
use Rattle.sq_states.proofs.Homing.{touched_here, within_cost}
use Rattle.sq_states.proofs.ShardSums.{sums_in_shard}
use Rattle.sq_states.proofs.Rising.{begun, core_after, core_before, later, nothing_before}
use Rattle.sq_states.proofs.Shares.{after_cut, each_cut, each_of, small_after, small_cut}
use Rattle.sq_states.proofs.Stepped.{out_of_memory, refused, same_fault, stepped}

both_true : (a b : Bool) → a && b ≡ true → (a ≡ true) × (b ≡ true)
both_true true b e = (refl, e)
both_true false b e = absurd (cc e)

same_number : (s t : ℕ) → (s == t) ≡ true → t ≡ s
same_number s t e = grind (arith, nat_tests)

number_itself : (s t : ℕ) → t ≡ s → (s == t) ≡ true
number_itself s t e = grind (arith, nat_tests)

no_value : (c : Row) → has_no_values c ≡ true → c ≡ []
no_value [] e = refl
no_value (x ∷ c) e = absurd (cc e)

and_false : (a : Bool) → a && false ≡ false
and_false true = refl
and_false false = refl

module _ (i : ℕ) (spec : AggSpec) (accs : KeptAccumulators) (ordered shown : KeptWeights) (d right : Rows) (first : Bool) where
  abbrev pub Step : Type 0
  Step = NodeStep (Aggregate i spec) (state.Groups accs ordered shown) d right first

  module _ (h : Step) where
    abbrev old : Rows
    old = cut h.S (group_of spec) h.s h.y

    old_none : h.start ≡ true → old ≡ none
    old_none e = ap (cut h.S (group_of spec) h.s) (h.begins_left e) ∙ cut-zero h.S (group_of spec) h.s

    at_first : first ≡ true → (h.start ≡ true) × (h.S.shard [] ≡ h.s)
    at_first e = let both = both_true h.start (h.s == h.S.shard []) (sym h.first_is ∙ e) in (both.0, same_number h.s (h.S.shard []) both.1)

    -- a group of the shard, where nothing is shown at first and no group stands
    not_standing : (c : Row) → h.S.shard c ≡ h.s → (h.s == h.S.shard []) ≡ false → spec.global && has_no_values c ≡ false
    not_standing c here other = step (has_no_values c) refl
      where
        step : (b : Bool) → has_no_values c ≡ b → spec.global && b ≡ false
        step false e = and_false spec.global
        step true e = absurd (let one = number_itself h.s (h.S.shard []) (sym (ap h.S.shard (no_value c e)) ∙ here) in let never = sym one ∙ other in cc)

    nothing_shown : (c : Row) → h.start ≡ true → h.S.shard c ≡ h.s → (h.s == h.S.shard []) ≡ false → part_of spec.global spec.calls c (rows_of_group spec old c) ≡ none
    nothing_shown c e here other =
        ap (part_of spec.global spec.calls c) (ap (λ y. rows_of_group spec y c) (old_none e) ∙ at_key-zero (group_of spec) c)
        ∙ part_is_nothing_for_none spec.global spec.calls c (not_standing c here other)

    shown_here : (c : Row) → h.S.shard c ≡ h.s → HoldsShown first spec shown old c
    shown_here c here = by_start h.start (h.s == h.S.shard []) refl refl (h.keeps.shown_rows c here)
      where
        by_start : (start at_nil : Bool) → h.start ≡ start → (h.s == h.S.shard []) ≡ at_nil → HoldsShown h.start spec shown old c → HoldsShown first spec shown old c
        by_start false at_nil e n held = subst (λ f. HoldsShown f spec shown old c) (e ∙ sym (h.first_is ∙ ap (λ b. b && (h.s == h.S.shard [])) e)) held
        by_start true true e n held = subst (λ f. HoldsShown f spec shown old c) (e ∙ sym (h.first_is ∙ ap₂ (λ a b. a && b) e n)) held
        by_start true false e n held = subst (λ f. HoldsShown f spec shown old c) (sym (h.first_is ∙ ap₂ (λ a b. a && b) e n)) (record {
          held = λ row. held.held row ∙ ap (λ b. weight row (before b (part_of spec.global spec.calls c (rows_of_group spec old c)))) e ∙ ap (weight row) (sym (nothing_shown c e here n));
        })

    pub agg_state : AggState spec accs ordered shown d first
    agg_state = record {
      old = old;
      accumulators = h.keeps.accumulators;
      arguments = h.keeps.arguments;
      shown_before = λ k c low. shown_here _ (touched_here h.S h.s spec first h.dy d h.left_is (λ e. (at_first e).1) k c low);
      begins = λ e. old_none (at_first e).0;
      old_fits = each_cut h.S (group_of spec) h.s (FitsRow (SuitsSpec spec)) h.y h.takes.old_fits;
      change_fits = each_of h.S (group_of spec) h.s (FitsRow (SuitsSpec spec)) h.dy d h.left_is h.takes.change_fits;
      old_not_negative = (small_cut h.S (group_of spec) h.s h.y h.takes.old_listed).not_negative;
      old_bounded = (small_cut h.S (group_of spec) h.s h.y h.takes.old_listed).bounded;
      not_negative = (small_after h.S (group_of spec) h.s h.y h.dy d h.left_is h.takes.new_listed).not_negative;
      bounded = (small_after h.S (group_of spec) h.s h.y h.dy d h.left_is h.takes.new_listed).bounded;
      all_sums = sums_in_shard h.S spec h.y h.takes.all_sums h.s;
    }

    -- ---- the piece
    abbrev new : Rows
    new = plus old (cut h.S (group_of spec) h.s h.dy)

    core_rise : minus (minus (aggregated spec new) (shown_for_none spec)) (minus (aggregated spec old) (shown_for_none spec)) ≡ minus (aggregated spec new) (aggregated spec old)
    core_rise = minus-plus_same (z_sets row_cmp) rows_are_abelian (aggregated spec new) (aggregated spec old) (negate (shown_for_none spec))

    rise_is : aggregate_rise first spec old (cut h.S (group_of spec) h.s h.dy) ≡ piece_at h
    rise_is = by_start h.start (h.s == h.S.shard []) refl refl
      where
        by_start : (start at_nil : Bool) → h.start ≡ start → (h.s == h.S.shard []) ≡ at_nil → aggregate_rise first spec old (cut h.S (group_of spec) h.s h.dy) ≡ piece_at h
        by_start false at_nil e n =
            ap (λ f. minus (aggregated spec new) (before f (aggregated spec old))) (h.first_is ∙ ap (λ b. b && (h.s == h.S.shard [])) e)
            ∙ sym core_rise
            ∙ sym (ap (λ b. minus (share (Aggregate i spec) h.S h.s (plus h.y h.dy) (plus h.z h.dz)) (before b (share (Aggregate i spec) h.S h.s h.y h.z))) e
            ∙ later (Aggregate i spec) h.S h.s h.y h.dy h.z h.dz)
        by_start true true e n =
            ap (λ f. minus (aggregated spec new) (before f (aggregated spec old))) (h.first_is ∙ ap₂ (λ a b. a && b) e n)
            ∙ minus-zero (z_sets row_cmp) rows_are_abelian (aggregated spec new)
            ∙ sym (plus-minus_back (z_sets row_cmp) rows_are_abelian (shown_for_none spec) (aggregated spec new))
            ∙ ap (plus (shown_for_none spec)) (sym (ap (minus (minus (aggregated spec new) (shown_for_none spec))) (nothing_before (Aggregate i spec) h.S h.s h.y h.dy h.z h.dz (h.begins_left e) (h.begins_right e)) ∙ minus-zero (z_sets row_cmp) rows_are_abelian (minus (aggregated spec new) (shown_for_none spec))))
            ∙ sym (ap (λ b. minus (share (Aggregate i spec) h.S h.s (plus h.y h.dy) (plus h.z h.dz)) (before b (share (Aggregate i spec) h.S h.s h.y h.z))) e
            ∙ begun (Aggregate i spec) h.S h.s h.y h.dy h.z h.dz (h.begins_left e) (h.begins_right e)
            ∙ ap (λ b. plus (cond b (shown_for_none spec) none) (minus (core_after (Aggregate i spec) h.S h.s h.y h.dy h.z h.dz) (core_before (Aggregate i spec) h.S h.s h.y h.dy h.z h.dz))) n)
        by_start true false e n =
            ap (λ f. minus (aggregated spec new) (before f (aggregated spec old))) (h.first_is ∙ ap₂ (λ a b. a && b) e n)
            ∙ sym core_rise
            ∙ sym (rows_are_abelian.neutral _)
            ∙ sym (ap (λ b. minus (share (Aggregate i spec) h.S h.s (plus h.y h.dy) (plus h.z h.dz)) (before b (share (Aggregate i spec) h.S h.s h.y h.z))) e
            ∙ begun (Aggregate i spec) h.S h.s h.y h.dy h.z h.dz (h.begins_left e) (h.begins_right e)
            ∙ ap (λ b. plus (cond b (shown_for_none spec) none) (minus (core_after (Aggregate i spec) h.S h.s h.y h.dy h.z h.dz) (core_before (Aggregate i spec) h.S h.s h.y h.dy h.z h.dz))) n)

    pub group_piece : (answer : Rows) → OnOld spec accs ordered shown d first (λ y. answer ≡ aggregate_rise first spec y d) → answer ≡ piece_at h
    unfolding agg_state
    group_piece answer is = is agg_state ∙ ap (aggregate_rise first spec old) h.left_is ∙ rise_is

    pub sums_after : (found : Option (Row × ℤ)) → FirstOutside spec accs ordered shown d first found → first_sum_outside spec (left_after h) ≡ found
    unfolding agg_state
    sums_after found is = ap (first_sum_outside spec) (sym (after_cut h.S (group_of spec) h.s h.y h.dy d h.left_is)) ∙ is agg_state

    pub group_few : (from to : ℕ) → to ≤ from + agg_cost first spec d → to ≤ from + cost_of h
    group_few from to few =
        subst (λ x. to ≤ from + aggregate_cost first spec x) h.left_is (let low = within_cost spec d first in omega arith)

    -- ---- what is kept
    not_touched : (c : Row) → (h.S.shard c ≡ h.s → ⊥) → All (λ k. k ≡ c → ⊥) (touched first spec d)
    not_touched c away i e low same = away (subst (λ k. h.S.shard k ≡ h.s) same (touched_here h.S h.s spec first h.dy d h.left_is (λ f. (at_first f).1) i e low))

    pub groups_kept : (now : NodeState) (da : List (Entry Accumulator)) (ds de : List (Entry ℤ)) → OnOld spec accs ordered shown d first (λ y. KeepsAccumulators spec accs da y d)
        → OnOld spec accs ordered shown d first (λ y. KeepsArguments spec ordered ds y d) → OnOld spec accs ordered shown d first (λ y. KeepsShown first spec shown de y d)
        → AddsNoOthers spec ds → LeavesOthers first spec d de
        → IsChanged (state.Groups accs ordered shown) (change.Groups da ds de) now → OnGroups now (λ newaccs newordered newshown. HoldsGroups false h.S h.s spec newaccs newordered newshown (cut h.S (group_of spec) h.s (plus h.y h.dy)))
    unfolding agg_state
    groups_kept state.Nothing da ds de keeps_accs keeps_ordered keeps_shown alone others changed = absurd changed
    groups_kept (state.Rows parts) da ds de keeps_accs keeps_ordered keeps_shown alone others changed = absurd changed
    groups_kept (state.Sides a b) da ds de keeps_accs keeps_ordered keeps_shown alone others changed = absurd changed
    groups_kept (state.Groups newaccs newordered newshown) da ds de keeps_accs keeps_ordered keeps_shown alone others changed =
        subst (λ y. HoldsGroups false h.S h.s spec newaccs newordered newshown y) (after_cut h.S (group_of spec) h.s h.y h.dy d h.left_is) (record {
          accumulators = keeps_accs agg_state newaccs changed.0;
          arguments = keeps_ordered agg_state newordered changed.1;
          no_others = record { none = λ k row other. changed.1.held (k, row) ∙ ap₂ (λ m n. m +ℤ n) (h.keeps.no_others.none k row other) (alone k row other) };
          shown_rows = λ c here. keeps_shown agg_state c (shown_here c here) newshown changed.2;
          elsewhere = λ c row away. changed.2.held (c, row) ∙ ap₂ (λ m n. m +ℤ n) (h.keeps.elsewhere c row away) (others c row (not_touched c away));
        })

  pub group_steps : (from to : ℕ) (p : Piece) (da : List (Entry Accumulator)) (ds de : List (Entry ℤ)) → p.kept ≡ change.Groups da ds de
      → OnOld spec accs ordered shown d first (λ y. p.change ≡ aggregate_rise first spec y d) → IsInRange p.change
      → OnOld spec accs ordered shown d first (λ y. KeepsAccumulators spec accs da y d) → OnOld spec accs ordered shown d first (λ y. KeepsArguments spec ordered ds y d)
      → OnOld spec accs ordered shown d first (λ y. KeepsShown first spec shown de y d) → AddsNoOthers spec ds → LeavesOthers first spec d de
      → FirstOutside spec accs ordered shown d first None → to ≤ from + agg_cost first spec d
      → IsStepped (Aggregate i spec) (state.Groups accs ordered shown) d right first (Ok p) from to
  group_steps from to p da ds de is_change is in_range keeps_accs keeps_ordered keeps_shown alone others sums few =
      stepped (Aggregate i spec) (state.Groups accs ordered shown) d right first from to p
      (λ h. group_piece h p.change is) in_range
      (λ h now changed. groups_kept h now da ds de keeps_accs keeps_ordered keeps_shown alone others (subst (λ c. IsChanged (state.Groups accs ordered shown) c now) is_change changed))
      (λ h. ap change_kind is_change) (λ h. record { values = refl; sums = sums_after h None sums }) (λ h. group_few h from to few)

-- a SUM outside the range of BIGINT
module _ (i : ℕ) (spec : AggSpec) (accs : KeptAccumulators) (ordered shown : KeptWeights) (d right : Rows) (first : Bool) (from to : ℕ) (few : to ≤ from + agg_cost first spec d) where
  pub group_refused : (e : WholeFault) → ((group : Row) (sum : ℤ) → e ≡ whole.Sum group sum → FirstOutside spec accs ordered shown d first (Some (group, sum)))
      → (result : Result Piece StepRefusal) (r : StepRefusal) → result ≡ Err r → r ≡ of_whole e → IsStepped (Aggregate i spec) (state.Groups accs ordered shown) d right first result from to
  group_refused (whole.Sum group sum) outside result r is same =
      refused (Aggregate i spec) (state.Groups accs ordered shown) d right first from to (refusal.Fault (fault.Sum sum)) result (is ∙ ap Err same)
      (λ f at h. subst (λ g. IsFault h g) (same_fault at) (record { group = group; is = sums_after i spec accs ordered shown d right first h (Some (group, sum)) (outside group sum refl) }))
      (λ h. group_few i spec accs ordered shown d right first h from to few)
  group_refused whole.Memory outside result r is same =
      out_of_memory (Aggregate i spec) (state.Groups accs ordered shown) d right first from to result (is ∙ ap Err same) (λ h. group_few i spec accs ordered shown d right first h from to few)
