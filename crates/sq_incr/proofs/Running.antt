-- What becomes of a task depends on those that it needs alone; and if it runs, it leaves its piece.
use Rattle.std.proofs.Common.{◌≡◌, ℕ, zero, suc, ◌<◌, ◌^◌, Bool, true, false, not, ◌&&◌, cond, List, Some, None, refl, sym, ap, ap₂, subst, ◌∙◌, arith, pos}
use Rattle.std.specs.Prelude.{Option, slice_get, int_lt, ◌+ℤ◌}
use Rattle.std.proofs.lemmas.Bool.{and_parts}
use Rattle.std.proofs.lemmas.List.Elements.{All-weaker}
use mathlib.Core.Logic.{inl, inr}
use Rattle.sq_value.specs.declared.value.Value.{Value}
use Rattle.sq_value.specs.Order.{row_cmp}
use Rattle.sq_algebra.specs.Groups.{integers, z_sets}
use Rattle.sq_algebra.specs.Keyed.{Shards, cut, over_shards}
use Rattle.sq_algebra.specs.ZSet.{minus, plus, total}
use Rattle.sq_algebra.proofs.AbelianLemmas.{sum_over_agree_at}
use Rattle.sq_circuit.specs.Along.{ReadsEarlier}
use Rattle.sq_circuit.specs.Circuits.{are_sound, has_number_outside, place_at, whole}
use Rattle.sq_circuit.specs.Costs.{before}
use Rattle.sq_circuit.specs.Invariant.{AreEarlier, IsEarlier}
use Rattle.sq_circuit.specs.NodeLaws.{share}
use Rattle.sq_circuit.specs.Nodes.{Rows, Source, Nowhere, Outer, Inner, left_key, left_source, none, right_source}
use Rattle.sq_circuit.specs.Pieces.{held_at, held_now, piece_of, piece_step, pieces}
use Rattle.sq_circuit.specs.declared.circuit.Part.{Part}
use Rattle.sq_circuit.proofs.Alongside.{along_is}
use Rattle.sq_shard.specs.Shards.{shards}
use Rattle.sq_incr.specs.Orders.{IsInput, IsNeeded, IsOfNode, task}
use Rattle.sq_incr.specs.Outcomes.{AreLeft, Broken, Outcome, Ran, Skipped, Store, breaks, has_run, is_clear, is_ready, outcome, outcome_of, piece_in, pieces_in, step}
use Rattle.sq_incr.specs.Play.{AnyOrderGives, IsPlayable}
use Rattle.sq_incr.specs.declared.task.Task.{Task}
use Rattle.sq_incr.proofs.Playing.{outcome_is, whole_played}
use Rattle.sq_incr.proofs.Sharing.{all_pass, all_same, each_shard}

-- ---- pieces, each by those of earlier nodes
module _ (first : Bool) (c : List Part) (earlier : AreEarlier c) (S : Shards (List Value)) (old : List Rows) (change : ℕ → Rows) where
  now_agree : (s : Source) (n : ℕ) → IsEarlier n s → (f g : ℕ → ℕ → Rows) → ((i : ℕ) → i < n → f i ≡ g i) → held_now first c S old change f s ≡ held_now first c S old change g s
  now_agree Nowhere n low f g same = refl
  now_agree (Outer t) n low f g same = refl
  now_agree (Inner i) n low f g same = ap (λ h. plus (held_at first c S old change (Inner i)) (over_shards (z_sets row_cmp) S h)) (same i low)

  piece_reads : ReadsEarlier (piece_step first c S old change)
  piece_reads n f g same = at (slice_get c n) refl
    where
      at : (o : Option Part) → slice_get c n ≡ o → piece_of first c S old change o f ≡ piece_of first c S old change o g
      at None e = refl
      at (Some p) e =
          ap₂ (λ y z s. minus (share p.node S s y z) (before first (share p.node S s (held_at first c S old change (left_source p.node)) (held_at first c S old change (right_source p.node)))))
          (now_agree (left_source p.node) n (earlier n p e).0 f g same) (now_agree (right_source p.node) n (earlier n p e).1 f g same)

  pub pieces_are : (i : ℕ) → pieces first c S old change i ≡ piece_of first c S old change (slice_get c i) (pieces first c S old change)
  unfolding pieces
  pieces_are i = along_is (λ s. none) (piece_step first c S old change) piece_reads i

-- ---- a task by the sources of its node
module _ (first : Bool) (c : List Part) (n : ℕ) (above : 0 < n) (old : List Rows) (change : ℕ → Rows) where
  module _ (f g : Store) (j : ℕ) (same : (s : ℕ) → s < n → f j s ≡ g j s) where
    clear_agree : is_clear first c n old change f j ≡ is_clear first c n old change g j
    clear_agree = ap₂ (λ a t. a && not (place_at c j && int_lt (pos (2 ^ 61)) (total (before first (whole c old j)) +ℤ t)))
        (all_same (λ s. has_run (f j s)) (λ s. has_run (g j s)) (shards n).numbers (each_shard (λ s. has_run (f j s) ≡ has_run (g j s)) n above (λ s low. ap has_run (same s low))))
        (sum_over_agree_at integers (λ s. total (pieces_in f j s)) (λ s. total (pieces_in g j s)) (shards n).numbers (each_shard (λ s. total (pieces_in f j s) ≡ total (pieces_in g j s)) n above (λ s low. ap (λ o. total (piece_in o)) (same s low))))

    sum_agree : over_shards (z_sets row_cmp) (shards n) (pieces_in f j) ≡ over_shards (z_sets row_cmp) (shards n) (pieces_in g j)
    sum_agree = sum_over_agree_at (z_sets row_cmp) (pieces_in f j) (pieces_in g j) (shards n).numbers (each_shard (λ s. pieces_in f j s ≡ pieces_in g j s) n above (λ s low. ap piece_in (same s low)))

  ready_agree : (f g : Store) (s : Source) → ((j : ℕ) → IsOfNode j s → (k : ℕ) → k < n → f j k ≡ g j k) → is_ready first c n old change f s ≡ is_ready first c n old change g s
  ready_agree f g Nowhere same = refl
  ready_agree f g (Outer t) same = refl
  ready_agree f g (Inner j) same = clear_agree f g j (same j refl)

  held_agree : (f g : Store) (s : Source) → ((j : ℕ) → IsOfNode j s → (k : ℕ) → k < n → f j k ≡ g j k) → held_now first c (shards n) old change (pieces_in f) s ≡ held_now first c (shards n) old change (pieces_in g) s
  held_agree f g Nowhere same = refl
  held_agree f g (Outer t) same = refl
  held_agree f g (Inner j) same = ap (plus (held_at first c (shards n) old change (Inner j))) (sum_agree f g j (same j refl))

  abbrev was : Part → ℕ → Rows
  was p s = before first (share p.node (shards n) s (held_at first c (shards n) old change (left_source p.node)) (held_at first c (shards n) old change (right_source p.node)))

  -- the outcome of a task, by whether its sources may be read, and what they hold
  abbrev by_sources : Part → ℕ → Bool → Bool → Rows → Rows → Outcome
  by_sources p s a b y z = cond (a && b) (cond (has_number_outside p.node (cut (shards n) (left_key p.node) s y)) Broken (Ran (minus (share p.node (shards n) s y z) (was p s)))) Skipped

  outcome_reads : (t : Task) (f g : Store) → ((u : Task) → IsNeeded c t u → u.shard < n → f u.node u.shard ≡ g u.node u.shard) → step first c n old change t f ≡ step first c n old change t g
  outcome_reads t f g same = at (slice_get c t.node) refl
    where
      at : (o : Option Part) → slice_get c t.node ≡ o → outcome_of first c n old change o f t.shard ≡ outcome_of first c n old change o g t.shard
      at None e = refl
      at (Some p) e =
          let left : (j : ℕ) → IsOfNode j (left_source p.node) → (k : ℕ) → k < n → f j k ≡ g j k = λ j of k low. same (task j k) (subst (λ o. IsInput o j) (sym e) (inl of)) low in
          let right : (j : ℕ) → IsOfNode j (right_source p.node) → (k : ℕ) → k < n → f j k ≡ g j k = λ j of k low. same (task j k) (subst (λ o. IsInput o j) (sym e) (inr of)) low in
          λ d. by_sources p t.shard (ready_agree f g (left_source p.node) left d) (ready_agree f g (right_source p.node) right d) (held_agree f g (left_source p.node) left d) (held_agree f g (right_source p.node) right d)

  pub playable : AreEarlier c → IsPlayable c n (step first c n old change)
  playable earlier = record { earlier = earlier; reads = outcome_reads }

  -- ---- tasks that run leave their pieces
  module _ (earlier : AreEarlier c) where
    pub outcome_at : (i s : ℕ) (o : Option Part) → slice_get c i ≡ o → outcome first c n old change i s ≡ outcome_of first c n old change o (outcome first c n old change) s
    outcome_at i s o e = outcome_is c n Skipped (step first c n old change) (playable earlier) (task i s) ∙ ap (λ o. outcome_of first c n old change o (outcome first c n old change) s) e

    abbrev Leaves : ℕ → Type 0
    Leaves i = (s : ℕ) → has_run (outcome first c n old change i s) ≡ true → piece_in (outcome first c n old change i s) ≡ pieces first c (shards n) old change i s

    -- what a source holds, if it may be read
    pub held_is : (i : ℕ) (s : Source) → IsEarlier i s → ((j : ℕ) → j < i → Leaves j) → is_ready first c n old change (outcome first c n old change) s ≡ true
        → held_now first c (shards n) old change (pieces_in (outcome first c n old change)) s ≡ held_now first c (shards n) old change (pieces first c (shards n) old change) s
    held_is i Nowhere low leaves ready = refl
    held_is i (Outer t) low leaves ready = refl
    held_is i (Inner j) low leaves ready = ap (plus (held_at first c (shards n) old change (Inner j)))
        (sum_over_agree_at (z_sets row_cmp) (pieces_in (outcome first c n old change) j) (pieces first c (shards n) old change j) (shards n).numbers
        (All-weaker (λ s. has_run (outcome first c n old change j s) ≡ true) (λ s. pieces_in (outcome first c n old change) j s ≡ pieces first c (shards n) old change j s) (leaves j low) (shards n).numbers
        (all_pass (λ s. has_run (outcome first c n old change j s)) (shards n).numbers (and_parts _ _ ready).0)))

    ran_from : (a b : Bool) (z : Rows) → has_run (cond a (cond b Broken (Ran z)) Skipped) ≡ true → (a ≡ true) × (piece_in (cond a (cond b Broken (Ran z)) Skipped) ≡ z)
    ran_from true true z h = absurd (cc h)
    ran_from true false z h = (refl, refl)
    ran_from false b z h = absurd (cc h)

    -- the piece of a task whose sources may be read
    piece_is : (i : ℕ) (p : Part) → slice_get c i ≡ Some p → ((j : ℕ) → j < i → Leaves j) → are_sound (Some p) (is_ready first c n old change (outcome first c n old change)) ≡ true
        → (s : ℕ) → piece_of first c (shards n) old change (Some p) (pieces_in (outcome first c n old change)) s ≡ pieces first c (shards n) old change i s
    piece_is i p e leaves both s =
        let ready = and_parts (is_ready first c n old change (outcome first c n old change) (left_source p.node)) (is_ready first c n old change (outcome first c n old change) (right_source p.node)) both in
        ap₂ (λ y z. minus (share p.node (shards n) s y z) (was p s)) (held_is i (left_source p.node) (earlier i p e).0 leaves ready.0) (held_is i (right_source p.node) (earlier i p e).1 leaves ready.1)
        ∙ sym (ap (λ h. h s) (pieces_are first c earlier (shards n) old change i ∙ ap (λ o. piece_of first c (shards n) old change o (pieces first c (shards n) old change)) e))

    leaves_at : (i : ℕ) (p : Part) → slice_get c i ≡ Some p → ((j : ℕ) → j < i → Leaves j) → Leaves i
    leaves_at i p e leaves s runs =
        let is = outcome_at i s (Some p) e in
        let ran = ran_from (are_sound (Some p) (is_ready first c n old change (outcome first c n old change))) (breaks first c n old change (Some p) (outcome first c n old change) s)
        (piece_of first c (shards n) old change (Some p) (pieces_in (outcome first c n old change)) s) (sym (ap has_run is) ∙ runs) in
        ap piece_in is ∙ ran.1 ∙ piece_is i p e leaves ran.0 s

    leaves_none : (i : ℕ) → slice_get c i ≡ None → Leaves i
    leaves_none i e s runs =
        ap piece_in (outcome_at i s None e)
        ∙ sym (ap (λ h. h s) (pieces_are first c earlier (shards n) old change i ∙ ap (λ o. piece_of first c (shards n) old change o (pieces first c (shards n) old change)) e))

    leaves_below : (m i : ℕ) → i < m → Leaves i
    leaves_below zero i low = absurd (omega arith)
    leaves_below (suc m) i low = at (slice_get c i) refl (λ j less. leaves_below m j (omega arith))
      where
        at : (o : Option Part) → slice_get c i ≡ o → ((j : ℕ) → j < i → Leaves j) → Leaves i
        at None e leaves = leaves_none i e
        at (Some p) e leaves = leaves_at i p e leaves

    -- a task that runs leaves its piece
    pub leaves_piece : (i : ℕ) → Leaves i
    leaves_piece i = leaves_below (suc i) i (omega arith)

    -- a task whose sources may be read runs, if it does not break
    pub ready_outcome : (i : ℕ) (p : Part) → slice_get c i ≡ Some p → are_sound (Some p) (is_ready first c n old change (outcome first c n old change)) ≡ true → (s : ℕ)
        → outcome first c n old change i s ≡ cond (has_number_outside p.node (cut (shards n) (left_key p.node) s (held_now first c (shards n) old change (pieces first c (shards n) old change) (left_source p.node)))) Broken (Ran (pieces first c (shards n) old change i s))
    ready_outcome i p e both s =
        let ready = and_parts (is_ready first c n old change (outcome first c n old change) (left_source p.node)) (is_ready first c n old change (outcome first c n old change) (right_source p.node)) both in
        outcome_at i s (Some p) e
        ∙ ap (λ b. cond b (cond (breaks first c n old change (Some p) (outcome first c n old change) s) Broken (Ran (piece_of first c (shards n) old change (Some p) (pieces_in (outcome first c n old change)) s))) Skipped) both
        ∙ ap₂ (λ y z. cond (has_number_outside p.node (cut (shards n) (left_key p.node) s y)) Broken (Ran z))
        (held_is i (left_source p.node) (earlier i p e).0 (λ j low. leaves_piece j) ready.0)
        (piece_is i p e (λ j low. leaves_piece j) both s)

    pub left_pieces : AreLeft first c n old change
    left_pieces i s z is = sym (ap piece_in is) ∙ leaves_piece i s (ap has_run is)

  pub any_order : AreEarlier c → AnyOrderGives c n Skipped (step first c n old change)
  any_order earlier = whole_played c n Skipped (step first c n old change) (playable earlier)
