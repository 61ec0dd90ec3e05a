-- The tests of a node over all shards find a fault exactly where it has one over the new tables, if what it reads is sound.
use Rattle.std.proofs.Common.{◌≡◌, ℕ, zero, suc, ◌<◌, ◌^◌, Bool, true, false, not, ◌&&◌, ◌||◌, cond, List, [], ◌∷◌, ◌++◌, Some, None, refl, sym, ap, ap₂, ◌∙◌, arith, pos}
use Rattle.std.specs.Prelude.{Option, pred, slice_get, int_lt, ◌+ℤ◌}
use Rattle.std.specs.List.{list_all, list_any}
use Rattle.std.proofs.lemmas.List.Elements.{All-weaker}
use Rattle.sq_value.specs.Order.{row_cmp}
use Rattle.sq_algebra.specs.Groups.{integers, z_sets}
use Rattle.sq_algebra.specs.Keyed.{cut, numbers_below}
use Rattle.sq_algebra.specs.ZSet.{minus, plus, total}
use Rattle.sq_algebra.proofs.AbelianLemmas.{additive-sum_over, neutral_right, plus-minus_back, sum_over_agree_at}
use Rattle.sq_algebra.proofs.AnyLemmas.{any_same}
use Rattle.sq_zset.proofs.Rows.{total-plus}
use Rattle.sq_zset.proofs.RowOperators.{total-IsAdditive}
use Rattle.sq_zset.specs.GroupLaws.{integers_are_abelian, rows_are_abelian}
use Rattle.sq_circuit.specs.Circuits.{are_sound, fault_of, has_fault, has_number_outside, is_sound, lists_too_many, place_in, whole, whole_from}
use Rattle.sq_circuit.specs.Costs.{before}
use Rattle.sq_circuit.specs.Invariant.{AreEarlier, IsEarlier}
use Rattle.sq_circuit.specs.Nodes.{Rows, Source, Nowhere, Outer, Inner, left_key, left_source, none, right_source}
use Rattle.sq_circuit.specs.Pieces.{AreChanged, held_now, piece_of, pieces}
use Rattle.sq_circuit.specs.Verdicts.{source_sound}
use Rattle.sq_circuit.specs.declared.circuit.Part.{Part}
use Rattle.sq_circuit.proofs.Composing.{pieces_add_up}
use Rattle.sq_circuit.proofs.Evaluating.{fault_at, sound_at, sound_is}
use Rattle.sq_shard.specs.Shards.{shards}
use Rattle.sq_incr.specs.Outcomes.{AreTested, Broken, Ran, Skipped, Store, TotalsRise, breaks, has_run, holds_too_many, is_broken, is_clear, is_faulty, is_ready, outcome, pieces_in, ran_everywhere, total_now}
use Rattle.sq_incr.proofs.Outside.{none_false, numbers_over_shards}
use Rattle.sq_incr.proofs.Running.{leaves_piece, outcome_at, ready_outcome}
use Rattle.sq_incr.proofs.Sharing.{all_pass}

-- ---- truth values
not_all : {A : Type 0} (xs : List A) (x : A) → list_all (λ x. false) (xs ++ x ∷ []) ≡ false
not_all [] x = refl
not_all (y ∷ ys) x = refl

all_true : {A : Type 0} (xs : List A) → list_all (λ x. true) xs ≡ true
all_true [] = refl
all_true (x ∷ xs) = all_true xs

all_or_any : {A : Type 0} (p q : A → Bool) (xs : List A) → ((x : A) → p x ≡ not (q x)) → list_all p xs ≡ not (list_any q xs)
all_or_any p q [] h = refl
all_or_any p q (x ∷ xs) h = ap₂ (λ a b. a && b) (h x) (all_or_any p q xs h) ∙ meet (q x) (list_any q xs)
  where
    meet : (a b : Bool) → (not a && not b) ≡ not (a || b)
    meet true b = refl
    meet false b = refl

faulty_table : (h m k : Bool) → (h ≡ false → m ≡ k) → (h || (not h && m)) ≡ (k || h)
faulty_table true m true same = refl
faulty_table true m false same = refl
faulty_table false m true same = same refl
faulty_table false m false same = same refl

clear_table : (h m k : Bool) → (h ≡ false → m ≡ k) → (not h && not m) ≡ not (k || h)
clear_table true m true same = refl
clear_table true m false same = refl
clear_table false m true same = ap not (same refl)
clear_table false m false same = ap not (same refl)

pub and_true : (a : Bool) → (a && true) ≡ a
and_true true = refl
and_true false = refl

and_false : (a : Bool) → (a && false) ≡ false
and_false true = refl
and_false false = refl

missing_fault : (c : List Part) (tables : List Rows) (i : ℕ) → slice_get c i ≡ None → has_fault c tables i ≡ false
unfolding has_fault
missing_fault c tables i e = ap (λ o. fault_of o (whole_from c tables) (whole c tables i)) e

broken_is : (b : Bool) (z : Rows) → is_broken (cond b Broken (Ran z)) ≡ b
broken_is true z = refl
broken_is false z = refl

ran_is : (b : Bool) (z : Rows) → has_run (cond b Broken (Ran z)) ≡ not b
ran_is true z = refl
ran_is false z = refl

module _ (first : Bool) (c : List Part) (n : ℕ) (above : 0 < n) (old : List Rows) (change : ℕ → Rows) (earlier : AreEarlier c) (new : List Rows) (changed : AreChanged first old change new) where
  -- ---- what sources hold now
  pub now_is : (s : Source) → held_now first c (shards n) old change (pieces first c (shards n) old change) s ≡ whole_from c new s
  now_is Nowhere = neutral_right (z_sets row_cmp) rows_are_abelian (before first none) ∙ nothing first
    where
      nothing : (b : Bool) → before b none ≡ none
      nothing true = refl
      nothing false = refl
  now_is (Outer t) = sym (changed t)
  now_is (Inner i) =
      ap (plus (before first (whole c old i))) (pieces_add_up first c earlier (shards n) old change new changed i)
      ∙ plus-minus_back (z_sets row_cmp) rows_are_abelian (before first (whole c old i)) (whole c new i)

  abbrev out : Store
  out = outcome first c n old change

  abbrev at_all : ℕ → ℕ → Rows
  at_all = pieces first c (shards n) old change

  -- ---- the total of a node
  -- it rises by those of the pieces
  pub totals_rise : TotalsRise first c n old change new
  totals_rise i =
      ap (λ t. total (before first (whole c old i)) +ℤ t) (
      sym (additive-sum_over (z_sets row_cmp) integers rows_are_abelian integers_are_abelian total total-IsAdditive (at_all i) (shards n).numbers)
      ∙ ap total (pieces_add_up first c earlier (shards n) old change new changed i))
      ∙ sym (total-plus (before first (whole c old i)) (minus (whole c new i) (before first (whole c old i))))
      ∙ ap total (plus-minus_back (z_sets row_cmp) rows_are_abelian (before first (whole c old i)) (whole c new i))

  total_is : (i : ℕ) → ran_everywhere first c n old change out i ≡ true → total_now first c n old change out i ≡ total (whole c new i)
  total_is i ran =
      ap (λ t. total (before first (whole c old i)) +ℤ t) (
      sum_over_agree_at integers (λ s. total (pieces_in out i s)) (λ s. total (at_all i s)) (shards n).numbers
      (All-weaker (λ s. has_run (out i s) ≡ true) (λ s. total (pieces_in out i s) ≡ total (at_all i s)) (λ s runs. ap total (leaves_piece first c n above old change earlier i s runs)) (shards n).numbers
      (all_pass (λ s. has_run (out i s)) (shards n).numbers ran)))
      ∙ totals_rise i

  -- ---- a node whose sources may be read
  module _ (i : ℕ) (p : Part) (e : slice_get c i ≡ Some p) where
    abbrev outside : Bool
    outside = has_number_outside p.node (whole_from c new (left_source p.node))

    abbrev bad : ℕ → Bool
    bad s = has_number_outside p.node (cut (shards n) (left_key p.node) s (whole_from c new (left_source p.node)))

    module _ (ready : are_sound (Some p) (is_ready first c n old change out) ≡ true) where
      one_task : (s : ℕ) → out i s ≡ cond (bad s) Broken (Ran (at_all i s))
      one_task s =
          ready_outcome first c n above old change earlier i p e ready s
          ∙ ap (λ y. cond (has_number_outside p.node (cut (shards n) (left_key p.node) s y)) Broken (Ran (at_all i s))) (now_is (left_source p.node))

      some_broken : list_any (λ s. is_broken (out i s)) (shards n).numbers ≡ outside
      some_broken =
          any_same (λ s. is_broken (out i s)) bad (shards n).numbers (λ s. ap is_broken (one_task s) ∙ broken_is (bad s) (at_all i s))
          ∙ numbers_over_shards (shards n) p.node (whole_from c new (left_source p.node))

      all_ran : ran_everywhere first c n old change out i ≡ not outside
      all_ran =
          all_or_any (λ s. has_run (out i s)) bad (shards n).numbers (λ s. ap has_run (one_task s) ∙ ran_is (bad s) (at_all i s))
          ∙ ap not (numbers_over_shards (shards n) p.node (whole_from c new (left_source p.node)))

      too_many : outside ≡ false → holds_too_many first c n old change out i ≡ (p.place && lists_too_many (whole c new i))
      too_many fits = ap₂ (λ b t. b && int_lt (pos (2 ^ 61)) t) (ap place_in e) (total_is i (all_ran ∙ ap not fits))

      faulty_ready : is_faulty first c n old change out i ≡ has_fault c new i
      faulty_ready =
          ap₂ (λ a b. a || (b && holds_too_many first c n old change out i)) some_broken all_ran
          ∙ faulty_table outside (holds_too_many first c n old change out i) (p.place && lists_too_many (whole c new i)) too_many
          ∙ sym (fault_at c earlier new i p e)

      clear_ready : is_clear first c n old change out i ≡ not (has_fault c new i)
      clear_ready =
          ap (λ b. b && not (holds_too_many first c n old change out i)) all_ran
          ∙ clear_table outside (holds_too_many first c n old change out i) (p.place && lists_too_many (whole c new i)) too_many
          ∙ sym (ap not (fault_at c earlier new i p e))

    -- ---- a node whose sources may not be read
    module _ (waits : are_sound (Some p) (is_ready first c n old change out) ≡ false) where
      skipped : (s : ℕ) → out i s ≡ Skipped
      skipped s =
          outcome_at first c n above old change earlier i s (Some p) e
          ∙ ap (λ b. cond b (cond (breaks first c n old change (Some p) out s) Broken (Ran (piece_of first c (shards n) old change (Some p) (pieces_in out) s))) Skipped) waits

      clear_waits : is_clear first c n old change out i ≡ false
      clear_waits = ap (λ b. b && not (holds_too_many first c n old change out i))
          (ap (λ f. list_all f (shards n).numbers) (λ d s. has_run (skipped s d)) ∙ not_all (numbers_below (pred n)) (pred n))

  -- ---- each node
  none_there : (i : ℕ) → slice_get c i ≡ None → is_clear first c n old change out i ≡ is_sound c new i
  none_there i e =
      ap₂ (λ a b. a && not (b && int_lt (pos (2 ^ 61)) (total_now first c n old change out i)))
      (ap (λ f. list_all f (shards n).numbers) (λ d s. has_run (outcome_at first c n above old change earlier i s None e d)) ∙ all_true (shards n).numbers)
      (ap place_in e)
      ∙ sym (sound_is c earlier new i ∙ ap₂ (λ a b. not a && b) (no_fault e) (ap (λ o. are_sound o (source_sound c new)) e))
    where
      no_fault : slice_get c i ≡ None → has_fault c new i ≡ false
      no_fault e = missing_fault c new i e

  sources_are : (i : ℕ) (p : Part) → slice_get c i ≡ Some p → ((j : ℕ) → j < i → is_clear first c n old change out j ≡ is_sound c new j) → are_sound (Some p) (is_ready first c n old change out) ≡ are_sound (Some p) (source_sound c new)
  sources_are i p e same = ap₂ (λ a b. a && b) (at (left_source p.node) (earlier i p e).0) (at (right_source p.node) (earlier i p e).1)
    where
      at : (s : Source) → IsEarlier i s → is_ready first c n old change out s ≡ source_sound c new s
      at Nowhere low = refl
      at (Outer t) low = refl
      at (Inner j) low = same j low

  clear_at : (i : ℕ) (p : Part) → slice_get c i ≡ Some p → ((j : ℕ) → j < i → is_clear first c n old change out j ≡ is_sound c new j) → is_clear first c n old change out i ≡ is_sound c new i
  clear_at i p e same = at (are_sound (Some p) (is_ready first c n old change out)) refl ∙ sym (sound_at c earlier new i p e)
    where
      at : (b : Bool) → are_sound (Some p) (is_ready first c n old change out) ≡ b → is_clear first c n old change out i ≡ not (has_fault c new i) && are_sound (Some p) (source_sound c new)
      at true ready = clear_ready i p e ready ∙ sym (ap (λ b. not (has_fault c new i) && b) (sym (sources_are i p e same) ∙ ready) ∙ and_true (not (has_fault c new i)))
      at false waits = clear_waits i p e waits ∙ sym (ap (λ b. not (has_fault c new i) && b) (sym (sources_are i p e same) ∙ waits) ∙ and_false (not (has_fault c new i)))

  clear_below : (m i : ℕ) → i < m → is_clear first c n old change out i ≡ is_sound c new i
  clear_below zero i low = absurd (omega arith)
  clear_below (suc m) i low = at (slice_get c i) refl (λ j less. clear_below m j (omega arith))
    where
      at : (o : Option Part) → slice_get c i ≡ o → ((j : ℕ) → j < i → is_clear first c n old change out j ≡ is_sound c new j) → is_clear first c n old change out i ≡ is_sound c new i
      at None e same = none_there i e
      at (Some p) e same = clear_at i p e same

  -- tasks ran everywhere without a fault exactly if the node is sound
  pub clear_is : (i : ℕ) → is_clear first c n old change out i ≡ is_sound c new i
  clear_is i = clear_below (suc i) i (omega arith)

  pub ready_is : (i : ℕ) (p : Part) → slice_get c i ≡ Some p → are_sound (Some p) (is_ready first c n old change out) ≡ are_sound (Some p) (source_sound c new)
  ready_is i p e = sources_are i p e (λ j low. clear_is j)

  pub are_tested : AreTested first c n old change new
  are_tested i p e = record {
    told = λ sound. faulty_ready i p e (ready_is i p e ∙ sound);
    skipped = λ unsound. skipped i p e (ready_is i p e ∙ unsound);
    clear = clear_is i;
  }

  -- a node whose sources are not sound tells no fault
  pub not_faulty : (i : ℕ) (p : Part) → slice_get c i ≡ Some p → are_sound (Some p) (source_sound c new) ≡ false → is_faulty first c n old change out i ≡ false
  not_faulty i p e unsound =
      ap₂ (λ f g. list_any f (shards n).numbers || (list_all g (shards n).numbers && holds_too_many first c n old change out i)) (λ d s. is_broken (skips s d)) (λ d s. has_run (skips s d))
      ∙ ap₂ (λ a b. a || (b && holds_too_many first c n old change out i)) (none_false (shards n).numbers) (not_all (numbers_below (pred n)) (pred n))
    where
      skips : (s : ℕ) → out i s ≡ Skipped
      skips = skipped i p e (ready_is i p e ∙ unsound)
