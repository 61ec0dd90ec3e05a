-- What the tasks of a node tell together: its change, whether it is sound over the new tables, and whether it is to blame.
use Rattle.std.proofs.Common.{◌≡◌, ℕ, suc, ◌<◌, ◌^◌, ◌&&◌, ◌||◌, Bool, true, false, not, cond, List, [], ◌∷◌, length, map, ℤ, pos, ◌+ℤ◌, Some, None, refl, sym, ap, ap₂, subst, ◌∙◌, arith}
use Rattle.std.specs.Prelude.{Option, int_lt, slice_get}
use Rattle.std.specs.List.{list_all}
use Rattle.std.proofs.lemmas.Bool.{and_parts}
use Rattle.std.proofs.lemmas.Option.{same_Some, slice_get_within}
use Rattle.sq_value.specs.Order.{row_cmp}
use Rattle.sq_algebra.specs.Groups.{sum_over, z_sets}
use Rattle.sq_algebra.specs.Keyed.{cut, numbers_below}
use Rattle.sq_algebra.specs.ZSet.{minus, total}
use Rattle.sq_algebra.proofs.AbelianLemmas.{plus-minus_left, sum_over-map}
use Rattle.sq_algebra.proofs.AnyLemmas.{none_of_all, or_false}
use Rattle.std.proofs.lemmas.List.Elements.{recursion_from_All}
use Rattle.sq_zset.proofs.Rows.{total-plus}
use Rattle.sq_zset.specs.GroupLaws.{rows_are_abelian}
use Rattle.sq_zset.specs.Range.{IsInRange}
use Rattle.sq_circuit.specs.Circuits.{has_fault, has_number_outside, is_sound, lists_too_many, place_at, place_in, table_at, whole, whole_from}
use Rattle.sq_circuit.specs.Costs.{before}
use Rattle.sq_circuit.specs.Invariant.{IsCircuit}
use Rattle.sq_circuit.specs.Nodes.{Rows, Source, Nowhere, Outer, Inner, none, left_key, left_source}
use Rattle.sq_circuit.specs.declared.circuit.Part.{Part}
use Rattle.sq_circuit.proofs.Composing.{pieces_add_up}
use Rattle.sq_circuit.proofs.Evaluating.{fault_at, sound_is}
use Rattle.sq_shard.proofs.Parting.{numbers_are}
use Rattle.sq_shard.specs.Shards.{shards}
use Rattle.sq_states.specs.declared.kept.NodeState.{NodeState}
use Rattle.sq_states.specs.declared.piece.Piece.{Piece}
use Rattle.sq_incr.specs.Inputs.{IsChange, IsSum, Rises, fitting, is_full, source_of, summed}
use Rattle.sq_incr.specs.Ready.{IsReady, change_at, old_at}
use Rattle.sq_incr.specs.Slots.{AreNoted, HasRun, Tells, change_in, is_done, is_readable, is_run, is_to_blame, part_outside, piece_at}
use Rattle.sq_incr.specs.declared.inputs.Input.{Input}
use Rattle.sq_incr.specs.declared.store.Slot.{Slot}
use Rattle.sq_incr.specs.declared.store.Slot.TheVariants.{Open, Skipped, Broken, Ran}
use Rattle.sq_incr.specs.declared.task.Task.{Task}
use Rattle.sq_incr.proofs.Fitting.{node_change_fits}
use Rattle.sq_incr.proofs.Noting.{at_all_places, there_is}
use Rattle.sq_incr.proofs.Ordering.{got_number, length-numbers}
use Rattle.sq_incr.proofs.Outside.{numbers_over_shards}
use Rattle.sq_incr.proofs.Sharing.{each_shard}
use Rattle.sq_incr.proofs.Testing.{and_true}
use Rattle.sq_incr.proofs.Taking.{earlier, now_is, was_sound}

-- ---- lists
-- a list of members is one of numbers, if it is place by place
module _ {A : Type 0} (f : A → Rows) (g : ℕ → Rows) where
  maps_same : (xs : List A) (ns : List ℕ) → length xs ≡ length ns → ((s : ℕ) (x : A) (k : ℕ) → slice_get xs s ≡ Some x → slice_get ns s ≡ Some k → f x ≡ g k) → map f xs ≡ map g ns
  maps_same [] [] long same = refl
  maps_same [] (k ∷ ns) long same = absurd (omega (arith, long))
  maps_same (x ∷ xs) [] long same = absurd (omega (arith, long))
  maps_same (x ∷ xs) (k ∷ ns) long same = ap₂ (λ y ys. y ∷ ys) (same 0 x k refl refl) (maps_same xs ns (omega (arith, long)) (λ s a b e f. same (suc s) a b e f))

  maps_by_place : (xs : List A) (n : ℕ) → length xs ≡ n → ((s : ℕ) (x : A) → slice_get xs s ≡ Some x → f x ≡ g s) → map f xs ≡ map g (numbers_below n)
  maps_by_place xs n long same = maps_same xs (numbers_below n) (long ∙ sym (length-numbers n)) (λ s x k e number.
      let low : s < n = subst (λ m. s < m) (length-numbers n) (slice_get_within (numbers_below n) s k number) in
      same s x e ∙ ap g (same_Some s k (sym (got_number n s low) ∙ number)))

pub fails_at : {A : Type 0} (p : A → Bool) (xs : List A) → list_all p xs ≡ false → (s : ℕ) × (x : A) × (slice_get xs s ≡ Some x) × (p x ≡ false)
fails_at {A = A} p [] e = absurd (cc e)
fails_at {A = A} p (x ∷ xs) e = at (p x) refl e (fails_at p xs)
  where
    at : (b : Bool) → p x ≡ b → (b && list_all p xs) ≡ false → (list_all p xs ≡ false → (s : ℕ) × (y : A) × (slice_get xs s ≡ Some y) × (p y ≡ false)) → (s : ℕ) × (y : A) × (slice_get (x ∷ xs) s ≡ Some y) × (p y ≡ false)
    at true is idle rest = let later = rest idle in (suc later.0, later.1, later.2, later.3)
    at false is idle rest = (0, x, refl, is)

and_false : (a b : Bool) → b ≡ false → (a && b) ≡ false
and_false true b e = e
and_false false b e = refl

module _ {c : List Part} (circuit : IsCircuit c) {states : List (List NodeState)} {totals : List ℤ} {changes : List Rows} {first : Bool} (r : IsReady c states totals changes first) (front : List Task) (lines : List (List Slot)) (h : AreNoted r front lines) (i : ℕ) (line : List Slot) (at : slice_get lines i ≡ Some line) where
  abbrev n : ℕ
  n = length states

  pub record RanAt (s : ℕ) (slot : Slot) : Type 0 where
    pub piece : Piece
    pub is : slot ≡ Ran piece
    pub run : HasRun r i s piece

  ran_slot : (s : ℕ) (slot : Slot) → is_run slot ≡ true → Tells r i s slot → RanAt s slot
  ran_slot s Open run t = absurd (cc run)
  ran_slot s Skipped run t = absurd (cc run)
  ran_slot s Broken run t = absurd (cc run)
  ran_slot s (Ran piece) run t = record { piece = piece; is = refl; run = t }

  -- ---- all of them ran
  module _ (all : list_all is_run line ≡ true) where
    ran_at : (s : ℕ) (slot : Slot) → slice_get line s ≡ Some slot → RanAt s slot
    ran_at s slot e = ran_slot s slot (at_all_places is_run line all s slot e) (h.each i s line slot at e).tells

    at_shard : (s : ℕ) → s < n → (piece : Piece) × HasRun r i s piece
    at_shard s low =
        let wide = h.wide i line at in
        let here = there_is line s (omega (arith, wide, low)) in
        ((ran_at s here.0 here.1).piece, (ran_at s here.0 here.1).run)

    pub readable : is_readable r i ≡ true
    readable = (at_shard 0 r.some).1.readable

    changes_are : map change_in line ≡ map (piece_at r i) (numbers_below n)
    changes_are = maps_by_place change_in (piece_at r i) line n (h.wide i line at) (λ s slot e. ap change_in (ran_at s slot e).is ∙ (ran_at s slot e).run.made.change)

    pub sum_is : summed line ≡ change_at r (Inner i)
    sum_is =
        ap (sum_over (z_sets row_cmp) (λ y. y)) changes_are
        ∙ sum_over-map (z_sets row_cmp) (λ y. y) (piece_at r i) (numbers_below n)
        ∙ ap (sum_over (z_sets row_cmp) (piece_at r i)) (sym (numbers_are n r.some))
        ∙ pieces_add_up first c (earlier circuit r) (shards n) r.old (table_at changes) r.new r.changed i

    outside_none : (p : Part) → slice_get c i ≡ Some p → has_number_outside p.node (whole_from c r.new (left_source p.node)) ≡ false
    outside_none p e =
        sym (numbers_over_shards (shards n) p.node (whole_from c r.new (left_source p.node)))
        ∙ none_of_all (λ s. has_number_outside p.node (cut (shards n) (left_key p.node) s (whole_from c r.new (left_source p.node)))) (shards n).numbers
        (recursion_from_All (λ s. has_number_outside p.node (cut (shards n) (left_key p.node) s (whole_from c r.new (left_source p.node))) ≡ false) (shards n).numbers
        (each_shard (λ s. has_number_outside p.node (cut (shards n) (left_key p.node) s (whole_from c r.new (left_source p.node))) ≡ false) n r.some
        (λ s low. subst (λ o. part_outside r o s ≡ false) e (at_shard s low).1.inside)))

    total_is : (t : ℤ) → t ≡ total (old_at r (Inner i)) → (z : Rows) → z ≡ summed line → t +ℤ total z ≡ total (whole c r.new i)
    total_is t old z is =
        ap₂ (λ a b. a +ℤ b) old (ap total (is ∙ sum_is))
        ∙ sym (total-plus (old_at r (Inner i)) (change_at r (Inner i)))
        ∙ ap total (now_is circuit r (Inner i))

    pub fault_is : (p : Part) → slice_get c i ≡ Some p → has_fault c r.new i ≡ (p.place && lists_too_many (whole c r.new i))
    fault_is p e = fault_at c (earlier circuit r) r.new i p e ∙ ap (λ b. (p.place && lists_too_many (whole c r.new i)) || b) (outside_none p e) ∙ or_false (p.place && lists_too_many (whole c r.new i))

    full_is : (p : Part) → slice_get c i ≡ Some p → (t : ℤ) → t ≡ total (old_at r (Inner i)) → (z : Rows) → z ≡ summed line → is_full (place_at c i) t z ≡ has_fault c r.new i
    full_is p e t old z is = ap₂ (λ b m. b && int_lt (pos (2 ^ 61)) m) (ap place_in e) (total_is t old z is) ∙ sym (fault_is p e)

    pub sound_as : is_sound c r.new i ≡ not (has_fault c r.new i)
    sound_as = sound_is c (earlier circuit r) r.new i ∙ ap (λ b. not (has_fault c r.new i) && b) readable ∙ and_true (not (has_fault c r.new i))

    pub blamed_as : is_to_blame r i ≡ has_fault c r.new i
    blamed_as = ap (λ b. b && has_fault c r.new i) readable

  -- ---- some did not run
  unsound_from : (s : ℕ) (slot : Slot) → is_done slot ≡ true → is_run slot ≡ false → Tells r i s slot → is_sound c r.new i ≡ false
  unsound_from s Open done idle t = absurd (cc done)
  unsound_from s Skipped done idle t = sound_is c (earlier circuit r) r.new i ∙ and_false (not (has_fault c r.new i)) (is_readable r i) t
  unsound_from s Broken done idle t =
      sound_is c (earlier circuit r) r.new i ∙ ap (λ b. not b && is_readable r i) (and_parts (is_readable r i) (has_fault c r.new i) t).1
  unsound_from s (Ran piece) done idle t = absurd (cc idle)

  -- ---- what they tell
  pub the_part : (p : Part) × (slice_get c i ≡ Some p)
  the_part = there_is c i (let low = slice_get_within lines i line at in let long = h.count in omega (arith, low, long))

  module _ (done : list_all is_done line ≡ true) where
    idle_unsound : list_all is_run line ≡ false → is_sound c r.new i ≡ false
    idle_unsound idle =
        let found = fails_at is_run line idle in
        unsound_from found.0 found.1 (at_all_places is_done line done found.0 found.1 found.2) found.3 (h.each i found.0 line found.1 at found.2).tells

    pub no_sum : IsSum line None → is_sound c r.new i ≡ false
    no_sum over = by_run (list_all is_run line) refl
      where
        by_sound : list_all is_run line ≡ true → (b : Bool) → is_sound c r.new i ≡ b → is_sound c r.new i ≡ false
        by_sound all false is = is
        by_sound all true is = absurd (over all (subst IsInRange (sym (sum_is all))
            (node_change_fits c circuit first r.old r.new i the_part.0 the_part.1 (record { good = r.good; sound = is }) (λ later. was_sound circuit r later i the_part.0 the_part.1))))

        by_run : (b : Bool) → list_all is_run line ≡ b → is_sound c r.new i ≡ false
        by_run true all = by_sound all (is_sound c r.new i) refl
        by_run false idle = idle_unsound idle

    module _ (t : ℤ) (got : slice_get totals i ≡ Some t) (z : Rows) (sum : IsSum line (Some z)) where
      pub full_unsound : is_full (place_at c i) t z ≡ true → is_sound c r.new i ≡ false
      full_unsound full = sound_as sum.0 ∙ ap not (sym (full_is sum.0 the_part.0 the_part.1 t (r.keeps.total_of i t got) z sum.1) ∙ full)

      pub rises : is_full (place_at c i) t z ≡ false → Rises r (Inner i) z
      rises fits = record {
        sound = sound_as sum.0 ∙ ap not (sym (full_is sum.0 the_part.0 the_part.1 t (r.keeps.total_of i t got) z sum.1) ∙ fits);
        is = sum.1 ∙ sum_is sum.0;
      }

      by_full : (b : Bool) → is_full (place_at c i) t z ≡ b → IsChange r (Inner i) (cond b None (Some z))
      by_full true full = full_unsound full
      by_full false fits = rises fits

    pub change_told : (t : ℤ) → slice_get totals i ≡ Some t → (o : Option Rows) → IsSum line o → IsChange r (Inner i) (fitting (place_at c i) t o)
    change_told t got None sum = no_sum sum
    change_told t got (Some z) sum = by_full t got z sum (is_full (place_at c i) t z) refl

-- ---- other sources
module _ {c : List Part} {states : List (List NodeState)} {totals : List ℤ} {changes : List Rows} {first : Bool} (r : IsReady c states totals changes first) where
  none_before : (b : Bool) → minus none (before b none) ≡ none
  none_before true = rows_are_abelian.inverse none
  none_before false = rows_are_abelian.inverse none

  pub nothing_rises : (z : Rows) → z ≡ none → Rises r Nowhere z
  nothing_rises z is = record { sound = refl; is = is ∙ sym (none_before first) }

  pub table_rises : (t : ℕ) (z : Rows) → z ≡ table_at changes t → Rises r (Outer t) z
  table_rises t z is = record { sound = refl; is = is ∙ sym (ap (λ y. minus y (old_at r (Outer t))) (r.changed t) ∙ plus-minus_left (z_sets row_cmp) rows_are_abelian (old_at r (Outer t)) (table_at changes t)) }

  pub as_input : (input : Input) (s : Source) → source_of input ≡ s → (o : Option Rows) → IsChange r s o → IsChange r (source_of input) o
  as_input input s is o told = subst (λ s. IsChange r s o) (sym is) told

module _ {c : List Part} (circuit : IsCircuit c) {states : List (List NodeState)} {totals : List ℤ} {changes : List Rows} {first : Bool} (r : IsReady c states totals changes first) (front : List Task) (lines : List (List Slot)) (h : AreNoted r front lines) where
  pub change_answered : (i : ℕ) (line : List Slot) → slice_get lines i ≡ Some line → ((other : List Slot) → slice_get lines i ≡ Some other → list_all is_done other ≡ true) → (t : ℤ) → slice_get totals i ≡ Some t
      → (place : Bool) → place ≡ place_at c i → (o : Option Rows) → IsSum line o → (answer : Option Rows) → answer ≡ fitting place t o → IsChange r (Inner i) answer
  change_answered i line at done t got place is o sum answer answered =
      subst (IsChange r (Inner i)) (sym (answered ∙ ap (λ b. fitting b t o) is)) (change_told circuit r front lines h i line at (done line at) t got o sum)
