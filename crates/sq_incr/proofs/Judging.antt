-- What all tasks of an order tell together: none is missing, or the first one; and which view is to blame.
use Rattle.std.proofs.Common.{◌≡◌, ℕ, zero, suc, ◌<◌, ◌+◌, ◌&&◌, ◌||◌, Bool, true, false, not, cond, List, [], ◌∷◌, ◌++◌, length, take, ℤ, Some, None, refl, sym, ap, ap₂, subst, ◌∙◌, arith}
use Rattle.std.specs.Prelude.{Option, is_some, slice_get}
use Rattle.std.specs.List.{Contains, list_all, list_any}
use Rattle.std.proofs.lemmas.Bool.{and_from, and_parts}
use Rattle.std.proofs.lemmas.Option.{same_Some, slice_get_within}
use mathlib.Core.Logic.{inl, inr}
use Rattle.sq_expr.proofs.Lists.{take_more}
use Rattle.sq_circuit.specs.Along.{least_below, lesser}
use Rattle.sq_circuit.specs.Circuits.{are_sound, has_fault, is_sound, owner_at, place_at, place_in, table_at, verdict, whole, lists_too_many}
use Rattle.sq_circuit.specs.Invariant.{IsCircuit}
use Rattle.sq_circuit.specs.Nodes.{Rows, Inner}
use Rattle.sq_circuit.specs.Verdicts.{source_sound}
use Rattle.sq_circuit.specs.declared.circuit.Part.{Part}
use Rattle.sq_states.specs.declared.kept.NodeState.{NodeState}
use Rattle.sq_incr.specs.Ends.{IsFirstOpen, blamed_owner}
use Rattle.sq_incr.specs.Inputs.{IsChange}
use Rattle.sq_incr.specs.Orders.{IsBefore, IsFirstMissing, IsInRange, IsWhole}
use Rattle.sq_incr.specs.Outcomes.{is_faulty, outcome}
use Rattle.sq_incr.specs.Ready.{IsReady}
use Rattle.sq_incr.specs.Slots.{AreNoted, Tells, is_broken, is_done, is_run, is_to_blame}
use Rattle.sq_incr.specs.declared.store.Slot.{Slot}
use Rattle.sq_incr.specs.declared.store.Slot.TheVariants.{Open, Skipped, Broken, Ran}
use Rattle.sq_incr.specs.declared.task.Task.{Task}
use Rattle.sq_incr.proofs.Blaming.{told_verdict}
use Rattle.sq_incr.proofs.Noting.{at_all_places, there_is}
use Rattle.sq_incr.proofs.Ordering.{contains_in, got_taken, in_contains}
use Rattle.sq_incr.proofs.Summing.{blamed_as, fails_at, fault_is, sound_as, the_part}
use Rattle.sq_incr.proofs.Taking.{earlier, tick}
use Rattle.sq_incr.proofs.Testing.{are_tested, not_faulty}

-- ---- lists
all_push : {A : Type 0} (p : A → Bool) (xs : List A) (x : A) → list_all p xs ≡ true → p x ≡ true → list_all p (xs ++ x ∷ []) ≡ true
all_push p [] x h e = and_from (p x) true e refl
all_push p (y ∷ xs) x h e = let both = and_parts (p y) (list_all p xs) h in and_from (p y) (list_all p (xs ++ x ∷ [])) both.0 (all_push p xs x both.1 e)

pub one_more_all : {A : Type 0} (p : A → Bool) (xs : List A) (k : ℕ) (x : A) → slice_get xs k ≡ Some x → list_all p (take k xs) ≡ true → p x ≡ true → list_all p (take (k + 1) xs) ≡ true
one_more_all p xs k x at h e = ap (list_all p) (take_more xs k x at) ∙ all_push p (take k xs) x h e

some_at : {A : Type 0} (p : A → Bool) (xs : List A) → list_any p xs ≡ true → (s : ℕ) × (x : A) × (slice_get xs s ≡ Some x) × (p x ≡ true)
some_at {A = A} p [] e = absurd (cc e)
some_at {A = A} p (x ∷ xs) e = at (p x) refl e (some_at p xs)
  where
    at : (b : Bool) → p x ≡ b → (b || list_any p xs) ≡ true → (list_any p xs ≡ true → (s : ℕ) × (y : A) × (slice_get xs s ≡ Some y) × (p y ≡ true)) → (s : ℕ) × (y : A) × (slice_get (x ∷ xs) s ≡ Some y) × (p y ≡ true)
    at true is h rest = (0, x, refl, is)
    at false is h rest = let later = rest h in (suc later.0, later.1, later.2, later.3)

none_at : {A : Type 0} (p : A → Bool) (xs : List A) → list_any p xs ≡ false → (s : ℕ) (x : A) → slice_get xs s ≡ Some x → p x ≡ false
none_at {A = A} p [] e s x got = absurd (cc got)
none_at {A = A} p (y ∷ xs) e s x got = at (p y) refl e s got (none_at p xs)
  where
    at : (b : Bool) → p y ≡ b → (b || list_any p xs) ≡ false → (s : ℕ) → slice_get (y ∷ xs) s ≡ Some x → (list_any p xs ≡ false → (s : ℕ) (z : A) → slice_get xs s ≡ Some z → p z ≡ false) → p x ≡ false
    at true is h s there rest = absurd (cc h)
    at false is h zero there rest = subst (λ z. p z ≡ false) (same_Some y x there) is
    at false is h (suc s) there rest = rest h s x there

negated : (a b : Bool) → a ≡ not b → a ≡ false → b ≡ true
negated a true is e = refl
negated a false is e = absurd (let same = sym e ∙ is in cc same)

negated_too : (a b : Bool) → a ≡ not b → a ≡ true → b ≡ false
negated_too a true is e = absurd (let same = sym e ∙ is in cc same)
negated_too a false is e = refl

module _ {c : List Part} (circuit : IsCircuit c) {states : List (List NodeState)} {totals : List ℤ} {changes : List Rows} {first : Bool} (r : IsReady c states totals changes first) where
  -- ---- a node
  module _ (front : List Task) (lines : List (List Slot)) (h : AreNoted r front lines) (i : ℕ) (line : List Slot) (at : slice_get lines i ≡ Some line) where
    broken_blame : (s : ℕ) (slot : Slot) → is_broken slot ≡ true → Tells r i s slot → is_to_blame r i ≡ true
    broken_blame s Open b t = absurd (cc b)
    broken_blame s Skipped b t = absurd (cc b)
    broken_blame s Broken b t = t
    broken_blame s (Ran piece) b t = absurd (cc b)

    idle_fine : (s : ℕ) (slot : Slot) → is_done slot ≡ true → is_run slot ≡ false → is_broken slot ≡ false → Tells r i s slot → is_to_blame r i ≡ false
    idle_fine s Open d n b t = absurd (cc d)
    idle_fine s Skipped d n b t = ap (λ v. v && has_fault c r.new i) t
    idle_fine s Broken d n b t = absurd (cc b)
    idle_fine s (Ran piece) d n b t = absurd (cc n)

    pub idle_blame : list_all is_done line ≡ true → list_all is_run line ≡ false → list_any is_broken line ≡ is_to_blame r i
    idle_blame done idle = by_any (list_any is_broken line) refl
      where
        by_any : (b : Bool) → list_any is_broken line ≡ b → list_any is_broken line ≡ is_to_blame r i
        by_any true some =
            let found = some_at is_broken line some in
            some ∙ sym (broken_blame found.0 found.1 found.3 (h.each i found.0 line found.1 at found.2).tells)
        by_any false none =
            let found = fails_at is_run line idle in
            none ∙ sym (idle_fine found.0 found.1 (at_all_places is_done line done found.0 found.1 found.2) found.3 (none_at is_broken line none found.0 found.1 found.2) (h.each i found.0 line found.1 at found.2).tells)

    module _ (all : list_all is_run line ≡ true) where
      pub no_place_blame : place_at c i ≡ false → false ≡ is_to_blame r i
      no_place_blame none =
          let part = the_part circuit r front lines h i line at in
          sym (blamed_as circuit r front lines h i line at all ∙ fault_is circuit r front lines h i line at all part.0 part.1 ∙ ap (λ b. b && lists_too_many (whole c r.new i)) (sym (ap place_in part.1) ∙ none))

      pub run_blame : (o : Option Rows) → IsChange r (Inner i) o → (b : Bool) → is_some o ≡ not b → b ≡ is_to_blame r i
      run_blame None told b is = negated false b is refl ∙ sym (blamed_as circuit r front lines h i line at all ∙ negated (is_sound c r.new i) (has_fault c r.new i) (sound_as circuit r front lines h i line at all) told)
      run_blame (Some z) told b is = negated_too true b is refl ∙ sym (blamed_as circuit r front lines h i line at all ∙ negated_too (is_sound c r.new i) (has_fault c r.new i) (sound_as circuit r front lines h i line at all) told.sound)

  -- ---- the verdict
  pub one_more_owner : (i : ℕ) (least answer : Option ℕ) (bad : Bool) (owner : Option ℕ) → least ≡ least_below (blamed_owner r) i → bad ≡ is_to_blame r i → owner ≡ owner_at c i → answer ≡ lesser least (cond bad owner None) → answer ≡ least_below (blamed_owner r) (i + 1)
  one_more_owner i least answer bad owner before is of now =
      let next : suc i ≡ i + 1 = omega arith in
      subst (λ k. answer ≡ least_below (blamed_owner r) k) next (now ∙ ap₂ (λ a b. lesser a b) before (ap₂ (λ b o. cond b o None) is of))

  abbrev tells : ℕ → Option ℕ
  tells i = cond (is_faulty first c (length states) r.old (table_at changes) (outcome first c (length states) r.old (table_at changes)) i) (owner_at c i) None

  least_same : (f g : ℕ → Option ℕ) (n : ℕ) → ((i : ℕ) → i < n → f i ≡ g i) → least_below f n ≡ least_below g n
  least_same f g zero same = refl
  least_same f g (suc n) same = ap₂ (λ a b. lesser a b) (least_same f g n (λ i low. same i (omega (arith, low)))) (same n (omega arith))

  blamed_same : (i : ℕ) (p : Part) → slice_get c i ≡ Some p → is_to_blame r i ≡ is_faulty first c (length states) r.old (table_at changes) (outcome first c (length states) r.old (table_at changes)) i
  blamed_same i p e = by_sound (are_sound (Some p) (source_sound c r.new)) refl
    where
      by_sound : (b : Bool) → are_sound (Some p) (source_sound c r.new) ≡ b → is_to_blame r i ≡ is_faulty first c (length states) r.old (table_at changes) (outcome first c (length states) r.old (table_at changes)) i
      by_sound true sound =
          ap (λ b. b && has_fault c r.new i) (ap (λ o. are_sound o (source_sound c r.new)) e ∙ sound)
          ∙ sym ((are_tested first c (length states) r.some r.old (table_at changes) (earlier circuit r) r.new r.changed i p e).told sound)
      by_sound false unsound =
          ap (λ b. b && has_fault c r.new i) (ap (λ o. are_sound o (source_sound c r.new)) e ∙ unsound)
          ∙ sym (not_faulty first c (length states) r.some r.old (table_at changes) (earlier circuit r) r.new r.changed i p e unsound)

  pub blamed_verdict : least_below (blamed_owner r) (length c) ≡ verdict c r.new
  blamed_verdict =
      least_same (blamed_owner r) tells (length c) (λ i low. let part = there_is c i low in ap (λ b. cond b (owner_at c i) None) (blamed_same i part.0 part.1))
      ∙ told_verdict first c (length states) r.old (table_at changes) r.new (tick circuit r)

  -- ---- what is missing
  module _ (order : List Task) (lines : List (List Slot)) (h : AreNoted r order lines) where
    slot_contained : (u : Task) (line : List Slot) (slot : Slot) → slice_get lines u.node ≡ Some line → slice_get line u.shard ≡ Some slot → is_done slot ≡ true → Contains order u
    slot_contained u line slot at here done = in_contains order u (sym (h.each u.node u.shard line slot at here).played ∙ done)

    line_at : (u : Task) → IsInRange c (length states) u → (line : List Slot) × (slice_get lines u.node ≡ Some line)
    line_at u there = there_is lines u.node (subst (λ k. u.node < k) (sym h.count) there.low)

    slot_at : (u : Task) → IsInRange c (length states) u → (line : List Slot) → slice_get lines u.node ≡ Some line → (slot : Slot) × (slice_get line u.shard ≡ Some slot)
    slot_at u there line at = there_is line u.shard (subst (λ k. u.shard < k) (sym (h.wide u.node line at)) there.inside)

    pub whole_if : list_all (list_all is_done) lines ≡ true → IsWhole c (length states) order
    whole_if done u there =
        let line = line_at u there in
        let slot = slot_at u there line.0 line.1 in
        slot_contained u line.0 slot.0 line.1 slot.1 (at_all_places is_done line.0 (at_all_places (list_all is_done) lines done u.node line.0 line.1) u.shard slot.0 slot.1)

    module _ (t : Task) (f : IsFirstOpen lines t) where
      before_it : (u : Task) → IsInRange c (length states) u → IsBefore u t → Contains order u
      before_it u there (inl less) =
          let line = line_at u there in
          let slot = slot_at u there line.0 line.1 in
          slot_contained u line.0 slot.0 line.1 slot.1
          (at_all_places is_done line.0 (at_all_places (list_all is_done) (take t.node lines) f.before u.node line.0 (got_taken lines t.node u.node less ∙ line.1)) u.shard slot.0 slot.1)
      before_it u there (inr both) =
          let at = ap (slice_get lines) both.0 ∙ f.at in
          let slot = slot_at u there f.line at in
          slot_contained u f.line slot.0 at slot.1 (at_all_places is_done (take t.shard f.line) f.here.before u.shard slot.0 (got_taken f.line t.shard u.shard both.1 ∙ slot.1))

      pub missing_first : IsFirstMissing c (length states) order t
      missing_first = record {
        in_range = record {
          low = subst (λ k. t.node < k) h.count (slice_get_within lines t.node f.line f.at);
          inside = subst (λ k. t.shard < k) (h.wide t.node f.line f.at) (slice_get_within f.line t.shard f.here.slot f.here.at);
        };
        missing = λ there. (let same = sym (contains_in order t there) ∙ sym (h.each t.node t.shard f.line f.here.slot f.at f.here.at).played ∙ f.here.fresh in absurd (cc same));
        before = before_it;
      }
