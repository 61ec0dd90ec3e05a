-- What `play` answers, from what all tasks tell.
use Rattle.std.proofs.Common.{◌≡◌, ℕ, ◌<◌, true, false, not, List, get_or, length, ℤ, Some, None, refl, sym, ap, subst, ◌∙◌}
use Rattle.std.specs.Prelude.{Option, slice_get}
use Rattle.std.specs.List.{list_all}
use Rattle.std.proofs.lemmas.Bool.{and_parts}
use Rattle.std.proofs.lemmas.Option.{slice_get_within}
use Rattle.sq_circuit.specs.Along.{least_below}
use Rattle.sq_circuit.specs.Circuits.{has_fault, verdict}
use Rattle.sq_circuit.specs.Invariant.{IsCircuit}
use Rattle.sq_circuit.specs.declared.circuit.Part.{Part}
use Rattle.sq_circuit.proofs.Evaluating.{sound_is}
use Rattle.sq_circuit.proofs.Owning.{all_sound, no_fault}
use Rattle.sq_incr.specs.Ends.{IsFirstOpen, blamed_owner}
use Rattle.sq_incr.specs.Played.{AreAllRun, CanJudge, IsPlayed, IsRefused, IsShort}
use Rattle.sq_incr.specs.Plays.{HaveShape}
use Rattle.sq_incr.specs.Slots.{Tells, is_done, is_readable, is_run}
use Rattle.sq_incr.specs.declared.store.Slot.{Slot}
use Rattle.sq_incr.specs.declared.store.Slot.TheVariants.{Open, Skipped, Broken, Ran}
use Rattle.sq_incr.specs.declared.task.Task.{Task}
use Rattle.sq_incr.proofs.Judging.{blamed_verdict, missing_first, whole_if}
use Rattle.sq_incr.proofs.Noting.{at_all_places, got_at, there_is}
use Rattle.sq_incr.proofs.Taking.{earlier}

-- ---- a piece
pub line_got : (items lines : List (List Slot)) → items ≡ lines → (i : ℕ) → i < length lines → (x : List Slot) → x ≡ get_or items i x → slice_get lines i ≡ Some x
line_got items lines same i low x is = got_at lines i x low (is ∙ ap (λ xs. get_or xs i x) same)

pub not_run : (items lines : List (List Slot)) → items ≡ lines → AreAllRun items → (i s : ℕ) (line : List Slot) (slot : Slot) → slice_get lines i ≡ Some line → slice_get line s ≡ Some slot → (other : Slot) → slot ≡ other → is_run other ≡ false → ⊥
not_run items lines same all i s line slot at here other is idle = let run = all i s line slot (ap (λ xs. slice_get xs i) same ∙ at) here in absurd (let two = sym run ∙ ap is_run is ∙ idle in cc two)

module _ {c : List Part} (circuit : IsCircuit c) {totals : List ℤ} {n : ℕ} {lines : List (List Slot)} (b : CanJudge c totals n lines) where
  pub shape_is : HaveShape (length c) n lines
  shape_is = record { count = b.noted.count; wide = λ i line at. b.noted.wide i line at ∙ b.many }

  pub is_short : (t : Task) → IsFirstOpen lines t → IsShort c (length b.states) b.order t
  is_short t f = record { legal = b.legal; missing = missing_first circuit b.ready b.order lines b.noted t f }

  module _ (done : list_all (list_all is_done) lines ≡ true) where
    pub is_refused : (o : Option ℕ) (view : ℕ) → o ≡ least_below (blamed_owner b.ready) (length c) → o ≡ Some view → IsRefused b.ready b.order view
    is_refused o view is some = record { legal = b.legal; whole = whole_if circuit b.ready b.order lines b.noted done; blamed = sym (is ∙ blamed_verdict circuit b.ready) ∙ some }

    module _ (o : Option ℕ) (is : o ≡ least_below (blamed_owner b.ready) (length c)) (none : o ≡ None) where
      clear : verdict c b.ready.new ≡ None
      clear = sym (is ∙ blamed_verdict circuit b.ready) ∙ none

      runs : (i s : ℕ) (slot : Slot) → is_done slot ≡ true → Tells b.ready i s slot → is_readable b.ready i ≡ true → has_fault c b.ready.new i ≡ false → is_run slot ≡ true
      runs i s Open d t readable fine = absurd (cc d)
      runs i s Skipped d t readable fine = absurd (let same = sym t ∙ readable in cc same)
      runs i s Broken d t readable fine = absurd (let same = sym (and_parts (is_readable b.ready i) (has_fault c b.ready.new i) t).1 ∙ fine in cc same)
      runs i s (Ran piece) d t readable fine = refl

      pub all_run_so : AreAllRun lines
      all_run_so i s line slot at here =
          let low : i < length c = subst (λ k. i < k) b.noted.count (slice_get_within lines i line at) in
          let part = there_is c i low in
          let sound = sym (sound_is c (earlier circuit b.ready) b.ready.new i) ∙ all_sound c circuit.parts b.ready.new clear i part.0 part.1 in
          runs i s slot (at_all_places is_done line (at_all_places (list_all is_done) lines done i line at) s slot here) (b.noted.each i s line slot at here).tells
          (and_parts (not (has_fault c b.ready.new i)) (is_readable b.ready i) sound).1 (no_fault c circuit.parts b.ready.new clear i low)

      pub is_played : IsPlayed b.ready b.order lines
      is_played = record {
        legal = b.legal;
        whole = whole_if circuit b.ready b.order lines b.noted done;
        clear = clear;
        count = b.noted.count;
        wide = b.noted.wide;
        ran = all_run_so;
        made = λ t piece has. (b.noted.each t.node t.shard has.line (Ran piece) has.at has.is).tells.made;
      }
