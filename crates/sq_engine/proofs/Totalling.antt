-- The total of a node with those of its pieces, shard by shard.
use Rattle.std.proofs.Common.{◌≡◌, ℕ, zero, suc, ◌+◌, ◌<◌, ◌≤◌, List, [], ◌∷◌, length, take, ℤ, pos, ◌+ℤ◌, SFits, Some, refl, sym, ap, ◌∙◌, arith}
use Rattle.std.specs.Int.{int_wrap, w128}
use Rattle.std.specs.Prelude.{slice_get}
use Rattle.std.proofs.lemmas.Int.{int_wrap-add_left, int_wrap_fits}
use Rattle.std.proofs.lemmas.Option.{get_or_from_slice_get, same_Some, slice_get-get_or}
use borrow.Author.Differences.{ints}
use Rattle.sq_algebra.specs.ZSet.{total}
use Rattle.sq_incr.specs.Slots.{change_in}
use Rattle.sq_incr.specs.declared.store.Slot.{Slot}
use Rattle.sq_engine.specs.Ticking.{IsRaised, line_at, line_total}

-- the old total with those of the pieces in the first shards
pub record IsFront (totals : List ℤ) (pieces : List (List Slot)) (i s : ℕ) (sum : ℤ) : Type 0 where
  pub is : (old : ℤ) → slice_get totals i ≡ Some old → (line : List Slot) → slice_get pieces i ≡ Some line → sum ≡ int_wrap w128 (old +ℤ line_total (take s line))

one_more_total : (line : List Slot) (s : ℕ) (slot : Slot) → slice_get line s ≡ Some slot → line_total (take (suc s) line) ≡ line_total (take s line) +ℤ total (change_in slot)
one_more_total [] s slot e = absurd (cc e)
one_more_total (x ∷ line) zero slot e = ap (λ y. total (change_in y) +ℤ pos 0) (same_Some x slot e) ∙ omega (arith, ints)
one_more_total (x ∷ line) (suc s) slot e = ap (λ t. total (change_in x) +ℤ t) (one_more_total line s slot e) ∙ omega (arith, ints)

pub front_turn : (totals : List ℤ) (pieces : List (List Slot)) (i s : ℕ) (sum more after : ℤ) → IsFront totals pieces i s sum → ((line : List Slot) → slice_get pieces i ≡ Some line → (slot : Slot) × (slice_get line s ≡ Some slot) × (more ≡ total (change_in slot)))
    → after ≡ int_wrap w128 (sum +ℤ more) → IsFront totals pieces i (s + 1) after
front_turn totals pieces i s sum more after h next is = record { is = told }
  where
    told : (old : ℤ) → slice_get totals i ≡ Some old → (line : List Slot) → slice_get pieces i ≡ Some line → after ≡ int_wrap w128 (old +ℤ line_total (take (s + 1) line))
    told old a line b =
        let found = next line b in
        let one : s + 1 ≡ suc s = omega arith in
        let grows : line_total (take (s + 1) line) ≡ line_total (take s line) +ℤ total (change_in found.0) = ap (λ k. line_total (take k line)) one ∙ one_more_total line s found.0 found.1 in
        is ∙ ap (λ t. int_wrap w128 (t +ℤ more)) (h.is old a line b) ∙ int_wrap-add_left w128 (old +ℤ line_total (take s line)) more
        ∙ ap (λ t. int_wrap w128 t) (ap (λ m. (old +ℤ line_total (take s line)) +ℤ m) found.2 ∙ regroup old (line_total (take s line)) (total (change_in found.0)) ∙ ap (λ t. old +ℤ t) (sym grows))
      where
        regroup : (a b d : ℤ) → (a +ℤ b) +ℤ d ≡ a +ℤ (b +ℤ d)
        regroup a b d = omega (arith, ints)

pub take_all : (xs : List Slot) (n : ℕ) → length xs ≤ n → take n xs ≡ xs
take_all [] zero low = refl
take_all [] (suc n) low = refl
take_all (x ∷ xs) zero low = absurd (omega arith)
take_all (x ∷ xs) (suc n) low = ap (λ ys. x ∷ ys) (take_all xs n (omega arith))

pub front_end : (totals : List ℤ) (pieces : List (List Slot)) (i s : ℕ) (sum : ℤ) → IsFront totals pieces i s sum → (line : List Slot) → slice_get pieces i ≡ Some line → length line ≤ s → IsRaised totals pieces i sum
front_end totals pieces i s sum h line e wide old a =
    h.is old a line e ∙ ap (λ l. int_wrap w128 (old +ℤ line_total l)) (take_all line s wide ∙ sym (get_or_from_slice_get pieces i line [] e))

pub front_start : (totals : List ℤ) (pieces : List (List Slot)) (i : ℕ) (sum : ℤ) → SFits w128 sum → slice_get totals i ≡ Some sum → IsFront totals pieces i 0 sum
front_start totals pieces i sum fits e = record {
  is = λ old a line b.
      let same : sum ≡ old = same_Some sum old (sym e ∙ a) in
      sym (int_wrap_fits w128 sum fits) ∙ ap (λ t. int_wrap w128 t) (same ∙ plus_zero old);
}
  where
    plus_zero : (a : ℤ) → a ≡ a +ℤ pos 0
    plus_zero a = omega (arith, ints)

pub the_line : (pieces : List (List Slot)) (i : ℕ) → i < length pieces → slice_get pieces i ≡ Some (line_at pieces i)
the_line pieces i low = slice_get-get_or pieces i [] low
