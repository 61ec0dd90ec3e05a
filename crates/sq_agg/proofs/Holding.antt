-- What an accumulator holds in 64 and 128 bits is what contracts see.
use Rattle.std.proofs.Common.{◌≡◌, ℕ, ◌^◌, ◌≤◌, List, Bool, true, false, cond, not, ◌&&◌, IsTrue, ℤ, pos, negsuc, ◌+ℤ◌, ◌-ℤ◌, neg_ℤ, int_eq, Some, None, refl, sym, ap, ap₂, subst, ◌∙◌, to_z, of_z, lit≤, unsigned_abs, arith}
use mir.Syntax.{w64, w128}
use Rattle.std.specs.List.{list_all}
use Rattle.std.specs.Ordering.{nat_cmp}
use Rattle.std.proofs.lemmas.Bool.{leb-true}
use borrow.Author.Differences.{ints}
use Rattle.sq_algebra.specs.ZSet.{ZSet, plus, zero as no_places}
use Rattle.sq_zset.proofs.Entries.{kept, kept_128}
use Rattle.sq_zset.specs.Range.{is_in_range, number_outside}
use Rattle.sq_agg.specs.declared.tally.Tally.{Tally}
use Rattle.sq_agg.specs.Accumulators.{accumulator, first_number_outside, is_count_in_range}
use Rattle.sq_agg.specs.Tallies.{IsWithin, first_of_tallies, is_no_tally, summed}
use Rattle.sq_agg.proofs.Adding.{added}
use Rattle.sq_agg.proofs.Bounding.{rows_outside, tally_outside, zero_where}

pub sum_kept : (t : Tally) → IsWithin t → to_z w128 (of_z w128 t.sum) ≡ t.sum
sum_kept t h = kept_128 t.sum (2 ^ 126) (let low = h.sum in omega arith) (lit≤ tt)

-- ---- negation
below_zero : (n : ℤ) → pos 0 -ℤ n ≡ neg_ℤ n
below_zero n = omega (arith, ints)

turned_bound : (n : ℤ) → unsigned_abs n ≤ 2 ^ 62 → unsigned_abs (pos 0 -ℤ n) ≤ 2 ^ 62
turned_bound (pos n) h = omega (arith, ints)
turned_bound (negsuc n) h = omega (arith, ints)

module _ (n : ℤ) (h : unsigned_abs n ≤ 2 ^ 62) where
  turned_once : to_z w64 (of_z w64 (pos 0 -ℤ to_z w64 (of_z w64 n))) ≡ pos 0 -ℤ n
  turned_once = ap (λ m. to_z w64 (of_z w64 (pos 0 -ℤ m))) (kept n h) ∙ kept (pos 0 -ℤ n) (turned_bound n h)

  pub turned_kept : to_z w64 (of_z w64 (pos 0 -ℤ to_z w64 (of_z w64 n))) ≡ neg_ℤ n
  turned_kept = turned_once ∙ below_zero n

  pub turned_within : unsigned_abs (to_z w64 (of_z w64 (pos 0 -ℤ to_z w64 (of_z w64 n)))) ≤ 2 ^ 62
  turned_within = subst (λ m. unsigned_abs m ≤ 2 ^ 62) (sym turned_once) (turned_bound n h)

-- ---- the range of the number of rows
outside_told : (b : Bool) (n m : ℤ) → cond (not b) (Some n) None ≡ Some m → b ≡ false
outside_told true n m e = absurd (cc e)
outside_told false n m e = refl

inside_told : (b : Bool) (n : ℤ) → cond (not b) (Some n) None ≡ None → b ≡ true
inside_told true n e = refl
inside_told false n e = absurd (cc e)

pub rows_told : (n m : ℤ) → number_outside n ≡ Some m → is_count_in_range n ≡ false
rows_told n m e = outside_told (is_in_range n) n m e

pub rows_inside : (n : ℤ) → number_outside n ≡ None → is_count_in_range n ≡ true
rows_inside n e = inside_told (is_in_range n) n e

pub rows_bound : (n : ℤ) → number_outside n ≡ None → unsigned_abs n ≤ 2 ^ 62
rows_bound n e = leb-true _ _ (rows_inside n e)

pub rows_kept : (n : ℤ) → number_outside n ≡ None → to_z w64 (of_z w64 n) ≡ n
rows_kept n e = kept n (rows_bound n e)

pub kept_bound : (n : ℤ) → unsigned_abs n ≤ 2 ^ 62 → unsigned_abs (to_z w64 (of_z w64 n)) ≤ 2 ^ 62
kept_bound n h = subst (λ m. unsigned_abs m ≤ 2 ^ 62) (sym (kept n h)) h

-- ---- sums
module _ (a b : ℤ) (ss ts : List Tally) (x y : ZSet ℕ nat_cmp) (first : accumulator a ss ≡ x) (second : accumulator b ts ≡ y) where
  pub plus_shown : accumulator (a +ℤ b) (summed ss ts) ≡ plus x y
  plus_shown = added a b ss ts ∙ ap₂ (λ u v. plus u v) first second

  pub plus_rows_outside : (n : ℤ) → n ≡ a +ℤ b → is_count_in_range (a +ℤ b) ≡ false → first_number_outside (plus x y) ≡ Some n
  plus_rows_outside n is out = ap first_number_outside (sym plus_shown) ∙ rows_outside (a +ℤ b) (summed ss ts) out ∙ ap Some (sym is)

  pub plus_tally_outside : (n : ℤ) → is_count_in_range (a +ℤ b) ≡ true → first_of_tallies (summed ss ts) ≡ Some n → first_number_outside (plus x y) ≡ Some n
  plus_tally_outside n inside out = ap first_number_outside (sym plus_shown) ∙ tally_outside (a +ℤ b) (summed ss ts) n inside out

-- ---- zero
pub zero_shown : (n : ℤ) (ts : List Tally) (x : ZSet ℕ nat_cmp) (b : Bool) → accumulator n ts ≡ x → b ≡ int_eq n (pos 0) && list_all is_no_tally ts → (IsTrue b → x ≡ no_places nat_cmp) × (x ≡ no_places nat_cmp → IsTrue b)
zero_shown n ts x b shown is = (λ h. sym shown ∙ (zero_where n ts).0 (sym is ∙ h), λ e. is ∙ (zero_where n ts).1 (shown ∙ e))
