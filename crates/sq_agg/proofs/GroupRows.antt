-- The row that is shown of a group before a change is the one that a look-up finds, and the row after it that of its accumulator.
use Rattle.std.proofs.Common.{◌≡◌, ℕ, zero, suc, ◌+◌, ◌≤◌, List, [], ◌∷◌, Bool, true, false, cond, not, ◌&&◌, T, ℤ, pos, negsuc, ◌+ℤ◌, ◌≤ℤ◌, Option, Some, None, unsigned_abs, refl, sym, ap, subst, ◌∙◌, length, arith, is_eq, Less, Equal, Greater}
use Rattle.std.specs.Prelude.{MatchOption}
use Rattle.std.specs.Ordering.{int_eq}
use Rattle.std.proofs.lemmas.List.Sums.{sum_by-cons}
use borrow.Author.Differences.{ints}
use Rattle.sq_value.specs.Order.{row_cmp}
use Rattle.std.specs.Cmp.{tied_itself}
use Rattle.sq_value.specs.OrderLaws.{row_cmp-antisymmetric, row_cmp-total}
use Rattle.sq_algebra.specs.Groups.{integers}
use Rattle.sq_algebra.specs.Operators.{IsNonNegative}
use Rattle.sq_algebra.specs.ZSet.{entries, entries-zero, entries_canonical, is_canonical, of_list, total, weight, weight_in, zero as no_rows}
use Rattle.sq_algebra.proofs.PairLemmas.{nonzero_from, zero_from}
use Rattle.sq_algebra.proofs.Weights.{front_of}
use Rattle.sq_base.specs.Causes.{raised}
use Rattle.sq_expr.specs.Bigint.{first_not_bigint}
use Rattle.sq_ops.specs.Aggregates.{group_row, part_of, sums_of}
use Rattle.sq_ops.specs.Wholes.{has_no_values}
use Rattle.sq_ops.specs.declared.aggregate.AggSpec.{AggSpec}
use Rattle.sq_ops.specs.declared.aggregate.Call.{Call}
use Rattle.sq_ops.proofs.Grouping.{none_tested}
use Rattle.sq_trace.specs.Extremes.{IsKeptNowhere, IsLeast, StepsFor, weight_after}
use Rattle.sq_trace.specs.Looking.{stepped}
use Rattle.sq_trace.specs.Runs.{content}
use Rattle.sq_zset.specs.Collecting.{mass_of}
use Rattle.sq_zset.proofs.Masses.{mass-total}
use Rattle.sq_zset.proofs.Rows.{weight-from_pairs}
use Rattle.sq_agg.specs.Kept.{Row, Rows}
use Rattle.sq_agg.specs.Shifts.{ShowsRow, as_rows, is_hidden, shown_row}
use Rattle.sq_agg.specs.Stepping.{Accumulator, GroupAfter, KeptWeights, rows_after}
use Rattle.sq_agg.proofs.Adding.{rows_held}
use Rattle.sq_agg.proofs.Keys.{group_not_negative}

-- ---- the row before
pub weight_of_one : (row r : Row) → weight row (of_list row_cmp (r ∷ [])) ≡ cond (is_eq (row_cmp row r)) (pos 1) (pos 0) +ℤ pos 0
unfolding of_list
weight_of_one row r = weight-from_pairs row ((r, pos 1) ∷ [])

pub weight_of_none : (row : Row) → weight row (of_list row_cmp []) ≡ pos 0
unfolding of_list
weight_of_none row = weight-from_pairs row []

weight_of_zero : (row : Row) → weight row (no_rows row_cmp) ≡ pos 0
unfolding weight
weight_of_zero row = ap (weight_in row_cmp row) (entries-zero row_cmp)

not_one : (n : ℤ) → n ≡ pos 0 → pos 1 ≤ℤ n → ⊥
not_one n e h = omega (arith, ints)

one_there : (r : Row) → pos 1 ≤ℤ (cond (is_eq (row_cmp r r)) (pos 1) (pos 0) +ℤ pos 0)
one_there r = subst (λ o. pos 1 ≤ℤ (cond (is_eq o) (pos 1) (pos 0) +ℤ pos 0)) (sym (tied_itself row_cmp-total r)) (omega (arith, ints))

same_row : (row r : Row) → pos 1 ≤ℤ (cond (is_eq (row_cmp row r)) (pos 1) (pos 0) +ℤ pos 0) → row ≡ r
same_row row r there =
    elim (row_cmp row r) as (λ o. row_cmp row r ≡ o → pos 1 ≤ℤ (cond (is_eq o) (pos 1) (pos 0) +ℤ pos 0) → row ≡ r) [
      | Less ↦ λ e h. absurd (not_one _ refl h)
      | Equal ↦ λ e h. row_cmp-antisymmetric row r e
      | Greater ↦ λ e h. absurd (not_one _ refl h)
    ] refl there

told_by : (w : Row → ℤ) (r answer : Option Row) → ((row : Row) → w row ≡ weight row (as_rows r)) → MatchOption answer (IsKeptNowhere w) (IsLeast w) → answer ≡ r
told_by w None None same none = refl
told_by w (Some r) None same none = absurd (none r (subst (λ n. pos 1 ≤ℤ n) (sym (same r ∙ weight_of_one r r)) (one_there r)))
told_by w None (Some row) same least = absurd (not_one (w row) (same row ∙ weight_of_none row) least.there)
told_by w (Some r) (Some row) same least = ap Some (same_row row r (subst (λ n. pos 1 ≤ℤ n) (same row ∙ weight_of_one row r) least.there))

zero_right : (n : ℤ) → n +ℤ pos 0 ≡ n
zero_right n = omega (arith, ints)

pub before_told : (parts : KeptWeights) (c : Row) (none : Rows) (r answer : Option Row) → none ≡ no_rows row_cmp → ShowsRow parts c r
    → MatchOption answer (IsKeptNowhere (weight_after c parts none)) (IsLeast (weight_after c parts none)) → answer ≡ r
before_told parts c none r answer is shows found =
    told_by (weight_after c parts none) r answer
    (λ row. ap (λ y. content integers (c, row) parts +ℤ weight row y) is ∙ ap (λ n. content integers (c, row) parts +ℤ n) (weight_of_zero row) ∙ zero_right (content integers (c, row) parts) ∙ shows.shown row)
    found

-- ---- the steps of look-ups
stepped_few : (more k : ℕ) → stepped more k ≤ k + more
stepped_few zero k = omega arith
stepped_few (suc n) k = let low = stepped_few n k in omega arith

pub looked : (change : Rows) (before now n : ℕ) → length (entries change) ≤ n → StepsFor change before now → now ≤ before + (1 + n)
looked change before now n few s = let low = stepped_few s.more (raised before) in let more = s.few in let is = s.count in omega arith

pub one_look : (none : Rows) (before now : ℕ) → none ≡ no_rows row_cmp → StepsFor none before now → now ≤ before + 1
one_look none before now is s = looked none before now 0 (subst (λ n. n ≤ 0) (sym (ap (λ y. length (entries y)) is ∙ ap length (entries-zero row_cmp))) (omega arith)) s

-- ---- the row after
abs_zero : (n : ℤ) → unsigned_abs n ≡ 0 → n ≡ pos 0
abs_zero (pos n) h = ap pos h
abs_zero (negsuc n) h = absurd (omega (arith, ints))

same_pos : (m n : ℕ) → pos m ≡ pos n → m ≡ n
same_pos m n e = omega (arith, ints)

none_by_mass : (es : List (Row × ℤ)) (n : ℤ) → T (is_canonical row_cmp es) → pos (mass_of es) ≡ n → int_eq n (pos 0) ≡ has_no_values es
none_by_mass [] n h m = ap (λ k. int_eq k (pos 0)) (sym m)
none_by_mass (e ∷ es) n h m =
    elim (int_eq n (pos 0)) as (λ b. int_eq n (pos 0) ≡ b → b ≡ false) [
      | true ↦ λ t.
          let whole = sum_by-cons (λ (p : Row × ℤ). unsigned_abs p.1) e es in
          let none = same_pos (mass_of (e ∷ es)) 0 (m ∙ zero_from n t) in
          absurd (nonzero_from e.1 (front_of row_cmp e es h).nonzero (abs_zero e.1 (omega arith)))
      | false ↦ λ t. refl
    ] refl

pub none_by_total : (z : Rows) → IsNonNegative z → int_eq (total z) (pos 0) ≡ has_no_values (entries z)
none_by_total z proper = none_by_mass (entries z) (total z) (entries_canonical z) (mass-total z proper)

module _ (spec : AggSpec) (ordered : KeptWeights) (c : Row) (changed : Rows) (acc : Accumulator) (g : GroupAfter spec ordered c changed acc) where
  hidden_is : is_hidden spec.global c (weight 0 acc) ≡ has_no_values (entries (rows_after g)) && not (spec.global && has_no_values c)
  hidden_is =
      ap (λ n. int_eq n (pos 0) && not (spec.global && has_no_values c)) (ap (weight 0) g.counted ∙ rows_held spec.calls (rows_after g))
      ∙ ap (λ b. b && not (spec.global && has_no_values c)) (none_by_total (rows_after g) (group_not_negative spec c _ g.proper))

  pub hidden_row : (row : Option Row) → row ≡ None → is_hidden spec.global c (weight 0 acc) ≡ true → row ≡ shown_row spec.global spec.calls c (rows_after g)
  hidden_row row none hidden = none ∙ sym (ap (λ b. cond b None (Some (group_row spec.calls c (rows_after g)))) (sym hidden_is ∙ hidden))

  pub hidden_sums : is_hidden spec.global c (weight 0 acc) ≡ true → first_not_bigint (sums_of spec.calls (rows_after g)) ≡ None
  hidden_sums hidden = none_tested spec.calls (rows_after g) (not (spec.global && has_no_values c)) (sym hidden_is ∙ hidden)

  pub seen_row : (row : Option Row) → row ≡ Some (group_row spec.calls c (rows_after g)) → is_hidden spec.global c (weight 0 acc) ≡ false → row ≡ shown_row spec.global spec.calls c (rows_after g)
  seen_row row there seen = there ∙ sym (ap (λ b. cond b None (Some (group_row spec.calls c (rows_after g)))) (sym hidden_is ∙ seen))

-- ---- a part is the row that is shown, or nothing
pub part_is_row : (stands : Bool) (calls : List Call) (c : Row) (z : Rows) → part_of stands calls c z ≡ as_rows (shown_row stands calls c z)
part_is_row stands calls c z =
    elim (has_no_values (entries z) && not (stands && has_no_values c)) as (λ b. of_list row_cmp (cond b [] (group_row calls c z ∷ [])) ≡ as_rows (cond b None (Some (group_row calls c z)))) [ true ↦ refl | false ↦ refl ]
