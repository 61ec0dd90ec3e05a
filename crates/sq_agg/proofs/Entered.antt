-- The entries of one group: they lead to the group, stand apart, lie in the range, and give at each place what the group changes there.
use Rattle.std.proofs.Common.{◌≡◌, ℕ, suc, zero, ◌+◌, ◌≤◌, ◌<◌, List, [], ◌∷◌, ◌++◌, Bool, true, false, cond, not, T}
use Rattle.std.proofs.Common.{ℤ, pos, negsuc, ◌+ℤ◌, ◌-ℤ◌, neg_ℤ, Option, Some, None, unsigned_abs, refl, sym, ap, ap₂, ◌∙◌, arith, is_eq, is_lt}
use Rattle.std.specs.Prelude.{slice_get}
use Rattle.std.specs.List.{AllByRecursion}
use Rattle.std.specs.Ordering.{nat_cmp, ordering_then}
use Rattle.std.specs.Cmp.{tied_itself}
use borrow.Author.Differences.{ints}
use Rattle.sq_value.specs.declared.value.Value.{Value}
use Rattle.sq_value.specs.declared.value.Value.TheVariants.{Int, Null}
use Rattle.sq_value.specs.Order.{row_cmp}
use Rattle.sq_value.specs.OrderLaws.{row_cmp-antisymmetric, row_cmp-total}
use Rattle.sq_algebra.specs.Groups.{integers, z_sets}
use Rattle.sq_algebra.specs.Listed.{is_below_all}
use Rattle.sq_algebra.specs.ZSet.{entries, entries_canonical, is_canonical, keys, minus, of_list, weight, weight_in, zero as no_keys}
use Rattle.sq_algebra.proofs.GroupLemmas.{neutral_right}
use Rattle.sq_algebra.proofs.ListLemmas.{tie_back}
use Rattle.sq_algebra.proofs.Weights.{front_of}
use Rattle.sq_ops.specs.Aggregates.{number_or_zero}
use Rattle.sq_ops.specs.Arguments.{arguments}
use Rattle.sq_ops.specs.Wholes.{has_no_values}
use Rattle.sq_ops.specs.declared.aggregate.Call.{Call}
use Rattle.sq_trace.specs.declared.entry.Entry.{Entry}
use Rattle.sq_trace.specs.Keys.{AllInRange, AreDistinct, NoneAt}
use Rattle.sq_trace.specs.Runs.{Place, at, given}
use Rattle.sq_trace.proofs.Places.{same_place}
use Rattle.sq_trace.proofs.Sums.{at-append, given_apart, given_same}
use Rattle.sq_zset.specs.GroupLaws.{integers_are_abelian}
use Rattle.sq_zset.specs.Range.{first_outside_in, number_outside}
use Rattle.sq_zset.proofs.Entries.{none_first, same_some}
use Rattle.sq_zset.proofs.Rows.{weight-from_pairs, weight-minus}
use Rattle.sq_agg.specs.Accumulators.{accumulated}
use Rattle.sq_agg.specs.Entering.{accumulator_entries, argument_entries, as_pairs, call_entries, entry, is_same_row, kept_entries, one_shown, shown_entries}
use Rattle.sq_agg.specs.GroupLaws.{accumulators_are_abelian}
use Rattle.sq_agg.specs.Kept.{Row, Rows, argument_key, has_ends}
use Rattle.sq_agg.specs.Shifts.{as_rows}
use Rattle.sq_agg.proofs.Homes.{AllApart, AllHome, at_none, distinct-append, home-append, left_true, right_true, none_at-append, same_tied, not_same, tied, within-append}

abbrev pub itself : Row → Row
itself c = c

-- ---- accumulators
module _ (calls : List Call) (c : Row) (z : Rows) where
  pub accumulator_home : AllHome itself c (accumulator_entries calls c z)
  accumulator_home = (refl, tt)

  pub accumulator_distinct : AreDistinct (accumulator_entries calls c z)
  accumulator_distinct = (tt, tt)

  pub accumulator_at : (row : Row) → at (z_sets nat_cmp) (c, row) (accumulator_entries calls c z) ≡ cond (has_no_values row) (accumulated calls z) (no_keys nat_cmp)
  accumulator_at [] =
      neutral_right (z_sets nat_cmp) accumulators_are_abelian (given (z_sets nat_cmp) (c, []) (entry c [] (accumulated calls z)))
      ∙ given_same (z_sets nat_cmp) accumulators_are_abelian (entry c [] (accumulated calls z))
  accumulator_at (x ∷ row) =
      neutral_right (z_sets nat_cmp) accumulators_are_abelian (given (z_sets nat_cmp) (c, x ∷ row) (entry c [] (accumulated calls z)))
      ∙ given_apart (z_sets nat_cmp) accumulators_are_abelian (c, x ∷ row) (entry c [] (accumulated calls z)) (λ same. other (ap (λ (p : Place). has_no_values p.1) (same_place (c, []) (c, x ∷ row) same)))
    where
      other : true ≡ false → ⊥
      other e = cc e

-- ---- the keys of arguments
abbrev pub front_of_key : Row → Row
front_of_key [] = []
front_of_key (x ∷ []) = []
front_of_key (x ∷ y ∷ row) = x ∷ front_of_key (y ∷ row)

abbrev last_of : Row → Value
last_of [] = Null
last_of (x ∷ []) = x
last_of (x ∷ y ∷ row) = last_of (y ∷ row)

pub front_is : (c : Row) (x : Value) → front_of_key (c ++ x ∷ []) ≡ c
front_is [] x = refl
front_is (y ∷ []) x = refl
front_is (y ∷ w ∷ c) x = ap (λ row. y ∷ row) (front_is (w ∷ c) x)

last_is : (c : Row) (x : Value) → last_of (c ++ x ∷ []) ≡ x
last_is [] x = refl
last_is (y ∷ []) x = refl
last_is (y ∷ w ∷ c) x = last_is (w ∷ c) x

same_pos : (m n : ℕ) → pos m ≡ pos n → m ≡ n
same_pos m n e = omega (arith, ints)

same_number : (c : Row) (i j : ℕ) → argument_key c i ≡ argument_key c j → i ≡ j
same_number c i j e = same_pos i j (ap number_or_zero (sym (last_is c (Int (pos i))) ∙ ap last_of e ∙ last_is c (Int (pos j))))

-- ---- the arguments of one call
module _ (c : Row) (i : ℕ) where
  pub kept_home : (es : List (Row × ℤ)) → AllHome front_of_key c (kept_entries c i es)
  kept_home [] = tt
  kept_home (e ∷ es) = (front_is c (Int (pos i)), kept_home es)

  pub none_kept : (p : Place) (es : List (Row × ℤ)) → (argument_key c i ≡ p.0 → ⊥) → NoneAt p (kept_entries c i es)
  none_kept p [] other = tt
  none_kept p (e ∷ es) other = (λ same. other (ap (λ (q : Place). q.0) same), none_kept p es other)

  none_below : (row : Row) (es : List (Row × ℤ)) → T (is_below_all row_cmp row (keys es)) → NoneAt (argument_key c i, row) (kept_entries c i es)
  none_below row [] h = tt
  none_below row (e ∷ es) h = (
    λ same. let less = not_same (row_cmp row e.0) (left_true _ _ h) in let here = same_tied row e.0 (sym (ap (λ (q : Place). q.1) same)) in absurd (cc (less, here)),
    none_below row es (right_true (is_lt (row_cmp row e.0)) (is_below_all row_cmp row (keys es)) h),
  )

  kept_distinct : (es : List (Row × ℤ)) → T (is_canonical row_cmp es) → AreDistinct (kept_entries c i es)
  kept_distinct [] h = tt
  kept_distinct (e ∷ es) h = let front = front_of row_cmp e es h in (none_below e.0 es front.below, kept_distinct es front.rest)

  kept_within : (es : List (Row × ℤ)) → first_outside_in es ≡ None → AllInRange number_outside (kept_entries c i es)
  kept_within [] h = tt
  kept_within (e ∷ es) h = let both = none_first e es h in (ap (λ b. cond (not b) (Some e.1) None) both.0, kept_within es both.1)

  one_kept_at : (row : Row) (e : Row × ℤ) → given integers (argument_key c i, row) (entry (argument_key c i) e.0 e.1) ≡ cond (is_eq (row_cmp row e.0)) e.1 (pos 0)
  one_kept_at row e =
      ap (λ o. cond (is_eq (ordering_then o (row_cmp e.0 row))) e.1 (pos 0)) (tied_itself row_cmp-total (argument_key c i))
      ∙ ap (λ b. cond b e.1 (pos 0)) (tie_back row_cmp row_cmp-total e.0 row)

  kept_at : (row : Row) (es : List (Row × ℤ)) → at integers (argument_key c i, row) (kept_entries c i es) ≡ weight_in row_cmp row es
  kept_at row [] = refl
  kept_at row (e ∷ es) = ap₂ (λ m n. m +ℤ n) (one_kept_at row e) (kept_at row es)

-- ---- the arguments of all calls
module _ (c : Row) (z : Rows) where
  by_ends : (P : List (Entry ℤ) → Type 0) (b : Bool) (es : List (Entry ℤ)) → P [] → P es → P (cond b es [])
  by_ends P true es none some = some
  by_ends P false es none some = none

  pub argument_home : (i : ℕ) (calls : List Call) → AllHome front_of_key c (argument_entries c i calls z)
  argument_home i [] = tt
  argument_home i (call ∷ calls) =
      home-append front_of_key c (call_entries c i call z) (argument_entries c (suc i) calls z)
      (by_ends (AllHome front_of_key c) (has_ends call.func) (kept_entries c i (entries (arguments call.arg z))) tt (kept_home c i (entries (arguments call.arg z))))
      (argument_home (suc i) calls)

  none_later : (p : Place) (i : ℕ) → argument_key c i ≡ p.0 → (j : ℕ) → i < j → (calls : List Call) → NoneAt p (argument_entries c j calls z)
  none_later p i is j low [] = tt
  none_later p i is j low (call ∷ calls) =
      none_at-append p (call_entries c j call z) (argument_entries c (suc j) calls z)
      (by_ends (NoneAt p) (has_ends call.func) (kept_entries c j (entries (arguments call.arg z))) tt
      (none_kept c j p (entries (arguments call.arg z)) (λ same. let e = same_number c j i (same ∙ sym is) in absurd (omega arith))))
      (none_later p i is (suc j) (omega arith) calls)

  apart_later : (i : ℕ) (es : List (Row × ℤ)) (calls : List Call) → AllApart (kept_entries c i es) (argument_entries c (suc i) calls z)
  apart_later i [] calls = tt
  apart_later i (e ∷ es) calls = (none_later (argument_key c i, e.0) i refl (suc i) (omega arith) calls, apart_later i es calls)

  pub argument_distinct : (i : ℕ) (calls : List Call) → AreDistinct (argument_entries c i calls z)
  argument_distinct i [] = tt
  argument_distinct i (call ∷ calls) =
      distinct-append (call_entries c i call z) (argument_entries c (suc i) calls z)
      (by_ends AreDistinct (has_ends call.func) (kept_entries c i (entries (arguments call.arg z))) tt (kept_distinct c i (entries (arguments call.arg z)) (entries_canonical (arguments call.arg z))))
      (argument_distinct (suc i) calls)
      (by_ends (λ es. AllApart es (argument_entries c (suc i) calls z)) (has_ends call.func) (kept_entries c i (entries (arguments call.arg z))) tt (apart_later i (entries (arguments call.arg z)) calls))

  pub argument_within : ((column : ℕ) → first_outside_in (entries (arguments column z)) ≡ None) → (i : ℕ) (calls : List Call) → AllInRange number_outside (argument_entries c i calls z)
  argument_within inside i [] = tt
  argument_within inside i (call ∷ calls) =
      within-append number_outside (call_entries c i call z) (argument_entries c (suc i) calls z)
      (by_ends (AllInRange number_outside) (has_ends call.func) (kept_entries c i (entries (arguments call.arg z))) tt (kept_within c i (entries (arguments call.arg z)) (inside call.arg)))
      (argument_within inside (suc i) calls)

  zero_left : (n : ℤ) → pos 0 +ℤ n ≡ n
  zero_left n = omega (arith, ints)

  zero_right : (n : ℤ) → n +ℤ pos 0 ≡ n
  zero_right n = omega (arith, ints)

  weighed : (i column : ℕ) (row : Row) → at integers (argument_key c i, row) (kept_entries c i (entries (arguments column z))) ≡ weight row (arguments column z)
  unfolding weight
  weighed i column row = kept_at c i row (entries (arguments column z))

  pub argument_at : (row : Row) (j k : ℕ) (calls : List Call) (call : Call) → slice_get calls k ≡ Some call → has_ends call.func ≡ true
      → at integers (argument_key c (j + k), row) (argument_entries c j calls z) ≡ weight row (arguments call.arg z)
  argument_at row j k [] call found ends = absurd (cc found)
  argument_at row j zero (first ∷ calls) call found ends =
      let is : first ≡ call = same_some found in
      let here : j + 0 ≡ j = omega arith in
      ap (λ i. at integers (argument_key c i, row) (argument_entries c j (first ∷ calls) z)) here
      ∙ ap (λ f. at integers (argument_key c j, row) (argument_entries c j (f ∷ calls) z)) is
      ∙ at-append integers integers_are_abelian (argument_key c j, row) (call_entries c j call z) (argument_entries c (suc j) calls z)
      ∙ ap₂ (λ m n. m +ℤ n)
      (ap (λ b. at integers (argument_key c j, row) (cond b (kept_entries c j (entries (arguments call.arg z))) [])) ends ∙ weighed j call.arg row)
      (at_none {A = ℤ} itself (λ d. []) (λ d. tt) integers integers_are_abelian (argument_key c j, row) (argument_entries c (suc j) calls z) (none_later (argument_key c j, row) j refl (suc j) (omega arith) calls))
      ∙ zero_right (weight row (arguments call.arg z))
  argument_at row j (suc k) (first ∷ calls) call found ends =
      let there : j + suc k ≡ suc j + k = omega arith in
      let other : argument_key c j ≡ argument_key c (j + suc k) → ⊥ = λ same. let e = same_number c j (j + suc k) same in absurd (omega arith) in
      at-append integers integers_are_abelian (argument_key c (j + suc k), row) (call_entries c j first z) (argument_entries c (suc j) calls z)
      ∙ ap₂ (λ m n. m +ℤ n)
      (at_none {A = ℤ} itself (λ d. []) (λ d. tt) integers integers_are_abelian (argument_key c (j + suc k), row) (call_entries c j first z)
      (by_ends (NoneAt (argument_key c (j + suc k), row)) (has_ends first.func) (kept_entries c j (entries (arguments first.arg z))) tt
      (none_kept c j (argument_key c (j + suc k), row) (entries (arguments first.arg z)) other)))
      (ap (λ i. at integers (argument_key c i, row) (argument_entries c (suc j) calls z)) there ∙ argument_at row (suc j) k calls call found ends)
      ∙ zero_left (weight row (arguments call.arg z))

-- ---- the rows that are shown
row_weight : (row r : Row) → weight row (of_list row_cmp (r ∷ [])) ≡ cond (is_eq (row_cmp row r)) (pos 1) (pos 0) +ℤ pos 0
unfolding of_list
row_weight row r = weight-from_pairs row ((r, pos 1) ∷ [])

none_weight : (row : Row) → weight row (of_list row_cmp []) ≡ pos 0
unfolding of_list
none_weight row = weight-from_pairs row []

same_rows : (r q : Option Row) → is_same_row r q ≡ true → r ≡ q
same_rows None None e = refl
same_rows None (Some q) e = absurd (cc e)
same_rows (Some r) None e = absurd (cc e)
same_rows (Some r) (Some q) e = ap Some (row_cmp-antisymmetric r q (tied (row_cmp r q) e))

-- entries of one group, by their rows alone
rows_at : (c row : Row) (es : List (Entry ℤ)) → AllHome itself c es → weight_in row_cmp row (as_pairs es) ≡ at integers (c, row) es
rows_at c row [] h = refl
rows_at c row (e ∷ es) h =
    ap₂ (λ m n. m +ℤ n)
    (ap (λ b. cond b e.payload (pos 0)) (tie_back row_cmp row_cmp-total row e.row)
    ∙ sym (ap (λ k. cond (is_eq (ordering_then (row_cmp k c) (row_cmp e.row row))) e.payload (pos 0)) h.0
    ∙ ap (λ o. cond (is_eq (ordering_then o (row_cmp e.row row))) e.payload (pos 0)) (tied_itself row_cmp-total c)))
    (rows_at c row es h.1)

module _ (c : Row) where
  one_home : (r : Option Row) (n : ℤ) → AllHome itself c (one_shown c r n)
  one_home None n = tt
  one_home (Some r) n = (refl, tt)

  one_weight : (row : Row) (r : Option Row) → weight_in row_cmp row (as_pairs (one_shown c r (pos 1))) ≡ weight row (as_rows r)
  one_weight row None = sym (none_weight row)
  one_weight row (Some r) = sym (row_weight row r)

  turned : (b : Bool) → cond b (negsuc 0) (pos 0) +ℤ pos 0 ≡ neg_ℤ (cond b (pos 1) (pos 0) +ℤ pos 0)
  turned true = refl
  turned false = refl

  gone_weight : (row : Row) (r : Option Row) → weight_in row_cmp row (as_pairs (one_shown c r (negsuc 0))) ≡ neg_ℤ (weight row (as_rows r))
  gone_weight row None = sym (ap neg_ℤ (none_weight row))
  gone_weight row (Some r) = turned (is_eq (row_cmp row r)) ∙ sym (ap neg_ℤ (row_weight row r))

  module _ (r q : Option Row) where
    by_same : (P : List (Entry ℤ) → Type 0) → (is_same_row r q ≡ true → P []) → (is_same_row r q ≡ false → P (one_shown c r (negsuc 0) ++ one_shown c q (pos 1))) → P (shown_entries c r q)
    by_same P same other =
        elim (is_same_row r q) as (λ b. is_same_row r q ≡ b → P (cond b [] (one_shown c r (negsuc 0) ++ one_shown c q (pos 1)))) [ true ↦ same | false ↦ other ] refl

    pub shown_home : AllHome itself c (shown_entries c r q)
    shown_home = by_same (AllHome itself c) (λ e. tt) (λ e. home-append itself c (one_shown c r (negsuc 0)) (one_shown c q (pos 1)) (one_home r (negsuc 0)) (one_home q (pos 1)))

    less : (m n : ℤ) → neg_ℤ m +ℤ n ≡ n -ℤ m
    less m n = omega (arith, ints)

    none_less : (n : ℤ) → pos 0 ≡ n -ℤ n
    none_less n = omega (arith, ints)

    both_at : (row : Row) → at integers (c, row) (one_shown c r (negsuc 0) ++ one_shown c q (pos 1)) ≡ weight row (minus (as_rows q) (as_rows r))
    both_at row =
        at-append integers integers_are_abelian (c, row) (one_shown c r (negsuc 0)) (one_shown c q (pos 1))
        ∙ ap₂ (λ m n. m +ℤ n)
        (sym (rows_at c row (one_shown c r (negsuc 0)) (one_home r (negsuc 0))) ∙ gone_weight row r)
        (sym (rows_at c row (one_shown c q (pos 1)) (one_home q (pos 1))) ∙ one_weight row q)
        ∙ less (weight row (as_rows r)) (weight row (as_rows q)) ∙ sym (weight-minus row (as_rows q) (as_rows r))

    pub shown_at : (row : Row) → at integers (c, row) (shown_entries c r q) ≡ weight row (minus (as_rows q) (as_rows r))
    shown_at row =
        by_same (λ es. at integers (c, row) es ≡ weight row (minus (as_rows q) (as_rows r)))
        (λ e. none_less (weight row (as_rows q)) ∙ sym (weight-minus row (as_rows q) (as_rows r) ∙ ap (λ x. weight row (as_rows q) -ℤ weight row (as_rows x)) (same_rows r q e)))
        (λ e. both_at row)

    pub shown_weight : (row : Row) → weight_in row_cmp row (as_pairs (shown_entries c r q)) ≡ weight row (minus (as_rows q) (as_rows r))
    shown_weight row = rows_at c row (shown_entries c r q) shown_home ∙ shown_at row

  pub shown_distinct : (r q : Option Row) → AreDistinct (shown_entries c r q)
  shown_distinct None None = tt
  shown_distinct None (Some q) = (tt, tt)
  shown_distinct (Some r) None = (tt, tt)
  shown_distinct (Some r) (Some q) =
      by_same (Some r) (Some q) AreDistinct (λ e. tt)
      (λ e. ((λ same. let here = same_tied r q (sym (ap (λ (p : Place). p.1) same)) in absurd (cc (e, here)), tt), (tt, tt)))

  pub shown_within : (r q : Option Row) → AllInRange number_outside (shown_entries c r q)
  shown_within None None = tt
  shown_within None (Some q) = (refl, tt)
  shown_within (Some r) None = (refl, tt)
  shown_within (Some r) (Some q) = by_same (Some r) (Some q) (AllInRange number_outside) (λ e. tt) (λ e. (refl, (refl, tt)))

  pub shown_units : (r q : Option Row) → AllByRecursion (λ (e : Entry ℤ). unsigned_abs e.payload ≤ 1) (shown_entries c r q)
  shown_units None None = tt
  shown_units None (Some q) = (omega arith, tt)
  shown_units (Some r) None = (omega arith, tt)
  shown_units (Some r) (Some q) = by_same (Some r) (Some q) (AllByRecursion (λ (e : Entry ℤ). unsigned_abs e.payload ≤ 1)) (λ e. tt) (λ e. (omega arith, (omega arith, tt)))

  pub shown_none : (r q : Option Row) → r ≡ q → shown_entries c r q ≡ []
  shown_none r q e = ap (λ x. shown_entries c r x) (sym e) ∙ ap (λ b. cond b [] (one_shown c r (negsuc 0) ++ one_shown c r (pos 1))) (itself_same r)
    where
      itself_same : (x : Option Row) → is_same_row x x ≡ true
      itself_same None = refl
      itself_same (Some row) = ap is_eq (tied_itself row_cmp-total row)
