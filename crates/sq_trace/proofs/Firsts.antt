-- The first row that is kept: among the rows at which a trace holds something, and with those of a change as well.
use Rattle.std.proofs.Common.{◌≡◌, ℕ, zero, suc, ◌+◌, ◌-◌, ◌<◌, ◌≤◌, List, length, get_or, slice_get, Bool, true, false, not, ℤ, pos, ◌+ℤ◌, ◌≤ℤ◌, Option, Some, None, Less, Equal, Greater, ◌⊎◌, inl, inr, refl, sym, ap, subst, ◌∙◌, arith}
use borrow.Author.Differences.{ints}
use Rattle.std.specs.declared.cmp.Ordering.{Ordering}
use Rattle.std.specs.Cmp.{tied_itself}
use Rattle.std.specs.Prelude.{unwrap_or, MatchOption}
use Rattle.std.specs.Ordering.{is_eq, is_lt, match_ordering, ordering_then, ordering_reverse}
use Rattle.std.proofs.lemmas.Option.{slice_get-get_or}
use Rattle.sq_value.specs.declared.value.Value.{Value}
use Rattle.sq_value.specs.Order.{row_cmp}
use Rattle.sq_value.specs.OrderLaws.{row_cmp-total, row_cmp-antisymmetric}
use Rattle.sq_algebra.specs.Groups.{integers}
use Rattle.sq_algebra.specs.ZSet.{ZSet, entries, weight, entries_canonical}
use Rattle.sq_algebra.proofs.Places.{weight_in_apart, ascending_got}
use Rattle.sq_algebra.proofs.Weights.{weight-entries, ascending_from}
use Rattle.sq_trace.specs.declared.side.Side.{Side}
use Rattle.sq_trace.specs.declared.side.Side.TheVariants.{Least as Low, Greatest as High}
use Rattle.sq_trace.specs.Ends.{is_before, is_left, place_from, IsNext, NextOf, IsFirst, FirstOf, IsFirstHeld, IsNth, IsNthBefore, EndsBefore}
use Rattle.sq_trace.proofs.Cuts.{bool_cases}
use Rattle.sq_trace.proofs.Nexts.{lt_less, three_ways, before-trans}

-- ---- rows that are left
-- before any row is done, all rows of the key are left
all_left : (side : Side) (key row : List Value) → is_left side key None (key, row) ≡ true
all_left Low key row = ap (λ o. not (match_ordering o true false false)) (tied_itself row_cmp-total key)
all_left High key row = ap (λ o. match_ordering o true true false) (tied_itself row_cmp-total key)

-- a row behind the one that is done is left
behind_left : (side : Side) (key row behind : List Value) → is_before side row (Some behind) ≡ true → is_left side key (Some row) (key, behind) ≡ true
behind_left Low key row behind before =
    ap (λ o. not (match_ordering (ordering_then o (row_cmp behind row)) true true false)) (tied_itself row_cmp-total key)
    ∙ ap (λ o. not (match_ordering o true true false)) (row_cmp-total.antisymm behind row ∙ ap ordering_reverse (lt_less (row_cmp row behind) before))
behind_left High key row behind before =
    ap (λ o. match_ordering (ordering_then o (row_cmp behind row)) true false false) (tied_itself row_cmp-total key)
    ∙ ap (λ o. match_ordering o true false false) (lt_less (row_cmp behind row) before)

-- ---- what the trace holds
module _ (side : Side) (key : List Value) (w held : List Value → ℤ) where
  -- of the rows that are done, those that are kept have nothing held at them
  abbrev pub DoneAreGone : Option (List Value) → Type 0
  DoneAreGone last = (q : List Value) → is_left side key last (key, q) ≡ false → pos 1 ≤ℤ w q → held q ≡ pos 0

  pub gone_start : DoneAreGone None
  gone_start q gone kept = absurd (let left = all_left side key q in cc)

  pub gone_turn : (last : Option (List Value)) (left : Option (List Value) → ℕ) (row : List Value) → DoneAreGone last → IsNext integers side key last held left row → (pos 1 ≤ℤ w row → ⊥) → DoneAreGone (Some row)
  gone_turn last left row done next not_kept q gone kept = elim (bool_cases (is_left side key last (key, q))) [
    | inl still ↦ elim (three_ways side q row) [
      | inl before ↦ next.none_before q still before
      | inr other ↦ elim other [
        | inl same ↦ absurd (not_kept (subst (λ r. pos 1 ≤ℤ w r) same kept))
        | inr behind ↦ absurd (let is = behind_left side key row q behind in cc)
      ]
    ]
    | inr was ↦ done q was kept
  ]

  pub held_found : (last : Option (List Value)) (left : Option (List Value) → ℕ) (row : List Value) → DoneAreGone last → IsNext integers side key last held left row → pos 1 ≤ℤ w row → IsFirstHeld side w held (Some row)
  held_found last left row done next kept = record {
    there = kept;
    none_before = λ q kept_too before. elim (bool_cases (is_left side key last (key, q))) [ inl still ↦ next.none_before q still before | inr was ↦ done q was kept_too ];
  }

  pub held_none : (last : Option (List Value)) (left : Option (List Value) → ℕ) → DoneAreGone last → NextOf integers side key last held left None → IsFirstHeld side w held None
  held_none last left done next = record {
    there = tt;
    none_before = λ q kept before. elim (bool_cases (is_left side key last (key, q))) [ inl still ↦ next q still | inr was ↦ done q was kept ];
  }

-- ---- the rows of the change as well
same_Some : {X : Type 0} {a b : X} → Some a ≡ Some b → a ≡ b
same_Some {X} {a} {b} e = ap (λ o. unwrap_or o a) e

below_or_not : (a b : ℕ) → (a < b) ⊎ (b ≤ a)
below_or_not zero zero = inr (omega arith)
below_or_not zero (suc b) = inl (omega arith)
below_or_not (suc a) zero = inr (omega arith)
below_or_not (suc a) (suc b) = elim (below_or_not a b) [ inl x ↦ inl (omega arith) | inr y ↦ inr (omega arith) ]

lower_or_last : (j n : ℕ) → j < n + 1 → (j < n) ⊎ (j ≡ n)
lower_or_last j n low = elim (below_or_not j n) [ inl a ↦ inl a | inr b ↦ inr (omega arith) ]

eq_equal : (o : Ordering) → is_eq o ≡ true → o ≡ Equal
eq_equal Less e = cc
eq_equal Equal e = refl
eq_equal Greater e = cc

-- the entries of a change, counted from an end, ascend as seen from there
rising : (side : Side) (change : ZSet (List Value) row_cmp) (i j : ℕ) (e f : List Value × ℤ) → i < j → IsNth side change i e → IsNth side change j f → is_before side e.0 (Some f.0) ≡ true
rising Low change i j e f low is_e is_f = ap is_lt (ascending_got row_cmp (entries change) i j e f (ascending_from row_cmp (entries change) (entries_canonical change)) low is_e.entry is_f.entry)
rising High change i j e f low is_e is_f =
    let within = is_f.low in
    ap is_lt (ascending_got row_cmp (entries change) (length (entries change) - 1 - j) (length (entries change) - 1 - i) f e (ascending_from row_cmp (entries change) (entries_canonical change)) (omega arith) is_f.entry is_e.entry)

each_nth : (side : Side) (change : ZSet (List Value) row_cmp) (i : ℕ) (e : List Value × ℤ) → i < length (entries change) → slice_get (entries change) i ≡ Some e → IsNth side change (place_from side (length (entries change)) i) e
each_nth Low change i e low got = record { low = low; entry = got }
each_nth High change i e low got =
    let n : ℕ = length (entries change) in
    let back : n - 1 - (n - 1 - i) ≡ i = omega arith in
    record { low = omega arith; entry = subst (λ k. slice_get (entries change) k ≡ Some e) (sym back) got }

itself : (side : Side) (row : List Value) → is_before side row (Some row) ≡ false
itself Low row = ap is_lt (tied_itself row_cmp-total row)
itself High row = ap is_lt (tied_itself row_cmp-total row)

no_sum : (w h n : ℤ) → w ≡ h +ℤ n → h ≡ pos 0 → n ≡ pos 0 → pos 1 ≤ℤ w → ⊥
no_sum w h n is none nothing kept = omega (arith, ints)

module _ (side : Side) (change : ZSet (List Value) row_cmp) where
  same_row : (j : ℕ) (e f : List Value × ℤ) → IsNth side change j e → IsNth side change j f → e.0 ≡ f.0
  same_row j e f is_e is_f = ap (λ x. x.0) (same_Some (sym is_e.entry ∙ is_f.entry))

  pub ends : (n : ℕ) (other : Option (List Value)) → length (entries change) ≤ n → EndsBefore side change n other
  ends n other all j e behind nth before = let low = nth.low in omega arith

  pub ends_here : (n : ℕ) (other : Option (List Value)) (e : List Value × ℤ) (b : Bool) → IsNth side change n e → b ≡ is_before side e.0 other → b ≡ false → EndsBefore side change n other
  ends_here n other e b nth is fails j f behind nth_f before = elim (lower_or_last n j (omega arith)) [
    | inl lower ↦ let first : is_before side e.0 (Some f.0) ≡ true = rising side change n j e f lower nth nth_f in
        let too = before-trans side e.0 f.0 other first before in cc
    | inr same ↦ let row : f.0 ≡ e.0 = same_row j f e nth_f (subst (λ k. IsNth side change k e) same nth) in let too = subst (λ r. is_before side r other ≡ true) row before in cc
  ]

  pub nth_at : (n count place : ℕ) (e : List Value × ℤ) → n < length (entries change) → count ≡ length (entries change) → place ≡ place_from side count n → slice_get (entries change) place ≡ Some e → IsNth side change n e
  nth_at n count place e low counts is got = record { low = low; entry = subst (λ k. slice_get (entries change) k ≡ Some e) (is ∙ ap (λ k. place_from side k n) counts) got }

module _ (side : Side) (w : List Value → ℤ) (change : ZSet (List Value) row_cmp) where
  -- of the first n rows of the change from the end, none is kept
  abbrev pub NoneKept : ℕ → Type 0
  NoneKept n = (j : ℕ) (e : List Value × ℤ) → j < n → IsNth side change j e → pos 1 ≤ℤ w e.0 → ⊥

  pub none_kept_on : (n : ℕ) (other : Option (List Value)) (row : List Value) → NoneKept n → IsNthBefore side change n other row → (pos 1 ≤ℤ w row → ⊥) → NoneKept (n + 1)
  none_kept_on n other row none nth gone j f low nth_f kept = elim (lower_or_last j n low) [
    | inl lower ↦ none j f lower nth_f kept
    | inr last ↦ gone (subst (λ r. pos 1 ≤ℤ w r) (same_row side change n f (row, nth.weight) (subst (λ k. IsNth side change k f) last nth_f) nth.nth) kept)
  ]

module _ (side : Side) (w held : List Value → ℤ) (change : ZSet (List Value) row_cmp) where
  -- no row stands before another and is kept
  abbrev NothingBefore : Option (List Value) → Type 0
  NothingBefore other = (q : List Value) → pos 1 ≤ℤ w q → is_before side q other ≡ true → ⊥

  first_from : (other : Option (List Value)) → MatchOption other (Unit {0}) (λ row. pos 1 ≤ℤ w row) → NothingBefore other → FirstOf side w other
  first_from None there nothing = λ q kept. nothing q kept refl
  first_from (Some row) there nothing = record { there = there; none_before = λ q kept. elim (bool_cases (is_before side q (Some row))) [ inl before ↦ absurd (nothing q kept before) | inr is ↦ is ] }

  -- a row at which nothing is held is kept only if it is a row of the change
  module _ (adds : (q : List Value) → w q ≡ held q +ℤ weight q change) where
    nothing_before : (other : Option (List Value)) → ((q : List Value) → pos 1 ≤ℤ w q → is_before side q other ≡ true → held q ≡ pos 0) → ((j : ℕ) (e : List Value × ℤ) → IsNth side change j e → pos 1 ≤ℤ w e.0 → is_before side e.0 other ≡ true → ⊥) → NothingBefore other
    nothing_before other not_held none q kept before =
        let apart : (i : ℕ) (d : List Value × ℤ) → i < length (entries change) → is_eq (row_cmp q (get_or (entries change) i d).0) ≡ false =
        λ i d low. elim (bool_cases (is_eq (row_cmp q (get_or (entries change) i d).0))) [
          | inl tied ↦ let same : q ≡ (get_or (entries change) i d).0 = row_cmp-antisymmetric q (get_or (entries change) i d).0 (eq_equal (row_cmp q (get_or (entries change) i d).0) tied) in
              absurd (none (place_from side (length (entries change)) i) (get_or (entries change) i d) (each_nth side change i (get_or (entries change) i d) low (slice_get-get_or (entries change) i d low))
              (subst (λ r. pos 1 ≤ℤ w r) same kept) (subst (λ r. is_before side r other ≡ true) same before))
          | inr is ↦ is
        ] in
        let no_weight : weight q change ≡ pos 0 = weight-entries row_cmp q change ∙ weight_in_apart row_cmp q (entries change) apart in
        no_sum (w q) (held q) (weight q change) (adds q) (not_held q kept before) no_weight kept

    -- the n-th row of the change
    pub first_in_change : (best : Option (List Value)) (n : ℕ) (row answer : List Value) → IsFirstHeld side w held best → NoneKept side w change n → IsNthBefore side change n best row → pos 1 ≤ℤ w row → answer ≡ row → IsFirst side w answer
    first_in_change best n row answer first none nth kept is = subst (IsFirst side w) (sym is) (first_from (Some row) kept
        (nothing_before (Some row) (λ q kept_too before. first.none_before q kept_too (before-trans side q row best before nth.before))
        (λ j e nth_e kept_too before. elim (below_or_not j n) [
          | inl low ↦ none j e low nth_e kept_too
          | inr high ↦ ends_here side change n (Some row) (row, nth.weight) (is_before side row (Some row)) nth.nth refl (itself side row) j e high nth_e before
        ])))

    -- the one at which the trace holds something, or none
    pub first_in_trace : (best answer : Option (List Value)) (n : ℕ) → IsFirstHeld side w held best → NoneKept side w change n → EndsBefore side change n best → answer ≡ best → FirstOf side w answer
    first_in_trace best answer n first none ending is = subst (FirstOf side w) (sym is) (first_from best first.there
        (nothing_before best first.none_before (λ j e nth_e kept before. elim (below_or_not j n) [ inl low ↦ none j e low nth_e kept | inr high ↦ ending j e high nth_e before ])))
