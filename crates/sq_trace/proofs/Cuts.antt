-- The cut of a run behind the rows that are done, and what is held on both sides of it.
use Rattle.std.proofs.Common.{◌≡◌, ℕ, zero, suc, ◌+◌, ◌-◌, ◌/◌, ◌<◌, ◌≤◌, List, [], ◌∷◌, take, drop, length, get_or, slice_get, Bool, true, false, not, if◌then◌else◌, ℤ, Option, Some, None, Less, Equal, Greater, ◌⊎◌, inl, inr, add-one, take-append-drop, refl, sym, ap, ap₂, subst, ◌∙◌, arith}
use Rattle.std.specs.declared.cmp.Ordering.{Ordering}
use Rattle.std.specs.Ordering.{ordering_then, ordering_reverse, match_ordering}
use Rattle.std.proofs.lemmas.Option.{get_or_from_slice_get, slice_get_within, slice_get_cases}
use Rattle.sq_value.specs.declared.value.Value.{Value}
use Rattle.sq_value.specs.Order.{row_cmp}
use Rattle.sq_value.specs.OrderLaws.{row_cmp-total, row_cmp-antisymmetric}
use Rattle.sq_algebra.specs.Groups.{AbelianGroup, IsAbelian}
use Rattle.sq_trace.specs.declared.entry.Entry.{Entry}
use Rattle.sq_trace.specs.declared.side.Side.{Side}
use Rattle.sq_trace.specs.declared.side.Side.TheVariants.{Least as Low, Greatest as High}
use Rattle.sq_trace.specs.Runs.{Place, place_of, place_cmp, at, AllAbove, IsRun}
use Rattle.sq_trace.specs.Ends.{low_there, is_low, is_left, left_in, AllAnswer, IsCut, beside}
use Rattle.sq_trace.proofs.Places.{place_cmp-total, same_place, place_itself, greater_turned, above_more}
use Rattle.sq_trace.proofs.Sums.{order_cases, given_apart, at-append, at_above, at_below}
use Rattle.sq_trace.proofs.Searching.{drop_there, drop_none, above_got, run-drop, below_to}

-- ---- places
-- what stands below a place that is below the cut is below it as well
low_step : (b : Bool) (o p : Ordering) → (p ≡ Less → o ≡ Less) → (p ≡ Equal → (o ≡ Less) ⊎ (o ≡ Equal)) → match_ordering p true b false ≡ true → match_ordering o true b false ≡ true
low_step b o Less less equal low = ap (λ r. match_ordering r true b false) (less refl)
low_step b o Equal less equal low = elim (equal refl) [ inl e ↦ ap (λ r. match_ordering r true b false) e | inr e ↦ ap (λ r. match_ordering r true b false) e ∙ low ]
low_step b o Greater less equal low = cc

key_step : (o r : Ordering) → ordering_then o r ≡ Less → (o ≡ Less) ⊎ (o ≡ Equal)
key_step Less r e = inl refl
key_step Equal r e = inr refl
key_step Greater r e = cc

pub low_down : (side : Side) (key : List Value) (last : Option (List Value)) (p q : Place) → place_cmp p q ≡ Less → is_low side key last q ≡ true → is_low side key last p ≡ true
low_down side key None p q less low = elim (key_step (row_cmp p.0 q.0) (row_cmp p.1 q.1) less) [
  | inl below ↦ low_step (low_there side None) (row_cmp p.0 key) (row_cmp q.0 key) (λ e. row_cmp-total.trans p.0 q.0 key below e) (λ e. inl (subst (λ k. row_cmp p.0 k ≡ Less) (row_cmp-antisymmetric q.0 key e) below)) low
  | inr same ↦ ap (λ k. match_ordering (row_cmp k key) true (low_there side None) false) (row_cmp-antisymmetric p.0 q.0 same) ∙ low
]
low_down side key (Some row) p q less low =
    low_step (low_there side (Some row)) (place_cmp p (key, row)) (place_cmp q (key, row)) (λ e. place_cmp-total.trans p q (key, row) less e) (λ e. inl (subst (λ c. place_cmp p c ≡ Less) (same_place q (key, row) e) less)) low

-- ---- the search
pub bool_cases : (b : Bool) → (b ≡ true) ⊎ (b ≡ false)
bool_cases true = inl refl
bool_cases false = inr refl

module _ {A : Type 0} (G : AbelianGroup A) (outside : A → Option ℤ) (side : Side) (key : List Value) (last : Option (List Value)) where
  low_to : (es : List (Entry A)) (m : ℕ) (d : Entry A) → IsRun G outside es → m < length es → is_low side key last (place_of (get_or es m d)) ≡ true → AllAnswer (is_low side key last) true (take (suc m) es)
  low_to [] m d run within low = absurd (omega arith)
  low_to (e ∷ es) zero d run within low = (low, tt)
  low_to (e ∷ es) (suc m) d run within low = (
    low_down side key last (place_of e) (place_of (get_or es m d)) (above_got (place_of e) es m d run.0 (omega arith)) low,
    low_to es m d run.2 (omega arith) low,
  )

  high_all : (p : Place) (es : List (Entry A)) → AllAbove p es → is_low side key last p ≡ false → AllAnswer (is_low side key last) false es
  high_all p [] above high = tt
  high_all p (e ∷ es) above high = (
    elim (bool_cases (is_low side key last (place_of e))) [ inl low ↦ absurd (let was = low_down side key last p (place_of e) above.0 low in cc) | inr is ↦ is ],
    high_all p es above.1 high,
  )

  high_from : (es : List (Entry A)) (m : ℕ) (d : Entry A) → IsRun G outside es → m < length es → is_low side key last (place_of (get_or es m d)) ≡ false → AllAnswer (is_low side key last) false (drop m es)
  high_from [] m d run within high = absurd (omega arith)
  high_from (e ∷ es) zero d run within high = (high, high_all (place_of e) es run.0 high)
  high_from (e ∷ es) (suc m) d run within high = high_from es m d run.2 (omega arith) high

  pub cut_on : (es : List (Entry A)) (low high : ℕ) (e : Entry A) (b : Bool) → IsRun G outside es → low < high → high ≤ length es → e ≡ get_or es (low + (high - low) / 2) e → b ≡ is_low side key last (place_of e) → b ≡ true
      → (low + (high - low) / 2 + 1 ≤ high) × AllAnswer (is_low side key last) true (take (low + (high - low) / 2 + 1) es)
  cut_on es low high e b run some within got is passes =
      let m : ℕ = low + (high - low) / 2 in
      let low_middle : m < high = omega arith in
      (omega arith, subst (λ n. AllAnswer (is_low side key last) true (take n es)) (sym (add-one m)) (low_to es m e run (omega arith) (ap (λ f. is_low side key last (place_of f)) (sym got) ∙ sym is ∙ passes)))

  pub cut_back : (es : List (Entry A)) (low high : ℕ) (e : Entry A) (b : Bool) → IsRun G outside es → low < high → high ≤ length es → e ≡ get_or es (low + (high - low) / 2) e → b ≡ is_low side key last (place_of e) → b ≡ false
      → (low ≤ low + (high - low) / 2) × (low + (high - low) / 2 ≤ length es) × AllAnswer (is_low side key last) false (drop (low + (high - low) / 2) es)
  cut_back es low high e b run some within got is fails =
      let m : ℕ = low + (high - low) / 2 in
      let low_middle : m < high = omega arith in
      (omega arith, omega arith, high_from es m e run (omega arith) (ap (λ f. is_low side key last (place_of f)) (sym got) ∙ sym is ∙ fails))

-- ---- places that are left
-- how two places compare, seen from an end
abbrev pub seen : Side → Place → Place → Ordering
seen Low p q = place_cmp p q
seen High p q = place_cmp q p

high_not_less : (o : Ordering) (b : Bool) → match_ordering o true b false ≡ false → o ≡ Less → ⊥
high_not_less Less b high less = cc
high_not_less Equal b high less = cc
high_not_less Greater b high less = cc

low_not_greater : (o : Ordering) (b : Bool) → match_ordering o true b false ≡ true → o ≡ Greater → ⊥
low_not_greater Less b low greater = cc
low_not_greater Equal b low greater = cc
low_not_greater Greater b low greater = cc

high_greater : (o : Ordering) → match_ordering o true true false ≡ false → o ≡ Greater
high_greater Less high = cc
high_greater Equal high = cc
high_greater Greater high = refl

low_less : (o : Ordering) → match_ordering o true false false ≡ true → o ≡ Less
low_less Less low = refl
low_less Equal low = cc
low_less Greater low = cc

high_key : (side : Side) (key : List Value) (last : Option (List Value)) (p : Place) → is_low side key last p ≡ false → row_cmp p.0 key ≡ Less → ⊥
high_key side key None p high less = high_not_less (row_cmp p.0 key) (low_there side None) high less
high_key side key (Some row) p high less = high_not_less (place_cmp p (key, row)) (low_there side (Some row)) high (ap (λ o. ordering_then o (row_cmp p.1 row)) less)

low_key : (side : Side) (key : List Value) (last : Option (List Value)) (p : Place) → is_low side key last p ≡ true → row_cmp p.0 key ≡ Greater → ⊥
low_key side key None p low greater = low_not_greater (row_cmp p.0 key) (low_there side None) low greater
low_key side key (Some row) p low greater = low_not_greater (place_cmp p (key, row)) (low_there side (Some row)) low (ap (λ o. ordering_then o (row_cmp p.1 row)) greater)

not_false : (b : Bool) → not b ≡ true → b ≡ false
not_false true e = cc
not_false false e = refl

-- a place of another key that is left stands behind the rows of the key
pub other_key : (side : Side) (key : List Value) (last : Option (List Value)) (p : Place) (row : List Value) → is_left side key last p ≡ true → (p.0 ≡ key → ⊥) → seen side (key, row) p ≡ Less
other_key Low key last p row left other =
    let greater : row_cmp p.0 key ≡ Greater = order_cases (row_cmp p.0 key) (high_key Low key last p (not_false (is_low Low key last p) left)) (λ e. other (row_cmp-antisymmetric p.0 key e)) in
    ap (λ o. ordering_then o (row_cmp row p.1)) (row_cmp-total.antisymm key p.0 ∙ ap ordering_reverse greater)
other_key High key last p row left other = ap (λ o. ordering_then o (row_cmp p.1 row)) (less_cases (row_cmp p.0 key) (λ e. other (row_cmp-antisymmetric p.0 key e)) (low_key High key last p left))
  where
    less_cases : (o : Ordering) → (o ≡ Equal → ⊥) → (o ≡ Greater → ⊥) → o ≡ Less
    less_cases Less a b = refl
    less_cases Equal a b = absurd (a refl)
    less_cases Greater a b = absurd (b refl)

-- what is left behind a row that was left was left before
pub left_back : (side : Side) (key : List Value) (last : Option (List Value)) (row : List Value) (p : Place) → is_left side key last (key, row) ≡ true → is_left side key (Some row) p ≡ true → is_left side key last p ≡ true
left_back Low key last row p left behind =
    let above : place_cmp (key, row) p ≡ Less = greater_turned p (key, row) (high_greater (place_cmp p (key, row)) (not_false (is_low Low key (Some row) p) behind)) in
    elim (bool_cases (is_low Low key last p)) [ inl low ↦ absurd (let was = low_down Low key last (key, row) p above low in cc) | inr high ↦ ap not high ]
left_back High key last row p left behind = low_down High key last p (key, row) (low_less (place_cmp p (key, row)) behind) left

-- a row that is done is not left
pub done_itself : (side : Side) (key row : List Value) → is_left side key (Some row) (key, row) ≡ false
done_itself Low key row = ap (λ o. not (match_ordering o true true false)) (place_itself (key, row))
done_itself High key row = ap (λ o. match_ordering o true false false) (place_itself (key, row))

-- ---- how many are left
abbrev one : Bool → ℕ
one b = if b then 1 else 0

one_if : (a b : Bool) → (a ≡ true → b ≡ true) → (if a then 1 else 0) ≤ (if b then 1 else 0)
one_if true b e = subst (λ c. 1 ≤ (if c then 1 else 0)) (sym (e refl)) (omega arith)
one_if false b e = omega arith

less_sum : (a b m n : ℕ) → a ≡ 0 → b ≡ 1 → m ≤ n → a + m < b + n
less_sum a b m n none some falls = omega arith

module _ {A : Type 0} (side : Side) (key : List Value) (last : Option (List Value)) (row : List Value) (left : is_left side key last (key, row) ≡ true) where
  pub left_falls : (es : List (Entry A)) → left_in side key es (Some row) ≤ left_in side key es last
  left_falls [] = omega arith
  left_falls (e ∷ es) =
      let here = one_if (is_left side key (Some row) (place_of e)) (is_left side key last (place_of e)) (left_back side key last row (place_of e) left) in
      let rest = left_falls es in
      omega arith

  pub left_less : (es : List (Entry A)) (i : ℕ) (e : Entry A) → i < length es → e ≡ get_or es i e → place_of e ≡ (key, row) → left_in side key es (Some row) < left_in side key es last
  left_less [] i e within got same = absurd (omega arith)
  left_less (f ∷ es) zero e within got same =
      let at_place : place_of f ≡ (key, row) = ap place_of (sym got) ∙ same in
      less_sum (one (is_left side key (Some row) (place_of f))) (one (is_left side key last (place_of f))) (left_in side key es (Some row)) (left_in side key es last)
      (ap one (ap (is_left side key (Some row)) at_place ∙ done_itself side key row)) (ap one (ap (is_left side key last) at_place ∙ left)) (left_falls es)
  left_less (f ∷ es) (suc i) e within got same =
      let here = one_if (is_left side key (Some row) (place_of f)) (is_left side key last (place_of f)) (left_back side key last row (place_of f) left) in
      let rest = left_less es i e (omega arith) got same in
      omega arith

-- ---- what is held
past : {X : Type 0} (xs : List X) (i : ℕ) → slice_get xs i ≡ None → length xs ≤ i
past xs i none = elim (slice_get_cases xs i).1 [ inl there ↦ absurd (let is = there.2 in cc) | inr behind ↦ behind.0 ]

front_got : {A : Type 0} (test : Place → Bool) (b : Bool) (es : List (Entry A)) (m : ℕ) (d : Entry A) → AllAnswer test b (take (suc m) es) → m < length es → test (place_of (get_or es m d)) ≡ b
front_got test b [] m d all within = absurd (omega arith)
front_got test b (e ∷ es) zero d all within = all.0
front_got test b (e ∷ es) (suc m) d all within = front_got test b es m d all.1 (omega arith)

module _ {A : Type 0} (G : AbelianGroup A) (laws : IsAbelian G) (outside : A → Option ℤ) where
  -- entries on the other side of the cut give nothing for a place
  at_other : (test : Place → Bool) (b : Bool) (p : Place) (es : List (Entry A)) → AllAnswer test b es → (test p ≡ b → ⊥) → at G p es ≡ G.zero
  at_other test b p [] all other = refl
  at_other test b p (e ∷ es) all other =
      ap₂ G.plus (given_apart G laws p e (λ same. other (ap test (sym (same_place (place_of e) p same)) ∙ all.0))) (at_other test b p es all.1 other) ∙ laws.neutral G.zero

  at_split : (p : Place) (es : List (Entry A)) (i : ℕ) → at G p es ≡ G.plus (at G p (take i es)) (at G p (drop i es))
  at_split p es i = ap (at G p) (sym (take-append-drop i es)) ∙ at-append G laws p (take i es) (drop i es)

  -- behind the last entry nothing is left
  pub none_beside : (side : Side) (key : List Value) (last : Option (List Value)) (es : List (Entry A)) (i : ℕ) (p : Place) → IsCut (is_low side key last) es i → beside side es i ≡ None → is_left side key last p ≡ true → at G p es ≡ G.zero
  none_beside Low key last es i p is_cut none left =
      at_split p es i
      ∙ ap₂ G.plus (at_other (is_low Low key last) true p (take i es) is_cut.front (λ low. let high = not_false (is_low Low key last p) left in cc)) (ap (at G p) (drop_none es i (past es i none)))
      ∙ laws.neutral G.zero
  none_beside High key last es zero p is_cut none left = at_other (is_low High key last) false p es is_cut.back (λ high. cc)
  none_beside High key last es (suc i) p is_cut none left = absurd (let out = past es i none in let in_it = is_cut.within in omega arith)

  -- nothing is held at what is left before the entry beside the cut
  pub before_beside : (side : Side) (key : List Value) (last : Option (List Value)) (es : List (Entry A)) (i : ℕ) (e : Entry A) (p : Place) → IsRun G outside es → IsCut (is_low side key last) es i → beside side es i ≡ Some e → is_left side key last p ≡ true → seen side p (place_of e) ≡ Less
      → at G p es ≡ G.zero
  before_beside Low key last es i e p run is_cut got left less =
      let split = drop_there es i e (slice_get_within es i e got) (sym (get_or_from_slice_get es i e e got)) in
      let rest = subst (IsRun G outside) split (run-drop G outside es i run) in
      at_split p es i
      ∙ ap₂ G.plus (at_other (is_low Low key last) true p (take i es) is_cut.front (λ low. let high = not_false (is_low Low key last p) left in cc))
      (ap (at G p) split ∙ at_above G laws p (e ∷ drop (suc i) es) (less, above_more p (place_of e) (drop (suc i) es) less rest.0))
      ∙ laws.neutral G.zero
  before_beside High key last es zero e p run is_cut got left less = cc
  before_beside High key last es (suc i) e p run is_cut got left less =
      at_split p es (suc i)
      ∙ ap₂ G.plus (at_below G laws p (take (suc i) es) (below_to G outside p es i e run (slice_get_within es i e got) (ap (λ f. place_cmp (place_of f) p) (get_or_from_slice_get es i e e got) ∙ less)))
      (at_other (is_low High key last) false p (drop (suc i) es) is_cut.back (λ high. cc))
      ∙ laws.neutral G.zero

  pub beside_left : (side : Side) (key : List Value) (last : Option (List Value)) (es : List (Entry A)) (i : ℕ) (e : Entry A) → IsCut (is_low side key last) es i → beside side es i ≡ Some e → is_left side key last (place_of e) ≡ true
  beside_left Low key last es i e is_cut got =
      let split = drop_there es i e (slice_get_within es i e got) (sym (get_or_from_slice_get es i e e got)) in
      let back = subst (AllAnswer (is_low Low key last) false) split is_cut.back in
      ap not back.0
  beside_left High key last es zero e is_cut got = cc
  beside_left High key last es (suc i) e is_cut got =
      ap (λ f. is_low High key last (place_of f)) (sym (get_or_from_slice_get es i e e got)) ∙ front_got (is_low High key last) true es i e is_cut.front (slice_get_within es i e got)
