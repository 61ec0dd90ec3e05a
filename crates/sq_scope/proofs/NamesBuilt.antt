-- How the places of names are put together, column by column and source by source.
use Rattle.std.proofs.Common.{◌≡◌, ℕ, suc, ◌+◌, ◌-◌, ◌<◌, ◌≤◌, Bool, true, false, not, ◌&&◌, List, [], ◌∷◌, ◌++◌, length, take, get_or, cond, refl, sym, ap, ◌∙◌, arith, append-nil, append_assoc, length-append, length-take-le, ◌==◌}
use Rattle.std.specs.Prelude.{Option, Some, None, nat_lt, slice_get, bytes_eq, position, if◌then◌else◌, is_some}
use Rattle.std.specs.List.{AllByRecursion, position_or_len}
use Rattle.std.proofs.lemmas.Bool.Decides.{nat_tests}
use Rattle.std.proofs.lemmas.List.{take_more}
use Rattle.std.proofs.lemmas.Option.{same_Some}
use Rattle.std.proofs.lemmas.Slice.Eq.{bytes_eq-Decides}
use Rattle.sq_catalog.specs.declared.relation.Column.{Column}
use Rattle.sq_scope.specs.NamesIndex.{spot_at, spots_from, named_from, ends_in, IsRising}
use Rattle.sq_scope.specs.declared.index.Place.{Place}
use Rattle.sq_typed.specs.Scopes.{Named, Scope, columns_in, Text}

nothing : (n : ℕ) → n ≡ n + 0
nothing n = omega arith

-- ---- the first that passes

abbrev or_at : Option ℕ → Bool → ℕ → Option ℕ
or_at (Some k) b i = Some k
or_at None true i = Some i
or_at None false i = None

abbrev behind_one : Option ℕ → Option ℕ
behind_one (Some k) = Some (suc k)
behind_one None = None

abbrev from_test : Bool → ℕ → Option ℕ
from_test b k = cond b (Some k) None

module _ {A : Type 0} (p : A → Bool) where
  next : (k n : ℕ) (b : Bool) → nat_lt k n ≡ b → from_test (nat_lt (1 + k) (suc n)) (1 + k) ≡ behind_one (from_test b k)
  next k n true e = let f : nat_lt (1 + k) (suc n) ≡ true = grind (arith, nat_tests) in ap (λ b. from_test b (1 + k)) f ∙ ap Some (omega arith)
  next k n false e = let f : nat_lt (1 + k) (suc n) ≡ false = grind (arith, nat_tests) in ap (λ b. from_test b (1 + k)) f

  position-cons : (x : A) (xs : List A) (b : Bool) → p x ≡ b → position p (x ∷ xs) ≡ cond b (Some 0) (behind_one (position p xs))
  position-cons x xs true e = ap (λ b. from_test (nat_lt (cond (not b) (1 + position_or_len p xs) 0) (suc (length xs))) (cond (not b) (1 + position_or_len p xs) 0)) e ∙ (let f : nat_lt 0 (suc (length xs)) ≡ true = grind (arith, nat_tests) in ap (λ b. from_test b 0) f)
  position-cons x xs false e = ap (λ b. from_test (nat_lt (cond (not b) (1 + position_or_len p xs) 0) (suc (length xs))) (cond (not b) (1 + position_or_len p xs) 0)) e ∙ next (position_or_len p xs) (length xs) (nat_lt (position_or_len p xs) (length xs)) refl

  shifted : (b : Bool) (o : Option ℕ) (c : Bool) (n : ℕ) → cond b (Some 0) (behind_one (or_at o c n)) ≡ or_at (cond b (Some 0) (behind_one o)) c (suc n)
  shifted true o c n = refl
  shifted false (Some k) c n = refl
  shifted false None true n = refl
  shifted false None false n = refl

  position-push : (xs : List A) (x : A) → position p (xs ++ x ∷ []) ≡ or_at (position p xs) (p x) (length xs)
  position-push [] x = position-cons x [] (p x) refl ∙ elim (p x) as (λ b. cond b (Some 0) None ≡ or_at None b 0) [ true ↦ refl | false ↦ refl ]
  position-push (y ∷ ys) x =
      position-cons y (ys ++ x ∷ []) (p y) refl ∙ (ap (λ o. cond (p y) (Some 0) (behind_one o)) (position-push ys x) ∙
      (shifted (p y) (position p ys) (p x) (length ys) ∙ ap (λ o. or_at o (p x) (suc (length ys))) (sym (position-cons y ys (p y) refl))))

  position_more : (xs : List A) (i : ℕ) (d : A) → i < length xs → position p (take (i + 1) xs) ≡ or_at (position p (take i xs)) (p (get_or xs i d)) i
  position_more xs i d within =
      let le : i ≤ length xs = omega arith in
      ap (position p) (take_more xs i d within) ∙ (position-push (take i xs) (get_or xs i d) ∙ ap (or_at (position p (take i xs)) (p (get_or xs i d))) (length-take-le i xs le))

-- ---- the last place

pub last_of : (source : ℕ) (ps : List Place) (p : Place) → slice_get ps (length ps - 1) ≡ Some p → (p.source == source) ≡ ends_in source ps
last_of source [] p is = absurd (cc)
last_of source (x ∷ []) p is = ap (λ q. q.source == source) (sym (same_Some x p is))
last_of source (x ∷ y ∷ ps) p is =
    let e : length (x ∷ y ∷ ps) - 1 ≡ suc (length (y ∷ ps) - 1) = omega arith in
    last_of source (y ∷ ps) p (ap (slice_get (x ∷ y ∷ ps)) (sym e) ∙ is)

pub last_none : (source : ℕ) (ps : List Place) → slice_get ps (length ps - 1) ≡ None → false ≡ ends_in source ps
last_none source [] is = refl
last_none source (x ∷ []) is = cc
last_none source (x ∷ y ∷ ps) is =
    let e : length (x ∷ y ∷ ps) - 1 ≡ suc (length (y ∷ ps) - 1) = omega arith in
    last_none source (y ∷ ps) (ap (slice_get (x ∷ y ∷ ps)) (sym e) ∙ is)

abbrev AreBefore : ℕ → List Place → Type 0
AreBefore source ps = AllByRecursion (λ p. p.source < source) ps

ends_early : (source : ℕ) (ps : List Place) → AreBefore source ps → ends_in source ps ≡ false
ends_early source [] early = refl
ends_early source (p ∷ []) early = grind (arith, nat_tests, early.0)
ends_early source (p ∷ q ∷ ps) early = ends_early source (q ∷ ps) early.1

ends_push : (source : ℕ) (ps : List Place) (p : Place) → ends_in source (ps ++ p ∷ []) ≡ (p.source == source)
ends_push source [] p = refl
ends_push source (x ∷ []) p = refl
ends_push source (x ∷ y ∷ ps) p = ends_push source (y ∷ ps) p

ends_spot : (source begin : ℕ) (ps : List Place) (o : Option ℕ) → AreBefore source ps → ends_in source (ps ++ spot_at source begin o) ≡ is_some o
ends_spot source begin ps None early = ap (ends_in source) (append-nil ps) ∙ ends_early source ps early
ends_spot source begin ps (Some k) early = ends_push source ps (record { source = source; number = begin + k }) ∙ (let e : (source == source) ≡ true = grind (arith, nat_tests) in e)

-- ---- one more column

abbrev has_column : Text → Column → Bool
has_column q c = bytes_eq q c.name

-- what goes behind the places of a name where one of it is there, and where none is
behind_it : (source begin i : ℕ) (b : Bool) (start : List Place) (o : Option ℕ) →
    (start ++ spot_at source begin o) ++ (if b && not (is_some o) then record { source = source; number = begin + i } ∷ [] else []) ≡ start ++ spot_at source begin (or_at o b i)
behind_it source begin i false start o = append-nil (start ++ spot_at source begin o) ∙ elim o as (λ o. start ++ spot_at source begin o ≡ start ++ spot_at source begin (or_at o false i)) [ Some k ↦ refl | None ↦ refl ]
behind_it source begin i true start (Some k) = append-nil (start ++ spot_at source begin (Some k))
behind_it source begin i true start None = ap (λ l. l ++ record { source = source; number = begin + i } ∷ []) (append-nil start)

-- a test of equal texts
agree : (q m : Text) (f : Text → Bool) (b : Bool) → bytes_eq q m ≡ b → (b && f m) ≡ (b && f q)
agree q m f true e = ap f (sym ((bytes_eq-Decides q m).0 e))
agree q m f false e = refl

module _ (source begin : ℕ) (cs : List Column) (i : ℕ) (d : Column) (m : Text) (start old now : Text → List Place) where
  -- a column was put behind those before it
  pub column_more : i < length cs → m ≡ (get_or cs i d).name → ((q : Text) → AreBefore source (start q)) →
      ((q : Text) → old q ≡ start q ++ spot_at source begin (position (has_column q) (take i cs))) →
      ((q : Text) → now q ≡ old q ++ (if bytes_eq q m && not (ends_in source (old m)) then record { source = source; number = begin + i } ∷ [] else [])) →
      (q : Text) → now q ≡ start q ++ spot_at source begin (position (has_column q) (take (i + 1) cs))
  column_more within is early so_far added q =
      let told : ends_in source (old m) ≡ is_some (position (has_column m) (take i cs)) = ap (ends_in source) (so_far m) ∙ ends_spot source begin (start m) (position (has_column m) (take i cs)) (early m) in
      let same : (bytes_eq q m && not (ends_in source (old m))) ≡ (bytes_eq q m && not (is_some (position (has_column q) (take i cs)))) =
      ap (λ e. bytes_eq q m && not e) told ∙ agree q m (λ t. not (is_some (position (has_column t) (take i cs)))) (bytes_eq q m) refl in
      let tested : has_column q (get_or cs i d) ≡ bytes_eq q m = ap (bytes_eq q) (sym is) in
      added q ∙ ((λ j. so_far q j ++ (if same j then record { source = source; number = begin + i } ∷ [] else [])) ∙
      (behind_it source begin i (bytes_eq q m) (start q) (position (has_column q) (take i cs)) ∙
      ap (λ o. start q ++ spot_at source begin o) (ap (λ b. or_at (position (has_column q) (take i cs)) b i) (sym tested) ∙ sym (position_more (has_column q) cs i d within))))

-- ---- one more source

spots-append : (source begin : ℕ) (ss more : Scope) (q : Text) → spots_from source begin (ss ++ more) q ≡ spots_from source begin ss q ++ spots_from (source + length ss) (begin + length (columns_in ss)) more q
spots-append source begin [] more q = λ i. spots_from (nothing source i) (nothing begin i) more q
spots-append source begin (s ∷ ss) more q =
    let many : begin + length s.columns + length (columns_in ss) ≡ begin + length (s.columns ++ columns_in ss) = omega (arith, length-append s.columns (columns_in ss)) in
    let next : suc source + length ss ≡ source + suc (length ss) = omega arith in
    ap (λ l. spot_at source begin (position (has_column q) s.columns) ++ l) (spots-append (suc source) (begin + length s.columns) ss more q ∙ (λ i. spots_from (suc source) (begin + length s.columns) ss q ++ spots_from (next i) (many i) more q)) ∙
    sym (append_assoc (spot_at source begin (position (has_column q) s.columns)) (spots_from (suc source) (begin + length s.columns) ss q) _)

pub spots_more : (ss : Scope) (i : ℕ) (d : Named) (q : Text) → i < length ss →
    spots_from 0 0 (take (i + 1) ss) q ≡ spots_from 0 0 (take i ss) q ++ spot_at i (length (columns_in (take i ss))) (position (has_column q) (get_or ss i d).columns)
spots_more ss i d q within =
    let le : i ≤ length ss = omega arith in
    let count : 0 + length (take i ss) ≡ i = omega (arith, length-take-le i ss le) in
    let width : 0 + length (columns_in (take i ss)) ≡ length (columns_in (take i ss)) = omega arith in
    ap (λ l. spots_from 0 0 l q) (take_more ss i d within) ∙ (spots-append 0 0 (take i ss) (get_or ss i d ∷ []) q ∙
    ap (λ l. spots_from 0 0 (take i ss) q ++ l) (append-nil (spot_at (0 + length (take i ss)) (0 + length (columns_in (take i ss))) (position (has_column q) (get_or ss i d).columns)) ∙
    λ j. spot_at (count j) (width j) (position (has_column q) (get_or ss i d).columns)))

named-append : (source : ℕ) (ss more : Scope) (q : Text) → named_from source (ss ++ more) q ≡ named_from source ss q ++ named_from (source + length ss) more q
named-append source [] more q = ap (λ n. named_from n more q) (nothing source)
named-append source (s ∷ ss) more q =
    let next : suc source + length ss ≡ source + suc (length ss) = omega arith in
    ap (λ l. (if bytes_eq q s.name then source ∷ [] else []) ++ l) (named-append (suc source) ss more q ∙ ap (λ n. named_from (suc source) ss q ++ named_from n more q) next) ∙
    sym (append_assoc (if bytes_eq q s.name then source ∷ [] else []) (named_from (suc source) ss q) _)

pub named_more : (ss : Scope) (i : ℕ) (d : Named) (q : Text) → i < length ss →
    named_from 0 (take (i + 1) ss) q ≡ named_from 0 (take i ss) q ++ (if bytes_eq q (get_or ss i d).name then i ∷ [] else [])
named_more ss i d q within =
    let le : i ≤ length ss = omega arith in
    let count : 0 + length (take i ss) ≡ i = omega (arith, length-take-le i ss le) in
    ap (λ l. named_from 0 l q) (take_more ss i d within) ∙ (named-append 0 (take i ss) (get_or ss i d ∷ []) q ∙
    ap (λ l. named_from 0 (take i ss) q ++ l) (append-nil (if bytes_eq q (get_or ss i d).name then (0 + length (take i ss)) ∷ [] else []) ∙
    ap (λ n. if bytes_eq q (get_or ss i d).name then n ∷ [] else []) count))

-- the places of the sources before one are before it
before_append : (n : ℕ) (ps qs : List Place) → AreBefore n ps → AreBefore n qs → AreBefore n (ps ++ qs)
before_append n [] qs early late = late
before_append n (p ∷ ps) qs early late = (early.0, before_append n ps qs early.1 late)

spot_before : (n source begin : ℕ) (o : Option ℕ) → source < n → AreBefore n (spot_at source begin o)
spot_before n source begin None below = tt
spot_before n source begin (Some k) below = (below, tt)

all_before : (n source begin : ℕ) (ss : Scope) (q : Text) → source + length ss ≤ n → AreBefore n (spots_from source begin ss q)
all_before n source begin [] q le = tt
all_before n source begin (s ∷ ss) q le =
    before_append n (spot_at source begin (position (has_column q) s.columns)) (spots_from (suc source) (begin + length s.columns) ss q)
    (spot_before n source begin (position (has_column q) s.columns) (omega arith)) (all_before n (suc source) (begin + length s.columns) ss q (omega arith))

pub fresh : (ss : Scope) (i : ℕ) (q : Text) → i ≤ length ss → AreBefore i (spots_from 0 0 (take i ss) q)
fresh ss i q le = all_before i 0 0 (take i ss) q (omega (arith, length-take-le i ss le))

-- the places of a name rise
behind_append : (n : ℕ) (ps qs : List Place) → AllByRecursion (λ p. n < p.source) ps → AllByRecursion (λ p. n < p.source) qs → AllByRecursion (λ p. n < p.source) (ps ++ qs)
behind_append n [] qs early late = late
behind_append n (p ∷ ps) qs early late = (early.0, behind_append n ps qs early.1 late)

spot_behind : (n source begin : ℕ) (o : Option ℕ) → n < source → AllByRecursion (λ p. n < p.source) (spot_at source begin o)
spot_behind n source begin None above = tt
spot_behind n source begin (Some k) above = (above, tt)

pub all_behind : (n source begin : ℕ) (ss : Scope) (q : Text) → n < source → AllByRecursion (λ p. n < p.source) (spots_from source begin ss q)
all_behind n source begin [] q above = tt
all_behind n source begin (s ∷ ss) q above =
    behind_append n (spot_at source begin (position (has_column q) s.columns)) (spots_from (suc source) (begin + length s.columns) ss q)
    (spot_behind n source begin (position (has_column q) s.columns) above) (all_behind n (suc source) (begin + length s.columns) ss q (omega arith))

rising_spot : (source begin : ℕ) (o : Option ℕ) (ps : List Place) → AllByRecursion (λ p. source < p.source) ps → IsRising ps → IsRising (spot_at source begin o ++ ps)
rising_spot source begin None ps above rising = rising
rising_spot source begin (Some k) ps above rising = (above, rising)

pub rising : (source begin : ℕ) (ss : Scope) (q : Text) → IsRising (spots_from source begin ss q)
rising source begin [] q = tt
rising source begin (s ∷ ss) q =
    rising_spot source begin (position (has_column q) s.columns) (spots_from (suc source) (begin + length s.columns) ss q)
    (all_behind source (suc source) (begin + length s.columns) ss q (omega arith)) (rising (suc source) (begin + length s.columns) ss q)
