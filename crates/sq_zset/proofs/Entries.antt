-- What the list that a Z-set holds says of the Z-set.
use Rattle.std.proofs.Common.{◌≡◌, ℕ, zero, suc, ◌<◌, ◌≤◌, ◌+◌, ◌*◌, ◌^◌, ◌==◌, List, [], ◌∷◌, length, get_or, slice_get, Bool, true, false, cond, not, T, ℤ, pos, negsuc, ◌+ℤ◌, unsigned_abs, Some, None, Result, Ok, Err, HoldsAt, ◌⊎◌, inl, inr, Less, Equal, Greater, is_eq, zero-le, leb-true, lit≤, take, take_all, refl, sym, ap, ap₂, subst, subst₂, ◌∙◌, arith, SFits, to_z, of_z, w64}
use Rattle.std.proofs.lemmas.Option.{slice_get_read}
use Rattle.std.specs.Ordering.{ordering_reverse}
use Rattle.std.specs.List.Sorted.{IsBinarySearchResult, IsPartitionPoint}
use Rattle.std.proofs.lemmas.Cmp.{tied_back}
use Rattle.std.proofs.lemmas.List.Sorted.{searchable_from_sorted}
use mir.Syntax.{w128}
use borrow.Author.Differences.{ints}
use Rattle.sq_value.specs.declared.value.Value.{Value}
use Rattle.sq_value.specs.Order.{row_cmp}
use Rattle.sq_value.specs.OrderLaws.{row_cmp-total, row_cmp-antisymmetric}
use Rattle.sq_algebra.specs.ZSet.{ZSet, int_sum_by, is_canonical, entries, entries_canonical, zero as no_rows, weight, total, weight_in, from_entries, entries-zero, entries-from_entries, same_entries, difference, minus}
use Rattle.sq_algebra.proofs.Weights.{ascending_from, weight-entries, total-entries, from_entries-entries}
use Rattle.sq_algebra.proofs.Merges.{entries-minus}
use Rattle.sq_algebra.proofs.Sums.{int_sum_by_more}
use Rattle.sq_algebra.proofs.Places.{ascending_got, weight_in_at, weight_in_apart, sorted_from_ascending}
use Rattle.sq_zset.specs.Range.{is_in_range, first_outside_in}
use Rattle.sq_zset.specs.Inside.{IsSound}

pub is_true : (b : Bool) → T b → b ≡ true
is_true true h = refl
is_true false h = absurd h

pub same_some : {X : Type 0} {a b : X} → Some a ≡ Some b → a ≡ b
same_some e = cc

canonical_of : (es : List (List Value × ℤ)) → IsSound es → T (is_canonical row_cmp es)
canonical_of es sound = subst T (sym sound.canonical) tt

pub entries_shown : (es : List (List Value × ℤ)) (z : ZSet (List Value) row_cmp) → IsSound es → from_entries row_cmp es ≡ z → entries z ≡ es
entries_shown es z sound shown = ap entries (sym shown) ∙ entries-from_entries row_cmp es (canonical_of es sound)

pub from_no_entries : (es : List (List Value × ℤ)) → es ≡ [] → from_entries row_cmp es ≡ no_rows row_cmp
from_no_entries es e = ap (from_entries row_cmp) e ∙ same_entries (from_entries row_cmp []) (no_rows row_cmp) (entries-from_entries row_cmp [] tt ∙ sym (entries-zero row_cmp))

pub no_entries : (es : List (List Value × ℤ)) (z : ZSet (List Value) row_cmp) → IsSound es → from_entries row_cmp es ≡ z → z ≡ no_rows row_cmp → es ≡ []
no_entries es z sound shown none = sym (entries_shown es z sound shown) ∙ ap entries none ∙ entries-zero row_cmp

-- the test whether any entry is held
pub tested_empty : (es : List (List Value × ℤ)) (z : ZSet (List Value) row_cmp) (n : ℕ) (b : Bool) → IsSound es → from_entries row_cmp es ≡ z → n ≡ length es → b ≡ (n == 0) → (b ≡ true → z ≡ no_rows row_cmp) × (z ≡ no_rows row_cmp → b ≡ true)
tested_empty [] z n b sound shown len test = (λ _. sym shown ∙ from_no_entries [] refl, λ _. test ∙ ap (λ m. m == 0) len)
tested_empty (e ∷ es) z n b sound shown len test =
    let some : (suc (length es) == 0) ≡ false = grind arith in
    let answer : b ≡ false = test ∙ ap (λ m. m == 0) len ∙ some in
    (λ none. cc, λ none. cc (no_entries (e ∷ es) z sound shown none))

-- a place below the number of entries is below the length that is held
pub place_low : (es : List (List Value × ℤ)) (z : ZSet (List Value) row_cmp) (n i : ℕ) → IsSound es → from_entries row_cmp es ≡ z → n ≡ length es → i < length (entries z) → i < n
place_low es z n i sound shown len low = let same = ap length (entries_shown es z sound shown) in omega arith

-- ---- the range
pub in_range_abs : (w : ℤ) → is_in_range w ≡ true → unsigned_abs w ≤ 2 ^ 62
in_range_abs w e = leb-true (unsigned_abs w) (2 ^ 62) e

pub none_first : {K : Type 0} (p : K × ℤ) (ps : List (K × ℤ)) → first_outside_in (p ∷ ps) ≡ None → (is_in_range p.1 ≡ true) × (first_outside_in ps ≡ None)
none_first p ps h = elim (is_in_range p.1) as (λ b. cond (not b) (Some p.1) (first_outside_in ps) ≡ None → (b ≡ true) × (first_outside_in ps ≡ None)) [ true ↦ λ e. (refl, e) | false ↦ λ e. cc ] h

-- each weight of a list with none outside lies in the range
pub in_range_at : {K : Type 0} (ps : List (K × ℤ)) (i : ℕ) (d : K × ℤ) → first_outside_in ps ≡ None → i < length ps → unsigned_abs (get_or ps i d).1 ≤ 2 ^ 62
in_range_at [] i d h l = absurd (omega arith)
in_range_at (p ∷ ps) zero d h l = in_range_abs p.1 (none_first p ps h).0
in_range_at (p ∷ ps) (suc i) d h l = in_range_at ps i d (none_first p ps h).1 (omega arith)

-- a weight in the range is kept as it is in 64 bits
pub kept : (w : ℤ) → unsigned_abs w ≤ 2 ^ 62 → to_z w64 (of_z w64 w) ≡ w
kept (pos n) h = omega (arith, ints)
kept (negsuc n) h = omega (arith, ints)

-- a number that is small enough is kept as it is in 128 bits
pub kept_128 : (w : ℤ) (n : ℕ) → unsigned_abs w ≤ n → n ≤ 2 ^ 126 → to_z w128 (of_z w128 w) ≡ w
kept_128 (pos m) n h l = omega (arith, ints)
kept_128 (negsuc m) n h l = omega (arith, ints)

pub fits_128 : (w : ℤ) → unsigned_abs w ≤ 2 ^ 126 → SFits w128 w
fits_128 (pos m) h = omega (arith, ints)
fits_128 (negsuc m) h = omega (arith, ints)

pub abs_sum : (a b : ℤ) (m n l : ℕ) → unsigned_abs a ≤ m → unsigned_abs b ≤ n → m + n ≡ l → unsigned_abs (a +ℤ b) ≤ l
abs_sum (pos a) (pos b) m n l p q e = omega (arith, ints)
abs_sum (pos a) (negsuc b) m n l p q e = omega (arith, ints)
abs_sum (negsuc a) (pos b) m n l p q e = omega (arith, ints)
abs_sum (negsuc a) (negsuc b) m n l p q e = omega (arith, ints)

-- the weight of a row, as it is read
pub record IsWeightOf (z : ZSet (List Value) row_cmp) (row : List Value) (w : ℤ) : Type 0 where
  pub weighs : w ≡ weight row z
  pub in_range : unsigned_abs w ≤ 2 ^ 62

lt_or_le : (k i : ℕ) → (k < i) ⊎ (i ≤ k)
lt_or_le k i = grind arith

-- the entry at a place, as it is read
pub record IsEntryAt (z : ZSet (List Value) row_cmp) (i : ℕ) (row : List Value) (weight : ℤ) : Type 0 where
  pub entry : slice_get (entries z) i ≡ Some (row, weight)
  pub in_range : unsigned_abs weight ≤ 2 ^ 62
  pub ascending : (j : ℕ) (earlier : List Value × ℤ) → j < i → slice_get (entries z) j ≡ Some earlier → row_cmp earlier.0 row ≡ Less

pub entry_at : (es : List (List Value × ℤ)) (z : ZSet (List Value) row_cmp) (n i : ℕ) (e : List Value × ℤ) → IsSound es → from_entries row_cmp es ≡ z → n ≡ length es → i < length (entries z) → e ≡ get_or es i e → IsEntryAt z i e.0 (to_z w64 (of_z w64 e.1))
entry_at es z n i e sound shown len within read =
    let low : i < n = place_low es z n i sound shown len within in
    let bound : unsigned_abs e.1 ≤ 2 ^ 62 = subst (λ (x : List Value × ℤ). unsigned_abs x.1 ≤ 2 ^ 62) (sym read) (in_range_at es i e sound.in_range (omega arith)) in
    let got : slice_get (entries z) i ≡ Some e = ap (λ xs. slice_get xs i) (entries_shown es z sound shown) ∙ slice_get_read es n i e len low read in
    record {
      entry = got ∙ ap (λ w. Some (e.0, w)) (sym (kept e.1 bound));
      in_range = subst (λ w. unsigned_abs w ≤ 2 ^ 62) (sym (kept e.1 bound)) bound;
      ascending = λ j earlier before found. ascending_got row_cmp (entries z) j i earlier e (ascending_from row_cmp (entries z) (entries_canonical z)) before found got;
    }

-- the weight of the row of an entry that is found
pub weight_found : (es ds : List (List Value × ℤ)) (z : ZSet (List Value) row_cmp) (row : List Value) (i : ℕ) (e : List Value × ℤ) (r : Result ℕ ℕ) → IsSound es → from_entries row_cmp es ≡ z → ds ≡ es → r ≡ Ok i → i < length ds → e ≡ get_or es i e
    → IsBinarySearchResult {X = List Value × ℤ} (λ e. row_cmp e.0 row) ds r → IsWeightOf z row (to_z w64 (of_z w64 e.1))
weight_found es ds z row i e r sound shown items answer within read found =
    let low : i < length es = subst (λ (xs : List (List Value × ℤ)). i < length xs) items within in
    let at : HoldsAt (λ (e : List Value × ℤ). row_cmp e.0 row ≡ Equal) es i = subst₂ (λ xs (o : Result ℕ ℕ). IsBinarySearchResult {X = List Value × ℤ} (λ e. row_cmp e.0 row) xs o) items answer found in
    let tied : row_cmp e.0 row ≡ Equal = subst (λ (x : List Value × ℤ). row_cmp x.0 row ≡ Equal) (sym read) (at e) in
    let bound : unsigned_abs e.1 ≤ 2 ^ 62 = subst (λ (x : List Value × ℤ). unsigned_abs x.1 ≤ 2 ^ 62) (sym read) (in_range_at es i e sound.in_range low) in
    let tied_at : row_cmp row (get_or es i e).0 ≡ Equal = ap (λ (x : List Value × ℤ). row_cmp row x.0) (sym read) ∙ tied_back row_cmp-total e.0 row tied in
    let there : weight row z ≡ e.1 = weight-entries row_cmp row z ∙ ap (weight_in row_cmp row) (entries_shown es z sound shown)
    ∙ weight_in_at row_cmp row_cmp-total row es i e (ascending_from row_cmp es (canonical_of es sound)) low tied_at ∙ ap (λ (x : List Value × ℤ). x.1) (sym read) in
    record {
      weighs = kept e.1 bound ∙ sym there;
      in_range = subst (λ w. unsigned_abs w ≤ 2 ^ 62) (sym (kept e.1 bound)) bound;
    }

-- each entry is before or behind the place of a row that is not there
side : (es : List (List Value × ℤ)) (row : List Value) (i k : ℕ) (d : List Value × ℤ) → IsPartitionPoint {X = List Value × ℤ} (λ e. row_cmp e.0 row ≡ Less) (λ e. row_cmp e.0 row ≡ Greater) es i → k < length es → is_eq (row_cmp row (get_or es k d).0) ≡ false
side es row i k d parted l =
    let back : row_cmp row (get_or es k d).0 ≡ ordering_reverse (row_cmp (get_or es k d).0 row) = row_cmp-total.antisymm row (get_or es k d).0 in
    elim (lt_or_le k i) [
      | inl before ↦ ap is_eq (back ∙ ap ordering_reverse (parted.0 k d zero-le before))
      | inr behind ↦ ap is_eq (back ∙ ap ordering_reverse (parted.1 k d behind l))
    ]

-- a row that none of the entries holds has no weight
pub weight_absent : (es ds : List (List Value × ℤ)) (z : ZSet (List Value) row_cmp) (row : List Value) (i : ℕ) (r : Result ℕ ℕ) → IsSound es → from_entries row_cmp es ≡ z → ds ≡ es → r ≡ Err i → IsBinarySearchResult {X = List Value × ℤ} (λ e. row_cmp e.0 row) ds r → weight row z ≡ pos 0
weight_absent es ds z row i r sound shown items answer found =
    let searched : IsBinarySearchResult {X = List Value × ℤ} (λ e. row_cmp e.0 row) es (Err i) = subst₂ (λ xs (o : Result ℕ ℕ). IsBinarySearchResult {X = List Value × ℤ} (λ e. row_cmp e.0 row) xs o) items answer found in
    let parted = searched (searchable_from_sorted row_cmp-total (λ (e : List Value × ℤ). e.0) es row (sorted_from_ascending row_cmp row_cmp-total es (ascending_from row_cmp es (canonical_of es sound)))) in
    weight-entries row_cmp row z ∙ ap (weight_in row_cmp row) (entries_shown es z sound shown)
    ∙ weight_in_apart row_cmp row es (λ k d l. side es row i k d parted l)

-- one step of the sum of all weights
pub total_step : (es : List (List Value × ℤ)) (i : ℕ) (e : List Value × ℤ) (s x : ℤ) → first_outside_in es ≡ None → i < length es → i < 2 ^ 64 → e ≡ get_or es i e → s ≡ int_sum_by (λ e. e.1) (take i es) → unsigned_abs s ≤ i * 2 ^ 62 → x ≡ to_z w64 (of_z w64 e.1)
    → (to_z w128 (of_z w128 (s +ℤ to_z w128 (of_z w128 x))) ≡ int_sum_by (λ e. e.1) (take (i + 1) es)) × (unsigned_abs (to_z w128 (of_z w128 (s +ℤ to_z w128 (of_z w128 x)))) ≤ (i + 1) * 2 ^ 62)
total_step es i e s x within low small read told bound cast =
    let entry_bound : unsigned_abs e.1 ≤ 2 ^ 62 = subst (λ (y : List Value × ℤ). unsigned_abs y.1 ≤ 2 ^ 62) (sym read) (in_range_at es i e within low) in
    let same : x ≡ e.1 = cast ∙ kept e.1 entry_bound in
    let weight_bound : unsigned_abs x ≤ 2 ^ 62 = subst (λ w. unsigned_abs w ≤ 2 ^ 62) (sym same) entry_bound in
    let x_is : to_z w128 (of_z w128 x) ≡ x = kept_128 x (2 ^ 62) weight_bound (lit≤ tt) in
    let sum_bound : unsigned_abs (s +ℤ x) ≤ (i + 1) * 2 ^ 62 = abs_sum s x (i * 2 ^ 62) (2 ^ 62) ((i + 1) * 2 ^ 62) bound weight_bound (omega arith) in
    let sum_is : to_z w128 (of_z w128 (s +ℤ to_z w128 (of_z w128 x))) ≡ s +ℤ x = ap (λ w. to_z w128 (of_z w128 (s +ℤ w))) x_is ∙ kept_128 (s +ℤ x) ((i + 1) * 2 ^ 62) sum_bound (omega arith) in
    let all : int_sum_by (λ e. e.1) (take (i + 1) es) ≡ s +ℤ x = int_sum_by_more (λ e. e.1) es i e low ∙ ap₂ ◌+ℤ◌ (sym told) (ap (λ (y : List Value × ℤ). y.1) (sym read) ∙ sym same) in
    (sum_is ∙ sym all, subst (λ w. unsigned_abs w ≤ (i + 1) * 2 ^ 62) (sym sum_is) sum_bound)

-- the sum over all entries is the total
pub total_shown : (es ds : List (List Value × ℤ)) (z : ZSet (List Value) row_cmp) (i : ℕ) (s : ℤ) → IsSound es → from_entries row_cmp es ≡ z → ds ≡ es → length ds ≤ i → s ≡ int_sum_by (λ e. e.1) (take i ds) → s ≡ total z
total_shown es ds z i s sound shown items ends told =
    told ∙ ap (int_sum_by (λ e. e.1)) (take_all i ds ends ∙ items) ∙ sym (total-entries row_cmp z ∙ ap (int_sum_by (λ e. e.1)) (entries_shown es z sound shown))

-- ---- what a list that is made says of the Z-set that holds it
pub record Holds (es : List (List Value × ℤ)) (z : ZSet (List Value) row_cmp) : Type 0 where
  pub sound : IsSound es
  pub value : from_entries row_cmp es ≡ z
  pub in_range : first_outside_in (entries (from_entries row_cmp es)) ≡ None

pub holds_entries : (es : List (List Value × ℤ)) (z : ZSet (List Value) row_cmp) → es ≡ entries z → first_outside_in es ≡ None → Holds es z
holds_entries es z made within =
    let canonical : T (is_canonical row_cmp es) = subst (λ xs. T (is_canonical row_cmp xs)) (sym made) (entries_canonical z) in
    record {
      sound = record { canonical = is_true _ canonical; in_range = within };
      value = ap (from_entries row_cmp) made ∙ from_entries-entries row_cmp z;
      in_range = ap first_outside_in (entries-from_entries row_cmp es canonical) ∙ within;
    }

-- the difference of two lists that are held
pub difference_shown : (ls rs xs ys : List (List Value × ℤ)) (y z : ZSet (List Value) row_cmp) → IsSound ls → from_entries row_cmp ls ≡ y → xs ≡ ls → IsSound rs → from_entries row_cmp rs ≡ z → ys ≡ rs → difference row_cmp xs ys ≡ entries (minus y z)
difference_shown ls rs xs ys y z left left_shown left_items right right_shown right_items =
    (λ i. difference row_cmp (left_items i) (right_items i))
    ∙ sym (entries-minus row_cmp row_cmp-total row_cmp-antisymmetric y z ∙ ap₂ (difference row_cmp) (entries_shown ls y left left_shown) (entries_shown rs z right right_shown))
