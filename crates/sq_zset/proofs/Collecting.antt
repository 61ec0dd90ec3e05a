-- What a collection of sorted pairs keeps from turn to turn. It takes the pairs from the end, and its sums descend.
use Rattle.std.proofs.Common.{◌≡◌, ◌≢◌, ℕ, zero, suc, ◌+◌, ◌-◌, ◌<◌, ◌≤◌, ◌^◌, List, [], ◌∷◌, ◌++◌, reverse, length, get_or, take, slice_get, Bool, true, false, cond, not, ◌&&◌, ℤ, pos, ◌+ℤ◌, unsigned_abs, Some, None, IsPermutation, IsSortedBy, refl, sym, ap, ap₂, subst, ◌∙◌, arith, int_eq, to_z, of_z, SFits, to_z-of_z, lit≤, length-append, append_assoc, Ordering, Less, Equal, Greater, is_eq, is_lt, is_le, int_cmp}
use Rattle.std.specs.List.{list_all}
use Rattle.std.specs.Ordering.{match_ordering, ordering_reverse, ordering_then, eq_by_cmp}
use Rattle.std.proofs.lemmas.Cmp.{eq_by_cmp_equiv}
use Rattle.std.proofs.lemmas.List.{reverse-append}
use Rattle.std.proofs.lemmas.List.Sums.{sum_by-cons, sum_by-append}
use Rattle.std.proofs.lemmas.List.Sorted.{sorted_far, ranks_by, IsPermutation-map, IsPermutation-reverse, sum_by-IsPermutation}
use Rattle.std.proofs.Math.Seq.{get_or-append_seam}
use Rattle.std.proofs.Math.ListN.{get_or-append}
use mir.Syntax.{w128}
use borrow.Author.Differences.{ints}
use Rattle.sq_value.specs.declared.value.Value.{Value}
use Rattle.sq_value.specs.Order.{row_cmp}
use Rattle.sq_value.specs.OrderLaws.{row_cmp-total, row_cmp-antisymmetric}
use Rattle.sq_algebra.specs.ZSet.{keys, add, in_front, collect}
use Rattle.sq_algebra.proofs.Weights.{zero_from}
use Rattle.sq_algebra.proofs.Merges.{collect-IsPermutation}
use Rattle.sq_zset.specs.declared.pair.Pair.{Pair}
use Rattle.sq_zset.specs.Pairs.{weighted_rows, mass}
use Rattle.sq_zset.specs.Collecting.{IsLowest, mass_of, first_weight, without_first}
use Rattle.sq_zset.specs.Range.{is_in_range, first_outside_in}
use Rattle.sq_zset.proofs.Entries.{same_some, abs_sum, kept_128}
use Rattle.sq_zset.proofs.Merging.{first_outside-append}

-- ---- the end of a list is the front of its reverse
split_last : {X : Type 0} (xs : List X) (k : ℕ) (e : X) → suc k ≡ length xs → slice_get xs k ≡ Some e → xs ≡ take k xs ++ e ∷ []
split_last [] k e len got = absurd (omega arith)
split_last (x ∷ []) zero e len got = ap (λ y. y ∷ []) (same_some got)
split_last (x ∷ y ∷ ys) zero e len got = absurd (omega arith)
split_last (x ∷ xs) (suc k) e len got = ap (λ ys. x ∷ ys) (split_last xs k e (omega arith) got)

reverse-push : {X : Type 0} (xs : List X) (x : X) → reverse (xs ++ x ∷ []) ≡ x ∷ reverse xs
reverse-push xs x = reverse-append xs (x ∷ [])

reverse_last : {X : Type 0} (xs : List X) (n : ℕ) (e : X) → n ≡ length xs → slice_get xs (n - 1) ≡ Some e → reverse xs ≡ e ∷ reverse (take (n - 1) xs)
reverse_last xs n e len got = ap reverse (split_last xs (n - 1) e (one_more xs n e len got) got) ∙ reverse-push (take (n - 1) xs) e
  where
    one_more : {X : Type 0} (xs : List X) (n : ℕ) (e : X) → n ≡ length xs → slice_get xs (n - 1) ≡ Some e → suc (n - 1) ≡ length xs
    one_more [] n e len got = cc
    one_more (x ∷ xs) n e len got = omega arith

last_got : {X : Type 0} (ds xs : List X) (n : ℕ) (e : X) → ds ≡ xs → n ≡ length xs → Some e ≡ slice_get ds (length ds - 1) → slice_get xs (n - 1) ≡ Some e
last_got ds xs n e items len got = (λ i. slice_get (sym items i) ((len ∙ ap length (sym items)) i - 1)) ∙ sym got

pub no_items : {X : Type 0} (xs : List X) (n : ℕ) → n ≡ length xs → n ≡ 0 → xs ≡ []
no_items [] n len none = refl
no_items (x ∷ xs) n len none = absurd (omega arith)

-- the row at the end is this one, or another
pub record Takes (row : List Value) (old : List (List Value × ℤ)) (sum : ℤ) (rest : List (List Value × ℤ)) : Type 0 where
  pub sum_is : sum ≡ first_weight row old
  pub rest_is : rest ≡ without_first row old

pub takes_same : (ds xs new : List (List Value × ℤ)) (n : ℕ) (row : List Value) (e : List Value × ℤ) (r : Bool) → ds ≡ xs → Some e ≡ slice_get ds (length ds - 1) → r ≡ eq_by_cmp row_cmp e.0 row → r ≡ true → n ≡ length xs → new ≡ take (n - 1) xs → Takes row (reverse xs) e.1 (reverse new)
takes_same ds xs new n row e r items got tested same len left =
    let front : reverse xs ≡ e ∷ reverse new = reverse_last xs n e len (last_got ds xs n e items len got) ∙ ap (λ es. e ∷ reverse es) (sym left) in
    let tied : is_eq (row_cmp row e.0) ≡ true = (eq_by_cmp_equiv row_cmp-total).symm row e.0 ∙ sym tested ∙ same in
    record {
      sum_is = sym (ap (first_weight row) front ∙ ap (λ b. cond b e.1 (pos 0)) tied);
      rest_is = sym (ap (without_first row) front ∙ ap (λ b. cond b (reverse new) (e ∷ reverse new)) tied);
    }

pub takes_none : (ds xs : List (List Value × ℤ)) (row : List Value) (e : List Value × ℤ) (r : Bool) → ds ≡ xs → Some e ≡ slice_get ds (length ds - 1) → r ≡ eq_by_cmp row_cmp e.0 row → r ≡ false → Takes row (reverse xs) (pos 0) (reverse xs)
takes_none ds xs row e r items got tested other =
    let front : reverse xs ≡ e ∷ reverse (take (length xs - 1) xs) = reverse_last xs (length xs) e refl (last_got ds xs (length xs) e items refl got) in
    let apart : is_eq (row_cmp row e.0) ≡ false = (eq_by_cmp_equiv row_cmp-total).symm row e.0 ∙ sym tested ∙ other in
    record {
      sum_is = sym (ap (first_weight row) front ∙ ap (λ b. cond b e.1 (pos 0)) apart);
      rest_is = front ∙ sym (ap (without_first row) front ∙ ap (λ b. cond b (reverse (take (length xs - 1) xs)) (e ∷ reverse (take (length xs - 1) xs))) apart);
    }

-- ---- to add the weight of a lowest row is to take what the list has of it, and to put the sum in front
first_test : (a b : Bool) → (a && b) ≡ true → a ≡ true
first_test true b h = refl
first_test false b h = cc

and_test : (a b : Bool) → a ≡ true → b ≡ true → (a && b) ≡ true
and_test true b h k = k
and_test false b h k = cc

plus_none : (w : ℤ) → w +ℤ pos 0 ≡ w
plus_none w = omega (arith, ints)

add_lowest : (row : List Value) (w : ℤ) (es : List (List Value × ℤ)) → IsLowest row es → add row_cmp row w es ≡ in_front row (w +ℤ first_weight row es) (without_first row es)
add_lowest row w [] low = ap (λ n. in_front row n []) (sym (plus_none w))
add_lowest row w (e ∷ es) low =
    elim (row_cmp row e.0) as (λ r. row_cmp row e.0 ≡ r → is_le r ≡ true → match_ordering r (in_front row w (e ∷ es)) (in_front e.0 (w +ℤ e.1) es) (e ∷ add row_cmp row w es) ≡ in_front row (w +ℤ cond (is_eq r) e.1 (pos 0)) (cond (is_eq r) es (e ∷ es))) [
      | Less ↦ λ r l. ap (λ n. in_front row n (e ∷ es)) (sym (plus_none w))
      | Equal ↦ λ r l. ap (λ k. in_front k (w +ℤ e.1) es) (sym (row_cmp-antisymmetric row e.0 r))
      | Greater ↦ λ r l. cc
    ] refl (first_test _ _ low)

pub added : (row : List Value) (w t s : ℤ) (old mid new : List (List Value × ℤ)) → IsLowest row (reverse old) → Takes row (reverse old) s (reverse mid) → t ≡ w +ℤ s → t ≢ pos 0 → new ≡ mid ++ (row, t) ∷ [] → reverse new ≡ add row_cmp row w (reverse old)
added row w t s old mid new low taken sum nonzero pushed =
    ap reverse pushed ∙ reverse-push mid (row, t)
    ∙ in_front_of row t (reverse mid) nonzero
    ∙ (λ i. in_front row ((sum ∙ ap (λ n. w +ℤ n) taken.sum_is) i) (taken.rest_is i))
    ∙ sym (add_lowest row w (reverse old) low)
  where
    in_front_of : (row : List Value) (t : ℤ) (ps : List (List Value × ℤ)) → t ≢ pos 0 → (row, t) ∷ ps ≡ in_front row t ps
    in_front_of row t ps nonzero = elim (int_eq t (pos 0)) as (λ b. int_eq t (pos 0) ≡ b → (row, t) ∷ ps ≡ cond b ps ((row, t) ∷ ps)) [ true ↦ λ e. absurd (nonzero (zero_from t e)) | false ↦ λ e. refl ] refl

-- ---- the absolute weights
first_weight_bound : (row : List Value) (es : List (List Value × ℤ)) → unsigned_abs (first_weight row es) ≤ mass_of es
first_weight_bound row [] = omega arith
first_weight_bound row (e ∷ es) =
    let whole = sum_by-cons (λ (p : List Value × ℤ). unsigned_abs p.1) e es in
    elim (is_eq (row_cmp row e.0)) as (λ b. unsigned_abs (cond b e.1 (pos 0)) ≤ mass_of (e ∷ es)) [ true ↦ omega (arith, whole) | false ↦ omega arith ]

pub sum_bound : (row : List Value) (w s : ℤ) (old : List (List Value × ℤ)) → s ≡ first_weight row (reverse old) → unsigned_abs w + mass_of old ≤ 2 ^ 126 → unsigned_abs (w +ℤ s) ≤ 2 ^ 126
sum_bound row w s old is fits =
    let part : unsigned_abs s ≤ mass_of (reverse old) = subst (λ n. unsigned_abs n ≤ mass_of (reverse old)) (sym is) (first_weight_bound row (reverse old)) in
    let turned : mass_of (reverse old) ≡ mass_of old = sum_by-IsPermutation (λ (p : List Value × ℤ). unsigned_abs p.1) old (reverse old) (IsPermutation-reverse old) in
    let sum : unsigned_abs (w +ℤ s) ≤ unsigned_abs w + unsigned_abs s = abs_sum w s (unsigned_abs w) (unsigned_abs s) (unsigned_abs w + unsigned_abs s) (omega arith) (omega arith) refl in
    omega arith

pub sum_kept : (row : List Value) (w s : ℤ) (old : List (List Value × ℤ)) → SFits w128 w → SFits w128 s → s ≡ first_weight row (reverse old) → unsigned_abs w + mass_of old ≤ 2 ^ 126 → to_z w128 (of_z w128 (to_z w128 (of_z w128 w) +ℤ to_z w128 (of_z w128 s))) ≡ w +ℤ s
sum_kept row w s old w_fits s_fits is fits =
    ap₂ (λ a b. to_z w128 (of_z w128 (a +ℤ b))) (to_z-of_z w_fits) (to_z-of_z s_fits) ∙ kept_128 (w +ℤ s) (2 ^ 126) (sum_bound row w s old is fits) (lit≤ tt)

-- a sum that is not 0 in its bits is not 0
pub sum_nonzero : (w s t : ℤ) → SFits w128 w → SFits w128 s → t ≡ w +ℤ s → (of_z w128 (to_z w128 (of_z w128 w) +ℤ to_z w128 (of_z w128 s)) ≡ 0 → ⊥) → t ≢ pos 0
sum_nonzero w s t w_fits s_fits is nonzero none = nonzero (ap₂ (λ a b. of_z w128 (a +ℤ b)) (to_z-of_z w_fits) (to_z-of_z s_fits) ∙ ap (of_z w128) (sym is ∙ none))

mass_of-in_front : (row : List Value) (w : ℤ) (es : List (List Value × ℤ)) → mass_of (in_front row w es) ≤ unsigned_abs w + mass_of es
mass_of-in_front row w es =
    let whole = sum_by-cons (λ (p : List Value × ℤ). unsigned_abs p.1) (row, w) es in
    elim (int_eq w (pos 0)) as (λ b. mass_of (cond b es ((row, w) ∷ es)) ≤ unsigned_abs w + mass_of es) [ true ↦ omega arith | false ↦ omega (arith, whole) ]

pub mass_of-add : (row : List Value) (w : ℤ) (es : List (List Value × ℤ)) → mass_of (add row_cmp row w es) ≤ unsigned_abs w + mass_of es
mass_of-add row w [] = mass_of-in_front row w []
mass_of-add row w (e ∷ es) =
    let whole = sum_by-cons (λ (p : List Value × ℤ). unsigned_abs p.1) e es in
    elim (row_cmp row e.0) as (λ r. mass_of (match_ordering r (in_front row w (e ∷ es)) (in_front e.0 (w +ℤ e.1) es) (e ∷ add row_cmp row w es)) ≤ unsigned_abs w + mass_of (e ∷ es)) [
      | Less ↦ mass_of-in_front row w (e ∷ es)
      | Equal ↦
          let front = mass_of-in_front e.0 (w +ℤ e.1) es in
          let sum : unsigned_abs (w +ℤ e.1) ≤ unsigned_abs w + unsigned_abs e.1 = abs_sum w e.1 (unsigned_abs w) (unsigned_abs e.1) (unsigned_abs w + unsigned_abs e.1) (omega arith) (omega arith) refl in
          omega (arith, whole)
      | Greater ↦ let rest = mass_of-add row w es in let step = sum_by-cons (λ (p : List Value × ℤ). unsigned_abs p.1) e (add row_cmp row w es) in omega (arith, whole, step)
    ]

-- ---- all pairs added, the last one first
pub add_all : List Pair → List (List Value × ℤ) → List (List Value × ℤ)
add_all [] es = es
add_all (p ∷ ps) es = add row_cmp p.row p.weight (add_all ps es)

add_all-nil : (ps : List Pair) → add_all ps [] ≡ collect row_cmp (weighted_rows ps)
unfolding add_all
add_all-nil [] = refl
add_all-nil (p ∷ ps) = ap (add row_cmp p.row p.weight) (add_all-nil ps)

add_none : (es : List (List Value × ℤ)) → add_all [] es ≡ es
unfolding add_all
add_none es = refl

add_all-push : (ps : List Pair) (p : Pair) (es : List (List Value × ℤ)) → add_all (ps ++ p ∷ []) es ≡ add_all ps (add row_cmp p.row p.weight es)
unfolding add_all
add_all-push [] p es = refl
add_all-push (q ∷ ps) p es = ap (add row_cmp q.row q.weight) (add_all-push ps p es)

is_lowest-in_front : (row k : List Value) (w : ℤ) (es : List (List Value × ℤ)) → is_le (row_cmp row k) ≡ true → IsLowest row es → IsLowest row (in_front k w es)
is_lowest-in_front row k w es low rest = elim (int_eq w (pos 0)) as (λ b. IsLowest row (cond b es ((k, w) ∷ es))) [ true ↦ rest | false ↦ and_test _ _ low rest ]

second_test : (a b : Bool) → (a && b) ≡ true → b ≡ true
second_test true b h = h
second_test false b h = cc

is_lowest-add : (row k : List Value) (w : ℤ) (es : List (List Value × ℤ)) → is_le (row_cmp row k) ≡ true → IsLowest row es → IsLowest row (add row_cmp k w es)
is_lowest-add row k w [] low rest = is_lowest-in_front row k w [] low rest
is_lowest-add row k w (e ∷ es) low rest =
    elim (row_cmp k e.0) as (λ r. IsLowest row (match_ordering r (in_front k w (e ∷ es)) (in_front e.0 (w +ℤ e.1) es) (e ∷ add row_cmp k w es))) [
      | Less ↦ is_lowest-in_front row k w (e ∷ es) low rest
      | Equal ↦ is_lowest-in_front row e.0 (w +ℤ e.1) es (first_test (is_le (row_cmp row e.0)) (list_all (λ x. is_le (row_cmp row x)) (keys es)) rest) (second_test (is_le (row_cmp row e.0)) (list_all (λ x. is_le (row_cmp row x)) (keys es)) rest)
      | Greater ↦ and_test (is_le (row_cmp row e.0)) (list_all (λ x. is_le (row_cmp row x)) (keys (add row_cmp k w es))) (first_test (is_le (row_cmp row e.0)) (list_all (λ x. is_le (row_cmp row x)) (keys es)) rest)
          (is_lowest-add row k w es low (second_test (is_le (row_cmp row e.0)) (list_all (λ x. is_le (row_cmp row x)) (keys es)) rest))
    ]

-- the pairs that are left, added to the sums, are all pairs collected, and no sum's row is below that of a pair that is left
pub record Collecting (all pairs : List Pair) (sums : List (List Value × ℤ)) : Type 0 where
  pub told : add_all pairs (reverse sums) ≡ collect row_cmp (weighted_rows all)
  pub sorted : IsSortedBy (λ (p q : Pair). is_lt (row_cmp p.row q.row)) pairs
  pub lowest : (k : ℕ) (d : Pair) → k < length pairs → IsLowest (get_or pairs k d).row (reverse sums)
  pub fits : mass pairs + mass_of sums ≤ 2 ^ 126

-- the start
sorted_rows : (ps : List Pair) → IsSortedBy (λ (p q : Pair). is_lt (ordering_then (row_cmp p.row q.row) (int_cmp p.weight q.weight))) ps → IsSortedBy (λ (p q : Pair). is_lt (row_cmp p.row q.row)) ps
sorted_rows ps up k d low high = not_less (row_cmp (get_or ps (k + 1) d).row (get_or ps k d).row) (int_cmp (get_or ps (k + 1) d).weight (get_or ps k d).weight) (up k d low high)
  where
    not_less : (r s : Ordering) → is_lt (ordering_then r s) ≡ false → is_lt r ≡ false
    not_less Less s h = h
    not_less Equal s h = refl
    not_less Greater s h = refl

pub collecting_start : (all : List Pair) (sums : List (List Value × ℤ)) → sums ≡ [] → IsSortedBy (λ (p q : Pair). is_lt (ordering_then (row_cmp p.row q.row) (int_cmp p.weight q.weight))) all → mass all ≤ 2 ^ 126 → Collecting all all sums
collecting_start all sums none up fits = record {
  told = ap (λ es. add_all all (reverse es)) none ∙ add_all-nil all;
  sorted = sorted_rows all up;
  lowest = λ k d l. subst (λ (es : List (List Value × ℤ)). IsLowest (get_or all k d).row (reverse es)) (sym none) refl;
  fits = subst (λ (es : List (List Value × ℤ)). mass all + mass_of es ≤ 2 ^ 126) (sym none) (omega arith);
}

-- a turn
not_less_is_at_most : (k q : List Value) → is_lt (row_cmp k q) ≡ false → is_le (row_cmp q k) ≡ true
not_less_is_at_most k q h = ap is_le (row_cmp-total.antisymm q k) ∙ reversed (row_cmp k q) h
  where
    reversed : (r : Ordering) → is_lt r ≡ false → is_le (ordering_reverse r) ≡ true
    reversed Less h = cc
    reversed Equal h = refl
    reversed Greater h = refl

pub collecting_turn : (all pairs rest : List Pair) (pair : Pair) (sums news : List (List Value × ℤ)) → Collecting all pairs sums → pairs ≡ rest ++ pair ∷ [] → reverse news ≡ add row_cmp pair.row pair.weight (reverse sums) → Collecting all rest news
collecting_turn all pairs rest pair sums news held popped added_is =
    let whole : mass pairs ≡ mass rest + mass (pair ∷ []) = ap mass popped ∙ sum_by-append (λ (p : Pair). unsigned_abs p.weight) rest (pair ∷ []) in
    let one = sum_by-cons (λ (p : Pair). unsigned_abs p.weight) pair [] in
    let len : length pairs ≡ length rest + 1 = ap length popped ∙ length-append rest (pair ∷ []) in
    let turned : (es : List (List Value × ℤ)) → mass_of (reverse es) ≡ mass_of es = λ es. sum_by-IsPermutation (λ (p : List Value × ℤ). unsigned_abs p.1) es (reverse es) (IsPermutation-reverse es) in
    let news_mass : mass_of news ≤ unsigned_abs pair.weight + mass_of sums =
    let bound = mass_of-add pair.row pair.weight (reverse sums) in
    let old_turned = turned sums in
    let new_turned : mass_of (add row_cmp pair.row pair.weight (reverse sums)) ≡ mass_of news = ap mass_of (sym added_is) ∙ turned news in
    omega arith
    in
    let same_at : (k : ℕ) (d : Pair) → k < length rest → get_or rest k d ≡ get_or pairs k d = λ k d l. sym (ap (λ ps. get_or ps k d) popped ∙ get_or-append rest (pair ∷ []) d k l) in
    let seam : (d : Pair) → get_or pairs (length rest) d ≡ pair = λ d. ap (λ ps. get_or ps (length rest) d) popped ∙ get_or-append_seam rest pair [] d in
    record {
      told = ap (add_all rest) added_is ∙ sym (ap (λ ps. add_all ps (reverse sums)) popped ∙ add_all-push rest pair (reverse sums)) ∙ held.told;
      sorted = λ k d low high. (λ i. is_lt (row_cmp (same_at (k + 1) d high i).row (same_at k d (omega arith) i).row)) ∙ held.sorted k d low (omega arith);
      lowest = λ k d l.
          let later : is_lt (row_cmp pair.row (get_or rest k d).row) ≡ false =
          (λ i. is_lt (row_cmp (sym (seam d) i).row (same_at k d l i).row))
          ∙ sorted_far (λ (p q : Pair). is_lt (row_cmp p.row q.row)) (ranks_by row_cmp-total (λ (p : Pair). p.row)) pairs held.sorted k (length rest) d (omega arith) (omega arith) in
          let before : IsLowest (get_or rest k d).row (reverse sums) = subst (λ (p : Pair). IsLowest p.row (reverse sums)) (sym (same_at k d l)) (held.lowest k d (omega arith)) in
          subst (λ (es : List (List Value × ℤ)). IsLowest (get_or rest k d).row es) (sym added_is)
          (is_lowest-add (get_or rest k d).row pair.row pair.weight (reverse sums) (not_less_is_at_most pair.row (get_or rest k d).row later) before);
      fits = let bound = held.fits in omega arith;
    }

-- the end
pub collecting_end : (given all pairs : List Pair) (sums : List (List Value × ℤ)) → Collecting all pairs sums → pairs ≡ [] → IsPermutation given all → reverse sums ≡ collect row_cmp (weighted_rows given)
collecting_end given all pairs sums held none moved =
    sym (ap (λ ps. add_all ps (reverse sums)) none ∙ add_none (reverse sums)) ∙ held.told
    ∙ collect-IsPermutation row_cmp row_cmp-total row_cmp-antisymmetric (weighted_rows given) (weighted_rows all) (IsPermutation-map (λ (p : Pair). (p.row, p.weight)) given all moved)

-- ---- the sums, from the end, as weights
pub record Weighing (all left done : List (List Value × ℤ)) : Type 0 where
  pub told : done ++ reverse left ≡ reverse all
  pub in_range : first_outside_in done ≡ None

pub weighing_turn : (all left rest done new : List (List Value × ℤ)) (row : List Value) (sum weight : ℤ) → Weighing all left done → left ≡ rest ++ (row, sum) ∷ [] → new ≡ done ++ (row, weight) ∷ [] → weight ≡ sum → is_in_range sum ≡ true → Weighing all rest new
weighing_turn all left rest done new row sum weight held popped pushed same within = record {
  told = ap (λ es. es ++ reverse rest) pushed ∙ append_assoc done ((row, weight) ∷ []) (reverse rest) ∙ ap (λ w. done ++ (row, w) ∷ reverse rest) same
      ∙ ap (λ es. done ++ es) (sym (ap reverse popped ∙ reverse-push rest (row, sum))) ∙ held.told;
  in_range = ap first_outside_in pushed ∙ first_outside-append done ((row, weight) ∷ []) held.in_range
      ∙ ap (λ b. cond (not b) (Some weight) None) (ap is_in_range same ∙ within);
}

pub weighing_stops : (all left rest done : List (List Value × ℤ)) (row : List Value) (sum : ℤ) → Weighing all left done → left ≡ rest ++ (row, sum) ∷ [] → is_in_range sum ≡ false → first_outside_in (reverse all) ≡ Some sum
weighing_stops all left rest done row sum held popped outside =
    ap first_outside_in (sym held.told ∙ ap (λ es. done ++ es) (ap reverse popped ∙ reverse-push rest (row, sum)))
    ∙ first_outside-append done ((row, sum) ∷ reverse rest) held.in_range
    ∙ ap (λ b. cond (not b) (Some sum) (first_outside_in (reverse rest))) outside
