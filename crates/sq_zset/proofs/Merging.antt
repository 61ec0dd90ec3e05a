-- What a merge of the entries of two Z-sets keeps from turn to turn.
use Rattle.std.proofs.Common.{◌≡◌, ℕ, zero, suc, ◌-◌, ◌≤◌, ◌^◌, List, [], ◌∷◌, ◌++◌, length, get_or, take, drop, take_all, length-drop, append_assoc, true, false, cond, not, T, ℤ, pos, negsuc, ◌+ℤ◌, neg_ℤ, unsigned_abs, Some, None, refl, sym, ap, ap₂, subst, ◌∙◌, arith, int_eq, to_z, of_z, w64, Less, Equal, Greater, lit≤}
use Rattle.std.specs.Ordering.{ordering_reverse}
use mir.Syntax.{w128}
use borrow.Author.Differences.{ints}
use Rattle.sq_value.specs.declared.value.Value.{Value}
use Rattle.sq_value.specs.Order.{row_cmp}
use Rattle.sq_value.specs.OrderLaws.{row_cmp-total, row_cmp-antisymmetric}
use Rattle.sq_algebra.specs.Listed.{is_below_all}
use Rattle.sq_algebra.specs.ZSet.{ZSet, keys, is_nonzero, is_canonical, in_front, collect, negated, difference, entries, entries_canonical, from_entries, plus, negate}
use Rattle.sq_algebra.proofs.Weights.{FrontOf, front_of, zero_from, below_from, entries-from_pairs}
use Rattle.sq_algebra.proofs.Merges.{in_front_nonzero, nonzero-neg, is_canonical-negated, collect_canonical, difference_left, difference_right, difference_both}
use Rattle.sq_zset.specs.declared.merge.Sign.{Sign}
use Rattle.sq_zset.specs.declared.merge.Sign.TheVariants.{Plus, Minus}
use Rattle.sq_zset.specs.Inside.{IsSound}
use Rattle.sq_zset.specs.Merge.{first_rows_cmp, BeginsWith, signed, signed_entries, merged}
use Rattle.sq_zset.specs.Range.{is_in_range, first_outside_in}
use Rattle.sq_zset.proofs.Entries.{is_true, same_some, none_first, in_range_abs, kept, kept_128, abs_sum, entries_shown}

-- ---- the range along a list
pub first_outside-append : {K : Type 0} (ps qs : List (K × ℤ)) → first_outside_in ps ≡ None → first_outside_in (ps ++ qs) ≡ first_outside_in qs
first_outside-append [] qs h = refl
first_outside-append (p ∷ ps) qs h =
    let (here, rest) = none_first p ps h in
    ap (λ b. cond (not b) (Some p.1) (first_outside_in (ps ++ qs))) here ∙ first_outside-append ps qs rest

pub in_front-append : (row : List Value) (w : ℤ) (ps qs : List (List Value × ℤ)) → in_front row w ps ++ qs ≡ in_front row w (ps ++ qs)
in_front-append row w ps qs = elim (int_eq w (pos 0)) as (λ b. cond b ps ((row, w) ∷ ps) ++ qs ≡ cond b (ps ++ qs) ((row, w) ∷ (ps ++ qs))) [ true ↦ refl | false ↦ refl ]

pub first_outside-in_front : (row : List Value) (w : ℤ) → is_in_range w ≡ true → first_outside_in (in_front row w []) ≡ None
first_outside-in_front row w h = elim (int_eq w (pos 0)) as (λ b. first_outside_in (cond b [] ((row, w) ∷ [])) ≡ None) [ true ↦ refl | false ↦ ap (λ b. cond (not b) (Some w) None) h ]

pub first_outside_there : (row : List Value) (w : ℤ) (ps : List (List Value × ℤ)) → is_in_range w ≡ false → first_outside_in (in_front row w ps) ≡ Some w
first_outside_there row w ps h =
    elim (int_eq w (pos 0)) as (λ b. int_eq w (pos 0) ≡ b → first_outside_in (cond b ps ((row, w) ∷ ps)) ≡ Some w) [
      | true ↦ λ e. let none = zero_from w e in cc (sym h ∙ ap is_in_range none)
      | false ↦ λ e. ap (λ b. cond (not b) (Some w) (first_outside_in ps)) h
    ] refl

-- ---- a sign in front of weights
pub signed_bound : (sign : Sign) (w : ℤ) (n : ℕ) → unsigned_abs w ≤ n → unsigned_abs (signed sign w) ≤ n
signed_bound Plus w n h = h
signed_bound Minus (pos zero) n h = h
signed_bound Minus (pos (suc w)) n h = h
signed_bound Minus (negsuc w) n h = h

signed_nonzero : (sign : Sign) (w : ℤ) → T (is_nonzero w) → T (is_nonzero (signed sign w))
signed_nonzero Plus w h = h
signed_nonzero Minus w h = nonzero-neg w h

pub signed_plus : (es : List (List Value × ℤ)) → signed_entries Plus es ≡ es
signed_plus [] = refl
signed_plus (e ∷ es) = ap (λ fs. e ∷ fs) (signed_plus es)

neg_twice : (w : ℤ) → neg_ℤ (neg_ℤ w) ≡ w
neg_twice w = omega (arith, ints)

negated_twice : (es : List (List Value × ℤ)) → negated (negated es) ≡ es
negated_twice [] = refl
negated_twice (e ∷ es) = λ i. (e.0, neg_twice e.1 i) ∷ negated_twice es i

keys-negated : (es : List (List Value × ℤ)) → keys (negated es) ≡ keys es
keys-negated [] = refl
keys-negated (e ∷ es) = ap (λ ks. e.0 ∷ ks) (keys-negated es)

-- to add is to take the negated entries away
sum_is : (ps qs : List (List Value × ℤ)) → merged Plus ps qs ≡ difference row_cmp ps (negated qs)
sum_is ps qs = ap (λ es. collect row_cmp (ps ++ es)) (signed_plus qs ∙ sym (negated_twice qs))

-- ---- entries that are sound
canonical : (es : List (List Value × ℤ)) → IsSound es → T (is_canonical row_cmp es)
canonical es sound = subst T (sym sound.canonical) tt

sound_front : (p : List Value × ℤ) (ps : List (List Value × ℤ)) → IsSound (p ∷ ps) → FrontOf row_cmp p ps
sound_front p ps sound = front_of row_cmp p ps (subst T (sym sound.canonical) tt)

sound_rest : (p : List Value × ℤ) (ps : List (List Value × ℤ)) → IsSound (p ∷ ps) → IsSound ps
sound_rest p ps sound = record { canonical = is_true _ (sound_front p ps sound).rest; in_range = (none_first p ps sound.in_range).1 }

sound_bound : (p : List Value × ℤ) (ps : List (List Value × ℤ)) → IsSound (p ∷ ps) → unsigned_abs p.1 ≤ 2 ^ 62
sound_bound p ps sound = in_range_abs p.1 (none_first p ps sound.in_range).0

-- ---- two merged lists, by which first row is the lower one
negated_front : (q : List Value × ℤ) (qs : List (List Value × ℤ)) → IsSound (q ∷ qs) → FrontOf row_cmp (q.0, neg_ℤ q.1) (negated qs)
negated_front q qs sound = front_of row_cmp (q.0, neg_ℤ q.1) (negated qs) (is_canonical-negated row_cmp (q ∷ qs) (canonical (q ∷ qs) sound))

merged_left : (sign : Sign) (p : List Value × ℤ) (ps qs : List (List Value × ℤ)) → IsSound (p ∷ ps) → T (is_below_all row_cmp p.0 (keys qs)) → merged sign (p ∷ ps) qs ≡ p ∷ merged sign ps qs
merged_left Minus p ps qs sound below = difference_left row_cmp p ps qs (sound_front p ps sound) below
merged_left Plus p ps qs sound below =
    sum_is (p ∷ ps) qs
    ∙ difference_left row_cmp p ps (negated qs) (sound_front p ps sound) (subst (λ ks. T (is_below_all row_cmp p.0 ks)) (sym (keys-negated qs)) below)
    ∙ ap (λ es. p ∷ es) (sym (sum_is ps qs))

merged_right : (sign : Sign) (q : List Value × ℤ) (ps qs : List (List Value × ℤ)) → IsSound (q ∷ qs) → T (is_below_all row_cmp q.0 (keys ps)) → merged sign ps (q ∷ qs) ≡ (q.0, signed sign q.1) ∷ merged sign ps qs
merged_right Minus q ps qs sound below = difference_right row_cmp row_cmp-total row_cmp-antisymmetric q ps qs (sound_front q qs sound) below
merged_right Plus q ps qs sound below =
    sum_is ps (q ∷ qs)
    ∙ difference_right row_cmp row_cmp-total row_cmp-antisymmetric (q.0, neg_ℤ q.1) ps (negated qs) (negated_front q qs sound) below
    ∙ (λ i. (q.0, neg_twice q.1 i) ∷ sym (sum_is ps qs) i)

merged_both : (sign : Sign) (p q : List Value × ℤ) (ps qs : List (List Value × ℤ)) → IsSound (p ∷ ps) → IsSound (q ∷ qs) → row_cmp p.0 q.0 ≡ Equal → merged sign (p ∷ ps) (q ∷ qs) ≡ in_front p.0 (p.1 +ℤ signed sign q.1) (merged sign ps qs)
merged_both Minus p q ps qs left right same = difference_both row_cmp row_cmp-total row_cmp-antisymmetric p q ps qs (sound_front p ps left) (sound_front q qs right) same
merged_both Plus p q ps qs left right same =
    sum_is (p ∷ ps) (q ∷ qs)
    ∙ difference_both row_cmp row_cmp-total row_cmp-antisymmetric p (q.0, neg_ℤ q.1) ps (negated qs) (sound_front p ps left) (negated_front q qs right) same
    ∙ (λ i. in_front p.0 (p.1 +ℤ neg_twice q.1 i) (sym (sum_is ps qs) i))

-- ---- one turn
-- the weight of the first entry, as it is read and widened
widened : (p : List Value × ℤ) (ps : List (List Value × ℤ)) (x : ℤ) → IsSound (p ∷ ps) → x ≡ to_z w64 (of_z w64 p.1) → to_z w128 (of_z w128 x) ≡ p.1
widened p ps x sound cast =
    let x_is : x ≡ p.1 = cast ∙ kept p.1 (sound_bound p ps sound) in
    ap (λ w. to_z w128 (of_z w128 w)) x_is ∙ kept_128 p.1 (2 ^ 62) (sound_bound p ps sound) (lit≤ tt)

below_right : (p : List Value × ℤ) (ps qs : List (List Value × ℤ)) → IsSound qs → first_rows_cmp (p ∷ ps) qs ≡ Some Less → T (is_below_all row_cmp p.0 (keys qs))
below_right p ps [] sound e = tt
below_right p ps (q ∷ qs) sound e = below_from row_cmp row_cmp-total p.0 q qs (same_some e) (sound_front q qs sound)

below_left : (q : List Value × ℤ) (ps qs : List (List Value × ℤ)) → IsSound ps → first_rows_cmp ps (q ∷ qs) ≡ Some Greater → T (is_below_all row_cmp q.0 (keys ps))
below_left q [] qs sound e = tt
below_left q (p ∷ ps) qs sound e = below_from row_cmp row_cmp-total q.0 p ps (row_cmp-total.antisymm q.0 p.0 ∙ ap ordering_reverse (same_some e)) (sound_front p ps sound)

-- the weight of the first entry of the right side, as it is read, signed and widened
widened_signed : (sign : Sign) (q : List Value × ℤ) (qs : List (List Value × ℤ)) (x y : ℤ) → IsSound (q ∷ qs) → x ≡ signed sign (to_z w64 (of_z w64 q.1)) → y ≡ to_z w64 (of_z w64 x) → to_z w128 (of_z w128 y) ≡ signed sign q.1
widened_signed sign q qs x y sound sign_is cast =
    let x_is : x ≡ signed sign q.1 = sign_is ∙ ap (signed sign) (kept q.1 (sound_bound q qs sound)) in
    let bound : unsigned_abs (signed sign q.1) ≤ 2 ^ 62 = signed_bound sign q.1 (2 ^ 62) (sound_bound q qs sound) in
    ap (λ w. to_z w128 (of_z w128 w)) (cast ∙ ap (λ w. to_z w64 (of_z w64 w)) x_is ∙ kept (signed sign q.1) bound) ∙ kept_128 (signed sign q.1) (2 ^ 62) bound (lit≤ tt)

pub begins_left : (sign : Sign) (left right : List (List Value × ℤ)) (d e : List Value × ℤ) (x : ℤ) → IsSound left → IsSound right → first_rows_cmp left right ≡ Some Less → x ≡ to_z w64 (of_z w64 (get_or left 0 e).1)
    → BeginsWith sign left right (get_or left 0 d).0 (to_z w128 (of_z w128 x)) 1 0
begins_left sign [] [] d e x left_sound right_sound order cast = cc
begins_left sign [] (q ∷ qs) d e x left_sound right_sound order cast = cc
begins_left sign (p ∷ ps) right d e x left_sound right_sound order cast =
    record {
      begins = merged_left sign p ps right left_sound (below_right p ps right right_sound order)
          ∙ sym (in_front_nonzero row_cmp p (merged sign ps right) (sound_front p ps left_sound).nonzero)
          ∙ ap (λ w. in_front p.0 w (merged sign ps right)) (sym (widened p ps x left_sound cast));
      left_sound = sound_rest p ps left_sound;
      right_sound = right_sound;
      left_bound = omega arith;
      right_bound = omega arith;
      one_left = omega arith;
      one_right = omega arith;
      takes_some = omega arith;
    }

pub begins_right : (sign : Sign) (left right : List (List Value × ℤ)) (d e : List Value × ℤ) (x y : ℤ) → IsSound left → IsSound right → first_rows_cmp left right ≡ Some Greater → x ≡ signed sign (to_z w64 (of_z w64 (get_or right 0 e).1)) → y ≡ to_z w64 (of_z w64 x)
    → BeginsWith sign left right (get_or right 0 d).0 (to_z w128 (of_z w128 y)) 0 1
begins_right sign [] [] d e x y left_sound right_sound order sign_is cast = cc
begins_right sign (p ∷ ps) [] d e x y left_sound right_sound order sign_is cast = cc
begins_right sign left (q ∷ qs) d e x y left_sound right_sound order sign_is cast =
    record {
      begins = merged_right sign q left qs right_sound (below_left q left qs left_sound order)
          ∙ sym (in_front_nonzero row_cmp (q.0, signed sign q.1) (merged sign left qs) (signed_nonzero sign q.1 (sound_front q qs right_sound).nonzero))
          ∙ ap (λ w. in_front q.0 w (merged sign left qs)) (sym (widened_signed sign q qs x y right_sound sign_is cast));
      left_sound = left_sound;
      right_sound = sound_rest q qs right_sound;
      left_bound = omega arith;
      right_bound = omega arith;
      one_left = omega arith;
      one_right = omega arith;
      takes_some = omega arith;
    }

pub begins_both : (sign : Sign) (left right : List (List Value × ℤ)) (d e f : List Value × ℤ) (x y z : ℤ) → IsSound left → IsSound right → first_rows_cmp left right ≡ Some Equal → x ≡ to_z w64 (of_z w64 (get_or left 0 e).1) → y ≡ signed sign (to_z w64 (of_z w64 (get_or right 0 f).1)) → z ≡ to_z w64 (of_z w64 y)
    → BeginsWith sign left right (get_or left 0 d).0 (to_z w128 (of_z w128 (to_z w128 (of_z w128 x) +ℤ to_z w128 (of_z w128 z)))) 1 1
begins_both sign [] [] d e f x y z left_sound right_sound order cast sign_is cast_right = cc
begins_both sign (p ∷ ps) [] d e f x y z left_sound right_sound order cast sign_is cast_right = cc
begins_both sign [] (q ∷ qs) d e f x y z left_sound right_sound order cast sign_is cast_right = cc
begins_both sign (p ∷ ps) (q ∷ qs) d e f x y z left_sound right_sound order cast sign_is cast_right =
    let weight : to_z w128 (of_z w128 (to_z w128 (of_z w128 x) +ℤ to_z w128 (of_z w128 z))) ≡ p.1 +ℤ signed sign q.1 =
    ap₂ (λ v w. to_z w128 (of_z w128 (v +ℤ w))) (widened p ps x left_sound cast) (widened_signed sign q qs y z right_sound sign_is cast_right)
    ∙ kept_128 (p.1 +ℤ signed sign q.1) (2 ^ 63) (abs_sum p.1 (signed sign q.1) (2 ^ 62) (2 ^ 62) (2 ^ 63) (sound_bound p ps left_sound) (signed_bound sign q.1 (2 ^ 62) (sound_bound q qs right_sound)) refl) (lit≤ tt) in
    record {
      begins = merged_both sign p q ps qs left_sound right_sound (same_some order)
          ∙ ap (λ w. in_front p.0 w (merged sign ps qs)) (sym weight);
      left_sound = sound_rest p ps left_sound;
      right_sound = sound_rest q qs right_sound;
      left_bound = omega arith;
      right_bound = omega arith;
      one_left = omega arith;
      one_right = omega arith;
      takes_some = omega arith;
    }

-- what is done and what is left, merged, are all, merged
pub record Merging (sign : Sign) (all_left all_right left right done : List (List Value × ℤ)) : Type 0 where
  pub left_sound : IsSound left
  pub right_sound : IsSound right
  pub told : done ++ merged sign left right ≡ merged sign all_left all_right
  pub in_range : first_outside_in done ≡ None

-- a turn
all_left_over : {X : Type 0} (xs : List X) (i : ℕ) → take (length xs - i) (drop i xs) ≡ drop i xs
all_left_over xs i = take_all (length xs - i) (drop i xs) (omega (arith, length-drop i xs))

pub merging_turn : (sign : Sign) (all_left all_right left right done made : List (List Value × ℤ)) (row : List Value) (weight : ℤ) (i j : ℕ) → Merging sign all_left all_right left right done → BeginsWith sign left right row weight i j → is_in_range weight ≡ true → made ≡ done ++ in_front row weight []
    → Merging sign all_left all_right (take (length left - i) (drop i left)) (take (length right - j) (drop j right)) made
merging_turn sign all_left all_right left right done made row weight i j kept_so_far next within pushed = record {
  left_sound = subst IsSound (sym (all_left_over left i)) next.left_sound;
  right_sound = subst IsSound (sym (all_left_over right j)) next.right_sound;
  told = (λ n. pushed n ++ merged sign (all_left_over left i n) (all_left_over right j n))
      ∙ append_assoc done (in_front row weight []) (merged sign (drop i left) (drop j right))
      ∙ ap (λ es. done ++ es) (in_front-append row weight [] (merged sign (drop i left) (drop j right)) ∙ sym next.begins)
      ∙ kept_so_far.told;
  in_range = ap first_outside_in pushed ∙ first_outside-append done (in_front row weight []) kept_so_far.in_range ∙ first_outside-in_front row weight within;
}

-- the first weight outside the range
pub merging_stops : (sign : Sign) (all_left all_right left right done : List (List Value × ℤ)) (row : List Value) (weight : ℤ) (i j : ℕ) → Merging sign all_left all_right left right done → BeginsWith sign left right row weight i j → is_in_range weight ≡ false
    → first_outside_in (merged sign all_left all_right) ≡ Some weight
merging_stops sign all_left all_right left right done row weight i j kept_so_far next outside =
    ap first_outside_in (sym kept_so_far.told ∙ ap (λ es. done ++ es) next.begins)
    ∙ first_outside-append done (in_front row weight (merged sign (drop i left) (drop j right))) kept_so_far.in_range
    ∙ first_outside_there row weight (merged sign (drop i left) (drop j right)) outside

-- ---- what the lists that are made say of the Z-sets that hold them
entries-plus : (y z : ZSet (List Value) row_cmp) → entries (plus y z) ≡ collect row_cmp (entries y ++ entries z)
unfolding plus
entries-plus y z = entries-from_pairs row_cmp row_cmp-total (entries y ++ entries z)

pub entries-negate : (z : ZSet (List Value) row_cmp) → entries (negate z) ≡ negated (entries z)
unfolding negate
entries-negate z = entries-from_pairs row_cmp row_cmp-total (negated (entries z)) ∙ collect_canonical row_cmp (negated (entries z)) (is_canonical-negated row_cmp (entries z) (entries_canonical z))

-- the sum of two lists that are held
pub sum_shown : (ls rs xs ys : List (List Value × ℤ)) (y z : ZSet (List Value) row_cmp) → IsSound ls → from_entries row_cmp ls ≡ y → xs ≡ ls → IsSound rs → from_entries row_cmp rs ≡ z → ys ≡ rs → merged Plus xs ys ≡ entries (plus y z)
sum_shown ls rs xs ys y z left left_shown left_items right right_shown right_items =
    (λ i. merged Plus (left_items i) (right_items i))
    ∙ ap (λ es. collect row_cmp (ls ++ es)) (signed_plus rs)
    ∙ sym (entries-plus y z ∙ ap₂ (λ es fs. collect row_cmp (es ++ fs)) (entries_shown ls y left left_shown) (entries_shown rs z right right_shown))

-- no weight leaves the range by its sign
pub first_outside-negated : (es : List (List Value × ℤ)) → first_outside_in es ≡ None → first_outside_in (negated es) ≡ None
first_outside-negated [] h = refl
first_outside-negated (e ∷ es) h =
    let (here, rest) = none_first e es h in
    ap (λ b. cond (not b) (Some (neg_ℤ e.1)) (first_outside_in (negated es))) (same_range e.1 ∙ here) ∙ first_outside-negated es rest
  where
    same_range : (w : ℤ) → is_in_range (neg_ℤ w) ≡ is_in_range w
    same_range (pos zero) = refl
    same_range (pos (suc w)) = refl
    same_range (negsuc w) = refl
