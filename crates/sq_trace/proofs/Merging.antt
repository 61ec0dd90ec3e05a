-- One turn of a merge, and what all turns make.
use Rattle.std.proofs.Common.{◌≡◌, ℕ, ◌-◌, List, [], ◌∷◌, ◌++◌, take, drop, take_all, length-drop, length, get_or, ℤ, Option, Some, None, Less, Equal, Greater, if◌then◌else◌, refl, sym, ap, ap₂, subst, ◌∙◌, arith}
use Rattle.std.specs.Option.{option_to_list}
use Rattle.std.specs.Ordering.{is_eq}
use Rattle.std.specs.declared.cmp.Ordering.{Ordering}
use Rattle.sq_algebra.specs.Groups.{AbelianGroup, IsAbelian}
use Rattle.sq_algebra.proofs.AbelianLemmas.{neutral_right, interchange, plus_swap}
use Rattle.sq_trace.specs.declared.entry.Entry.{Entry}
use Rattle.sq_trace.specs.Runs.{Place, place_of, place_cmp, given, at, AllAbove, IsRun}
use Rattle.sq_trace.specs.Inside.{Before, first_places_cmp, Added, IsSum, IsOutside, StopsAt, BeginsWith}
use Rattle.sq_trace.proofs.Places.{same_place, place_itself, greater_turned, above_more, above-append, before-drop, before-append}
use Rattle.sq_trace.proofs.Sums.{given_same, given_apart, at-append, at_above}

same_some : {X : Type 0} {a b : X} → Some a ≡ Some b → a ≡ b
same_some e = cc

module _ {A : Type 0} (G : AbelianGroup A) (laws : IsAbelian G) (outside : A → Option ℤ) where
  above_right : (e : Entry A) (es right : List (Entry A)) → IsRun G outside right → first_places_cmp (e ∷ es) right ≡ Some Less → AllAbove (place_of e) right
  above_right e es [] run order = tt
  above_right e es (f ∷ fs) run order = (same_some order, above_more (place_of e) (place_of f) fs (same_some order) run.0)

  above_left : (f : Entry A) (left fs : List (Entry A)) → IsRun G outside left → first_places_cmp left (f ∷ fs) ≡ Some Greater → AllAbove (place_of f) left
  above_left f [] fs run order = tt
  above_left f (e ∷ es) fs run order =
      let low = greater_turned (place_of e) (place_of f) (same_some order) in
      (low, above_more (place_of f) (place_of e) es low run.0)

  pub begins_left : (left right : List (Entry A)) (d : Entry A) → IsRun G outside left → IsRun G outside right → first_places_cmp left right ≡ Some Less → BeginsWith G outside left right (get_or left 0 d ∷ []) 1 0
  begins_left [] [] d left_run right_run order = cc
  begins_left [] (f ∷ fs) d left_run right_run order = cc
  begins_left (e ∷ es) right d left_run right_run order = record {
    sums = λ p. laws.associative (given G p e) (at G p es) (at G p right) ∙ ap (λ x. G.plus x (G.plus (at G p es) (at G p right))) (sym (neutral_right G laws (given G p e)));
    is_run = (tt, left_run.1, tt);
    above = λ p l r. (l.0, tt);
    before_left = (left_run.0, tt);
    before_right = (above_right e es right right_run order, tt);
    left_run = left_run.2;
    right_run = right_run;
    left_bound = omega arith;
    right_bound = omega arith;
    takes_some = omega arith;
  }

  pub begins_right : (left right : List (Entry A)) (d : Entry A) → IsRun G outside left → IsRun G outside right → first_places_cmp left right ≡ Some Greater → BeginsWith G outside left right (get_or right 0 d ∷ []) 0 1
  begins_right [] [] d left_run right_run order = cc
  begins_right (e ∷ es) [] d left_run right_run order = cc
  begins_right left (f ∷ fs) d left_run right_run order = record {
    sums = λ p. plus_swap G laws (at G p left) (given G p f) (at G p fs) ∙ ap (λ x. G.plus x (G.plus (at G p left) (at G p fs))) (sym (neutral_right G laws (given G p f)));
    is_run = (tt, right_run.1, tt);
    above = λ p l r. (r.0, tt);
    before_left = (above_left f left fs left_run order, tt);
    before_right = (right_run.0, tt);
    left_run = left_run;
    right_run = right_run.2;
    left_bound = omega arith;
    right_bound = omega arith;
    takes_some = omega arith;
  }

  -- two entries at one place give together what their sum gives
  given_together : (p : Place) (e f : Entry A) → place_of e ≡ place_of f → (s : Entry A) → place_of s ≡ place_of e → s.payload ≡ G.plus e.payload f.payload → given G p s ≡ G.plus (given G p e) (given G p f)
  given_together p e f same s at_place is =
      ap₂ (λ q v. if is_eq (place_cmp q p) then v else G.zero) at_place is
      ∙ by_order (place_cmp (place_of e) p)
      ∙ ap (λ q. G.plus (given G p e) (if is_eq (place_cmp q p) then f.payload else G.zero)) same
    where
      by_order : (o : Ordering) → (if is_eq o then G.plus e.payload f.payload else G.zero) ≡ G.plus (if is_eq o then e.payload else G.zero) (if is_eq o then f.payload else G.zero)
      by_order Less = sym (laws.neutral G.zero)
      by_order Equal = refl
      by_order Greater = sym (laws.neutral G.zero)

  -- the same of a sum that is zero
  given_nothing : (p : Place) (e f : Entry A) → place_of e ≡ place_of f → G.plus e.payload f.payload ≡ G.zero → G.zero ≡ G.plus (given G p e) (given G p f)
  given_nothing p e f same none =
      sym (by_order (place_cmp (place_of e) p)) ∙ given_together p e f same (record { key = e.key; row = e.row; payload = G.plus e.payload f.payload }) refl refl
    where
      by_order : (o : Ordering) → (if is_eq o then G.plus e.payload f.payload else G.zero) ≡ G.zero
      by_order Less = refl
      by_order Equal = none
      by_order Greater = refl

  pub begins_both : (left right : List (Entry A)) (d1 d2 : Entry A) (made : Option (Entry A)) → IsRun G outside left → IsRun G outside right → first_places_cmp left right ≡ Some Equal → Added G outside (get_or left 0 d1) (get_or right 0 d2) made
      → BeginsWith G outside left right (option_to_list made) 1 1
  begins_both [] [] d1 d2 made left_run right_run order added = cc
  begins_both [] (f ∷ fs) d1 d2 made left_run right_run order added = cc
  begins_both (e ∷ es) [] d1 d2 made left_run right_run order added = cc
  begins_both (e ∷ es) (f ∷ fs) d1 d2 None left_run right_run order added =
      let same = same_place (place_of e) (place_of f) (same_some order) in
      record {
        sums = λ p. interchange G laws (given G p e) (at G p es) (given G p f) (at G p fs) ∙ ap (λ x. G.plus x (G.plus (at G p es) (at G p fs))) (sym (given_nothing p e f same added));
        is_run = tt;
        above = λ p l r. tt;
        before_left = tt;
        before_right = tt;
        left_run = left_run.2;
        right_run = right_run.2;
        left_bound = omega arith;
        right_bound = omega arith;
        takes_some = omega arith;
      }
  begins_both (e ∷ es) (f ∷ fs) d1 d2 (Some s) left_run right_run order added =
      let same = same_place (place_of e) (place_of f) (same_some order) in
      record {
        sums = λ p. interchange G laws (given G p e) (at G p es) (given G p f) (at G p fs)
            ∙ ap (λ x. G.plus x (G.plus (at G p es) (at G p fs))) (sym (neutral_right G laws (given G p s) ∙ given_together p e f same s added.0 added.1));
        is_run = (tt, added.2, tt);
        above = λ p l r. (subst (λ q. place_cmp p q ≡ Less) (sym added.0) l.0, tt);
        before_left = (subst (λ q. AllAbove q es) (sym added.0) left_run.0, tt);
        before_right = (subst (λ q. AllAbove q fs) (sym (added.0 ∙ same)) right_run.0, tt);
        left_run = left_run.2;
        right_run = right_run.2;
        left_bound = omega arith;
        right_bound = omega arith;
        takes_some = omega arith;
      }

  -- a sum outside its range
  pub stops : (left right : List (Entry A)) (d1 d2 : Entry A) (number : ℤ) → IsRun G outside left → IsRun G outside right → first_places_cmp left right ≡ Some Equal → outside (G.plus (get_or left 0 d1).payload (get_or right 0 d2).payload) ≡ Some number → StopsAt G outside left right number
  stops [] [] d1 d2 number left_run right_run order is = cc
  stops [] (f ∷ fs) d1 d2 number left_run right_run order is = cc
  stops (e ∷ es) [] d1 d2 number left_run right_run order is = cc
  stops (e ∷ es) (f ∷ fs) d1 d2 number left_run right_run order is =
      let same = same_place (place_of e) (place_of f) (same_some order) in
      let first : at G (place_of e) (e ∷ es) ≡ e.payload = ap₂ G.plus (given_same G laws e) (at_above G laws (place_of e) es left_run.0) ∙ neutral_right G laws e.payload in
      let second : at G (place_of e) (f ∷ fs) ≡ f.payload = ap (λ q. at G q (f ∷ fs)) same ∙ ap₂ G.plus (given_same G laws f) (at_above G laws (place_of f) fs right_run.0) ∙ neutral_right G laws f.payload in
      record { place = place_of e; is_outside = ap outside (ap₂ G.plus first second) ∙ is; there = λ above. let itself = place_itself (place_of e) in let low = above.0 in cc (low, itself) }

  -- ---- all turns
  pub run-append : (es fs : List (Entry A)) → IsRun G outside es → IsRun G outside fs → Before es fs → IsRun G outside (es ++ fs)
  run-append [] fs run more before = more
  run-append (e ∷ es) fs run more before = (above-append (place_of e) es fs run.0 before.0, run.1, run-append es fs run.2 more before.1)

  -- what is done, with what is left, is the sum of all
  pub record Merging (all_left all_right left right done : List (Entry A)) : Type 0 where
    pub left_run : IsRun G outside left
    pub right_run : IsRun G outside right
    pub is_run : IsRun G outside done
    pub before_left : Before done left
    pub before_right : Before done right
    pub told : (p : Place) → G.plus (at G p done) (G.plus (at G p left) (at G p right)) ≡ G.plus (at G p all_left) (at G p all_right)

  all_left_over : {X : Type 0} (xs : List X) (i : ℕ) → take (length xs - i) (drop i xs) ≡ drop i xs
  all_left_over xs i = take_all (length xs - i) (drop i xs) (omega (arith, length-drop i xs))

  before_made : (done left right made : List (Entry A)) → ((p : Place) → AllAbove p left → AllAbove p right → AllAbove p made) → Before done left → Before done right → Before done made
  before_made [] left right made above l r = tt
  before_made (d ∷ done) left right made above l r = (above (place_of d) l.0 r.0, before_made done left right made above l.1 r.1)

  pub merging_turn : (all_left all_right left right done made new : List (Entry A)) (i j : ℕ) → Merging all_left all_right left right done → BeginsWith G outside left right made i j → new ≡ done ++ made
      → Merging all_left all_right (take (length left - i) (drop i left)) (take (length right - j) (drop j right)) new
  merging_turn all_left all_right left right done made new i j so_far next is =
      let turned : Merging all_left all_right (drop i left) (drop j right) (done ++ made) = record {
        left_run = next.left_run;
        right_run = next.right_run;
        is_run = run-append done made so_far.is_run next.is_run (before_made done left right made next.above so_far.before_left so_far.before_right);
        before_left = before-append done made (drop i left) (before-drop done left i so_far.before_left) next.before_left;
        before_right = before-append done made (drop j right) (before-drop done right j so_far.before_right) next.before_right;
        told = λ p. ap (λ x. G.plus x (G.plus (at G p (drop i left)) (at G p (drop j right)))) (at-append G laws p done made)
            ∙ laws.associative (at G p done) (at G p made) (G.plus (at G p (drop i left)) (at G p (drop j right)))
            ∙ ap (G.plus (at G p done)) (sym (next.sums p))
            ∙ so_far.told p;
      } in
      let at_new = subst (Merging all_left all_right (drop i left) (drop j right)) (sym is) turned in
      let at_left = subst (λ l. Merging all_left all_right l (drop j right) new) (sym (all_left_over left i)) at_new in
      subst (λ r. Merging all_left all_right (take (length left - i) (drop i left)) r new) (sym (all_left_over right j)) at_left

  pub merging_starts : (left right : List (Entry A)) → IsRun G outside left → IsRun G outside right → Merging left right left right []
  merging_starts left right left_run right_run = record {
    left_run = left_run;
    right_run = right_run;
    is_run = tt;
    before_left = tt;
    before_right = tt;
    told = λ p. laws.neutral (G.plus (at G p left) (at G p right));
  }

  pub merging_ends : (all_left all_right left right done : List (Entry A)) → Merging all_left all_right left right done → left ≡ [] → right ≡ [] → IsSum G outside all_left all_right done
  merging_ends all_left all_right left right done so_far no_left no_right = record {
    is_run = so_far.is_run;
    sums = λ p. sym (neutral_right G laws (at G p done)) ∙ ap (G.plus (at G p done)) (sym (laws.neutral G.zero) ∙ ap₂ (λ l r. G.plus (at G p l) (at G p r)) (sym no_left) (sym no_right)) ∙ so_far.told p;
  }

  -- a fault of the rest is one of all, since nothing that is done stands at its place
  at_done : (p : Place) (done left : List (Entry A)) → Before done left → (AllAbove p left → ⊥) → at G p done ≡ G.zero
  at_done p [] left before there = refl
  at_done p (d ∷ done) left before there =
      ap₂ G.plus (given_apart G laws p d (λ same. there (subst (λ q. AllAbove q left) (same_place (place_of d) p same) before.0))) (at_done p done left before.1 there) ∙ laws.neutral G.zero

  pub merging_stops : (all_left all_right left right done : List (Entry A)) (number : ℤ) → Merging all_left all_right left right done → StopsAt G outside left right number → IsOutside G outside all_left all_right number
  merging_stops all_left all_right left right done number so_far stop = record {
    place = stop.place;
    is_outside = ap outside (sym (so_far.told stop.place) ∙ ap (λ x. G.plus x (G.plus (at G stop.place left) (at G stop.place right))) (at_done stop.place done left so_far.before_left stop.there) ∙ laws.neutral (G.plus (at G stop.place left) (at G stop.place right))) ∙ stop.is_outside;
  }
