-- Binary search in a run.
use Rattle.std.proofs.Common.{◌≡◌, ℕ, zero, suc, ◌+◌, ◌-◌, ◌/◌, ◌<◌, ◌≤◌, List, [], ◌∷◌, take, drop, length, get_or, ℤ, Option, Less, Equal, add-one, take-append-drop, refl, sym, ap, ap₂, subst, ◌∙◌, arith}
use Rattle.std.specs.declared.cmp.Ordering.{Ordering}
use Rattle.sq_algebra.specs.Groups.{AbelianGroup, IsAbelian}
use Rattle.sq_algebra.proofs.AbelianLemmas.{neutral_right}
use Rattle.sq_trace.specs.declared.entry.Entry.{Entry}
use Rattle.sq_trace.specs.Runs.{Place, place_of, place_cmp, given, at, AllAbove, IsRun}
use Rattle.sq_trace.specs.Inside.{AllBelow, StartsAt, IsBound, IsFound}
use Rattle.sq_trace.proofs.Places.{place_cmp-total, same_place, greater_turned, above_more}
use Rattle.sq_trace.proofs.Sums.{order_cases, given_same, at-append, at_above, at_below}

pub drop_there : {X : Type 0} (xs : List X) (i : ℕ) (x : X) → i < length xs → x ≡ get_or xs i x → drop i xs ≡ x ∷ drop (suc i) xs
drop_there [] i x low e = absurd (omega arith)
drop_there (y ∷ ys) zero x low e = ap (λ z. z ∷ ys) (sym e)
drop_there (y ∷ ys) (suc i) x low e = drop_there ys i x (omega arith) e

pub drop_none : {X : Type 0} (xs : List X) (i : ℕ) → length xs ≤ i → drop i xs ≡ []
drop_none [] zero e = refl
drop_none [] (suc i) e = refl
drop_none (y ∷ ys) zero e = absurd (omega arith)
drop_none (y ∷ ys) (suc i) e = drop_none ys i (omega arith)

pub above_got : {A : Type 0} (p : Place) (es : List (Entry A)) (m : ℕ) (d : Entry A) → AllAbove p es → m < length es → place_cmp p (place_of (get_or es m d)) ≡ Less
above_got p [] m d above low = absurd (omega arith)
above_got p (e ∷ es) zero d above low = above.0
above_got p (e ∷ es) (suc m) d above low = above_got p es m d above.1 (omega arith)

module _ {A : Type 0} (G : AbelianGroup A) (outside : A → Option ℤ) where
  pub run-drop : (es : List (Entry A)) (i : ℕ) → IsRun G outside es → IsRun G outside (drop i es)
  run-drop es zero run = run
  run-drop [] (suc i) run = tt
  run-drop (e ∷ es) (suc i) run = run-drop es i run.2

  pub below_to : (p : Place) (es : List (Entry A)) (m : ℕ) (d : Entry A) → IsRun G outside es → m < length es → place_cmp (place_of (get_or es m d)) p ≡ Less → AllBelow p (take (suc m) es)
  below_to p [] m d run low less = tt
  below_to p (e ∷ es) zero d run low less = (less, tt)
  below_to p (e ∷ es) (suc m) d run low less = (
    place_cmp-total.trans (place_of e) (place_of (get_or es m d)) p (above_got (place_of e) es m d run.0 (omega arith)) less,
    below_to p es m d run.2 (omega arith) less,
  )

  -- a turn of the search that goes on behind the middle
  pub search_on : (p : Place) (es : List (Entry A)) (low high : ℕ) (found : Entry A) (order : Ordering) → IsRun G outside es → low < high → high ≤ length es → found ≡ get_or es (low + (high - low) / 2) found → order ≡ place_cmp (place_of found) p → order ≡ Less
      → (low + (high - low) / 2 + 1 ≤ high) × AllBelow p (take (low + (high - low) / 2 + 1) es)
  search_on p es low high found order run some within got is less =
      let m : ℕ = low + (high - low) / 2 in
      let low_middle : m < high = omega arith in
      (omega arith, subst (λ n. AllBelow p (take n es)) (sym (add-one m)) (below_to p es m found run (omega arith) (ap (λ e. place_cmp (place_of e) p) (sym got) ∙ sym is ∙ less)))

module _ {A : Type 0} (G : AbelianGroup A) (laws : IsAbelian G) (outside : A → Option ℤ) where
  at_bound : (p : Place) (es : List (Entry A)) (i : ℕ) → IsBound p es i → at G p es ≡ at G p (drop i es)
  at_bound p es i bound =
      ap (at G p) (sym (take-append-drop i es)) ∙ at-append G laws p (take i es) (drop i es) ∙ ap (λ x. G.plus x (at G p (drop i es))) (at_below G laws p (take i es) bound.below) ∙ laws.neutral (at G p (drop i es))

  pub none_behind : (p : Place) (es : List (Entry A)) (i : ℕ) → IsBound p es i → length es ≤ i → at G p es ≡ G.zero
  none_behind p es i bound none = at_bound p es i bound ∙ ap (at G p) (drop_none es i none)

  pub other_there : (p : Place) (es : List (Entry A)) (i : ℕ) (e : Entry A) → IsRun G outside es → IsBound p es i → i < length es → e ≡ get_or es i e → (place_cmp (place_of e) p ≡ Equal → ⊥) → at G p es ≡ G.zero
  other_there p es i e run bound low_i there apart =
      let split = drop_there es i e low_i there in
      let starts = subst (StartsAt p) split bound.starts in
      let low = greater_turned (place_of e) p (order_cases (place_cmp (place_of e) p) starts apart) in
      let rest = subst (IsRun G outside) split (run-drop G outside es i run) in
      at_bound p es i bound ∙ ap (at G p) split ∙ at_above G laws p (e ∷ drop (suc i) es) (low, above_more p (place_of e) (drop (suc i) es) low rest.0)

  pub found_there : (p : Place) (es : List (Entry A)) (i : ℕ) (e : Entry A) → IsRun G outside es → IsBound p es i → i < length es → e ≡ get_or es i e → place_cmp (place_of e) p ≡ Equal → IsFound G outside p es e.payload
  found_there p es i e run bound low_i there same =
      let split = drop_there es i e low_i there in
      let rest = subst (IsRun G outside) split (run-drop G outside es i run) in
      let at_place = same_place (place_of e) p same in
      record {
        is = sym (at_bound p es i bound ∙ ap (at G p) split
            ∙ ap₂ G.plus (ap (λ q. given G q e) (sym at_place) ∙ given_same G laws e) (at_above G laws p (drop (suc i) es) (subst (λ q. AllAbove q (drop (suc i) es)) at_place rest.0))
            ∙ neutral_right G laws e.payload);
        nonzero = rest.1.nonzero;
        in_range = rest.1.in_range;
      }
