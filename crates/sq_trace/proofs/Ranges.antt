-- Sums over the first parts of a trace, and over the first entries of a change.
use Rattle.std.proofs.Common.{◌≡◌, ℕ, zero, suc, ◌+◌, ◌<◌, List, [], ◌∷◌, ◌++◌, take, drop, length, get_or, ℤ, Option, Some, None, Less, Equal, Greater, add-one, take-append-drop, refl, sym, ap, ap₂, subst, ◌∙◌, arith}
use Rattle.std.specs.declared.cmp.Ordering.{Ordering}
use Rattle.sq_algebra.specs.Groups.{AbelianGroup, IsAbelian}
use Rattle.sq_algebra.proofs.AbelianLemmas.{neutral_right}
use Rattle.sq_trace.specs.declared.entry.Entry.{Entry}
use Rattle.sq_trace.specs.Runs.{Place, place_of, place_cmp, given, at, content, IsRun, IsKept, FrontsInRange}
use Rattle.sq_trace.specs.Changes.{changed, IsFirstOutside}
use Rattle.sq_trace.specs.Inside.{AllBelow}
use Rattle.sq_trace.proofs.Places.{same_place, above_more}
use Rattle.sq_trace.proofs.Sums.{given_same, given_apart, at-append, at_above, at_below, content-last}
use Rattle.sq_trace.proofs.Searching.{above_got, drop_there, run-drop}

take_suc : {X : Type 0} (xs : List X) (i : ℕ) (x : X) → i < length xs → x ≡ get_or xs i x → take (suc i) xs ≡ take i xs ++ x ∷ []
take_suc [] i x low e = absurd (omega arith)
take_suc (y ∷ ys) zero x low e = ap (λ z. z ∷ []) (sym e)
take_suc (y ∷ ys) (suc i) x low e = ap (λ zs. y ∷ zs) (take_suc ys i x (omega arith) e)

pub take_next : {X : Type 0} (xs : List X) (i : ℕ) (x : X) → i < length xs → x ≡ get_or xs i x → take (i + 1) xs ≡ take i xs ++ x ∷ []
take_next xs i x low e = ap (λ n. take n xs) (add-one i) ∙ take_suc xs i x low e

below_got : {A : Type 0} (G : AbelianGroup A) (outside : A → Option ℤ) (es : List (Entry A)) (i : ℕ) (d : Entry A) → IsRun G outside es → i < length es → AllBelow (place_of (get_or es i d)) (take i es)
below_got G outside [] i d run low = absurd (omega arith)
below_got G outside (e ∷ es) zero d run low = tt
below_got G outside (e ∷ es) (suc i) d run low = (above_got (place_of e) es i d run.0 (omega arith), below_got G outside es i d run.2 (omega arith))

kept_got : {A : Type 0} (G : AbelianGroup A) (outside : A → Option ℤ) (es : List (Entry A)) (i : ℕ) (d : Entry A) → IsRun G outside es → i < length es → IsKept G outside (get_or es i d)
kept_got G outside [] i d run low = absurd (omega arith)
kept_got G outside (e ∷ es) zero d run low = run.1
kept_got G outside (e ∷ es) (suc i) d run low = kept_got G outside es i d run.2 (omega arith)

pub in_range_got : {A : Type 0} (G : AbelianGroup A) (outside : A → Option ℤ) (es : List (Entry A)) (i : ℕ) (e : Entry A) → IsRun G outside es → i < length es → e ≡ get_or es i e → outside e.payload ≡ None
in_range_got G outside es i e run low got = subst (λ f. outside f.payload ≡ None) (sym got) (kept_got G outside es i e run low).in_range

pub take_all_of : {X : Type 0} (xs : List X) → take (length xs) xs ≡ xs
take_all_of [] = refl
take_all_of (x ∷ xs) = ap (λ ys. x ∷ ys) (take_all_of xs)

pub total_in_range : {A : Type 0} (G : AbelianGroup A) (outside : A → Option ℤ) (parts : List (List (Entry A))) (total : A) (p : Place) → FrontsInRange G outside parts → total ≡ content G p parts → outside total ≡ None
total_in_range G outside parts total p fronts is = ap outside (is ∙ ap (content G p) (sym (take_all_of parts))) ∙ fronts (length parts) p

module _ {A : Type 0} (G : AbelianGroup A) (laws : IsAbelian G) where
  -- one more part
  pub content_next : (p : Place) (parts : List (List (Entry A))) (i : ℕ) (es : List (Entry A)) → i < length parts → es ≡ get_or parts i es → content G p (take (i + 1) parts) ≡ G.plus (content G p (take i parts)) (at G p es)
  content_next p parts i es low got = ap (content G p) (take_next parts i es low got) ∙ content-last G laws p (take i parts) es

  -- the sum of a part that stands at the place is still in the range
  pub next_in_range : (outside : A → Option ℤ) (p : Place) (parts : List (List (Entry A))) (i : ℕ) (es fs : List (Entry A)) (sum : A) → FrontsInRange G outside parts → i < length parts → es ≡ get_or parts i es → fs ≡ es → sum ≡ content G p (take i parts)
      → outside (G.plus sum (at G p fs)) ≡ None
  next_in_range outside p parts i es fs sum fronts low got same is =
      ap outside (ap₂ G.plus is (ap (at G p) same) ∙ sym (content_next p parts i es low got)) ∙ fronts (i + 1) p

  -- ---- a change, entry by entry
  module _ (outside : A → Option ℤ) (parts : List (List (Entry A))) (change : List (Entry A)) (run : IsRun G outside change) where
    pub change_starts : FrontsInRange G outside parts → (p : Place) → outside (changed G parts [] p) ≡ None
    change_starts fronts p = ap outside (neutral_right G laws (content G p parts) ∙ ap (content G p) (sym (take_all_of parts))) ∙ fronts (length parts) p

    here : (i : ℕ) (e : Entry A) → i < length change → e ≡ get_or change i e → at G (place_of e) (take (i + 1) change) ≡ e.payload
    here i e low got =
        ap (at G (place_of e)) (take_next change i e low got) ∙ at-append G laws (place_of e) (take i change) (e ∷ [])
        ∙ ap₂ G.plus (at_below G laws (place_of e) (take i change) (subst (λ f. AllBelow (place_of f) (take i change)) (sym got) (below_got G outside change i e run low))) (neutral_right G laws (given G (place_of e) e) ∙ given_same G laws e)
        ∙ laws.neutral e.payload

    elsewhere : (p : Place) (i : ℕ) (e : Entry A) → i < length change → e ≡ get_or change i e → (place_cmp (place_of e) p ≡ Equal → ⊥) → at G p (take (i + 1) change) ≡ at G p (take i change)
    elsewhere p i e low got apart =
        ap (at G p) (take_next change i e low got) ∙ at-append G laws p (take i change) (e ∷ [])
        ∙ ap (G.plus (at G p (take i change))) (neutral_right G laws (given G p e) ∙ given_apart G laws p e apart) ∙ neutral_right G laws (at G p (take i change))

    pub change_goes_on : (i : ℕ) (e : Entry A) (total sum : A) → i < length change → e ≡ get_or change i e → total ≡ content G (place_of e) parts → sum ≡ G.plus total e.payload → outside sum ≡ None
        → ((p : Place) → outside (changed G parts (take i change) p) ≡ None) → (p : Place) → outside (changed G parts (take (i + 1) change) p) ≡ None
    change_goes_on i e total sum low got total_is sum_is within so_far p = by_order (place_cmp (place_of e) p) refl
      where
        apart : (place_cmp (place_of e) p ≡ Equal → ⊥) → outside (changed G parts (take (i + 1) change) p) ≡ None
        apart other = ap outside (ap (G.plus (content G p parts)) (elsewhere p i e low got other)) ∙ so_far p

        by_order : (o : Ordering) → place_cmp (place_of e) p ≡ o → outside (changed G parts (take (i + 1) change) p) ≡ None
        by_order Less is = apart (λ same. cc (is, same))
        by_order Equal is =
            let q = same_place (place_of e) p is in
            ap (λ x. outside (changed G parts (take (i + 1) change) x)) (sym q)
            ∙ ap outside (ap₂ G.plus (sym total_is) (here i e low got) ∙ sym sum_is) ∙ within
        by_order Greater is = apart (λ same. cc (is, same))

    at_change : (p : Place) (i : ℕ) → at G p change ≡ G.plus (at G p (take i change)) (at G p (drop i change))
    at_change p i = ap (at G p) (sym (take-append-drop i change)) ∙ at-append G laws p (take i change) (drop i change)

    pub change_stops : (i : ℕ) (e : Entry A) (total : A) (number : ℤ) → i < length change → e ≡ get_or change i e → total ≡ content G (place_of e) parts → outside (G.plus total e.payload) ≡ Some number
        → ((p : Place) → outside (changed G parts (take i change) p) ≡ None) → IsFirstOutside outside (changed G parts change) number
    change_stops i e total number low got total_is stop so_far =
        let split = drop_there change i e low got in
        let rest : IsRun G outside (e ∷ drop (suc i) change) = subst (IsRun G outside) split (run-drop G outside change i run) in
        let front : at G (place_of e) (take i change) ≡ G.zero = at_below G laws (place_of e) (take i change) (subst (λ f. AllBelow (place_of f) (take i change)) (sym got) (below_got G outside change i e run low)) in
        let back : at G (place_of e) (drop i change) ≡ e.payload = ap (at G (place_of e)) split ∙ ap₂ G.plus (given_same G laws e) (at_above G laws (place_of e) (drop (suc i) change) rest.0) ∙ neutral_right G laws e.payload in
        record {
          place = place_of e;
          is_outside = ap outside (ap₂ G.plus (sym total_is) (at_change (place_of e) i ∙ ap₂ G.plus front back ∙ laws.neutral e.payload)) ∙ stop;
          first = λ q less.
              ap outside (ap (G.plus (content G q parts)) (at_change q i
              ∙ ap (G.plus (at G q (take i change))) (ap (at G q) split ∙ at_above G laws q (e ∷ drop (suc i) change) (less, above_more q (place_of e) (drop (suc i) change) less rest.0))
              ∙ neutral_right G laws (at G q (take i change))))
              ∙ so_far q;
        }
