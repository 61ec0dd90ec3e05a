-- What entries add up to at a place.
use Rattle.std.proofs.Common.{◌≡◌, List, [], ◌∷◌, ◌++◌, Less, Equal, Greater, if◌then◌else◌, refl, sym, ap, ap₂, ◌∙◌}
use Rattle.std.specs.Ordering.{is_eq}
use Rattle.std.specs.declared.cmp.Ordering.{Ordering}
use Rattle.sq_algebra.specs.Groups.{AbelianGroup, IsAbelian}
use Rattle.sq_algebra.proofs.AbelianLemmas.{neutral_right}
use Rattle.sq_trace.specs.declared.entry.Entry.{Entry}
use Rattle.sq_trace.specs.Runs.{Place, place_of, place_cmp, given, at, content, AllAbove}
use Rattle.sq_trace.specs.Inside.{AllBelow}
use Rattle.sq_trace.proofs.Places.{place_itself, less_turned}

pub order_cases : (o : Ordering) → (o ≡ Less → ⊥) → (o ≡ Equal → ⊥) → o ≡ Greater
order_cases Less a b = absurd (a refl)
order_cases Equal a b = absurd (b refl)
order_cases Greater a b = refl

module _ {A : Type 0} (G : AbelianGroup A) (laws : IsAbelian G) where
  pub given_same : (e : Entry A) → given G (place_of e) e ≡ e.payload
  given_same e = ap (λ o. if is_eq o then e.payload else G.zero) (place_itself (place_of e))

  pub given_apart : (p : Place) (e : Entry A) → (place_cmp (place_of e) p ≡ Equal → ⊥) → given G p e ≡ G.zero
  given_apart p e apart = by_order (place_cmp (place_of e) p) apart
    where
      by_order : (o : Ordering) → (o ≡ Equal → ⊥) → (if is_eq o then e.payload else G.zero) ≡ G.zero
      by_order Less h = refl
      by_order Equal h = absurd (h refl)
      by_order Greater h = refl

  pub at-append : (p : Place) (es fs : List (Entry A)) → at G p (es ++ fs) ≡ G.plus (at G p es) (at G p fs)
  at-append p [] fs = sym (laws.neutral (at G p fs))
  at-append p (e ∷ es) fs = ap (G.plus (given G p e)) (at-append p es fs) ∙ sym (laws.associative (given G p e) (at G p es) (at G p fs))

  pub content-append : (p : Place) (parts more : List (List (Entry A))) → content G p (parts ++ more) ≡ G.plus (content G p parts) (content G p more)
  content-append p [] more = sym (laws.neutral (content G p more))
  content-append p (es ∷ parts) more = ap (G.plus (at G p es)) (content-append p parts more) ∙ sym (laws.associative (at G p es) (content G p parts) (content G p more))

  pub content-last : (p : Place) (parts : List (List (Entry A))) (es : List (Entry A)) → content G p (parts ++ es ∷ []) ≡ G.plus (content G p parts) (at G p es)
  content-last p parts es = content-append p parts (es ∷ []) ∙ ap (G.plus (content G p parts)) (neutral_right G laws (at G p es))

  pub at_above : (p : Place) (es : List (Entry A)) → AllAbove p es → at G p es ≡ G.zero
  at_above p [] above = refl
  at_above p (e ∷ es) above =
      ap₂ G.plus (given_apart p e (λ same. let turned = less_turned p (place_of e) above.0 in cc)) (at_above p es above.1) ∙ laws.neutral G.zero

  pub at_below : (p : Place) (es : List (Entry A)) → AllBelow p es → at G p es ≡ G.zero
  at_below p [] below = refl
  at_below p (e ∷ es) below = ap₂ G.plus (given_apart p e (λ same. cc (below.0, same))) (at_below p es below.1) ∙ laws.neutral G.zero
