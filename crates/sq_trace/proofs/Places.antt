-- The order of places, and entries that stand above or below a place.
use Rattle.std.proofs.Common.{◌≡◌, ℕ, zero, suc, List, [], ◌∷◌, ◌++◌, drop, Less, Equal, Greater, refl, ap, ◌∙◌}
use Rattle.std.specs.Ordering.{ordering_reverse, ordering_then}
use Rattle.std.specs.declared.cmp.Ordering.{Ordering}
use Rattle.std.specs.Cmp.{IsTotalOrder, on_total, then_total, tied_itself}
use Rattle.sq_value.specs.Order.{row_cmp}
use Rattle.sq_value.specs.OrderLaws.{row_cmp-total, row_cmp-antisymmetric}
use Rattle.sq_trace.specs.declared.entry.Entry.{Entry}
use Rattle.sq_trace.specs.Runs.{Place, place_of, place_cmp, AllAbove}
use Rattle.sq_trace.specs.Inside.{Before}

pub place_cmp-total : IsTotalOrder place_cmp
place_cmp-total = then_total (on_total (λ p. p.0) row_cmp-total) (on_total (λ p. p.1) row_cmp-total)

then_equal : (a b : Ordering) → ordering_then a b ≡ Equal → (a ≡ Equal) × (b ≡ Equal)
then_equal Less b e = cc
then_equal Equal b e = (refl, e)
then_equal Greater b e = cc

pub same_place : (p q : Place) → place_cmp p q ≡ Equal → p ≡ q
same_place p q e =
    let both = then_equal (row_cmp p.0 q.0) (row_cmp p.1 q.1) e in
    λ i. (row_cmp-antisymmetric p.0 q.0 both.0 i, row_cmp-antisymmetric p.1 q.1 both.1 i)

pub place_itself : (p : Place) → place_cmp p p ≡ Equal
place_itself p = tied_itself place_cmp-total p

pub less_turned : (p q : Place) → place_cmp p q ≡ Less → place_cmp q p ≡ Greater
less_turned p q e = place_cmp-total.antisymm q p ∙ ap ordering_reverse e

pub greater_turned : (p q : Place) → place_cmp p q ≡ Greater → place_cmp q p ≡ Less
greater_turned p q e = place_cmp-total.antisymm q p ∙ ap ordering_reverse e

module _ {A : Type 0} where
  pub above_more : (p q : Place) (es : List (Entry A)) → place_cmp p q ≡ Less → AllAbove q es → AllAbove p es
  above_more p q [] low above = tt
  above_more p q (e ∷ es) low above = (place_cmp-total.trans p q (place_of e) low above.0, above_more p q es low above.1)

  pub above-drop : (p : Place) (es : List (Entry A)) (i : ℕ) → AllAbove p es → AllAbove p (drop i es)
  above-drop p es zero above = above
  above-drop p [] (suc i) above = tt
  above-drop p (e ∷ es) (suc i) above = above-drop p es i above.1

  pub above-append : (p : Place) (es fs : List (Entry A)) → AllAbove p es → AllAbove p fs → AllAbove p (es ++ fs)
  above-append p [] fs left right = right
  above-append p (e ∷ es) fs left right = (left.0, above-append p es fs left.1 right)

  pub before-drop : (done es : List (Entry A)) (i : ℕ) → Before done es → Before done (drop i es)
  before-drop [] es i before = tt
  before-drop (d ∷ done) es i before = (above-drop (place_of d) es i before.0, before-drop done es i before.1)

  pub before-append : (done more es : List (Entry A)) → Before done es → Before more es → Before (done ++ more) es
  before-append [] more es left right = right
  before-append (d ∷ done) more es left right = (left.0, before-append done more es left.1 right)
