-- A list up to a place, at it and behind it, as a loop reads it.
use Rattle.std.proofs.Common.{◌≡◌, ℕ, suc, List, ◌∷◌, ◌++◌, take, drop, Some, sym, ap, subst, ◌∙◌}
use Rattle.std.specs.Prelude.{slice_get}
use Rattle.std.specs.List.{All}
use Rattle.std.proofs.Math.Seq.{drop-cons}
use Rattle.std.proofs.lemmas.List.{take-append-drop}
use Rattle.std.proofs.lemmas.Option.{get_or_from_slice_get, slice_get_within}

module _ {A : Type 0} (xs : List A) (i : ℕ) (x : A) (found : slice_get xs i ≡ Some x) where
  pub split_here : xs ≡ take i xs ++ x ∷ drop (suc i) xs
  split_here = sym (take-append-drop i xs) ∙ ap (λ ys. take i xs ++ ys) (drop-cons xs i x (slice_get_within xs i x found) ∙ ap (λ y. y ∷ drop (suc i) xs) (get_or_from_slice_get xs i x x found))

  pub all_found : (P : A → Type 0) → All P xs → P x
  all_found P h = subst P (get_or_from_slice_get xs i x x found) (h i x (slice_get_within xs i x found))
