-- The truth of a conjunction and of a disjunction, member by member.
use Rattle.std.proofs.Common.{◌≡◌, ℕ, ◌+◌, ◌≤◌, ◌<◌, List, fold, take, length, get_or, Bool, true, false, not, if◌then◌else◌, refl, ap, sym, ◌∙◌}
use mathlib.Core.Bool.{beq}
use Rattle.std.proofs.lemmas.List.{take_all}
use Rattle.std.proofs.lemmas.List.Folds.{fold-map, fold_stuck}
use Rattle.std.proofs.lemmas.List.Sums.{fold_more}
use Rattle.sq_value.specs.declared.tri.Tri.{Tri}
use Rattle.sq_value.specs.declared.tri.Tri.TheVariants.{False, Unknown, True}
use Rattle.sq_value.specs.declared.value.Value.{Value}
use Rattle.sq_value.specs.Truth.{least, greatest}
use Rattle.sq_expr.specs.declared.cond.Cond.{Cond}
use Rattle.sq_expr.specs.declared.cond.Cond.TheVariants as cond
use Rattle.sq_expr.specs.Meaning.{truth}
use Rattle.sq_expr.proofs.Equations.{truth-All, truth-Any}

pub least_False : (t : Tri) → least False t ≡ False
least_False False = refl
least_False Unknown = refl
least_False True = refl

pub greatest_True : (t : Tri) → greatest True t ≡ True
greatest_True False = refl
greatest_True Unknown = refl
greatest_True True = refl

-- `x != negated`
pub differs : (negated x : Bool) → not (beq x negated) ≡ (if negated then not x else x)
differs true true = refl
differs true false = refl
differs false true = refl
differs false false = refl

module _ (row : List Value) where
  abbrev more_least : Tri → Cond → Tri
  more_least t c = least t (truth c row)

  abbrev more_greatest : Tri → Cond → Tri
  more_greatest t c = greatest t (truth c row)

  abbrev pub least_so_far : List Cond → ℕ → Tri
  least_so_far cs i = fold more_least True (take i cs)

  abbrev pub greatest_so_far : List Cond → ℕ → Tri
  greatest_so_far cs i = fold more_greatest False (take i cs)

  least_of_all : (cs : List Cond) → truth (cond.All cs) row ≡ fold more_least True cs
  least_of_all cs = truth-All cs row ∙ fold-map least (λ c. truth c row) True cs

  greatest_of_all : (cs : List Cond) → truth (cond.Any cs) row ≡ fold more_greatest False cs
  greatest_of_all cs = truth-Any cs row ∙ fold-map greatest (λ c. truth c row) False cs

  -- the member that a loop reads, and what came of it
  module _ (cs : List Cond) (i : ℕ) (c : Cond) (t u now : Tri) (below : i < length cs) (is : c ≡ get_or cs i c) (eu : u ≡ truth c row) where
    pub least_here : t ≡ least_so_far cs i → now ≡ least t u → now ≡ more_least (least_so_far cs i) (get_or cs i c)
    least_here et enow = enow ∙ ap (λ t. least t u) et ∙ ap (least (least_so_far cs i)) (eu ∙ ap (λ c. truth c row) is)

    pub least_more : t ≡ least_so_far cs i → now ≡ least t u → now ≡ least_so_far cs (i + 1)
    least_more et enow = least_here et enow ∙ sym (fold_more more_least True cs i c below)

    pub least_stuck : t ≡ least_so_far cs i → now ≡ least t u → now ≡ False → False ≡ truth (cond.All cs) row
    least_stuck et enow stops = fold_stuck more_least False (λ c. least_False (truth c row)) True cs i c below (sym (least_here et enow) ∙ stops) ∙ sym (least_of_all cs)

    pub greatest_here : t ≡ greatest_so_far cs i → now ≡ greatest t u → now ≡ more_greatest (greatest_so_far cs i) (get_or cs i c)
    greatest_here et enow = enow ∙ ap (λ t. greatest t u) et ∙ ap (greatest (greatest_so_far cs i)) (eu ∙ ap (λ c. truth c row) is)

    pub greatest_more : t ≡ greatest_so_far cs i → now ≡ greatest t u → now ≡ greatest_so_far cs (i + 1)
    greatest_more et enow = greatest_here et enow ∙ sym (fold_more more_greatest False cs i c below)

    pub greatest_stuck : t ≡ greatest_so_far cs i → now ≡ greatest t u → now ≡ True → True ≡ truth (cond.Any cs) row
    greatest_stuck et enow stops = fold_stuck more_greatest True (λ c. greatest_True (truth c row)) False cs i c below (sym (greatest_here et enow) ∙ stops) ∙ sym (greatest_of_all cs)

  pub least_ends : (cs : List Cond) (i : ℕ) (t : Tri) → length cs ≤ i → t ≡ least_so_far cs i → t ≡ truth (cond.All cs) row
  least_ends cs i t all et = et ∙ ap (fold more_least True) (take_all i cs all) ∙ sym (least_of_all cs)

  pub greatest_ends : (cs : List Cond) (i : ℕ) (t : Tri) → length cs ≤ i → t ≡ greatest_so_far cs i → t ≡ truth (cond.Any cs) row
  greatest_ends cs i t all et = et ∙ ap (fold more_greatest False) (take_all i cs all) ∙ sym (greatest_of_all cs)
