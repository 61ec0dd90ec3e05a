-- Lists in which a key may stand several times: how often it stands there, the keys in order, and the keys by which two lists differ.
--     count R k xs      the number of places of xs that hold k.    is_ascending R xs      whether each key of xs is below all later ones
--     in_order R xs     the keys of xs, each once, ascending.      changed R before now   the keys whose counts in the two lists differ, ascending
--     first_of_each R xs     the keys of xs, each once, as they first appear.      among R xs ys, without R xs ys   the keys of xs that ys has, and those that it has not
--     or_one xs x     xs, or x alone if xs has no members
--     ForgetsOrder step, ForgetsRepeats step     a fold by step depends neither on the order of the members nor on their repeats
use Rattle.std.specs.Prelude.{◌≡◌, ℕ, List, [], ◌∷◌, ◌++◌, Bool, true, ◌&&◌, ◌==◌, not}
use Rattle.std.specs.List.{count_by, filter}
use Rattle.std.specs.declared.cmp.Ordering.{Ordering}
use Rattle.std.specs.Ordering.{is_eq, is_lt, match_ordering}

-- a list, or one member in the place of none
abbrev pub or_one : {X : Type 0} → List X → X → List X
or_one [] x = x ∷ []
or_one (y ∷ ys) x = y ∷ ys

module _ {K : Type 0} (R : K → K → Ordering) where
  -- the number of places of a list that hold k
  abbrev pub count : K → List K → ℕ
  count k xs = count_by (λ x. is_eq (R k x)) xs

  -- whether k is below each key of a list
  abbrev pub is_below_all : K → List K → Bool
  is_below_all k [] = true
  is_below_all k (x ∷ xs) = is_lt (R k x) && is_below_all k xs

  -- whether each key of a list is below all later ones
  abbrev pub is_ascending : List K → Bool
  is_ascending [] = true
  is_ascending (x ∷ xs) = is_below_all x xs && is_ascending xs

  -- an ascending list with k in its place, unless it stands there already
  abbrev pub place : K → List K → List K
  place k [] = k ∷ []
  place k (x ∷ xs) = match_ordering (R k x) (k ∷ x ∷ xs) (x ∷ xs) (x ∷ place k xs)

  -- the keys of a list, each once, ascending
  abbrev pub in_order : List K → List K
  in_order [] = []
  in_order (x ∷ xs) = place x (in_order xs)

  -- the keys whose counts in the two lists differ, ascending
  abbrev pub changed : List K → List K → List K
  changed before now = filter (λ k. not (count k before == count k now)) (in_order (before ++ now))

  -- the keys of a list, each once, in the order in which they first appear
  abbrev pub first_of_each : List K → List K
  first_of_each [] = []
  first_of_each (x ∷ xs) = x ∷ filter (λ y. not (is_eq (R x y))) (first_of_each xs)

  -- the members of a list that stand in another one too, and those that do not
  abbrev pub among : List K → List K → List K
  among xs ys = filter (λ x. not (count x ys == 0)) xs

  abbrev pub without : List K → List K → List K
  without xs ys = filter (λ x. count x ys == 0) xs

module _ {B K : Type 0} (step : B → K → B) where
  -- a fold by step does not depend on the order of the members
  abbrev pub ForgetsOrder : Type 0
  ForgetsOrder = (b : B) (x y : K) → step (step b x) y ≡ step (step b y) x

  -- a fold by step does not depend on how often a member stands in the list
  abbrev pub ForgetsRepeats : Type 0
  ForgetsRepeats = (b : B) (x : K) → step (step b x) x ≡ step b x
