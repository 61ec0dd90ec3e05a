-- What a change of a trace gives, and what look-ups answer.
use Rattle.std.specs.Prelude.{◌≡◌, ℕ, ℤ, List, [], ◌∷◌, ◌++◌, take, Option, Some, None, MatchOption}
use Rattle.std.specs.declared.cmp.Ordering.TheVariants.{Less}
use Rattle.sq_algebra.specs.Groups.{AbelianGroup}
use Rattle.sq_trace.specs.declared.entry.Entry.{Entry}
use Rattle.sq_trace.specs.Runs.{Place, place_cmp, at, content}

-- the parts after a commit: so many first parts, and a new one behind them
abbrev pub committed : {A : Type 0} → List (List (Entry A)) → ℕ × List (Entry A) → List (List (Entry A))
committed parts prepared = take prepared.0 parts ++ prepared.1 ∷ []

module _ {A : Type 0} (G : AbelianGroup A) where
  -- the content after a change
  abbrev pub changed : List (List (Entry A)) → List (Entry A) → Place → A
  changed parts change p = G.plus (content G p parts) (at G p change)

  -- none if it is zero, and else itself
  abbrev pub Shows : A → Option A → Type 0
  Shows a answer = MatchOption answer (a ≡ G.zero) (λ shown. (shown ≡ a) × (a ≡ G.zero → ⊥))

-- the first place at which a payload leaves its range, and its number outside
pub record IsFirstOutside {A : Type 0} (outside : A → Option ℤ) (payload : Place → A) (number : ℤ) : Type 0 where
  pub place : Place
  pub is_outside : outside (payload place) ≡ Some number
  pub first : (q : Place) → place_cmp q place ≡ Less → outside (payload q) ≡ None
