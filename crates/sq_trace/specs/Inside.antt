-- What the functions inside promise one another.
use Rattle.std.specs.Prelude.{◌≡◌, ℕ, ◌+◌, ◌<◌, ◌≤◌, ℤ, List, [], ◌∷◌, take, drop, length, Bool, true, Option, Some, None, MatchOption}
use Rattle.std.specs.Ordering.{is_lt}
use Rattle.std.specs.declared.cmp.Ordering.{Ordering}
use Rattle.std.specs.declared.cmp.Ordering.TheVariants.{Less, Greater}
use Rattle.sq_algebra.specs.Groups.{AbelianGroup}
use Rattle.sq_trace.specs.declared.entry.Entry.{Entry}
use Rattle.sq_trace.specs.Runs.{Place, place_cmp, place_of, at, content, AllAbove, IsKept, IsRun, IsTwiceAsLong}
use Rattle.sq_trace.specs.Changes.{changed}

-- all entries stand below a place
abbrev pub AllBelow : {A : Type 0} → Place → List (Entry A) → Type 0
AllBelow p [] = Unit {0}
AllBelow p (e ∷ es) = (place_cmp (place_of e) p ≡ Less) × AllBelow p es

-- the first entry, if there is one, does not stand below a place
abbrev pub StartsAt : {A : Type 0} → Place → List (Entry A) → Type 0
StartsAt p [] = Unit {0}
StartsAt p (e ∷ es) = place_cmp (place_of e) p ≡ Less → ⊥

-- the first i entries stand below a place, and the next one does not
pub record IsBound {A : Type 0} (p : Place) (es : List (Entry A)) (i : ℕ) : Type 0 where
  pub within : i ≤ length es
  pub below : AllBelow p (take i es)
  pub starts : StartsAt p (drop i es)

-- all entries of the first list stand below all of the second
abbrev pub Before : {A : Type 0} → List (Entry A) → List (Entry A) → Type 0
Before [] es = Unit {0}
Before (d ∷ done) es = AllAbove (place_of d) es × Before done es

-- whether an entry stands below the next one, if there is one
abbrev pub stands_below : {A : Type 0} → Entry A → Option (Entry A) → Bool
stands_below e None = true
stands_below e (Some f) = is_lt (place_cmp (place_of e) (place_of f))

-- how the first places compare; a list with no more entries comes last
abbrev pub first_places_cmp : {A : Type 0} → List (Entry A) → List (Entry A) → Option Ordering
first_places_cmp [] [] = None
first_places_cmp [] (f ∷ fs) = Some Greater
first_places_cmp (e ∷ es) [] = Some Less
first_places_cmp (e ∷ es) (f ∷ fs) = Some (place_cmp (place_of e) (place_of f))

-- the last part, if there is one, and a new part behind it keep the rule of lengths
abbrev pub MayStandBehind : {A : Type 0} → List (List (Entry A)) → List (Entry A) → Type 0
MayStandBehind [] new = Unit {0}
MayStandBehind (es ∷ []) new = IsTwiceAsLong es new
MayStandBehind (es ∷ fs ∷ parts) new = MayStandBehind (fs ∷ parts) new

module _ {A : Type 0} (G : AbelianGroup A) (outside : A → Option ℤ) where
  -- what two entries at one place make together
  abbrev pub Added : Entry A → Entry A → Option (Entry A) → Type 0
  Added e f made = MatchOption made (G.plus e.payload f.payload ≡ G.zero) (λ sum. (place_of sum ≡ place_of e) × (sum.payload ≡ G.plus e.payload f.payload) × IsKept G outside sum)

  -- the payload of a run at a place
  pub record IsFound (p : Place) (es : List (Entry A)) (payload : A) : Type 0 where
    pub is : payload ≡ at G p es
    pub nonzero : payload ≡ G.zero → ⊥
    pub in_range : outside payload ≡ None

  -- at each place the entries add up to the sum of the two
  pub record IsSum (left right entries : List (Entry A)) : Type 0 where
    pub is_run : IsRun G outside entries
    pub sums : (p : Place) → at G p entries ≡ G.plus (at G p left) (at G p right)

  -- some place at which the two add up to a payload outside its range, with the number outside
  pub record IsOutside (left right : List (Entry A)) (number : ℤ) : Type 0 where
    pub place : Place
    pub is_outside : outside (G.plus (at G place left) (at G place right)) ≡ Some number

  -- the same at the first place of the left list
  pub record StopsAt (left right : List (Entry A)) (number : ℤ) : Type 0 where
    pub place : Place
    pub is_outside : outside (G.plus (at G place left) (at G place right)) ≡ Some number
    pub there : AllAbove place left → ⊥

  -- one turn of a merge makes these entries from the first i and j of the two
  pub record BeginsWith (left right made : List (Entry A)) (i j : ℕ) : Type 0 where
    pub sums : (p : Place) → G.plus (at G p left) (at G p right) ≡ G.plus (at G p made) (G.plus (at G p (drop i left)) (at G p (drop j right)))
    pub is_run : IsRun G outside made
    pub above : (p : Place) → AllAbove p left → AllAbove p right → AllAbove p made
    pub before_left : Before made (drop i left)
    pub before_right : Before made (drop j right)
    pub left_run : IsRun G outside (drop i left)
    pub right_run : IsRun G outside (drop j right)
    pub left_bound : i ≤ length left
    pub right_bound : j ≤ length right
    pub takes_some : 0 < i + j

  -- the first parts that stay, with a run behind them, hold what all parts and a change hold
  pub record IsMerging (parts : List (List (Entry A))) (change : List (Entry A)) (stay : ℕ) (run : List (Entry A)) : Type 0 where
    pub stays : stay ≤ length parts
    pub is_run : IsRun G outside run
    pub sums : (p : Place) → G.plus (content G p (take stay parts)) (at G p run) ≡ changed G parts change p

  -- and they keep the rule of lengths
  pub record IsMerged (parts : List (List (Entry A))) (change : List (Entry A)) (stay : ℕ) (run : List (Entry A)) : Type 0 where
    pub merging : IsMerging parts change stay run
    pub lengths : MayStandBehind (take stay parts) run
