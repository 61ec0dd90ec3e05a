-- The rows of a key from either end: their order, which of them are left behind the last one that is done, and the next one.
use Rattle.std.specs.Prelude.{◌≡◌, ℕ, zero, suc, ◌+◌, ◌-◌, ◌<◌, ◌≤◌, ℤ, pos, ◌≤ℤ◌, List, [], ◌∷◌, take, drop, length, slice_get, Bool, true, false, not, if◌then◌else◌, Option, Some, None, is_some, is_none, MatchOption}
use Rattle.std.specs.Ordering.{is_lt, match_ordering}
use Rattle.std.specs.declared.cmp.Ordering.{Ordering}
use Rattle.sq_value.specs.declared.value.Value.{Value}
use Rattle.sq_value.specs.Order.{row_cmp}
use Rattle.sq_algebra.specs.Groups.{AbelianGroup}
use Rattle.sq_algebra.specs.ZSet.{ZSet, entries}
use Rattle.sq_trace.specs.declared.entry.Entry.{Entry}
use Rattle.sq_trace.specs.declared.side.Side.{Side}
use Rattle.sq_trace.specs.declared.side.Side.TheVariants.{Least, Greatest}
use Rattle.sq_trace.specs.Runs.{Place, place_of, place_cmp}
use Rattle.sq_trace.specs.Extremes.{IsKeptNowhere}

-- ---- rows seen from an end
abbrev pub toward : Side → List Value → List Value → Ordering
toward Least p q = row_cmp p q
toward Greatest p q = row_cmp q p

-- whether a row stands before another, if there is another
abbrev pub is_before : Side → List Value → Option (List Value) → Bool
is_before side row None = true
is_before side row (Some other) = is_lt (toward side row other)

-- the one that stands before the other; the first if they are the same
abbrev pub nearer : Side → Option (List Value) → Option (List Value) → Option (List Value)
nearer side best None = best
nearer side best (Some row) = if is_before side row best then Some row else best

-- ---- what is left of a run
-- how a place compares with the last row that is done, or with the key if none is done yet
abbrev pub cut_cmp : List Value → Option (List Value) → Place → Ordering
cut_cmp key None p = row_cmp p.0 key
cut_cmp key (Some row) p = place_cmp p (key, row)

-- whether a place that compares as equal stands below the cut
abbrev pub low_there : Side → Option (List Value) → Bool
low_there Least last = is_some last
low_there Greatest last = is_none last

abbrev pub is_low : Side → List Value → Option (List Value) → Place → Bool
is_low side key last p = match_ordering (cut_cmp key last p) true (low_there side last) false

-- whether a place is left, with the key's last row that is done
abbrev pub is_left : Side → List Value → Option (List Value) → Place → Bool
is_left Least key last p = not (is_low Least key last p)
is_left Greatest key last p = is_low Greatest key last p

module _ {A : Type 0} where
  -- how many entries are left
  abbrev pub left_in : Side → List Value → List (Entry A) → Option (List Value) → ℕ
  left_in side key [] last = 0
  left_in side key (e ∷ es) last = (if is_left side key last (place_of e) then 1 else 0) + left_in side key es last

  abbrev pub left_of : Side → List Value → List (List (Entry A)) → Option (List Value) → ℕ
  left_of side key [] last = 0
  left_of side key (es ∷ parts) last = left_in side key es last + left_of side key parts last

  -- a test answers the same for all entries
  abbrev pub AllAnswer : (Place → Bool) → Bool → List (Entry A) → Type 0
  AllAnswer test answer [] = Unit {0}
  AllAnswer test answer (e ∷ es) = (test (place_of e) ≡ answer) × AllAnswer test answer es

  -- the first i entries pass a test, and the others don't
  pub record IsCut (test : Place → Bool) (es : List (Entry A)) (i : ℕ) : Type 0 where
    pub within : i ≤ length es
    pub front : AllAnswer test true (take i es)
    pub back : AllAnswer test false (drop i es)

-- the member beside a cut, on the side to which the look goes
abbrev pub beside : {X : Type 0} → Side → List X → ℕ → Option X
beside Least xs i = slice_get xs i
beside Greatest xs zero = None
beside Greatest xs (suc i) = slice_get xs i

-- the index of the n-th of some members, counted from an end
abbrev pub place_from : Side → ℕ → ℕ → ℕ
place_from Least count n = n
place_from Greatest count n = count - 1 - n

-- ---- the next row that is left
module _ {A : Type 0} (G : AbelianGroup A) (side : Side) (key : List Value) (last : Option (List Value)) where
  -- it is left, nothing is held at the rows that are left before it, and fewer entries are left behind it
  pub record IsNext (held : List Value → A) (left : Option (List Value) → ℕ) (row : List Value) : Type 0 where
    pub there : is_left side key last (key, row) ≡ true
    pub none_before : (q : List Value) → is_left side key last (key, q) ≡ true → is_before side q (Some row) ≡ true → held q ≡ G.zero
    pub fewer : left (Some row) < left last

  -- the next row, or none if nothing is held at the rows that are left
  abbrev pub NextOf : (List Value → A) → (Option (List Value) → ℕ) → Option (List Value) → Type 0
  NextOf held left next = MatchOption next ((q : List Value) → is_left side key last (key, q) ≡ true → held q ≡ G.zero) (IsNext held left)

-- ---- the first row that is kept
-- it has a weight above 0, and no row before it has one
pub record IsFirst (side : Side) (w : List Value → ℤ) (row : List Value) : Type 0 where
  pub there : pos 1 ≤ℤ w row
  pub none_before : (q : List Value) → pos 1 ≤ℤ w q → is_before side q (Some row) ≡ false

abbrev pub FirstOf : Side → (List Value → ℤ) → Option (List Value) → Type 0
FirstOf side w answer = MatchOption answer (IsKeptNowhere w) (IsFirst side w)

-- the same among the rows at which something is held
pub record IsFirstHeld (side : Side) (w held : List Value → ℤ) (best : Option (List Value)) : Type 0 where
  pub there : MatchOption best (Unit {0}) (λ row. pos 1 ≤ℤ w row)
  pub none_before : (q : List Value) → pos 1 ≤ℤ w q → is_before side q best ≡ true → held q ≡ pos 0

-- ---- the rows of a change
module _ (side : Side) (change : ZSet (List Value) row_cmp) where
  -- the n-th entry from an end
  pub record IsNth (n : ℕ) (e : List Value × ℤ) : Type 0 where
    pub low : n < length (entries change)
    pub entry : slice_get (entries change) (place_from side (length (entries change)) n) ≡ Some e

  -- a row is the n-th, and stands before another, if there is another
  pub record IsNthBefore (n : ℕ) (other : Option (List Value)) (row : List Value) : Type 0 where
    pub weight : ℤ
    pub nth : IsNth n (row, weight)
    pub before : is_before side row other ≡ true

  -- from the n-th on, no row stands before another
  abbrev pub EndsBefore : ℕ → Option (List Value) → Type 0
  EndsBefore n other = (j : ℕ) (e : List Value × ℤ) → n ≤ j → IsNth j e → is_before side e.0 other ≡ true → ⊥
