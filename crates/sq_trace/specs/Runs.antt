-- Entries of keys, rows and payloads; their sums; and the runs that a trace is made of.
use Rattle.std.specs.Prelude.{◌≡◌, ℕ, ◌*◌, ◌≤◌, List, [], ◌∷◌, take, length, Option, None, ℤ, if◌then◌else◌}
use Rattle.std.specs.declared.cmp.Ordering.{Ordering}
use Rattle.std.specs.declared.cmp.Ordering.TheVariants.{Less}
use Rattle.std.specs.Ordering.{is_eq, ordering_then}
use Rattle.sq_value.specs.declared.value.Value.{Value}
use Rattle.sq_value.specs.Order.{row_cmp}
use Rattle.sq_algebra.specs.Groups.{AbelianGroup}
use Rattle.sq_trace.specs.declared.entry.Entry.{Entry}

-- a key and a row
abbrev pub Place : Type 0
Place = List Value × List Value

abbrev pub place_of : {A : Type 0} → Entry A → Place
place_of e = (e.key, e.row)

-- by the key, then by the row
abbrev pub place_cmp : Place → Place → Ordering
place_cmp p q = ordering_then (row_cmp p.0 q.0) (row_cmp p.1 q.1)

-- ---- sums
module _ {A : Type 0} (G : AbelianGroup A) where
  -- what an entry gives for a place
  abbrev pub given : Place → Entry A → A
  given p e = if is_eq (place_cmp (place_of e) p) then e.payload else G.zero

  -- the sum of the payloads at a place
  abbrev pub at : Place → List (Entry A) → A
  at p [] = G.zero
  at p (e ∷ es) = G.plus (given p e) (at p es)

  -- the sum of the payloads at a place, over all parts
  abbrev pub content : Place → List (List (Entry A)) → A
  content p [] = G.zero
  content p (es ∷ parts) = G.plus (at p es) (content p parts)

-- ---- runs
-- all entries stand above a place
abbrev pub AllAbove : {A : Type 0} → Place → List (Entry A) → Type 0
AllAbove p [] = Unit {0}
AllAbove p (e ∷ es) = (place_cmp p (place_of e) ≡ Less) × AllAbove p es

module _ {A : Type 0} (G : AbelianGroup A) (outside : A → Option ℤ) where
  -- the payload is not zero, and lies in the range
  pub record IsKept (e : Entry A) : Type 0 where
    pub nonzero : e.payload ≡ G.zero → ⊥
    pub in_range : outside e.payload ≡ None

  -- the places ascend, no payload is zero, and each lies in the range
  abbrev pub IsRun : List (Entry A) → Type 0
  IsRun [] = Unit {0}
  IsRun (e ∷ es) = AllAbove (place_of e) es × IsKept e × IsRun es

  -- at each place the parts add up to a payload in the range
  abbrev pub AddsUpInRange : List (List (Entry A)) → Type 0
  AddsUpInRange parts = (p : Place) → outside (content G p parts) ≡ None

  -- so do the first n parts, for each n
  abbrev pub FrontsInRange : List (List (Entry A)) → Type 0
  FrontsInRange parts = (n : ℕ) → AddsUpInRange (take n parts)

-- ---- the rule of lengths
-- the older of two neighbours has an entry, and is at least twice as long as the newer
pub record IsTwiceAsLong {A : Type 0} (older newer : List (Entry A)) : Type 0 where
  pub has_entries : 1 ≤ length older
  pub twice : 2 * length newer ≤ length older

-- each part but the newest is so beside the next newer one
abbrev pub KeepsLengths : {A : Type 0} → List (List (Entry A)) → Type 0
KeepsLengths [] = Unit {0}
KeepsLengths (es ∷ []) = Unit {0}
KeepsLengths (es ∷ fs ∷ parts) = IsTwiceAsLong es fs × KeepsLengths (fs ∷ parts)
