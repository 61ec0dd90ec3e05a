-- What look-ups of many rows answer, and the steps that they take.
use Rattle.std.specs.Prelude.{◌≡◌, ℕ, zero, suc, ℤ, List, [], ◌∷◌, Option}
use Rattle.sq_base.specs.Causes.{raised}
use Rattle.sq_value.specs.declared.value.Value.{Value}
use Rattle.sq_algebra.specs.Groups.{AbelianGroup}
use Rattle.sq_trace.specs.declared.entry.Entry.{Entry}
use Rattle.sq_trace.specs.Runs.{Place, at, content, IsRun}

-- a count after so many steps
abbrev pub stepped : ℕ → ℕ → ℕ
stepped zero count = count
stepped (suc n) count = raised (stepped n count)

-- all entries have a key
abbrev pub AllOfKey : {A : Type 0} → List Value → List (Entry A) → Type 0
AllOfKey key [] = Unit {0}
AllOfKey key (e ∷ es) = (e.key ≡ key) × AllOfKey key es

module _ {A : Type 0} (G : AbelianGroup A) (outside : A → Option ℤ) where
  -- the entries of a key: they ascend, and at each row they give what the trace holds there
  pub record AreRowsOf (key : List Value) (parts : List (List (Entry A))) (rows : List (Entry A)) : Type 0 where
    pub is_run : IsRun G outside rows
    pub keyed : AllOfKey key rows
    pub held : (row : List Value) → at G (key, row) rows ≡ content G (key, row) parts

  -- all entries: they ascend, and at each place they give what the trace holds there
  pub record AreAllRows (parts : List (List (Entry A))) (rows : List (Entry A)) : Type 0 where
    pub is_run : IsRun G outside rows
    pub held : (p : Place) → at G p rows ≡ content G p parts

  -- the entries of a key in one run
  pub record IsRangeOf (key : List Value) (run range : List (Entry A)) : Type 0 where
    pub is_run : IsRun G outside range
    pub keyed : AllOfKey key range
    pub held : (row : List Value) → at G (key, row) range ≡ at G (key, row) run
