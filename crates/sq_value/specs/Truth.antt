-- The three truth values of SQL, in the order False, Unknown, True.
use Rattle.std.specs.Prelude.{ℕ, Bool, true, false, if◌then◌else◌, nat_le}
use Rattle.sq_value.specs.declared.tri.Tri.{Tri}
use Rattle.sq_value.specs.declared.tri.Tri.TheVariants.{False, Unknown, True}

-- the place of a truth value in the order
abbrev pub rank : Tri → ℕ
rank False = 0
rank Unknown = 1
rank True = 2

-- the one of two that comes first
abbrev pub least : Tri → Tri → Tri
least a b = if nat_le (rank a) (rank b) then a else b

-- the one of two that comes last
abbrev pub greatest : Tri → Tri → Tri
greatest a b = if nat_le (rank a) (rank b) then b else a

-- True for False and False for True
abbrev pub opposite : Tri → Tri
opposite False = True
opposite Unknown = Unknown
opposite True = False

-- whether it is True: neither False nor Unknown
abbrev pub is_true : Tri → Bool
is_true False = false
is_true Unknown = false
is_true True = true
