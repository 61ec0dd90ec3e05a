-- The comma in front of a member of an object.
use Rattle.std.specs.Prelude.{ℕ, List, [], nat_lt, if◌then◌else◌, codes}

-- for the member with this number, counted from 0
abbrev pub comma_before : ℕ → List ℕ
comma_before number = if nat_lt 0 number then codes "," else []
