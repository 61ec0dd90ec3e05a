-- The range of BIGINT, from -2^63 to 2^63 - 1, and the first number outside it.
use Rattle.std.specs.Prelude.{◌^◌, Bool, not, nat_lt, List, Option, ℤ, pos, negsuc}
use Rattle.std.specs.List.{find}

-- whether a number lies in the range; `negsuc n` is -(n + 1)
abbrev pub is_bigint : ℤ → Bool
is_bigint (pos n) = nat_lt n (2 ^ 63)
is_bigint (negsuc n) = nat_lt n (2 ^ 63)

-- the first number of a list that lies outside
abbrev pub first_not_bigint : List ℤ → Option ℤ
first_not_bigint ns = find (λ n. not (is_bigint n)) ns
