-- The numbers and the rows of the sample.
--     next x            the state of the generator after x
--     drawn x           the number that the generator gives in the state x
--     state_at x n      the state n steps after x
--     d_row k           the row number k of the table d
--     e_row x i         the row number i of the table e, for the seed x: its two numbers are the draws 2i + 1 and 2i + 2
use Rattle.std.specs.Prelude.{ℕ, zero, suc, ◌+◌, ◌*◌, ◌/◌, ◌%◌, ◌^◌, List, [], ◌∷◌, pos}
use Rattle.sq_value.specs.declared.value.Value.{Value}
use Rattle.sq_value.specs.declared.value.Value.TheVariants.{Int}

unfoldable pub next : ℕ → ℕ
next x = (x * 6364136223846793005 + 1442695040888963407) % 2 ^ 64

unfoldable pub drawn : ℕ → ℕ
drawn x = x / 2 ^ 32

unfoldable pub state_at : ℕ → ℕ → ℕ
state_at x zero = x
state_at x (suc n) = next (state_at x n)

abbrev pub d_row : ℕ → List Value
d_row k = Int (pos k) ∷ Int (pos (k % 10)) ∷ []

-- the row with the number i, from the state before its two draws
abbrev pub row_from : ℕ → ℕ → List Value
row_from x i = Int (pos i) ∷ Int (pos (drawn (next x) % 1000)) ∷ Int (pos (drawn (next (next x)) % 1000)) ∷ []

abbrev pub e_row : ℕ → ℕ → List Value
e_row x i = row_from (state_at x (2 * i)) i
