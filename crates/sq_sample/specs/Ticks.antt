-- The ticks of the sample, and the tables after them. The table 0 is d, and the table 1 is e.
--     d_updates n, e_updates x n     the updates of the first tick that insert the first n rows of a table
--     tick x t                       the updates of the tick t, from 1, for the seed x; an update has its place in the tick as its line
--     d_rows n, e_rows x low n       the first n rows of d; n rows of e from the number low on
--     tables_after x t               the tables after t ticks
--     Place                          a sample as contracts see it: its seed, and how many of its ticks were given
use Rattle.std.specs.Prelude.{ℕ, zero, suc, ◌+◌, ◌/◌, ◌%◌, ◌==◌, Bool, true, false, if◌then◌else◌, List, [], ◌∷◌, ◌++◌}
use Rattle.sq_typed.specs.From.{Row}
use Rattle.sq_typed.specs.Tables.{Tables}
use Rattle.sq_typed.specs.declared.update.Update.{Update}
use Rattle.sq_sample.specs.Numbers.{d_row, e_row}

pub record Place : Type 0 where
  pub seed : ℕ
  pub made : ℕ

-- ---- the first tick
abbrev pub update : ℕ → ℕ → Bool → Row → Update
update line table insert row = record { line = line; table = table; insert = insert; row = row }

unfoldable pub d_updates : ℕ → List Update
d_updates zero = []
d_updates (suc n) = d_updates n ++ update (n + 1) 0 true (d_row n) ∷ []

unfoldable pub e_updates : ℕ → ℕ → List Update
e_updates x zero = []
e_updates x (suc n) = e_updates x n ++ update (n + 1011) 1 true (e_row x n) ∷ []

-- ---- all ticks
-- the tick m + 2: it inserts and deletes a row in turn
abbrev pub later : ℕ → ℕ → Update
later x m = if m % 2 == 0 then update 1 1 true (e_row x (100000 + m / 2)) else update 1 1 false (e_row x (m / 2))

unfoldable pub tick : ℕ → ℕ → List Update
tick x zero = []
tick x (suc zero) = d_updates 1010 ++ e_updates x 100000
tick x (suc (suc m)) = later x m ∷ []

-- ---- the tables
unfoldable pub d_rows : ℕ → List Row
d_rows zero = []
d_rows (suc n) = d_rows n ++ d_row n ∷ []

unfoldable pub e_rows : ℕ → ℕ → ℕ → List Row
e_rows x low zero = []
e_rows x low (suc n) = e_rows x low n ++ e_row x (low + n) ∷ []

-- m ticks after the first one, m / 2 rows of e are deleted, as many inserted, and one more if m is odd
unfoldable pub tables_after : ℕ → ℕ → Tables
tables_after x zero = [] ∷ [] ∷ []
tables_after x (suc m) = d_rows 1010 ∷ e_rows x (m / 2) (100000 + m % 2) ∷ []
