-- What a look-up of a reference finds, and where the columns of the sources stand.
--     found_of n        what a reference finds that finds so many columns
use Rattle.std.specs.Prelude.{◌≡◌, ◌+◌, ◌<◌, ◌≤◌, ◌^◌, ℕ, zero, suc, List, length, take, get_or}
use Rattle.sq_catalog.specs.declared.relation.Column.{Column}
use Rattle.sq_typed.specs.Scopes.{Scope, columns_in, kinds_in}
use Rattle.sq_scope.specs.declared.found_columns.Found.{Found}
use Rattle.sq_scope.specs.declared.scope.Columns.{Columns}
use Rattle.sq_scope.specs.declared.layout.Layout.{Layout}
use Rattle.sq_scope.specs.declared.found_columns.Sight.{Sight}
use Rattle.sq_scope.specs.declared.scope.Columns.TheVariants.{Lent, Owned}
use Rattle.sq_scope.specs.declared.found_columns.Found.TheVariants.{Nothing, One, Several}

-- what a reference finds that finds so many columns
abbrev pub found_of : ℕ → Found
found_of zero = Nothing
found_of (suc zero) = One
found_of (suc (suc n)) = Several

-- the columns of a source
abbrev pub columns_of : Columns → List Column
columns_of (Lent columns) = columns.now
columns_of (Owned columns) = columns

-- where the columns of each source begin, and where all end
abbrev pub AreBegins : Scope → List ℕ → Type 0
AreBegins scope begins = (i : ℕ) → i ≤ length scope → get_or begins i 0 ≡ length (columns_in (take i scope))

-- the kinds of the columns of some sources, and where those of each begin
pub record IsLaidOut (scope : Scope) (layout : Layout) : Type 0 where
  pub kinds : layout.kinds.items ≡ kinds_in scope
  pub few : length layout.kinds.items < 2 ^ 32
  pub all : length layout.begins.items ≡ length scope + 1
  pub begins : AreBegins scope layout.begins.items

-- so many numbers of columns were seen, of which this is the first
pub record Sees (sight : Sight) (numbers : List ℕ) : Type 0 where
  pub count : sight.count ≡ length numbers
  pub first : sight.first ≡ get_or numbers 0 0
