-- Queries that are small enough for the numbers of columns, which have 32 bits.
use Rattle.std.specs.Prelude.{◌≡◌, ℕ, ◌<◌, ◌^◌, Bool, false, List}
use Rattle.sq_ast.specs.declared.statement.Body.{Body}
use Rattle.sq_ast.specs.declared.statement.Body.TheVariants as body
use Rattle.sq_catalog.specs.declared.relation.Relation.{Relation}
use Rattle.sq_typed.specs.Sizes.{AreNarrow, size_of}

-- a query of this size over these relations has few columns in scope in each block
pub record Small (relations : List Relation) (size : ℕ) : Type 0 where
  pub narrow : AreNarrow relations
  pub few : size < 2 ^ 32

-- and no query in FROM has two columns of one name
pub record Typable (relations : List Relation) (size : ℕ) (repeats : Bool) : Type 0 where
  pub small : Small relations size
  pub apart : repeats ≡ false

-- the size of the query in what a statement creates
abbrev pub body_size : Body → ℕ
body_size (body.Table name columns) = 0
body_size (body.View name flavour q) = size_of q
