-- How many sources stand behind FROM in a query, at every depth: a query in FROM is one, and has its own.
--     sources_of q        those of a query.       program_sources ss        those of all queries of a program
use Rattle.std.specs.Prelude.{ℕ, suc, ◌+◌, List, [], ◌∷◌, map}
use Rattle.sq_ast.specs.declared.query.QueryTree.{QueryTree}
use Rattle.sq_ast.specs.declared.query.QueryTree.TheFolds.{fold-QueryTree}
use Rattle.sq_ast.specs.declared.query.QueryTree.TheOpen.{QueryTree-F, SourceTree-F, BlockTree-F, JoinedTree-F, StepTree-F}
use Rattle.sq_ast.specs.declared.statement.Body.{Body}
use Rattle.sq_ast.specs.declared.statement.Body.TheVariants as body
use Rattle.sq_ast.specs.declared.statement.Statement.{Statement}

-- the sum of some numbers
abbrev pub sum : List ℕ → ℕ
sum [] = 0
sum (n ∷ ns) = n + sum ns

-- one level of a query, with the number of sources of each part in its place
abbrev pub in_query : QueryTree-F ℕ ℕ ℕ ℕ ℕ → ℕ
in_query (QueryTree-F.Block block) = block
in_query (QueryTree-F.Chain first rest) = first + sum rest
in_query (QueryTree-F.Intersect members) = sum members

abbrev pub in_source : SourceTree-F ℕ ℕ ℕ ℕ ℕ → ℕ
in_source (SourceTree-F.Relation name alias) = 1
in_source (SourceTree-F.Query q alias) = suc q

abbrev pub in_block : BlockTree-F ℕ ℕ ℕ ℕ ℕ → ℕ
in_block b = sum b.sources

abbrev pub in_joined : JoinedTree-F ℕ ℕ ℕ ℕ ℕ → ℕ
in_joined j = j.source

abbrev pub in_step : StepTree-F ℕ ℕ ℕ ℕ ℕ → ℕ
in_step s = s.query

unfoldable pub sources_of : QueryTree → ℕ
sources_of q = fold-QueryTree ℕ ℕ ℕ ℕ ℕ in_query in_source in_block in_joined in_step q

abbrev pub body_sources : Body → ℕ
body_sources (body.Table name columns) = 0
body_sources (body.View name flavour q) = sources_of q

abbrev pub program_sources : List Statement → ℕ
program_sources statements = sum (map (λ s. body_sources s.body) statements)
