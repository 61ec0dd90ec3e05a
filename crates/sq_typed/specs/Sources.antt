-- How many sources stand behind FROM in typed queries, at every depth: a query in FROM is one, and has its own.
--     query_sources q        those of a query.       sources_in program        those of all queries of a program
use Rattle.std.specs.Prelude.{ℕ, suc, ◌+◌, map}
use Rattle.sq_ast.specs.Sources.{sum}
use Rattle.sq_typed.specs.declared.query.Query.{Query}
use Rattle.sq_typed.specs.declared.query.Origin.{Origin}
use Rattle.sq_typed.specs.declared.query.Origin.TheFolds.{fold-Query, fold-Origin}
use Rattle.sq_typed.specs.declared.query.Origin.TheOpen.{Origin-F, Query-F, Block-F, FromItem-F, SetStep-F}
use Rattle.sq_typed.specs.Views.{Meant}

-- one level of a query, with the number of sources of each part in its place
abbrev pub in_origin : Origin-F ℕ ℕ ℕ ℕ ℕ → ℕ
in_origin (Origin-F.Relation n) = 1
in_origin (Origin-F.Query q) = suc q

abbrev pub in_query : Query-F ℕ ℕ ℕ ℕ ℕ → ℕ
in_query (Query-F.Block block) = block
in_query (Query-F.Chain first rest) = first + sum rest
in_query (Query-F.Intersect members) = sum members

abbrev pub in_block : Block-F ℕ ℕ ℕ ℕ ℕ → ℕ
in_block b = sum b.sources

abbrev pub in_item : FromItem-F ℕ ℕ ℕ ℕ ℕ → ℕ
in_item s = s.source

abbrev pub in_step : SetStep-F ℕ ℕ ℕ ℕ ℕ → ℕ
in_step s = s.query

unfoldable pub query_sources : Query → ℕ
query_sources q = fold-Query ℕ ℕ ℕ ℕ ℕ in_origin in_query in_block in_item in_step q

unfoldable pub origin_sources : Origin → ℕ
origin_sources o = fold-Origin ℕ ℕ ℕ ℕ ℕ in_origin in_query in_block in_item in_step o

abbrev pub sources_in : Meant → ℕ
sources_in p = sum (map query_sources p.queries)
