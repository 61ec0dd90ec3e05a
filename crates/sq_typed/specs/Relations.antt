-- Which relations a query names, and how many columns it gives.
use Rattle.std.specs.Prelude.{ℕ, ◌==◌, Bool, false, if◌then◌else◌, List, [], ◌∷◌, ◌++◌, length, slice_get, Option, Some, None, is_some}
use Rattle.std.specs.List.{flat_map, list_all}
use Rattle.sq_typed.specs.declared.query.Query.{Query}
use Rattle.sq_typed.specs.declared.query.Origin.{Origin}
use Rattle.sq_typed.specs.declared.query.Origin.TheFolds.{fold-Query, fold-Origin}
use Rattle.sq_typed.specs.declared.query.Origin.TheOpen.{Query-F, Block-F, Origin-F}

-- ---- the relations that a query names

-- one level of a query, with the relations of each part in its place
abbrev pub named_by_origin : Origin-F (List ℕ) (List ℕ) (List ℕ) (List ℕ) (List ℕ) → List ℕ
named_by_origin (Origin-F.Relation n) = n ∷ []
named_by_origin (Origin-F.Query ns) = ns

abbrev pub named_by_query : Query-F (List ℕ) (List ℕ) (List ℕ) (List ℕ) (List ℕ) → List ℕ
named_by_query (Query-F.Block ns) = ns
named_by_query (Query-F.Chain first rest) = first ++ flat_map (λ ns. ns) rest
named_by_query (Query-F.Intersect nss) = flat_map (λ ns. ns) nss

-- their numbers, from left to right
unfoldable pub relations_of : Query → List ℕ
relations_of q = fold-Query (List ℕ) (List ℕ) (List ℕ) (List ℕ) (List ℕ) named_by_origin named_by_query (λ b. flat_map (λ ns. ns) b.sources) (λ s. s.source) (λ s. s.query) q

unfoldable pub relations_of_origin : Origin → List ℕ
relations_of_origin o = fold-Origin (List ℕ) (List ℕ) (List ℕ) (List ℕ) (List ℕ) named_by_origin named_by_query (λ b. flat_map (λ ns. ns) b.sources) (λ s. s.source) (λ s. s.query) o

-- ---- the number of columns of a query

-- whether there is a number, and it is this one
abbrev pub is_number : ℕ → Option ℕ → Bool
is_number w None = false
is_number w (Some v) = w == v

-- a number, where there is one and all the others are the same
abbrev pub agreed : Option ℕ → List (Option ℕ) → Option ℕ
agreed None rest = None
agreed (Some w) rest = if list_all (is_number w) rest then Some w else None

-- one level of a query, with the numbers of columns of each part in its place
abbrev pub columns_by_query : Query-F (Option ℕ) (Option ℕ) (Option ℕ) (Option ℕ) (Option ℕ) → Option ℕ
columns_by_query (Query-F.Block w) = w
columns_by_query (Query-F.Chain first rest) = agreed first rest
columns_by_query (Query-F.Intersect []) = None
columns_by_query (Query-F.Intersect (first ∷ rest)) = agreed first rest

module _ (widths : List ℕ) where
  abbrev pub columns_by_origin : Origin-F (Option ℕ) (Option ℕ) (Option ℕ) (Option ℕ) (Option ℕ) → Option ℕ
  columns_by_origin (Origin-F.Relation n) = slice_get widths n
  columns_by_origin (Origin-F.Query w) = w

  abbrev pub columns_by_block : Block-F (Option ℕ) (Option ℕ) (Option ℕ) (Option ℕ) (Option ℕ) → Option ℕ
  columns_by_block b = if list_all is_some b.sources then Some (length b.items) else None

  -- over relations with so many columns each; none where a relation is not there, or where the operands of a set operation
  -- have different numbers of columns, in the query or in one that stands in FROM
  unfoldable pub columns_given : Query → Option ℕ
  columns_given q = fold-Query (Option ℕ) (Option ℕ) (Option ℕ) (Option ℕ) (Option ℕ) columns_by_origin columns_by_query columns_by_block (λ s. s.source) (λ s. s.query) q

  unfoldable pub columns_of_origin : Origin → Option ℕ
  columns_of_origin o = fold-Origin (Option ℕ) (Option ℕ) (Option ℕ) (Option ℕ) (Option ℕ) columns_by_origin columns_by_query columns_by_block (λ s. s.source) (λ s. s.query) o
