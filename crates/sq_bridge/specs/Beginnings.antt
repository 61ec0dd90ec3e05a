-- Whether each block of a query begins with a comma, at any depth, as a test.
use Rattle.std.specs.Prelude.{Bool, true, false, ◌&&◌, List, [], ◌∷◌}
use Rattle.std.specs.List.{list_all}
use Rattle.sq_typed.specs.declared.query.Origin.{Origin}
use Rattle.sq_typed.specs.declared.query.Origin.TheFolds.{fold-Query, fold-FromItem, fold-Origin}
use Rattle.sq_typed.specs.declared.query.Origin.TheOpen.{Query-F, Block-F, FromItem-F, Origin-F}
use Rattle.sq_typed.specs.declared.query.FromItem.{FromItem}
use Rattle.sq_typed.specs.declared.query.Query.{Query}
use Rattle.sq_bridge.specs.Meaning.{is_comma}

-- whether a source is joined by a comma, and whether what stands behind it begins so
abbrev pub Start : Type 0
Start = Bool × Bool

abbrev pub first_starts : List Start → Bool
first_starts [] = false
first_starts (s ∷ ss) = s.0

abbrev pub starts_by_origin : Origin-F Bool Bool Bool Start Bool → Bool
starts_by_origin (Origin-F.Relation n) = true
starts_by_origin (Origin-F.Query b) = b

abbrev pub starts_by_query : Query-F Bool Bool Bool Start Bool → Bool
starts_by_query (Query-F.Block b) = b
starts_by_query (Query-F.Chain first rest) = first && list_all (λ b. b) rest
starts_by_query (Query-F.Intersect bs) = list_all (λ b. b) bs

abbrev pub starts_by_block : Block-F Bool Bool Bool Start Bool → Bool
starts_by_block b = first_starts b.sources && list_all (λ s. s.1) b.sources

abbrev pub starts_by_source : FromItem-F Bool Bool Bool Start Bool → Start
starts_by_source s = (is_comma s.join, s.source)

unfoldable pub starts : Query → Bool
starts q = fold-Query Bool Bool Bool Start Bool starts_by_origin starts_by_query starts_by_block starts_by_source (λ s. s.query) q

unfoldable pub origin_starts : Origin → Bool
origin_starts o = fold-Origin Bool Bool Bool Start Bool starts_by_origin starts_by_query starts_by_block starts_by_source (λ s. s.query) o

unfoldable pub source_starts : FromItem → Start
source_starts s = fold-FromItem Bool Bool Bool Start Bool starts_by_origin starts_by_query starts_by_block starts_by_source (λ s. s.query) s
