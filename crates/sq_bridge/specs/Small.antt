-- How large the blocks of a query are, at any depth, also as a test.
--     IsSmall b        a block has at most 64 items and 16 sources, and its group columns and calls are numbered in 32 bits
--     HasSmallBlocks q      each block of the query is small.      are_small q      the same as a test
use Rattle.std.specs.Prelude.{◌+◌, ◌<◌, ◌≤◌, ◌^◌, nat_lt, Bool, true, not, ◌&&◌, ◌||◌, length, Option, Some, None, ⊤}
use Rattle.std.specs.List.{list_all}
use Rattle.sq_typed.specs.declared.limits.TheConstants.{MOST_COLUMNS, MOST_SOURCES}
use Rattle.sq_typed.specs.declared.query.Block.{Block, out-Block}
use Rattle.sq_typed.specs.declared.query.FromItem.{FromItem}
use Rattle.sq_typed.specs.declared.query.Grouping.{Grouping}
use Rattle.sq_typed.specs.declared.query.Origin.{Origin}
use Rattle.sq_typed.specs.declared.query.Origin.TheFolds.{fold-Query, fold-FromItem, fold-Origin}
use Rattle.sq_typed.specs.declared.query.Origin.TheOpen.{Query-F, Block-F, Origin-F}
use Rattle.sq_typed.specs.declared.query.Query.{Query}
use Rattle.sq_typed.specs.Within.{BlockOf}

-- what is projected for groups, and the group row, have fewer than 2^32 columns
abbrev pub AreFewGroups : Option Grouping → Type 0
AreFewGroups None = ⊤
AreFewGroups (Some g) = length g.columns + length g.calls + 1 < 2 ^ 32

pub record IsSmall (b : Block) : Type 0 where
  pub items : length (out-Block b).items ≤ MOST_COLUMNS
  pub sources : length (out-Block b).sources ≤ MOST_SOURCES
  pub groups : AreFewGroups (out-Block b).grouping

abbrev pub HasSmallBlocks : Query → Type 0
HasSmallBlocks q = (b : Block) → BlockOf q b → IsSmall b

-- ---- as a test
abbrev pub are_few_groups : Option Grouping → Bool
are_few_groups None = true
are_few_groups (Some g) = nat_lt (length g.columns + length g.calls + 1) (2 ^ 32)

abbrev pub small_by_origin : Origin-F Bool Bool Bool Bool Bool → Bool
small_by_origin (Origin-F.Relation n) = true
small_by_origin (Origin-F.Query b) = b

abbrev pub small_by_query : Query-F Bool Bool Bool Bool Bool → Bool
small_by_query (Query-F.Block b) = b
small_by_query (Query-F.Chain first rest) = first && list_all (λ b. b) rest
small_by_query (Query-F.Intersect bs) = list_all (λ b. b) bs

abbrev pub small_by_block : Block-F Bool Bool Bool Bool Bool → Bool
small_by_block b = (not (nat_lt MOST_COLUMNS (length b.items) || nat_lt MOST_SOURCES (length b.sources)) && are_few_groups b.grouping) && list_all (λ s. s) b.sources

unfoldable pub are_small : Query → Bool
are_small q = fold-Query Bool Bool Bool Bool Bool small_by_origin small_by_query small_by_block (λ s. s.source) (λ s. s.query) q

unfoldable pub origin_small : Origin → Bool
origin_small o = fold-Origin Bool Bool Bool Bool Bool small_by_origin small_by_query small_by_block (λ s. s.source) (λ s. s.query) o

unfoldable pub source_small : FromItem → Bool
source_small s = fold-FromItem Bool Bool Bool Bool Bool small_by_origin small_by_query small_by_block (λ s. s.source) (λ s. s.query) s
