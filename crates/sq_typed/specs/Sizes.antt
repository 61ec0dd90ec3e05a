-- How large a query is: what bounds the columns in scope and the group rows of its blocks, told from its tree.
--     size_of q        the items, group columns and leaves of its blocks, and the most columns of each relation in FROM
use Rattle.std.specs.Prelude.{ℕ, ◌+◌, ◌<◌, ◌≤◌, ◌^◌, List, length, Option}
use Rattle.std.specs.List.{AllByRecursion, flat_map}
use Rattle.sq_ast.specs.Sources.{sum, in_query, in_joined, in_step}
use Rattle.sq_ast.specs.declared.cond.CondTree.{CondTree}
use Rattle.sq_ast.specs.declared.query.BlockTree.{BlockTree, out-BlockTree}
use Rattle.sq_ast.specs.declared.query.ItemTree.{ItemTree}
use Rattle.sq_ast.specs.declared.query.JoinedTree.{JoinedTree}
use Rattle.sq_ast.specs.declared.query.QueryTree.{QueryTree}
use Rattle.sq_ast.specs.declared.query.QueryTree.TheFolds.{fold-QueryTree, fold-SourceTree, fold-JoinedTree}
use Rattle.sq_ast.specs.declared.query.QueryTree.TheOpen.{SourceTree-F, BlockTree-F}
use Rattle.sq_ast.specs.declared.query.SourceTree.{SourceTree}
use Rattle.sq_catalog.specs.declared.relation.Relation.{Relation}
use Rattle.sq_typed.specs.Faults.{item_exprs}
use Rattle.sq_typed.specs.Leaves.{leaves, exprs_of}
use Rattle.sq_typed.specs.declared.limits.TheConstants.{MOST_COLUMNS}

-- the leaves of some items and of HAVING
abbrev pub leaf_count : List ItemTree → Option CondTree → ℕ
leaf_count items having = length (flat_map leaves (flat_map item_exprs items)) + length (flat_map leaves (exprs_of having))

abbrev pub in_source : SourceTree-F ℕ ℕ ℕ ℕ ℕ → ℕ
in_source (SourceTree-F.Relation name alias) = MOST_COLUMNS
in_source (SourceTree-F.Query q alias) = q

abbrev pub in_block : BlockTree-F ℕ ℕ ℕ ℕ ℕ → ℕ
in_block b = length b.items + length b.group + leaf_count b.items b.having + sum b.sources

unfoldable pub size_of : QueryTree → ℕ
size_of q = fold-QueryTree ℕ ℕ ℕ ℕ ℕ in_query in_source in_block in_joined in_step q

unfoldable pub source_size : SourceTree → ℕ
source_size s = fold-SourceTree ℕ ℕ ℕ ℕ ℕ in_query in_source in_block in_joined in_step s

unfoldable pub joined_size : JoinedTree → ℕ
joined_size j = fold-JoinedTree ℕ ℕ ℕ ℕ ℕ in_query in_source in_block in_joined in_step j

-- each relation has at most as many columns as one may have
abbrev pub AreNarrow : List Relation → Type 0
AreNarrow relations = AllByRecursion (λ r. length r.columns ≤ MOST_COLUMNS) relations

-- the group row of a block is numbered in 32 bits
abbrev pub HasFewGroups : BlockTree → Type 0
HasFewGroups b = length (out-BlockTree b).group + leaf_count (out-BlockTree b).items (out-BlockTree b).having < 2 ^ 32
