-- The faults of a query that its names have before any column is looked up.
--     names_fault relations r        the first of them
use Rattle.std.specs.Prelude.{Bool, false, not, ◌||◌, if◌then◌else◌, List, map, Option, Some, None, is_none, unwrap_or}
use Rattle.std.specs.List.{list_any}
use Rattle.sq_ast.specs.declared.query.BlockTree.{BlockTree, out-BlockTree}
use Rattle.sq_ast.specs.declared.query.ItemTree.{ItemTree}
use Rattle.sq_ast.specs.declared.query.ItemTree.TheVariants as item
use Rattle.sq_ast.specs.declared.query.JoinedTree.{JoinedTree, out-JoinedTree}
use Rattle.sq_ast.specs.declared.query.QueryTree.{QueryTree}
use Rattle.sq_ast.specs.declared.query.QueryTree.TheOpen.{SourceTree-F}
use Rattle.sq_ast.specs.declared.query.SourceTree.{SourceTree, out-SourceTree}
use Rattle.sq_ast.specs.declared.query.StepTree.{StepTree}
use Rattle.sq_catalog.specs.Names.{is_named}
use Rattle.sq_catalog.specs.declared.relation.Relation.{Relation}
use Rattle.sq_scope.specs.declared.names.NameFault.{NameFault}
use Rattle.sq_scope.specs.declared.names.NameFault.TheVariants.{SameSources, UnknownRelation, UnnamedItem}
use Rattle.sq_typed.specs.Faults.{has_same_sources, has_unnamed_item}
use Rattle.sq_typed.specs.Resolved.{Resolved, Parts, resolved}
use Rattle.sq_typed.specs.Scopes.{Text, repeats}
use Rattle.sq_typed.specs.Selected.{Written, item_name}
use Rattle.sq_typed.specs.declared.check_kind.CheckKind.{CheckKind}
use Rattle.sq_typed.specs.declared.check_kind.CheckKind.TheVariants as kind

-- the first of the three kinds of faults
abbrev pub names_fault : List Relation → Resolved → Option CheckKind
names_fault relations r =
    if list_any has_same_sources r.parts.blocks then Some kind.DuplicateName else
    if list_any (λ name. not (is_named name relations)) r.parts.relations then Some kind.UnknownRelation else
    if list_any has_unnamed_item r.leftmost || list_any has_unnamed_item r.parts.heads then Some kind.UnnamedColumn else None

-- ---- told from the tree

-- whether the parts of a query have a fault; for items without a name, those of the queries in FROM
abbrev pub has_name_fault : NameFault → List Relation → Parts → Bool
has_name_fault SameSources relations parts = list_any has_same_sources parts.blocks
has_name_fault UnknownRelation relations parts = list_any (λ name. not (is_named name relations)) parts.relations
has_name_fault UnnamedItem relations parts = list_any has_unnamed_item parts.heads

-- the name of a source: its alias, or that of its relation
abbrev pub name_of : SourceTree-F QueryTree SourceTree BlockTree JoinedTree StepTree → Text
name_of (SourceTree-F.Relation name alias) = unwrap_or alias name
name_of (SourceTree-F.Query q alias) = alias

abbrev pub source_name : JoinedTree → Text
source_name j = name_of (out-SourceTree (out-JoinedTree j).source)

-- what a block has by itself, and what a relation and a query in FROM have by themselves
abbrev pub is_block_fault : NameFault → List JoinedTree → Bool
is_block_fault SameSources sources = repeats (map source_name sources)
is_block_fault UnknownRelation sources = false
is_block_fault UnnamedItem sources = false

abbrev pub is_relation_fault : NameFault → List Relation → Text → Bool
is_relation_fault SameSources relations name = false
is_relation_fault UnknownRelation relations name = not (is_named name relations)
is_relation_fault UnnamedItem relations name = false

abbrev pub is_head_fault : NameFault → Resolved → Bool
is_head_fault SameSources r = false
is_head_fault UnknownRelation r = false
is_head_fault UnnamedItem r = list_any has_unnamed_item r.leftmost

abbrev pub source_fault : NameFault → List Relation → SourceTree-F QueryTree SourceTree BlockTree JoinedTree StepTree → Bool
source_fault fault relations (SourceTree-F.Relation name alias) = is_relation_fault fault relations name
source_fault fault relations (SourceTree-F.Query q alias) = is_head_fault fault (resolved relations q) || has_name_fault fault relations (resolved relations q).parts

abbrev pub has_source_fault : NameFault → List Relation → SourceTree → Bool
has_source_fault fault relations s = source_fault fault relations (out-SourceTree s)

abbrev pub has_block_fault : NameFault → List Relation → BlockTree → Bool
has_block_fault fault relations b = is_block_fault fault (out-BlockTree b).sources || list_any (λ j. has_source_fault fault relations (out-JoinedTree j).source) (out-BlockTree b).sources

-- whether an item has no name
abbrev pub is_unnamed : ItemTree → Bool
is_unnamed item.Star = false
is_unnamed (item.StarOf name) = false
is_unnamed (item.Expr e alias) = is_none (item_name (Written e alias))
