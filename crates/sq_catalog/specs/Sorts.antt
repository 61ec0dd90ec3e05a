-- Which relations are tables and which are views.
use Rattle.std.specs.Prelude.{Bool, true, false, List, filter}
use Rattle.sq_catalog.specs.declared.relation.Relation.{Relation}
use Rattle.sq_catalog.specs.declared.relation.RelationKind.{RelationKind}
use Rattle.sq_catalog.specs.declared.relation.RelationKind.TheVariants.{Table, View}

abbrev pub is_table : RelationKind → Bool
is_table Table = true
is_table (View printed) = false

abbrev pub is_view : RelationKind → Bool
is_view Table = false
is_view (View printed) = true

-- whether its changes are printed: those of a view that is not local
abbrev pub is_printed : RelationKind → Bool
is_printed Table = false
is_printed (View printed) = printed

-- the tables in order of creation, without the views
abbrev pub tables_of : List Relation → List Relation
tables_of relations = filter (λ r. is_table r.kind) relations

-- the views in order of creation, without the tables
abbrev pub views_of : List Relation → List Relation
views_of relations = filter (λ r. is_view r.kind) relations
