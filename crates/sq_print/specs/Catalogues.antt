-- The lines of a program's relations, each with its name and the names of its columns.
--     columns_text columns      the names of columns, as an array
--     relation_text r           the line of a relation
--     catalogue_text relations  the lines of all relations, in order of creation
use Rattle.std.specs.Prelude.{ℕ, List, ◌++◌, map, codes, if◌then◌else◌}
use Rattle.std.specs.List.{flat_map}
use Rattle.json.specs.Print.{quoted}
use Rattle.sq_catalog.specs.declared.relation.Column.{Column}
use Rattle.sq_catalog.specs.declared.relation.Relation.{Relation}
use Rattle.sq_catalog.specs.declared.relation.RelationKind.{RelationKind}
use Rattle.sq_catalog.specs.declared.relation.RelationKind.TheVariants.{Table, View}
use Rattle.sq_print.specs.Texts.{with_commas}

abbrev pub columns_text : List Column → List ℕ
columns_text columns = codes "[" ++ (with_commas (map (λ c. quoted c.name) columns) ++ codes "]")

-- what a relation is called
abbrev pub kind_name : RelationKind → List ℕ
kind_name Table = codes "table"
kind_name (View printed) = codes "view"

-- the end of its line, which says of a view whether its changes are printed
abbrev pub kind_end : RelationKind → List ℕ
kind_end Table = codes "}\n"
kind_end (View printed) = if printed then codes ",\"printed\":true}\n" else codes ",\"printed\":false}\n"

abbrev pub relation_text : Relation → List ℕ
relation_text r = codes "{\"" ++ (kind_name r.kind ++ (codes "\":" ++ (quoted r.name ++ (codes ",\"columns\":" ++ (columns_text r.columns ++ kind_end r.kind)))))

abbrev pub catalogue_text : List Relation → List ℕ
catalogue_text relations = flat_map relation_text relations
