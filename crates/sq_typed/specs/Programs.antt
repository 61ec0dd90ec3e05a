-- The program that statements make: its relations, and the typed query of each view.
--     catalog_of statements        the relations that they create.       program_of statements        these, and the queries of the views
use Rattle.std.specs.Prelude.{◌≡◌, Bool, true, false, not, List, [], ◌∷◌, ◌++◌, map, fold, Option, Some}
use Rattle.sq_ast.specs.declared.statement.Body.{Body}
use Rattle.sq_ast.specs.declared.statement.Body.TheVariants as body
use Rattle.sq_ast.specs.declared.statement.ColumnTree.{ColumnTree}
use Rattle.sq_ast.specs.declared.statement.Flavour.{Flavour}
use Rattle.sq_ast.specs.declared.statement.Flavour.TheVariants.{Local}
use Rattle.sq_ast.specs.declared.statement.Statement.{Statement}
use Rattle.sq_ast.specs.declared.statement.TypeName.{TypeName}
use Rattle.sq_ast.specs.declared.statement.TypeName.TheVariants as written
use Rattle.sq_catalog.specs.declared.relation.Column.{Column}
use Rattle.sq_catalog.specs.declared.relation.Relation.{Relation}
use Rattle.sq_catalog.specs.declared.relation.RelationKind.TheVariants.{Table, View}
use Rattle.sq_expr.specs.declared.expr.Kind.{Kind}
use Rattle.sq_expr.specs.declared.expr.Kind.TheVariants as kind
use Rattle.sq_typed.specs.Resolved.{Resolved, resolved}
use Rattle.sq_typed.specs.Scopes.{Text}
use Rattle.sq_typed.specs.Views.{Meant}

-- ---- what a statement creates

abbrev pub kind_named : TypeName → Kind
kind_named written.Int = kind.Integer
kind_named written.Integer = kind.Integer
kind_named written.Bigint = kind.Bigint
kind_named written.Varchar = kind.Text
kind_named written.Text = kind.Text

abbrev pub table_column : ColumnTree → Column
table_column c = record { name = c.name; kind = kind_named c.kind; nullable = not c.not_null }

abbrev pub is_printed : Option Flavour → Bool
is_printed (Some Local) = false
is_printed flavour = true

-- ---- programs

abbrev pub with_table : Meant → Text → List ColumnTree → Meant
with_table p name columns = record {
  catalog = p.catalog ++ record { name = name; kind = Table; columns = map table_column columns } ∷ [];
  queries = p.queries;
}

abbrev pub with_view : Meant → Text → Bool → Resolved → Meant
with_view p name printed r = record {
  catalog = p.catalog ++ record { name = name; kind = View printed; columns = r.columns } ∷ [];
  queries = p.queries ++ r.query ∷ [];
}

abbrev pub with_body : Meant → Body → Meant
with_body p (body.Table name columns) = with_table p name columns
with_body p (body.View name flavour q) = with_view p name (is_printed flavour) (resolved p.catalog q)

abbrev pub program_of : List Statement → Meant
program_of statements = fold (λ p s. with_body p s.body) (record { catalog = []; queries = [] }) statements

abbrev pub catalog_of : List Statement → List Relation
catalog_of statements = (program_of statements).catalog

-- what statements mean: their relations, and for each view its query with names replaced by numbers
abbrev pub Typed : List Statement → Meant → Type 0
Typed statements program = program ≡ program_of statements
