-- How far the relations of a program have been gone through.
use Rattle.std.specs.Prelude.{◌≡◌, ℕ, ◌≤◌, false, List, fold, length, drop, map, ⊤}
use Rattle.std.specs.List.{list_any}
use Rattle.sq_catalog.specs.declared.relation.RelationKind.{RelationKind}
use Rattle.sq_catalog.specs.declared.relation.RelationKind.TheVariants.{Table, View}
use Rattle.sq_expr.specs.declared.expr.Kind.{Kind}
use Rattle.sq_lists.specs.declared.views.SoFar.{SoFar}
use Rattle.sq_lists.specs.Listings.{contents_of}
use Rattle.sq_typed.specs.Fit.{HoldsKinds, Pairwise, ProgramFits, TablesAreOfKinds}
use Rattle.sq_typed.specs.Queries.{has_range_fault}
use Rattle.sq_typed.specs.Tables.{Tables}
use Rattle.sq_typed.specs.Views as views
use Rattle.sq_typed.specs.Views.{Meant, standing, with_relation}

abbrev pub IsView : RelationKind → Type 0
IsView Table = ⊥
IsView (View printed) = ⊤

-- behind so many relations, the listings are what these hold, none of the views among them is out of range, and the
-- relations that are left decide what all views give
pub record Walk (p : Meant) (tables : Tables) (at : ℕ) (so_far : SoFar) : Type 0 where
  pub before : views.Standing
  pub kinds : List (List Kind)
  pub contents : map contents_of so_far.listings.items ≡ before.contents
  pub shown : so_far.shown.items ≡ map (λ a. a.rows) before.given
  pub tables_left : before.tables ≡ drop so_far.tables tables
  pub queries_left : before.queries ≡ drop so_far.views p.queries
  pub count : length before.given ≡ so_far.views
  pub few_tables : so_far.tables ≤ at
  pub few_views : so_far.views ≤ at
  pub inside : list_any has_range_fault before.given ≡ false
  pub hold : Pairwise HoldsKinds before.contents kinds
  pub fits : ProgramFits kinds before.queries (drop at p.catalog)
  pub tables_are : TablesAreOfKinds before.tables (drop at p.catalog)
  pub goes_on : standing p tables ≡ fold (λ s r. with_relation r.kind (length r.columns) s) before (drop at p.catalog)
