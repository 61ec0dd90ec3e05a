-- When the rows of a block can be computed from those of its sources, and which numbers of it are out of range.
use Rattle.std.specs.Prelude.{◌^◌, ◌≤◌, Bool, ◌||◌, List, [], ◌∷◌, length, Option, Some, None, option_to_list, ⊤}
use Rattle.std.specs.List.{AllByRecursion, flat_map, list_any}
use Rattle.sq_expr.specs.Fits.{Suits, SuitsCond}
use Rattle.sq_expr.specs.declared.cond.Cond.{Cond}
use Rattle.sq_expr.specs.declared.expr.Expr.{Expr}
use Rattle.sq_expr.specs.declared.expr.Kind.{Kind}
use Rattle.sq_lists.specs.Stages.{OnsSuit, is_stage_crowded}
use Rattle.sq_typed.specs.declared.query.Grouping.{Grouping}
use Rattle.sq_typed.specs.Blocks.{item_rows, selected, tested_calls}
use Rattle.sq_typed.specs.Fit.{AreAllOfKinds, Pairwise, SourceGivesKinds, grouped_kinds, item_row_kinds}
use Rattle.sq_typed.specs.From.{Row, Source, kept, members_of, stages}
use Rattle.sq_typed.specs.Queries.{is_outside}

-- the arguments of the calls of a grouping suit the columns of the sources, and HAVING suits the group row
pub record CallsSuit (kinds : List Kind) (g : Grouping) : Type 0 where
  pub arguments : AllByRecursion (λ c. AllByRecursion (Suits kinds) (option_to_list c.arg)) g.calls
  pub having : AllByRecursion (SuitsCond (grouped_kinds kinds g)) (option_to_list g.having)

abbrev pub GroupingSuits : List Kind → Option Grouping → Type 0
GroupingSuits kinds None = ⊤
GroupingSuits kinds (Some g) = CallsSuit kinds g

-- rows of kinds, not too many, that a grouping suits
pub record CanGroup (grouping : Option Grouping) (rows : List Row) : Type 0 where
  pub kinds : List Kind
  pub rows_are : AreAllOfKinds rows kinds
  pub few : length rows ≤ 2 ^ 61
  pub suits : GroupingSuits kinds grouping

abbrev pub HasSource : List Source → Type 0
HasSource [] = ⊥
HasSource (s ∷ ss) = ⊤

-- the sources of a block give rows of kinds that its clauses suit
pub record BlockSuits (sources : List Source) (where_ : Option Cond) (grouping : Option Grouping) (items : List Expr) : Type 0 where
  pub kinds : List (List Kind)
  pub some : HasSource sources
  pub give : Pairwise SourceGivesKinds sources kinds
  pub ons_suit : OnsSuit [] sources kinds
  pub where_suits : AllByRecursion (SuitsCond (flat_map (λ ks. ks) kinds)) (option_to_list where_)
  pub grouping_suits : GroupingSuits (flat_map (λ ks. ks) kinds) grouping
  pub items_suit : AllByRecursion (Suits (item_row_kinds (flat_map (λ ks. ks) kinds) grouping)) items

-- whether a block is out of range apart from its sources: the rows at one of its places are too many, or a number of its
-- calls or its items is outside BIGINT
abbrev pub has_own_fault : List Source → Option Cond → Option Grouping → List Expr → Bool
has_own_fault sources where_ grouping items =
    list_any is_stage_crowded (stages (members_of where_) sources)
    || (list_any is_outside (tested_calls grouping (kept (members_of where_) sources))
    || list_any is_outside (flat_map (λ row. row) (selected items (item_rows grouping (kept (members_of where_) sources)))))
