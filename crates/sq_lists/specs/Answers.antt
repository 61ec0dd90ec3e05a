-- When a query can be listed over listed relations, and what its listing is.
use Rattle.std.specs.Prelude.{◌≡◌, ℕ, Bool, true, false, List, Option, Some, None}
use Rattle.std.specs.List.{AllByRecursion}
use Rattle.sq_expr.specs.declared.expr.Kind.{Kind}
use Rattle.sq_lists.specs.declared.listing.Listing.{Listing}
use Rattle.sq_typed.specs.declared.query.FromItem.{FromItem}
use Rattle.sq_typed.specs.declared.query.Origin.{Origin}
use Rattle.sq_typed.specs.declared.query.Query.{Query}
use Rattle.sq_typed.specs.Fit.{Fits, HoldsKinds, Pairwise, kinded_origin}
use Rattle.sq_typed.specs.From.{Answer, Row}
use Rattle.sq_typed.specs.Queries.{Contents, has_range_fault, intersect_rows, is_crowded, origin_answer}

-- the relations hold rows of some kinds, and all that a query names is there and has a type over them
pub record CanAnswer (relations : List Contents) (q : Query) : Type 0 where
  pub kinds : List (List Kind)
  pub hold : Pairwise HoldsKinds relations kinds
  pub fits : Fits kinds q

-- the same for what stands behind FROM, and for the sources of a block
pub record CanAnswerOrigin (relations : List Contents) (o : Origin) : Type 0 where
  pub kinds : List (List Kind)
  pub hold : Pairwise HoldsKinds relations kinds
  pub fits : (kinded_origin kinds o).fits ≡ true

abbrev pub CanAnswerItems : List Contents → List FromItem → Type 0
CanAnswerItems relations items = AllByRecursion (λ item. CanAnswerOrigin relations item.source) items

-- a listing has an answer's columns and rows, and nothing of the answer is out of range
pub record Lists (l : Listing) (a : Answer) : Type 0 where
  pub width : l.width ≡ a.width
  pub rows : l.rows ≡ a.rows
  pub inside : has_range_fault a ≡ false

-- the same for each of the sources of a block
abbrev pub ListsItems : List Contents → List Listing → List FromItem → Type 0
ListsItems relations listings items = Pairwise (λ l item. Lists l (origin_answer relations item.source)) listings items

-- whether something of a source is out of range
abbrev pub is_item_out : List Contents → FromItem → Bool
is_item_out relations item = has_range_fault (origin_answer relations item.source)

-- ---- members of INTERSECT

-- the columns and the rows so far with those of one more member
abbrev pub common_width : Option Listing → Listing → ℕ
common_width None more = more.width
common_width (Some before) more = before.width

abbrev pub common_rows : Option Listing → List Row → List Row
common_rows None more = more
common_rows (Some before) more = intersect_rows before.rows more

abbrev pub is_common_crowded : Option Listing → List Row → Bool
is_common_crowded None more = false
is_common_crowded (Some before) more = is_crowded (intersect_rows before.rows more)
