-- Rows whose values are numbers or texts as their columns say, in any range.
--     AreOfSorts row kinds        NULL is of every sort, and a number is of the sort of INTEGER and of BIGINT, however large it is
use Rattle.std.specs.Prelude.{◌≡◌, length, List, [], ◌∷◌, map, ⊤}
use Rattle.std.specs.List.{AllByRecursion}
use Rattle.sq_value.specs.declared.value.Value.{Value}
use Rattle.sq_expr.specs.declared.expr.Kind.{Kind}
use Rattle.sq_expr.specs.Typing.{IsOfSort, sort_of_kind}
use Rattle.sq_typed.specs.declared.query.Block.{Block, out-Block}
use Rattle.sq_typed.specs.Fit.{kinds_given, source_kinds}
use Rattle.sq_typed.specs.From.{Row, Answer}
use Rattle.sq_typed.specs.Laws.{HasItsWidth, width_of_all}
use Rattle.sq_typed.specs.Queries.{Contents, answer, source_of_item}
use Rattle.sq_typed.specs.declared.query.Query.{Query}

abbrev pub AreOfSorts : List Value → List Kind → Type 0
AreOfSorts [] [] = ⊤
AreOfSorts [] (kind ∷ kinds) = ⊥
AreOfSorts (x ∷ row) [] = ⊥
AreOfSorts (x ∷ row) (kind ∷ kinds) = IsOfSort (sort_of_kind kind) x × AreOfSorts row kinds

abbrev pub AreAllOfSorts : List Row → List Kind → Type 0
AreAllOfSorts rows kinds = AllByRecursion (λ row. AreOfSorts row kinds) rows

-- a relation has columns of these sorts, and rows to match
abbrev pub HoldsSorts : Contents → List Kind → Type 0
HoldsSorts c kinds = (c.width ≡ length kinds) × AreAllOfSorts c.rows kinds

abbrev pub GivesSorts : Answer → List Kind → Type 0
GivesSorts a kinds = (a.width ≡ length kinds) × AreAllOfSorts a.rows kinds

-- what a query gives is of its sorts
abbrev pub GivesItsSorts : List Contents → List (List Kind) → Query → Type 0
GivesItsSorts relations kinds q = GivesSorts (answer relations q) (kinds_given kinds q)

-- the rows of each source of a block have its width, and all together are as wide as the columns of all sources
pub record SourcesHaveWidths (relations : List Contents) (kinds : List (List Kind)) (b : Block) : Type 0 where
  pub each : AllByRecursion (λ s. HasItsWidth s.answer) (map (source_of_item relations) (out-Block b).sources)
  pub all : width_of_all (map (source_of_item relations) (out-Block b).sources) ≡ length (source_kinds kinds b)
