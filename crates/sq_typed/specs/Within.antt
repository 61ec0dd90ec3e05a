-- Which blocks stand in a query, which queries are views over which relations, and the pairs of left joins.
--     BlockOf q b        a block of a query, at any depth.       IsViewOver p tables relations q        a view's query, with the relations before it
--     left_pairs         the pairs of each left join of a block, on which its ON is True
use Rattle.std.specs.Prelude.{◌≡◌, ℕ, suc, Bool, List, [], ◌∷◌, ◌++◌, fold, length, map, slice_get, take, Option, Some}
use Rattle.sq_catalog.specs.declared.relation.Relation.{Relation}
use Rattle.sq_catalog.specs.declared.relation.RelationKind.TheVariants.{View}
use Rattle.sq_expr.specs.declared.cond.Cond.{Cond}
use Rattle.sq_expr.specs.declared.expr.Expr.{Expr}
use Rattle.sq_expr.specs.declared.expr.Kind.{Kind}
use Rattle.sq_typed.specs.declared.query.Block.{Block, out-Block}
use Rattle.sq_typed.specs.declared.query.FromItem.{FromItem}
use Rattle.sq_typed.specs.declared.query.FromJoin.{FromJoin}
use Rattle.sq_typed.specs.declared.query.FromJoin.TheVariants.{Comma, Inner, Left}
use Rattle.sq_typed.specs.declared.query.Grouping.{Grouping}
use Rattle.sq_typed.specs.declared.query.Origin.TheVariants as origin
use Rattle.sq_typed.specs.declared.query.Query.{Query}
use Rattle.sq_typed.specs.declared.query.Query.TheVariants as query
use Rattle.sq_typed.specs.declared.query.SetStep.{SetStep}
use Rattle.sq_typed.specs.From.{Row, Answer, Source, inner, kept, members_at, members_of, stage, widths_of}
use Rattle.sq_typed.specs.Blocks.{block_answer}
use Rattle.sq_typed.specs.Laws.{HoldTheirWidths, kept_early}
use Rattle.sq_typed.specs.Queries.{Contents, source_of_item}
use Rattle.sq_typed.specs.Tables.{Tables}
use Rattle.sq_typed.specs.Views.{Meant, Standing, with_relation}

-- ---- blocks

-- a block of a query: the query itself, or one of a query in its FROM, or of a member of its set operations
pub data BlockOf : Query → Block → Type 0 where
  It : (b : Block) → BlockOf (query.Block b) b
  InFrom : (b : Block) (n : ℕ) (s : FromItem) (q : Query) (c : Block) → slice_get (out-Block b).sources n ≡ Some s → s.source ≡ origin.Query q → BlockOf q c → BlockOf (query.Block b) c
  First : (q : Query) (rest : List SetStep) (c : Block) → BlockOf q c → BlockOf (query.Chain q rest) c
  Later : (q : Query) (rest : List SetStep) (n : ℕ) (s : SetStep) (c : Block) → slice_get rest n ≡ Some s → BlockOf s.query c → BlockOf (query.Chain q rest) c
  Member : (qs : List Query) (n : ℕ) (q : Query) (c : Block) → slice_get qs n ≡ Some q → BlockOf q c → BlockOf (query.Intersect qs) c

-- what the sources of a block give
abbrev pub sources_over : List Contents → Block → List Source
sources_over relations b = map (source_of_item relations) (out-Block b).sources

-- the rows that WHERE keeps are those that go on from the last source, if each member applies as soon as the sources whose
-- columns it names are joined
abbrev pub KeepsEarly : List Contents → Block → Type 0
KeepsEarly relations b = kept (members_of (out-Block b).filter) (sources_over relations b) ≡ kept_early (members_of (out-Block b).filter) (sources_over relations b)

-- so does each block of a query
abbrev pub KeepsAllEarly : List Contents → Query → Type 0
KeepsAllEarly relations q = (b : Block) → BlockOf q b → KeepsEarly relations b

-- relations whose rows have as many values as there are columns, with these kinds
abbrev pub AreAsWide : List Contents → List (List Kind) → Type 0
AreAsWide relations kinds = HoldTheirWidths relations × (map (λ c. c.width) relations ≡ map length kinds)

-- ---- views

-- how far a program's relations have been gone through before this one
abbrev pub standing_before : Meant → Tables → ℕ → Standing
standing_before p tables n = fold (λ s r. with_relation r.kind (length r.columns) s) (record { contents = []; given = []; tables = tables; queries = p.queries }) (take n p.catalog)

-- relation number n is a view, this is its query, and the relations before it hold this over the tables
pub record IsViewOver (p : Meant) (tables : Tables) (relations : List Contents) (q : Query) : Type 0 where
  pub number : ℕ
  pub relation : Relation
  pub printed : Bool
  pub there : slice_get p.catalog number ≡ Some relation
  pub view : relation.kind ≡ View printed
  pub before : (standing_before p tables number).contents ≡ relations
  pub given : slice_get (standing_before p tables number).queries 0 ≡ Some q

-- ---- left joins

-- the pairs of a left join on which its ON is True, from the rows before it
abbrev pub own_pairs : FromJoin → Answer → List Row → List (List Row)
own_pairs Comma a before = []
own_pairs (Inner on) a before = []
own_pairs (Left on) a before = inner (on ∷ []) a.rows before ∷ []

module _ (widths : List ℕ) (conds : List Cond) where
  -- those of each left join from source number k on, from the rows F_(k-1)
  abbrev pub left_pairs_from : ℕ → List Row → List Source → List (List Row)
  left_pairs_from k before [] = []
  left_pairs_from k before (s ∷ ss) = own_pairs s.join s.answer before ++ left_pairs_from (suc k) (stage (members_at widths conds k) s.join s.answer before).1 ss

-- those of each left join of a block, where WHERE has these members
abbrev pub left_pairs : List Cond → List Source → List (List Row)
left_pairs conds sources = left_pairs_from (widths_of sources) conds 1 ([] ∷ []) sources

-- an answer with further places
abbrev pub with_places : List (List Row) → Answer → Answer
with_places more a = record { width = a.width; rows = a.rows; places = a.places ++ more; tested = a.tested }

-- what a block gives, with the pairs of its left joins as places too
abbrev pub with_pairs : Bool → List Source → Option Cond → Option Grouping → List Expr → Answer
with_pairs distinct sources where_ grouping items = with_places (left_pairs (members_of where_) sources) (block_answer distinct sources where_ grouping items)
