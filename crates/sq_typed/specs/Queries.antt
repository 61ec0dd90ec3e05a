-- A query over lists of rows: set operations from left to right, and queries in FROM.
--     Contents        the rows of a relation.       answer relations q        what a query gives over the relations before it
use Rattle.std.specs.Prelude.{ℕ, ◌^◌, ◌||◌, nat_lt, Bool, false, not, List, [], ◌∷◌, ◌++◌, fold, length, get_or}
use Rattle.std.specs.List.{flat_map, list_any}
use Rattle.sq_value.specs.declared.value.Value.{Value}
use Rattle.sq_value.specs.declared.value.Value.TheVariants.{Null, Int, Text}
use Rattle.sq_value.specs.Order.{row_cmp}
use Rattle.sq_algebra.specs.Listed.{first_of_each, among, without}
use Rattle.sq_ast.specs.declared.query.SetOp.{SetOp}
use Rattle.sq_ast.specs.declared.query.SetOp.TheVariants.{UnionAll, Union, Except}
use Rattle.sq_expr.specs.Bigint.{is_bigint}
use Rattle.sq_typed.specs.declared.query.Query.{Query}
use Rattle.sq_typed.specs.declared.query.FromItem.{FromItem}
use Rattle.sq_typed.specs.declared.query.SetStep.{SetStep}
use Rattle.sq_typed.specs.declared.query.Origin.{Origin}
use Rattle.sq_typed.specs.declared.query.Origin.TheFolds.{fold-Query, fold-FromItem, fold-SetStep, fold-Origin}
use Rattle.sq_typed.specs.declared.query.Origin.TheOpen.{Query-F, SetStep-F, Block-F, FromItem-F, Origin-F}
use Rattle.sq_typed.specs.From.{Row, Answer, Source}
use Rattle.sq_typed.specs.Blocks.{block_answer}

-- the number of columns of a relation, and its rows
pub record Contents : Type 0 where
  pub width : ℕ
  pub rows : List Row

-- ---- set operations

-- the rows of a chain so far with those of its next member
abbrev pub set_rows : SetOp → List Row → List Row → List Row
set_rows UnionAll rows more = rows ++ more
set_rows Union rows more = first_of_each row_cmp (rows ++ more)
set_rows Except rows more = without row_cmp (first_of_each row_cmp rows) more

abbrev pub intersect_rows : List Row → List Row → List Row
intersect_rows rows more = among row_cmp (first_of_each row_cmp rows) more

-- what f makes of a and the members of a list so far, after each of them
abbrev pub after_each : {A B : Type 0} → (A → B → A) → A → List B → List A
after_each f a [] = []
after_each f a (b ∷ bs) = f a b ∷ after_each f (f a b) bs

-- what a chain gives: the rows after its last member, with those after each as places of their own
abbrev pub chain_answer : {B : Type 0} → (List Row → B → List Row) → (B → Answer) → Answer → List B → Answer
chain_answer f of first rest = record {
  width = first.width;
  rows = fold f first.rows rest;
  places = first.places ++ flat_map (λ b. (of b).places) rest ++ after_each f first.rows rest;
  tested = first.tested ++ flat_map (λ b. (of b).tested) rest;
}

abbrev pub no_answer : Answer
no_answer = record { width = 0; rows = []; places = []; tested = [] }

abbrev pub intersect_answer : List Answer → Answer
intersect_answer [] = no_answer
intersect_answer (first ∷ rest) = chain_answer (λ rows a. intersect_rows rows a.rows) (λ a. a) first rest

-- ---- queries

-- the places of a relation belong to the statement that created it
abbrev pub relation_answer : Contents → Answer
relation_answer c = record { width = c.width; rows = c.rows; places = []; tested = [] }

module _ (relations : List Contents) where
  -- one level of a query, with what each part gives in its place
  abbrev pub of_origin : Origin-F Answer Answer Answer Source (SetOp × Answer) → Answer
  of_origin (Origin-F.Relation n) = relation_answer (get_or relations n (record { width = 0; rows = [] }))
  of_origin (Origin-F.Query a) = a

  abbrev pub of_query : Query-F Answer Answer Answer Source (SetOp × Answer) → Answer
  of_query (Query-F.Block a) = a
  of_query (Query-F.Chain first rest) = chain_answer (λ rows s. set_rows s.0 rows s.1.rows) (λ s. s.1) first rest
  of_query (Query-F.Intersect members) = intersect_answer members

  abbrev pub of_block : Block-F Answer Answer Answer Source (SetOp × Answer) → Answer
  of_block b = block_answer b.distinct b.sources b.filter b.grouping b.items

  abbrev pub of_source : FromItem-F Answer Answer Answer Source (SetOp × Answer) → Source
  of_source s = record { join = s.join; answer = s.source }

  abbrev pub of_step : SetStep-F Answer Answer Answer Source (SetOp × Answer) → SetOp × Answer
  of_step s = (s.op, s.query)

  -- what a query gives over the relations before it, which it names by their numbers
  unfoldable pub answer : Query → Answer
  answer q = fold-Query Answer Answer Answer Source (SetOp × Answer) of_origin of_query of_block of_source of_step q

  -- what its parts give
  unfoldable pub origin_answer : Origin → Answer
  origin_answer o = fold-Origin Answer Answer Answer Source (SetOp × Answer) of_origin of_query of_block of_source of_step o

  unfoldable pub source_of_item : FromItem → Source
  source_of_item s = fold-FromItem Answer Answer Answer Source (SetOp × Answer) of_origin of_query of_block of_source of_step s

  unfoldable pub member_answer : SetStep → SetOp × Answer
  member_answer s = fold-SetStep Answer Answer Answer Source (SetOp × Answer) of_origin of_query of_block of_source of_step s

-- ---- range

-- whether a value is a number outside BIGINT
abbrev pub is_outside : Value → Bool
is_outside Null = false
is_outside (Int n) = not (is_bigint n)
is_outside (Text t) = false

-- whether a place lists more rows than 2^61
abbrev pub is_crowded : List Row → Bool
is_crowded rows = nat_lt (2 ^ 61) (length rows)

abbrev pub has_range_fault : Answer → Bool
has_range_fault a = list_any is_crowded a.places || list_any is_outside a.tested
