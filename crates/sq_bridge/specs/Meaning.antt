-- What a node has to be to stand for what a query gives.
--     IsWorth n a          the rows of the node are the Z-set of the answer's rows.      Begins q      each block begins with a comma
use Rattle.std.specs.Prelude.{◌≡◌, ◌≤◌, ◌^◌, length, ℕ, Bool, true, false, List, [], ◌∷◌, fold, Option, Some, None, ⊤}
use Rattle.std.specs.List.{AllByRecursion}
use Rattle.sq_ast.specs.declared.query.SetOp.{SetOp}
use Rattle.sq_expr.specs.declared.cond.Cond.{Cond}
use Rattle.sq_expr.specs.declared.expr.Expr.{Expr}
use Rattle.sq_expr.specs.declared.expr.Func.{Func}
use Rattle.sq_expr.specs.declared.expr.Kind.{Kind}
use Rattle.sq_expr.specs.Meaning.{num}
use Rattle.sq_expr.specs.Typing.{IsOfSort}
use Rattle.sq_expr.specs.declared.typing.Sort.TheVariants.{Numeric}
use Rattle.sq_typed.specs.declared.query.BlockCall.{BlockCall}
use Rattle.sq_typed.specs.declared.query.Grouping.{Grouping}
use Rattle.sq_typed.specs.Blocks.{is_sum}
use Rattle.sq_typed.specs.declared.query.Block.{Block, out-Block}
use Rattle.sq_typed.specs.declared.query.FromItem.{FromItem}
use Rattle.sq_typed.specs.declared.query.FromJoin.{FromJoin}
use Rattle.sq_typed.specs.declared.query.FromJoin.TheVariants.{Comma, Inner, Left}
use Rattle.sq_typed.specs.declared.query.Query.{Query}
use Rattle.sq_typed.specs.Fit.{Fits, HoldsKinds, Pairwise, is_count_all}
use Rattle.sq_typed.specs.From.{Answer, Row, Source, kept, stage}
use Rattle.sq_typed.specs.Laws.{AreOfWidth, NamesThese}
use Rattle.sq_typed.specs.Queries.{Contents, answer, has_range_fault, intersect_rows, set_rows}
use Rattle.sq_typed.specs.Within.{BlockOf}
use Rattle.sq_bridge.specs.Nodes.{Node, NodeSource, joined_node, stage_rows}
use Rattle.sq_bridge.specs.Queries.{query_node}
use Rattle.sq_bridge.specs.Rows.{listed}
use Rattle.sq_typed.specs.Sorts.{HoldsSorts}

pub record IsWorth (n : Node) (a : Answer) : Type 0 where
  pub width : n.width ≡ a.width
  pub rows : n.rows ≡ listed a.rows

-- a node for what a relation holds
pub record IsWorthRelation (n : Node) (c : Contents) : Type 0 where
  pub width : n.width ≡ c.width
  pub rows : n.rows ≡ listed c.rows

-- a source, joined in the same way
pub record IsWorthSource (n : NodeSource) (s : Source) : Type 0 where
  pub join : n.join ≡ s.join
  pub worth : IsWorth n.node s.answer

abbrev pub AreWorth : List NodeSource → List Source → Type 0
AreWorth ns ss = Pairwise IsWorthSource ns ss

-- J_k and F_k of a source, as operators and over lists
module _ (w : ℕ) (rows : List Row) (n : Node) (a : Answer) (conds : List Cond) (join : FromJoin) where
  abbrev pub MeansJoined : Type 0
  MeansJoined = (stage_rows w (listed rows) n conds join).0 ≡ listed (stage conds join a rows).0

  abbrev pub MeansKept : Type 0
  MeansKept = (stage_rows w (listed rows) n conds join).1 ≡ listed (stage conds join a rows).1

-- the conditions name no columns but those of the sources
abbrev pub AreNamed : List Cond → List Source → Type 0
AreNamed conds sources = AllByRecursion (NamesThese sources) conds

-- the rows that WHERE keeps
abbrev pub MeansWhere : List Cond → List NodeSource → List Source → Type 0
MeansWhere conds nodes sources = (joined_node conds nodes).rows ≡ listed (kept conds sources)

-- ---- the first source of a block

abbrev pub is_comma : FromJoin → Bool
is_comma Comma = true
is_comma (Inner on) = false
is_comma (Left on) = false

abbrev pub begins : List FromItem → Bool
begins [] = false
begins (s ∷ ss) = is_comma s.join

abbrev pub BeginsWithComma : Source → Type 0
BeginsWithComma s = s.join ≡ Comma

-- the first source of each block of a query is joined to nothing
abbrev pub Begins : Query → Type 0
Begins q = (b : Block) → BlockOf q b → begins (out-Block b).sources ≡ true

-- ---- calls

-- a call without an argument counts rows, and what SUM adds is no text
abbrev pub CallSuits : List Row → Func → Option Expr → Type 0
CallSuits rows f None = is_count_all f ≡ true
CallSuits rows f (Some e) = is_sum f ≡ true → AllByRecursion (λ row. IsOfSort Numeric (num e row)) rows

abbrev pub CallsSuit : List Row → List BlockCall → Type 0
CallsSuit rows calls = AllByRecursion (λ c. CallSuits rows c.func c.arg) calls

abbrev pub GroupsSuit : List Row → Option Grouping → Type 0
GroupsSuit rows None = ⊤
GroupsSuit rows (Some g) = CallsSuit rows g.calls

-- ---- set operations

-- a node has these rows, which have its width
pub record Holds (n : Node) (rows : List Row) : Type 0 where
  pub are : n.rows ≡ listed rows
  pub wide : AreOfWidth n.width rows

-- a further member of an INTERSECT, and of a chain, with rows of this width
pub record IsMemberOf (w : ℕ) (n : Node) (a : Answer) : Type 0 where
  pub rows : n.rows ≡ listed a.rows
  pub wide : AreOfWidth w a.rows

pub record IsStepOf (w : ℕ) (m : SetOp × Node) (s : SetOp × Answer) : Type 0 where
  pub op : m.0 ≡ s.0
  pub member : IsMemberOf w m.1 s.1

abbrev pub AreMembersOf : ℕ → List Node → List Answer → Type 0
AreMembersOf w ms others = Pairwise (IsMemberOf w) ms others

abbrev pub AreStepsOf : ℕ → List (SetOp × Node) → List (SetOp × Answer) → Type 0
AreStepsOf w ms steps = Pairwise (IsStepOf w) ms steps

-- the rows of a chain after its last member, and of an INTERSECT
abbrev pub chain_rows : List Row → List (SetOp × Answer) → List Row
chain_rows rows steps = fold (λ rows s. set_rows s.0 rows s.1.rows) rows steps

abbrev pub common_rows : List Row → List Answer → List Row
common_rows rows others = fold (λ rows a. intersect_rows rows a.rows) rows others

-- ---- queries

-- relations with rows of their sorts, and nodes for them
abbrev pub HoldSorts : List Contents → List (List Kind) → Type 0
HoldSorts relations kinds = Pairwise HoldsSorts relations kinds

abbrev pub HoldKinds : List Contents → List (List Kind) → Type 0
HoldKinds relations kinds = Pairwise HoldsKinds relations kinds

abbrev pub AreWorthRelations : List Node → List Contents → Type 0
AreWorthRelations nodes relations = Pairwise IsWorthRelation nodes relations

-- the node of each query that fits is worth what the query gives
abbrev pub MeanQueries : List Node → List Contents → List (List Kind) → Type 0
MeanQueries nodes relations kinds = (q : Query) → Fits kinds q → Begins q → IsWorth (query_node nodes q) (answer relations q)

-- it has a fault exactly if the query is out of range
abbrev pub BlameQueries : List Node → List Contents → List (List Kind) → Type 0
BlameQueries nodes relations kinds = (q : Query) → Fits kinds q → Begins q → (query_node nodes q).fault ≡ has_range_fault (answer relations q)

-- a relation has at most 2^61 rows
abbrev pub HasFewRows : Contents → Type 0
HasFewRows c = length c.rows ≤ 2 ^ 61

-- a query that is not out of range gives at most so many
abbrev pub GivesFewRows : List Contents → Query → Type 0
GivesFewRows relations q = has_range_fault (answer relations q) ≡ false → length (answer relations q).rows ≤ 2 ^ 61
