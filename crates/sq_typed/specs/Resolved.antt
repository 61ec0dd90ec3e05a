-- Queries in which names are replaced by numbers, over the relations before them.
--     resolved relations q        the typed query, its columns, and what stands in it.       Parts        what stands in it
use Rattle.std.specs.Prelude.{Bool, if◌then◌else◌, bytes_eq, List, [], ◌∷◌, ◌++◌, map, fold, unwrap_or, option_map}
use Rattle.std.specs.List.{flat_map}
use Rattle.sq_ast.specs.declared.cond.CondTree.{CondTree}
use Rattle.sq_ast.specs.declared.query.JoinTree.{JoinTree}
use Rattle.sq_ast.specs.declared.query.JoinTree.TheVariants as written
use Rattle.sq_ast.specs.declared.query.QueryTree.{QueryTree}
use Rattle.sq_ast.specs.declared.query.QueryTree.TheFolds.{fold-QueryTree}
use Rattle.sq_ast.specs.declared.query.QueryTree.TheOpen.{QueryTree-F, SourceTree-F, BlockTree-F, JoinedTree-F, StepTree-F}
use Rattle.sq_ast.specs.declared.query.SetOp.{SetOp}
use Rattle.sq_catalog.specs.Names.{place_of}
use Rattle.sq_catalog.specs.declared.relation.Column.{Column}
use Rattle.sq_catalog.specs.declared.relation.Relation.{Relation}
use Rattle.sq_expr.specs.declared.expr.Kind.{Kind}
use Rattle.sq_expr.specs.declared.expr.Kind.TheVariants.{Integer, Bigint}
use Rattle.sq_typed.specs.declared.query.Block.{roll-Block}
use Rattle.sq_typed.specs.declared.query.FromItem.{FromItem, roll-FromItem}
use Rattle.sq_typed.specs.declared.query.FromJoin.{FromJoin}
use Rattle.sq_typed.specs.declared.query.FromJoin.TheVariants as join
use Rattle.sq_typed.specs.declared.query.Origin.{Origin}
use Rattle.sq_typed.specs.declared.query.Origin.TheVariants as origin
use Rattle.sq_typed.specs.declared.query.Query.{Query}
use Rattle.sq_typed.specs.declared.query.Query.TheVariants as query
use Rattle.sq_typed.specs.declared.query.SetStep.{roll-SetStep}
use Rattle.sq_typed.specs.Numbered.{row_cond}
use Rattle.sq_typed.specs.Scopes as scopes
use Rattle.sq_typed.specs.Scopes.{Named, Scope}
use Rattle.sq_typed.specs.Selected.{Scoped, chosen, item_expr, grouping, block_columns}

-- ---- what stands in a query

-- its blocks; the leftmost block of each query in FROM; the name of each relation in FROM; and for each set operation the
-- columns of its operands
pub record Parts : Type 0 where
  pub blocks : List Scoped
  pub heads : List Scoped
  pub relations : List scopes.Text
  pub operations : List (List (List Column))

abbrev pub together : List Parts → Parts
together ps = record {
  blocks = flat_map (λ p. p.blocks) ps;
  heads = flat_map (λ p. p.heads) ps;
  relations = flat_map (λ p. p.relations) ps;
  operations = flat_map (λ p. p.operations) ps;
}

abbrev pub no_parts : Parts
no_parts = record { blocks = []; heads = []; relations = []; operations = [] }

-- ---- columns of a query

-- BIGINT where one of the two is
abbrev pub wider : Kind → Kind → Kind
wider Integer Bigint = Bigint
wider kind other = kind

abbrev pub widened : List Column → List Column → List Column
widened (c ∷ cs) (d ∷ ds) = record { name = c.name; kind = wider c.kind d.kind; nullable = c.nullable } ∷ widened cs ds
widened cs ds = cs

-- the columns of a set operation: those of its first operand, and BIGINT where it is a number and some operand's is
abbrev pub operation_columns : List (List Column) → List Column
operation_columns [] = []
operation_columns (cs ∷ css) = fold widened cs css

abbrev pub relation_columns : scopes.Text → List Relation → List Column
relation_columns name [] = []
relation_columns name (r ∷ rs) = if bytes_eq name r.name then r.columns else relation_columns name rs

-- ---- the typed query

-- a query, its columns, its leftmost block (as a list of one), and its parts
pub record Resolved : Type 0 where
  pub query : Query
  pub columns : List Column
  pub leftmost : List Scoped
  pub parts : Parts

-- what stands behind FROM, by name
pub record Source : Type 0 where
  pub named : Named
  pub origin : Origin
  pub parts : Parts

pub record Joined : Type 0 where
  pub join : JoinTree
  pub source : Source

abbrev pub scope_of : List Joined → Scope
scope_of sources = map (λ s. s.source.named) sources

abbrev pub typed_join : Scope → JoinTree → FromJoin
typed_join scope written.Comma = join.Comma
typed_join scope (written.Inner on) = join.Inner (row_cond scope on)
typed_join scope (written.Left on) = join.Left (row_cond scope on)

abbrev pub on_cond : Scope → JoinTree → List (Scope × CondTree)
on_cond scope written.Comma = []
on_cond scope (written.Inner on) = (scope, on) ∷ []
on_cond scope (written.Left on) = (scope, on) ∷ []

-- what f makes of each join and the sources up to its own, behind the sources before
abbrev pub each_join : {A : Type 0} → (Scope → Joined → A) → Scope → List Joined → List A
each_join f before [] = []
each_join f before (s ∷ ss) = f (before ++ s.source.named ∷ []) s ∷ each_join f (before ++ s.source.named ∷ []) ss

abbrev pub typed_source : Scope → Joined → FromItem
typed_source scope s = roll-FromItem (record { join = typed_join scope s.join; source = s.source.origin })

abbrev pub scoped : BlockTree-F Resolved Source Resolved Joined (SetOp × Resolved) → Scoped
scoped b = record {
  scope = scope_of b.sources;
  ons = flat_map (λ on. on) (each_join (λ scope s. on_cond scope s.join) [] b.sources);
  items = b.items;
  filter = b.filter;
  group = b.group;
  having = b.having;
}

abbrev pub typed_block : Bool → List Joined → Scoped → Query
typed_block distinct sources b = query.Block (roll-Block (record {
  distinct = distinct;
  sources = each_join typed_source [] sources;
  filter = option_map (row_cond b.scope) b.filter;
  grouping = grouping b;
  items = map (item_expr b) (chosen b);
}))

abbrev pub leftmost_of : List Resolved → List Scoped
leftmost_of [] = []
leftmost_of (first ∷ rest) = first.leftmost

-- a set operation with these operands
abbrev pub operation : Query → List Resolved → Resolved
operation q members = record {
  query = q;
  columns = operation_columns (map (λ m. m.columns) members);
  leftmost = leftmost_of members;
  parts = together (record { blocks = []; heads = []; relations = []; operations = map (λ m. m.columns) members ∷ [] } ∷ map (λ m. m.parts) members);
}

module _ (relations : List Relation) where
  -- one level of a query, with what each part is in its place
  abbrev pub of_query : QueryTree-F Resolved Source Resolved Joined (SetOp × Resolved) → Resolved
  of_query (QueryTree-F.Block b) = b
  of_query (QueryTree-F.Chain first rest) = operation (query.Chain first.query (map (λ s. roll-SetStep (record { op = s.0; query = s.1.query })) rest)) (first ∷ map (λ s. s.1) rest)
  of_query (QueryTree-F.Intersect members) = operation (query.Intersect (map (λ m. m.query) members)) members

  abbrev pub of_source : SourceTree-F Resolved Source Resolved Joined (SetOp × Resolved) → Source
  of_source (SourceTree-F.Relation name alias) = record {
    named = record { name = unwrap_or alias name; columns = relation_columns name relations };
    origin = origin.Relation (unwrap_or (place_of name relations) 0);
    parts = record { blocks = []; heads = []; relations = name ∷ []; operations = [] };
  }
  of_source (SourceTree-F.Query q alias) = record {
    named = record { name = alias; columns = q.columns };
    origin = origin.Query q.query;
    parts = record { blocks = q.parts.blocks; heads = q.leftmost ++ q.parts.heads; relations = q.parts.relations; operations = q.parts.operations };
  }

  abbrev pub of_block : BlockTree-F Resolved Source Resolved Joined (SetOp × Resolved) → Resolved
  of_block b = record {
    query = typed_block b.distinct b.sources (scoped b);
    columns = block_columns (scoped b);
    leftmost = scoped b ∷ [];
    parts = together (record { blocks = scoped b ∷ []; heads = []; relations = []; operations = [] } ∷ map (λ s. s.source.parts) b.sources);
  }

  abbrev pub of_joined : JoinedTree-F Resolved Source Resolved Joined (SetOp × Resolved) → Joined
  of_joined j = record { join = j.join; source = j.source }

  abbrev pub of_step : StepTree-F Resolved Source Resolved Joined (SetOp × Resolved) → SetOp × Resolved
  of_step s = (s.op, s.query)

  -- a query over the relations before it
  unfoldable pub resolved : QueryTree → Resolved
  resolved q = fold-QueryTree Resolved Source Resolved Joined (SetOp × Resolved) of_query of_source of_block of_joined of_step q
