-- A typed query has as many sources as the tree that it comes from.
use Rattle.std.proofs.Common.{◌≡◌, ℕ, suc, ◌+◌, List, [], ◌∷◌, ◌++◌, map, fold, refl, ap, sym, ◌∙◌, arith}
use Rattle.std.specs.Prelude.{option_map, unwrap_or}
use Rattle.std.specs.List.{AllByRecursion}
use Rattle.sq_ast.specs.Sources.{sum, sources_of, body_sources, program_sources}
use Rattle.sq_ast.specs.declared.query.BlockTree.{out-BlockTree}
use Rattle.sq_ast.specs.declared.query.JoinedTree.{JoinedTree}
use Rattle.sq_ast.specs.declared.query.QueryTree.{QueryTree}
use Rattle.sq_ast.specs.declared.query.QueryTree.TheOpen.{BlockTree-F}
use Rattle.sq_ast.specs.declared.query.SetOp.{SetOp}
use Rattle.sq_ast.specs.declared.query.SourceTree.{SourceTree}
use Rattle.sq_ast.specs.declared.query.StepTree.{StepTree}
use Rattle.sq_ast.specs.declared.statement.Body.{Body}
use Rattle.sq_ast.specs.declared.statement.Body.TheVariants as body
use Rattle.sq_ast.specs.declared.statement.Statement.{Statement}
use Rattle.sq_ast.proofs.SourceLemmas.{source_sources, joined_sources, step_sources, joined_out, step_out, relation_has, query_has, sources-Tree, sources-Chain, sources-Intersect}
use Rattle.sq_catalog.specs.Names.{place_of}
use Rattle.sq_catalog.specs.declared.relation.Relation.{Relation}
use Rattle.sq_typed.specs.declared.query.Block.{Block, out-Block, roll-Block, out-roll-Block}
use Rattle.sq_typed.specs.declared.query.FromItem.{FromItem, out-roll-FromItem}
use Rattle.sq_typed.specs.declared.query.Origin.{Origin, roll-Origin}
use Rattle.sq_typed.specs.declared.query.Origin.TheFolds.{fold-Block, fold-FromItem, fold-SetStep, map-Query, map-Origin, fold-roll-Query, fold-roll-Origin, fold_out-Block, fold_out-FromItem, fold_out-SetStep}
use Rattle.sq_typed.specs.declared.query.Origin.TheOpen.{Query-F, Origin-F}
use Rattle.sq_typed.specs.declared.query.Origin.TheVariants as origin
use Rattle.sq_typed.specs.declared.query.Query.{Query, roll-Query}
use Rattle.sq_typed.specs.declared.query.Query.TheVariants as query
use Rattle.sq_typed.specs.declared.query.SetStep.{SetStep, roll-SetStep, out-roll-SetStep}
use Rattle.sq_typed.specs.Numbered.{row_cond}
use Rattle.sq_typed.specs.Programs.{with_body, Typed}
use Rattle.sq_typed.specs.Resolved.{Resolved, Joined, each_join, typed_join, typed_source, scoped, of_block, resolved}
use Rattle.sq_typed.specs.Scopes.{Scope}
use Rattle.sq_typed.specs.Selected.{chosen, item_expr, grouping}
use Rattle.sq_typed.specs.Sources.{in_origin, in_query, in_block, in_item, in_step, query_sources, origin_sources, sources_in}
use Rattle.sq_typed.specs.Views.{Meant}
use Rattle.sq_typed.proofs.QueryEquations.{resolved_source, resolved_joined, resolved_step, joined_at, step_at, block_at, resolved-Chain, resolved-Intersect, source-Relation, source-Query}
use Rattle.sq_typed.proofs.QueryTrees.{QueryTreeCases, each_query_tree}

-- ---- typed queries, one equation for each form

block_sources : Block → ℕ
block_sources b = fold-Block ℕ ℕ ℕ ℕ ℕ in_origin in_query in_block in_item in_step b

item_sources : FromItem → ℕ
item_sources s = fold-FromItem ℕ ℕ ℕ ℕ ℕ in_origin in_query in_block in_item in_step s

set_sources : SetStep → ℕ
set_sources s = fold-SetStep ℕ ℕ ℕ ℕ ℕ in_origin in_query in_block in_item in_step s

query_rolls : (x : Query-F Origin Query Block FromItem SetStep) →
    query_sources (roll-Query x) ≡ in_query (map-Query Origin Query Block FromItem SetStep ℕ ℕ ℕ ℕ ℕ origin_sources query_sources block_sources item_sources set_sources x)
unfolding query_sources origin_sources block_sources item_sources set_sources
query_rolls x = fold-roll-Query ℕ ℕ ℕ ℕ ℕ in_origin in_query in_block in_item in_step x

origin_rolls : (x : Origin-F Origin Query Block FromItem SetStep) →
    origin_sources (roll-Origin x) ≡ in_origin (map-Origin Origin Query Block FromItem SetStep ℕ ℕ ℕ ℕ ℕ origin_sources query_sources block_sources item_sources set_sources x)
unfolding query_sources origin_sources block_sources item_sources set_sources
origin_rolls x = fold-roll-Origin ℕ ℕ ℕ ℕ ℕ in_origin in_query in_block in_item in_step x

block_out : (b : Block) → block_sources b ≡ sum (map item_sources (out-Block b).sources)
unfolding block_sources item_sources
block_out b = fold_out-Block ℕ ℕ ℕ ℕ ℕ in_origin in_query in_block in_item in_step b

item_out : (s : FromItem) → item_sources s ≡ origin_sources s.source
unfolding origin_sources item_sources
item_out s = fold_out-FromItem ℕ ℕ ℕ ℕ ℕ in_origin in_query in_block in_item in_step s

set_out : (s : SetStep) → set_sources s ≡ query_sources s.query
unfolding query_sources set_sources
set_out s = fold_out-SetStep ℕ ℕ ℕ ℕ ℕ in_origin in_query in_block in_item in_step s

pub origin-Relation : (n : ℕ) → origin_sources (origin.Relation n) ≡ 1
origin-Relation n = ap origin_sources (sym (origin.rolls-Relation n)) ∙ origin_rolls (Origin-F.Relation n)

pub origin-Query : (q : Query) → origin_sources (origin.Query q) ≡ suc (query_sources q)
origin-Query q = ap origin_sources (sym (origin.rolls-Query q)) ∙ origin_rolls (Origin-F.Query q)

summed : {A : Type 0} (f g : A → ℕ) (xs : List A) → ((x : A) → f x ≡ g x) → sum (map f xs) ≡ sum (map g xs)
summed f g [] is = refl
summed f g (x ∷ xs) is = omega (arith, is x, summed f g xs is)

pub query-Block : (b : Block) → query_sources (query.Block b) ≡ sum (map (λ s. origin_sources s.source) (out-Block b).sources)
query-Block b = ap query_sources (sym (query.rolls-Block b)) ∙ (query_rolls (Query-F.Block b) ∙ (block_out b ∙ summed item_sources (λ s. origin_sources s.source) (out-Block b).sources item_out))

pub query-Chain : (q : Query) (rest : List SetStep) → query_sources (query.Chain q rest) ≡ query_sources q + sum (map (λ s. query_sources s.query) rest)
query-Chain q rest =
    ap query_sources (sym (query.rolls-Chain q rest)) ∙ (query_rolls (Query-F.Chain q rest) ∙
    ap (λ n. query_sources q + n) (summed set_sources (λ s. query_sources s.query) rest set_out))

pub query-Intersect : (qs : List Query) → query_sources (query.Intersect qs) ≡ sum (map query_sources qs)
query-Intersect qs = ap query_sources (sym (query.rolls-Intersect qs)) ∙ query_rolls (Query-F.Intersect qs)

-- ---- typed queries and their trees

module _ (relations : List Relation) where
  abbrev Step : Type 0
  Step = SetOp × Resolved

  abbrev QuerySame : QueryTree → Type 0
  QuerySame q = query_sources (resolved relations q).query ≡ sources_of q

  abbrev SourceSame : SourceTree → Type 0
  SourceSame s = origin_sources (resolved_source relations s).origin ≡ source_sources s

  joins_same : (before : Scope) (js : List Joined) → sum (map (λ s. origin_sources s.source) (each_join typed_source before js)) ≡ sum (map (λ j. origin_sources j.source.origin) js)
  joins_same before [] = refl
  joins_same before (j ∷ js) =
      let here = ap (λ s. origin_sources s.source) (out-roll-FromItem (record { join = typed_join (before ++ j.source.named ∷ []) j.join; source = j.source.origin })) in
      omega (arith, here, joins_same (before ++ j.source.named ∷ []) js)

  block_same : (b : BlockTree-F Resolved _ Resolved Joined Step) → query_sources (of_block relations b).query ≡ sum (map (λ j. origin_sources j.source.origin) b.sources)
  block_same b =
      let own = scoped b in
      query-Block (roll-Block (record { distinct = b.distinct; sources = each_join typed_source [] b.sources; filter = option_map (row_cond own.scope) own.filter; grouping = grouping own; items = map (item_expr own) (chosen own) }))
      ∙ (ap (λ x. sum (map (λ s. origin_sources s.source) x.sources)) (out-roll-Block (record { distinct = b.distinct; sources = each_join typed_source [] b.sources; filter = option_map (row_cond own.scope) own.filter; grouping = grouping own; items = map (item_expr own) (chosen own) }))
      ∙ joins_same [] b.sources)

  sources_same : (js : List JoinedTree) → AllByRecursion (λ j. SourceSame j.source) js → sum (map (λ j. origin_sources j.source.origin) (map (resolved_joined relations) js)) ≡ sum (map joined_sources js)
  sources_same [] h = refl
  sources_same (j ∷ js) h = omega (arith, ap (λ (x : Joined). origin_sources x.source.origin) (joined_at relations j), h.0, joined_out j, sources_same js h.1)

  steps_same : (rest : List StepTree) → AllByRecursion (λ s. QuerySame s.query) rest →
      sum (map (λ s. query_sources s.query) (map (λ s. roll-SetStep (record { op = s.0; query = s.1.query })) (map (resolved_step relations) rest))) ≡ sum (map step_sources rest)
  steps_same [] h = refl
  steps_same (s ∷ rest) h =
      let here = resolved_step relations s in
      omega (arith, ap (λ s. query_sources s.query) (out-roll-SetStep (record { op = here.0; query = here.1.query })), ap (λ (x : Step). query_sources x.1.query) (step_at relations s), h.0, step_out s, steps_same rest h.1)

  members_same : (qs : List QueryTree) → AllByRecursion QuerySame qs → sum (map query_sources (map (λ m. m.query) (map (resolved relations) qs))) ≡ sum (map sources_of qs)
  members_same [] h = refl
  members_same (q ∷ qs) h = omega (arith, h.0, members_same qs h.1)

  same_cases : QueryTreeCases QuerySame SourceSame
  same_cases = record {
    block = λ b ss.
        ap (λ (r : Resolved). query_sources r.query) (block_at relations b)
        ∙ (block_same (record { distinct = (out-BlockTree b).distinct; items = (out-BlockTree b).items; sources = map (resolved_joined relations) (out-BlockTree b).sources; filter = (out-BlockTree b).filter; group = (out-BlockTree b).group; having = (out-BlockTree b).having })
        ∙ (sources_same (out-BlockTree b).sources ss ∙ sym (sources-Tree b)));
    chain = λ q rest h hs.
        ap (λ (r : Resolved). query_sources r.query) (resolved-Chain relations q rest)
        ∙ (query-Chain (resolved relations q).query (map (λ s. roll-SetStep (record { op = s.0; query = s.1.query })) (map (resolved_step relations) rest))
        ∙ omega (arith, h, steps_same rest hs, sources-Chain q rest));
    intersect = λ qs hs.
        ap (λ (r : Resolved). query_sources r.query) (resolved-Intersect relations qs)
        ∙ (query-Intersect (map (λ m. m.query) (map (resolved relations) qs)) ∙ (members_same qs hs ∙ sym (sources-Intersect qs)));
    relation = λ name alias.
        ap (λ s. origin_sources s.origin) (source-Relation relations name alias)
        ∙ (origin-Relation (unwrap_or (place_of name relations) 0) ∙ sym (relation_has name alias));
    of_query = λ q alias h.
        ap (λ s. origin_sources s.origin) (source-Query relations q alias)
        ∙ (origin-Query (resolved relations q).query ∙ (ap suc h ∙ sym (query_has q alias)));
  }

  pub query_same : (q : QueryTree) → query_sources (resolved relations q).query ≡ sources_of q
  query_same = each_query_tree QuerySame SourceSame same_cases

-- ---- programs

one_behind : (qs : List Query) (q : Query) → sum (map query_sources (qs ++ q ∷ [])) ≡ sum (map query_sources qs) + query_sources q
one_behind [] q = omega arith
one_behind (r ∷ qs) q = omega (arith, one_behind qs q)

body_adds : (p : Meant) (b : Body) → sources_in (with_body p b) ≡ sources_in p + body_sources b
body_adds p (body.Table name columns) = omega arith
body_adds p (body.View name flavour q) = omega (arith, one_behind p.queries (resolved p.catalog q).query, query_same p.catalog q)

all_add : (p : Meant) (ss : List Statement) → sources_in (fold (λ p s. with_body p s.body) p ss) ≡ sources_in p + program_sources ss
all_add p [] = omega arith
all_add p (s ∷ ss) = omega (arith, body_adds p s.body, all_add (with_body p s.body) ss)

-- a program has as many sources as its statements
pub as_many_sources : (statements : List Statement) (program : Meant) → Typed statements program → sources_in program ≡ program_sources statements
as_many_sources statements program is = ap sources_in is ∙ (all_add (record { catalog = []; queries = [] }) statements ∙ omega arith)
