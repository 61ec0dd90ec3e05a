-- The sources of a query, one equation for each form of it, and that they are at most half as many as its tokens.
use Rattle.std.specs.Prelude.{◌≡◌, ℕ, suc, ◌+◌, ◌*◌, ◌≤◌, Bool, List, [], ◌∷◌, ◌++◌, length, map, Option, refl}
use Rattle.std.proofs.Common.{ap, sym, ◌∙◌, arith}
use Rattle.sq_token.specs.declared.token.Token.{Token}
use Rattle.sq_ast.specs.declared.cond.CondTree.{CondTree}
use Rattle.sq_ast.specs.declared.expr.ColRef.{ColRef}
use Rattle.sq_ast.specs.declared.query.BlockTree.{BlockTree, out-BlockTree, roll-BlockTree, out-roll-BlockTree}
use Rattle.sq_ast.specs.declared.query.ItemTree.{ItemTree}
use Rattle.sq_ast.specs.declared.query.JoinTree.{JoinTree}
use Rattle.sq_ast.specs.declared.query.JoinTree.TheVariants as join
use Rattle.sq_ast.specs.declared.query.JoinedTree.{JoinedTree, out-roll-JoinedTree}
use Rattle.sq_ast.specs.declared.query.QueryTree.{QueryTree, roll-QueryTree}
use Rattle.sq_ast.specs.declared.query.QueryTree.TheFolds.{fold-SourceTree, fold-BlockTree, fold-JoinedTree, fold-StepTree, map-QueryTree, map-SourceTree, fold-roll-QueryTree, fold-roll-SourceTree, fold_out-BlockTree, fold_out-JoinedTree, fold_out-StepTree}
use Rattle.sq_ast.specs.declared.query.QueryTree.TheOpen.{QueryTree-F, SourceTree-F}
use Rattle.sq_ast.specs.declared.query.QueryTree.TheVariants as query
use Rattle.sq_ast.specs.declared.query.SetOp.{SetOp}
use Rattle.sq_ast.specs.declared.query.SourceTree.{SourceTree, roll-SourceTree}
use Rattle.sq_ast.specs.declared.query.SourceTree.TheVariants as source
use Rattle.sq_ast.specs.declared.query.StepTree.{StepTree, out-roll-StepTree}
use Rattle.sq_ast.specs.declared.statement.Body.{Body}
use Rattle.sq_ast.specs.declared.statement.Statement.{Statement}
use Rattle.sq_ast.specs.Sources.{sum, in_query, in_source, in_block, in_joined, in_step, sources_of, body_sources, program_sources}
use Rattle.sq_ast.specs.Spelling as s
use Rattle.sq_ast.specs.Spelling.{SpellsComma, SpellsJoin, SpellsLeftJoin, SpellsSelect, SpellsSetOp, SpellsIntersect, SpellsQuery, SpellsSteps, SpellsTerm, SpellsOperands, SpellsOperand, SpellsSource, SpellsJoined, SpellsBody, SpellsPlace, SpellsFrom, Spells, kinds}
use Rattle.sq_ast.specs.Trees.{joined, step, block_of, chain_of, intersect_of}
use Rattle.sq_ast.specs.Words as w
use Rattle.sq_ast.specs.Words.{Tokens, Text}
use Rattle.sq_ast.proofs.Taken.{shorter, alias_taken, maybe_alias_taken, cond_taken, item_taken, items_taken, where_taken, group_taken, having_taken, flavour_taken}

-- ---- what the parts of a query have

pub source_sources : SourceTree → ℕ
source_sources s = fold-SourceTree ℕ ℕ ℕ ℕ ℕ in_query in_source in_block in_joined in_step s

block_sources : BlockTree → ℕ
block_sources b = fold-BlockTree ℕ ℕ ℕ ℕ ℕ in_query in_source in_block in_joined in_step b

pub joined_sources : JoinedTree → ℕ
joined_sources j = fold-JoinedTree ℕ ℕ ℕ ℕ ℕ in_query in_source in_block in_joined in_step j

pub step_sources : StepTree → ℕ
step_sources s = fold-StepTree ℕ ℕ ℕ ℕ ℕ in_query in_source in_block in_joined in_step s

query_rolls : (x : QueryTree-F QueryTree SourceTree BlockTree JoinedTree StepTree) →
    sources_of (roll-QueryTree x) ≡ in_query (map-QueryTree QueryTree SourceTree BlockTree JoinedTree StepTree ℕ ℕ ℕ ℕ ℕ sources_of source_sources block_sources joined_sources step_sources x)
unfolding sources_of source_sources block_sources joined_sources step_sources
query_rolls x = fold-roll-QueryTree ℕ ℕ ℕ ℕ ℕ in_query in_source in_block in_joined in_step x

source_rolls : (x : SourceTree-F QueryTree SourceTree BlockTree JoinedTree StepTree) →
    source_sources (roll-SourceTree x) ≡ in_source (map-SourceTree QueryTree SourceTree BlockTree JoinedTree StepTree ℕ ℕ ℕ ℕ ℕ sources_of source_sources block_sources joined_sources step_sources x)
unfolding sources_of source_sources block_sources joined_sources step_sources
source_rolls x = fold-roll-SourceTree ℕ ℕ ℕ ℕ ℕ in_query in_source in_block in_joined in_step x

block_out : (b : BlockTree) → block_sources b ≡ sum (map joined_sources (out-BlockTree b).sources)
unfolding block_sources joined_sources
block_out b = fold_out-BlockTree ℕ ℕ ℕ ℕ ℕ in_query in_source in_block in_joined in_step b

pub sources-Tree : (b : BlockTree) → sources_of (query.Block b) ≡ sum (map joined_sources (out-BlockTree b).sources)
sources-Tree b = ap sources_of (sym (query.rolls-Block b)) ∙ (query_rolls (QueryTree-F.Block b) ∙ block_out b)

pub joined_out : (j : JoinedTree) → joined_sources j ≡ source_sources j.source
unfolding joined_sources source_sources
joined_out j = fold_out-JoinedTree ℕ ℕ ℕ ℕ ℕ in_query in_source in_block in_joined in_step j

pub step_out : (s : StepTree) → step_sources s ≡ sources_of s.query
unfolding sources_of step_sources
step_out s = fold_out-StepTree ℕ ℕ ℕ ℕ ℕ in_query in_source in_block in_joined in_step s

joined_has : (how : JoinTree) (from : SourceTree) → joined_sources (joined how from) ≡ source_sources from
joined_has how from = joined_out (joined how from) ∙ ap (λ j. source_sources j.source) (out-roll-JoinedTree (record { join = how; source = from }))

step_has : (op : SetOp) (q : QueryTree) → step_sources (step op q) ≡ sources_of q
step_has op q = step_out (step op q) ∙ ap (λ s. sources_of s.query) (out-roll-StepTree (record { op = op; query = q }))

pub relation_has : (name : Text) (alias : Option Text) → source_sources (source.Relation name alias) ≡ 1
relation_has name alias = ap source_sources (sym (source.rolls-Relation name alias)) ∙ source_rolls (SourceTree-F.Relation name alias)

pub query_has : (q : QueryTree) (alias : Text) → source_sources (source.Query q alias) ≡ suc (sources_of q)
query_has q alias = ap source_sources (sym (source.rolls-Query q alias)) ∙ source_rolls (SourceTree-F.Query q alias)

sources-Block : (distinct : Bool) (items : List ItemTree) (js : List JoinedTree) (filter : Option CondTree) (group : List ColRef) (having : Option CondTree) →
    sources_of (block_of distinct items js filter group having) ≡ sum (map joined_sources js)
sources-Block distinct items js filter group having =
    sources-Tree (roll-BlockTree (record { distinct = distinct; items = items; sources = js; filter = filter; group = group; having = having })) ∙
    ap (λ b. sum (map joined_sources b.sources)) (out-roll-BlockTree (record { distinct = distinct; items = items; sources = js; filter = filter; group = group; having = having }))

pub sources-Chain : (first : QueryTree) (rest : List StepTree) → sources_of (query.Chain first rest) ≡ sources_of first + sum (map step_sources rest)
sources-Chain first rest = ap sources_of (sym (query.rolls-Chain first rest)) ∙ query_rolls (QueryTree-F.Chain first rest)

pub sources-Intersect : (members : List QueryTree) → sources_of (query.Intersect members) ≡ sum (map sources_of members)
sources-Intersect members = ap sources_of (sym (query.rolls-Intersect members)) ∙ query_rolls (QueryTree-F.Intersect members)

chain_has : (first : QueryTree) (rest : List StepTree) → sources_of (chain_of first rest) ≡ sources_of first + sum (map step_sources rest)
unfolding chain_of
chain_has first [] = omega arith
chain_has first (second ∷ more) = sources-Chain first (second ∷ more)

intersect_has : (first : QueryTree) (rest : List QueryTree) → sources_of (intersect_of first rest) ≡ sources_of first + sum (map sources_of rest)
unfolding intersect_of
intersect_has first [] = omega arith
intersect_has first (second ∷ more) = sources-Intersect (first ∷ second ∷ more)

-- ---- at most half as many as the tokens

select_less : {ts rest : Tokens} {b : Bool} → SpellsSelect ts b rest → length rest ≤ length ts
select_less s.select = omega arith
select_less s.select_all = omega arith
select_less s.select_distinct = omega arith

set_op_less : {ts rest : Tokens} {op : SetOp} → SpellsSetOp ts op rest → length rest ≤ length ts
set_op_less s.union = omega arith
set_op_less s.union_all = omega arith
set_op_less s.union_distinct = omega arith
set_op_less s.except = omega arith
set_op_less s.except_distinct = omega arith

intersect_less : {ts rest : Tokens} → SpellsIntersect ts rest → length rest ≤ length ts
intersect_less s.intersect = omega arith
intersect_less s.intersect_distinct = omega arith

comma_less : {ts rest : Tokens} → SpellsComma ts rest → suc (length rest) ≤ length ts
comma_less s.comma = omega arith
comma_less s.cross_join = omega arith

join_less : {ts rest : Tokens} → SpellsJoin ts rest → suc (length rest) ≤ length ts
join_less s.plain_join = omega arith
join_less s.inner_join = omega arith

left_join_less : {ts rest : Tokens} → SpellsLeftJoin ts rest → suc (length rest) ≤ length ts
left_join_less s.left_join = omega arith
left_join_less s.left_outer_join = omega arith

mutual
  query_few : {ts rest : Tokens} {q : QueryTree} → SpellsQuery ts q rest → 2 * sources_of q + length rest ≤ length ts
  query_few (s.chain {ts} {mid} {rest} {first} {more} d ds) = omega (arith, term_few d, steps_few ds, chain_has first more)

  steps_few : {ts rest : Tokens} {qs : List StepTree} → SpellsSteps ts qs rest → 2 * sum (map step_sources qs) + length rest ≤ length ts
  steps_few s.no_step = omega arith
  steps_few (s.a_step {ts} {us} {mid} {rest} {op} {q} {more} o d ds) = omega (arith, set_op_less o, term_few d, steps_few ds, step_has op q)

  term_few : {ts rest : Tokens} {q : QueryTree} → SpellsTerm ts q rest → 2 * sources_of q + length rest ≤ length ts
  term_few (s.intersection {ts} {mid} {rest} {first} {more} d ds) = omega (arith, operand_few d, operands_few ds, intersect_has first more)

  operands_few : {ts rest : Tokens} {qs : List QueryTree} → SpellsOperands ts qs rest → 2 * sum (map sources_of qs) + length rest ≤ length ts
  operands_few s.no_operand = omega arith
  operands_few (s.an_operand i d ds) = omega (arith, intersect_less i, operand_few d, operands_few ds)

  operand_few : {ts rest : Tokens} {q : QueryTree} → SpellsOperand ts q rest → 2 * sources_of q + length rest ≤ length ts
  operand_few (s.block {ts} {items} {more_items} {sources} {more_sources} {filtered} {grouped} {had} {rest} {distinct} {i} {is} {s = src} {js} {filter} {having} {group} begun item more_of first others where_ group_ had_) =
      omega (
        arith,
        select_less begun,
        shorter (item_taken item),
        shorter (items_taken more_of),
        source_few first,
        joined_few others,
        shorter (where_taken where_),
        shorter (group_taken group_),
        shorter (having_taken had_),
        sources-Block distinct (i ∷ is) (joined join.Comma src ∷ js) filter group having,
        joined_has join.Comma src,
      )
  operand_few (s.nested_query d) = omega (arith, query_few d)

  source_few : {ts rest : Tokens} {src : SourceTree} → SpellsSource ts src rest → 2 * source_sources src + length rest ≤ suc (length ts)
  source_few (s.relation {t} {name} {alias} n a) = omega (arith, relation_has name alias, shorter (maybe_alias_taken a))
  source_few (s.derived {ts} {mid} {rest} {q} {alias} d a) = omega (arith, query_has q alias, query_few d, shorter (alias_taken a))

  joined_few : {ts rest : Tokens} {js : List JoinedTree} → SpellsJoined ts js rest → 2 * sum (map joined_sources js) + length rest ≤ length ts
  joined_few s.no_source = omega arith
  joined_few (s.every_pair {ts} {us} {mid} {rest} {s = src} {more} c d ds) = omega (arith, comma_less c, source_few d, joined_few ds, joined_has join.Comma src)
  joined_few (s.inner {ts} {us} {on} {mid} {rest} {s = src} {c} {more} j d e ds) = omega (arith, join_less j, source_few d, shorter (cond_taken e), joined_few ds, joined_has (join.Inner c) src)
  joined_few (s.left {ts} {us} {on} {mid} {rest} {s = src} {c} {more} j d e ds) = omega (arith, left_join_less j, source_few d, shorter (cond_taken e), joined_few ds, joined_has (join.Left c) src)

pub body_few : {ts rest : Tokens} {b : Body} → SpellsBody ts b rest → 2 * body_sources b ≤ length ts
body_few (s.table n c cs) = omega arith
body_few (s.view n f d) = omega (arith, shorter (flavour_taken n), query_few d)

-- ---- programs

both_have : (xs ys : List Statement) → program_sources (xs ++ ys) ≡ program_sources xs + program_sources ys
both_have [] ys = omega arith
both_have (x ∷ xs) ys = omega (arith, both_have xs ys)

place_few : {n : ℕ} {ts : Tokens} {found : List Statement} → SpellsPlace n ts found → 2 * program_sources found ≤ length ts
place_few s.empty_place = omega arith
place_few (s.statement d shallow) = omega (arith, body_few d)

behind_all : {A : Type 0} (xs : List A) (x : A) (ys : List A) → length (xs ++ x ∷ ys) ≡ length xs + suc (length ys)
behind_all [] x ys = omega arith
behind_all (y ∷ xs) x ys = omega (arith, behind_all xs x ys)

places_few : {n : ℕ} {ts : Tokens} {found : List Statement} → SpellsFrom n ts found → 2 * program_sources found ≤ length ts
places_few (s.last_place d) = place_few d
places_few (s.more_places {n} {ts} {rest} {found} {more} d ds) = omega (arith, place_few d, places_few ds, both_have found more, behind_all ts w.SEMICOLON rest)

as_long : (tokens : List Token) → length (kinds tokens) ≡ length tokens
as_long [] = refl
as_long (t ∷ ts) = omega (arith, as_long ts)

-- the sources of all queries of a program are at most half as many as its tokens
pub few_sources : (tokens : List Token) (statements : List Statement) → Spells tokens statements → 2 * program_sources statements ≤ length tokens
few_sources tokens statements d = omega (arith, places_few d, as_long tokens)
