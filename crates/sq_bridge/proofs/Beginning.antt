-- Each block of a checked program begins with a comma.
use Rattle.std.proofs.Common.{◌≡◌, ℕ, List, [], ◌∷◌, ◌++◌, fold, map, Bool, true, ◌&&◌, refl, sym, ap, ap₂, subst, ◌∙◌}
use Rattle.std.specs.Prelude.{option_map, unwrap_or}
use Rattle.std.specs.List.{AllByRecursion, list_all}
use Rattle.sq_ast.specs.Spelling as by
use Rattle.sq_ast.specs.Spelling.{SpellsBody, SpellsJoined, SpellsOperand, SpellsOperands, SpellsQuery, SpellsSource, SpellsSteps, SpellsTerm}
use Rattle.sq_ast.specs.Trees.{chain_of, intersect_of, joined, step}
use Rattle.sq_ast.specs.Words.{Tokens}
use Rattle.sq_ast.specs.declared.query.JoinTree.{JoinTree}
use Rattle.sq_ast.specs.declared.query.JoinTree.TheVariants as join
use Rattle.sq_ast.specs.declared.query.JoinedTree.{JoinedTree}
use Rattle.sq_ast.specs.declared.query.QueryTree.{QueryTree}
use Rattle.sq_ast.specs.declared.query.QueryTree.TheOpen.{BlockTree-F}
use Rattle.sq_ast.specs.declared.query.SetOp.{SetOp}
use Rattle.sq_ast.specs.declared.query.SourceTree.{SourceTree}
use Rattle.sq_ast.specs.declared.query.StepTree.{StepTree}
use Rattle.sq_ast.specs.declared.statement.Body.{Body}
use Rattle.sq_ast.specs.declared.statement.Statement.{Statement}
use Rattle.sq_catalog.specs.declared.relation.Relation.{Relation}
use Rattle.sq_expr.proofs.Lists.{all_append, all_at, all_over, all_pass, all_passed, all_weaker}
use Rattle.sq_typed.specs.declared.query.Block.{Block, out-Block, roll-Block, out-roll-Block}
use Rattle.sq_typed.specs.declared.query.FromItem.{FromItem, out-roll-FromItem}
use Rattle.sq_typed.specs.declared.query.Origin.{Origin, roll-Origin}
use Rattle.sq_typed.specs.declared.query.Origin.TheVariants as origin
use Rattle.sq_typed.specs.declared.query.Origin.TheFolds.{fold-Block, fold-SetStep, map-Query, map-Origin, fold-roll-Query, fold-roll-Origin, fold_out-Block, fold_out-FromItem, fold_out-SetStep}
use Rattle.sq_typed.specs.declared.query.Origin.TheOpen.{Block-F, Query-F, Origin-F}
use Rattle.sq_typed.specs.declared.query.Query.{Query, roll-Query}
use Rattle.sq_typed.specs.declared.query.Query.TheVariants as query
use Rattle.sq_typed.specs.declared.query.SetStep.{SetStep, roll-SetStep, out-roll-SetStep}
use Rattle.sq_catalog.specs.Names.{place_of}
use Rattle.sq_typed.specs.Checked.{IsChecked, Spelling}
use Rattle.sq_typed.specs.Numbered.{row_cond}
use Rattle.sq_typed.specs.Programs.{with_body}
use Rattle.sq_typed.specs.Selected.{chosen, grouping, item_expr}
use Rattle.sq_typed.specs.Resolved.{Joined, Resolved, Source, each_join, of_block, resolved, scoped, typed_join, typed_source}
use Rattle.sq_typed.specs.Scopes.{Scope}
use Rattle.sq_typed.specs.Views.{Meant}
use Rattle.sq_typed.specs.Within.{BlockOf, First, InFrom, It, Later, Member}
use Rattle.sq_typed.proofs.ColumnLemmas.{map_alike}
use Rattle.sq_typed.proofs.QueryEquations.{joined-is, resolved-Block, resolved-Chain, resolved-Intersect, resolved_joined, resolved_source, resolved_step, source-Query, source-Relation, step-is}
use Rattle.sq_typed.proofs.Tests.{and_left, and_right}
use Rattle.sq_bridge.specs.Beginnings.{Start, first_starts, origin_starts, source_starts, starts, starts_by_block, starts_by_origin, starts_by_query, starts_by_source}
use Rattle.sq_bridge.specs.Meaning.{Begins, begins, is_comma}

-- ---- the test, form by form

step_starts : SetStep → Bool
step_starts s = fold-SetStep Bool Bool Bool Start Bool starts_by_origin starts_by_query starts_by_block starts_by_source (λ s. s.query) s

block_starts : Block → Bool
block_starts b = fold-Block Bool Bool Bool Start Bool starts_by_origin starts_by_query starts_by_block starts_by_source (λ s. s.query) b

query_rolls : (x : Query-F Origin Query Block FromItem SetStep) → starts (roll-Query x) ≡ starts_by_query (map-Query Origin Query Block FromItem SetStep Bool Bool Bool Start Bool origin_starts starts block_starts source_starts step_starts x)
unfolding starts origin_starts block_starts source_starts step_starts
query_rolls x = fold-roll-Query Bool Bool Bool Start Bool starts_by_origin starts_by_query starts_by_block starts_by_source (λ s. s.query) x

origin_rolls : (x : Origin-F Origin Query Block FromItem SetStep) → origin_starts (roll-Origin x) ≡ starts_by_origin (map-Origin Origin Query Block FromItem SetStep Bool Bool Bool Start Bool origin_starts starts block_starts source_starts step_starts x)
unfolding starts origin_starts block_starts source_starts step_starts
origin_rolls x = fold-roll-Origin Bool Bool Bool Start Bool starts_by_origin starts_by_query starts_by_block starts_by_source (λ s. s.query) x

block_starts-is : (b : Block) → block_starts b ≡ (first_starts (map source_starts (out-Block b).sources) && list_all (λ s. s.1) (map source_starts (out-Block b).sources))
unfolding block_starts source_starts
block_starts-is b = fold_out-Block Bool Bool Bool Start Bool starts_by_origin starts_by_query starts_by_block starts_by_source (λ s. s.query) b

source_starts-is : (s : FromItem) → source_starts s ≡ (is_comma s.join, origin_starts s.source)
unfolding origin_starts source_starts
source_starts-is s = fold_out-FromItem Bool Bool Bool Start Bool starts_by_origin starts_by_query starts_by_block starts_by_source (λ s. s.query) s

step_starts-is : (s : SetStep) → step_starts s ≡ starts s.query
unfolding starts step_starts
step_starts-is s = fold_out-SetStep Bool Bool Bool Start Bool starts_by_origin starts_by_query starts_by_block starts_by_source (λ s. s.query) s

starts-Relation : (n : ℕ) → origin_starts (origin.Relation n) ≡ true
starts-Relation n = ap origin_starts (sym (origin.rolls-Relation n)) ∙ origin_rolls (Origin-F.Relation n)

starts-Query : (q : Query) → origin_starts (origin.Query q) ≡ starts q
starts-Query q = ap origin_starts (sym (origin.rolls-Query q)) ∙ origin_rolls (Origin-F.Query q)

starts-Block : (b : Block) → starts (query.Block b) ≡ (first_starts (map source_starts (out-Block b).sources) && list_all (λ s. s.1) (map source_starts (out-Block b).sources))
starts-Block b = ap starts (sym (query.rolls-Block b)) ∙ query_rolls (Query-F.Block b) ∙ block_starts-is b

starts-Chain : (q : Query) (rest : List SetStep) → starts (query.Chain q rest) ≡ (starts q && list_all (λ b. b) (map (λ s. starts s.query) rest))
starts-Chain q rest =
    ap starts (sym (query.rolls-Chain q rest)) ∙ query_rolls (Query-F.Chain q rest)
    ∙ ap (λ bs. starts q && list_all (λ b. b) bs) (map_alike step_starts (λ s. starts s.query) rest step_starts-is)

starts-Intersect : (qs : List Query) → starts (query.Intersect qs) ≡ list_all (λ b. b) (map starts qs)
starts-Intersect qs = ap starts (sym (query.rolls-Intersect qs)) ∙ query_rolls (Query-F.Intersect qs)

-- ---- what passes the test begins so

first_is : (xs : List FromItem) → first_starts (map source_starts xs) ≡ begins xs
first_is [] = refl
first_is (s ∷ xs) = ap (λ (p : Start). p.0) (source_starts-is s)

pub starting_begins : (q : Query) (b : Block) → BlockOf q b → starts q ≡ true → begins (out-Block b).sources ≡ true
starting_begins _ _ (It b) e =
    let here = sym (starts-Block b) ∙ e in
    sym (first_is (out-Block b).sources) ∙ and_left (first_starts (map source_starts (out-Block b).sources)) (list_all (λ s. s.1) (map source_starts (out-Block b).sources)) here
starting_begins _ _ (InFrom b n s q c at is more) e =
    let here = sym (starts-Block b) ∙ e in
    starting_begins q c more
    (sym (starts-Query q) ∙ ap origin_starts (sym is) ∙ sym (ap (λ (p : Start). p.1) (source_starts-is s))
    ∙ all_at (λ s. (source_starts s).1 ≡ true) (out-Block b).sources n s
    (all_pass (λ p. p.1) source_starts (out-Block b).sources (and_right (first_starts (map source_starts (out-Block b).sources)) (list_all (λ s. s.1) (map source_starts (out-Block b).sources)) here)) at)
starting_begins _ _ (First q rest c more) e = starting_begins q c more (and_left (starts q) (list_all (λ b. b) (map (λ s. starts s.query) rest)) (sym (starts-Chain q rest) ∙ e))
starting_begins _ _ (Later q rest n s c at more) e =
    starting_begins s.query c more
    (all_at (λ s. starts s.query ≡ true) rest n s (all_pass (λ b. b) (λ s. starts s.query) rest (and_right (starts q) (list_all (λ b. b) (map (λ s. starts s.query) rest)) (sym (starts-Chain q rest) ∙ e))) at)
starting_begins _ _ (Member qs n q c at more) e =
    starting_begins q c more (all_at (λ q. starts q ≡ true) qs n q (all_pass (λ b. b) starts qs (sym (starts-Intersect qs) ∙ e)) at)

-- ---- what is spelled passes the test

-- a source that is made of a joined one
abbrev Starts : Bool → Type 0
Starts b = b ≡ true

source_made : (scope : Scope) (j : Joined) → source_starts (typed_source scope j) ≡ (is_comma (typed_join scope j.join), origin_starts j.source.origin)
source_made scope j =
    source_starts-is (typed_source scope j)
    ∙ ap (λ s. (is_comma s.join, origin_starts s.source)) (out-roll-FromItem (record { join = typed_join scope j.join; source = j.source.origin }))

sources_made : (before : Scope) (js : List Joined) → AllByRecursion (λ j. Starts (origin_starts j.source.origin)) js → list_all (λ s. s.1) (map source_starts (each_join typed_source before js)) ≡ true
sources_made before [] h = refl
sources_made before (j ∷ js) h =
    ap₂ (λ a b. a && b) (ap (λ (p : Start). p.1) (source_made (before ++ j.source.named ∷ []) j) ∙ h.0) (sources_made (before ++ j.source.named ∷ []) js h.1)

module _ (relations : List Relation) where
  abbrev Good : Resolved → Type 0
  Good r = Starts (starts r.query)

  abbrev SourceGood : Source → Type 0
  SourceGood f = Starts (origin_starts f.origin)

  abbrev JoinedGood : JoinedTree → Type 0
  JoinedGood j = SourceGood (resolved_joined relations j).source

  abbrev StepGood : StepTree → Type 0
  StepGood t = Good (resolved_step relations t).1

  joined_good : (how : JoinTree) (from : SourceTree) → SourceGood (resolved_source relations from) → JoinedGood (joined how from)
  joined_good how from h = subst (λ (x : Joined). SourceGood x.source) (sym (joined-is relations how from)) h

  step_good : (op : SetOp) (q : QueryTree) → Good (resolved relations q) → StepGood (step op q)
  step_good op q h = subst (λ (x : SetOp × Resolved). Good x.1) (sym (step-is relations op q)) h

  -- a block whose first source is joined by a comma
  rolled : (r : Block-F Origin Query Block FromItem SetStep) → starts (query.Block (roll-Block r)) ≡ (first_starts (map source_starts r.sources) && list_all (λ s. s.1) (map source_starts r.sources))
  rolled r = starts-Block (roll-Block r) ∙ ap (λ (x : Block-F Origin Query Block FromItem SetStep). first_starts (map source_starts x.sources) && list_all (λ s. s.1) (map source_starts x.sources)) (out-roll-Block r)

  block_good : (b : BlockTree-F Resolved Source Resolved Joined (SetOp × Resolved)) (first : Joined) (js : List Joined) → b.sources ≡ first ∷ js → first.join ≡ join.Comma → AllByRecursion (λ j. SourceGood j.source) (first ∷ js) → Good (of_block relations b)
  block_good b first js is comma h =
      rolled (record {
        distinct = b.distinct;
        sources = each_join typed_source [] b.sources;
        filter = option_map (row_cond (scoped b).scope) (scoped b).filter;
        grouping = grouping (scoped b);
        items = map (item_expr (scoped b)) (chosen (scoped b));
      })
      ∙ ap (λ js. first_starts (map source_starts (each_join typed_source [] js)) && list_all (λ s. s.1) (map source_starts (each_join typed_source [] js))) is
      ∙ ap₂ (λ x y. x && y)
      (ap (λ (p : Start). p.0) (source_made (first.source.named ∷ []) first) ∙ ap (λ how. is_comma (typed_join (first.source.named ∷ []) how)) comma)
      (sources_made [] (first ∷ js) h)

  abbrev made_step : SetOp × Resolved → SetStep
  made_step s = roll-SetStep (record { op = s.0; query = s.1.query })

  steps_good : (rs : List (SetOp × Resolved)) → AllByRecursion (λ s. Good s.1) rs → AllByRecursion (λ s. starts s.query ≡ true) (map made_step rs)
  steps_good [] h = tt
  steps_good (r ∷ rs) h = (ap (λ s. starts s.query) (out-roll-SetStep (record { op = r.0; query = r.1.query })) ∙ h.0, steps_good rs h.1)

  chain_good : (first : QueryTree) (more : List StepTree) → Good (resolved relations first) → AllByRecursion StepGood more → Good (resolved relations (chain_of first more))
  unfolding chain_of
  chain_good first [] h hs = h
  chain_good first (second ∷ more) h hs = subst Good (sym (resolved-Chain relations first (second ∷ more)))
      (starts-Chain (resolved relations first).query (map made_step (map (resolved_step relations) (second ∷ more)))
      ∙ ap₂ (λ x y. x && y) h
      (all_passed (λ b. b) (λ s. starts s.query) (map made_step (map (resolved_step relations) (second ∷ more)))
      (steps_good (map (resolved_step relations) (second ∷ more)) (all_over (λ s. Good s.1) (resolved_step relations) (second ∷ more) hs))))

  intersect_good : (first : QueryTree) (more : List QueryTree) → Good (resolved relations first) → AllByRecursion (λ q. Good (resolved relations q)) more → Good (resolved relations (intersect_of first more))
  unfolding intersect_of
  intersect_good first [] h hs = h
  intersect_good first (second ∷ more) h hs = subst Good (sym (resolved-Intersect relations (first ∷ second ∷ more)))
      (starts-Intersect (map (λ m. m.query) (map (resolved relations) (first ∷ second ∷ more)))
      ∙ all_passed (λ b. b) starts (map (λ m. m.query) (map (resolved relations) (first ∷ second ∷ more)))
      (all_over (λ q. starts q ≡ true) (λ m. m.query) (map (resolved relations) (first ∷ second ∷ more)) (all_over Good (resolved relations) (first ∷ second ∷ more) (h, hs))))

  mutual
    query_spelled : {ts rest : Tokens} {q : QueryTree} → SpellsQuery ts q rest → Good (resolved relations q)
    query_spelled (by.chain {ts} {mid} {rest} {first} {more} p t) = chain_good first more (operands_term p) (steps_spelled t)

    steps_spelled : {ts rest : Tokens} {more : List StepTree} → SpellsSteps ts more rest → AllByRecursion StepGood more
    steps_spelled by.no_step = tt
    steps_spelled (by.a_step {ts} {us} {mid} {rest} {op} {q} {more} o p t) = (step_good op q (operands_term p), steps_spelled t)

    operands_term : {ts rest : Tokens} {q : QueryTree} → SpellsTerm ts q rest → Good (resolved relations q)
    operands_term (by.intersection {ts} {mid} {rest} {first} {more} p t) = intersect_good first more (operand_spelled p) (operands_spelled t)

    operands_spelled : {ts rest : Tokens} {more : List QueryTree} → SpellsOperands ts more rest → AllByRecursion (λ q. Good (resolved relations q)) more
    operands_spelled by.no_operand = tt
    operands_spelled (by.an_operand o p t) = (operand_spelled p, operands_spelled t)

    operand_spelled : {ts rest : Tokens} {q : QueryTree} → SpellsOperand ts q rest → Good (resolved relations q)
    operand_spelled (by.block {ts} {items} {more_items} {sources} {more_sources} {filtered} {grouped} {had} {rest} {distinct} {i} {is} {s} {js} {filter} {having} {group} sel p t from j wh g h) =
        subst Good (sym (resolved-Block relations distinct (i ∷ is) (joined join.Comma s ∷ js) filter group having))
        (block_good (record { distinct = distinct; items = i ∷ is; sources = map (resolved_joined relations) (joined join.Comma s ∷ js); filter = filter; group = group; having = having })
        (resolved_joined relations (joined join.Comma s)) (map (resolved_joined relations) js) refl (ap (λ (x : Joined). x.join) (joined-is relations join.Comma s))
        (joined_good join.Comma s (source_spelled from), all_over (λ x. SourceGood x.source) (resolved_joined relations) js (joined_spelled j)))
    operand_spelled (by.nested_query p) = query_spelled p

    source_spelled : {ts rest : Tokens} {f : SourceTree} → SpellsSource ts f rest → SourceGood (resolved_source relations f)
    source_spelled (by.relation {t} {name} {alias} {ts} {rest} n a) = subst SourceGood (sym (source-Relation relations name alias)) (starts-Relation (unwrap_or (place_of name relations) 0))
    source_spelled (by.derived {ts} {mid} {rest} {q} {alias} p a) = subst SourceGood (sym (source-Query relations q alias)) (starts-Query (resolved relations q).query ∙ query_spelled p)

    joined_spelled : {ts rest : Tokens} {js : List JoinedTree} → SpellsJoined ts js rest → AllByRecursion JoinedGood js
    joined_spelled by.no_source = tt
    joined_spelled (by.every_pair {ts} {us} {mid} {rest} {s} {more} c p t) = (joined_good join.Comma s (source_spelled p), joined_spelled t)
    joined_spelled (by.inner {ts} {us} {on} {mid} {rest} {s} {c} {more} j p o t) = (joined_good (join.Inner c) s (source_spelled p), joined_spelled t)
    joined_spelled (by.left {ts} {us} {on} {mid} {rest} {s} {c} {more} j p o t) = (joined_good (join.Left c) s (source_spelled p), joined_spelled t)

-- ---- programs

abbrev Passes : Query → Type 0
Passes q = starts q ≡ true

abbrev Extends : Body → Type 0
Extends b = (p : Meant) → AllByRecursion Passes p.queries → AllByRecursion Passes (with_body p b).queries

body_spelled : {ts rest : Tokens} {b : Body} → SpellsBody ts b rest → Extends b
body_spelled (by.table n c t) p h = h
body_spelled (by.view {q = q} f n spelled) p h = all_append Passes p.queries ((resolved p.catalog q).query ∷ []) h (query_spelled p.catalog spelled, tt)

all_pass_from : (ss : List Statement) (p : Meant) → AllByRecursion Spelling ss → AllByRecursion Passes p.queries → AllByRecursion Passes (fold (λ p (s : Statement). with_body p s.body) p ss).queries
all_pass_from [] p hs h = h
all_pass_from (s ∷ ss) p hs h = all_pass_from ss (with_body p s.body) hs.1 (body_spelled hs.0.spelled p h)

pub checked_begins : (p : Meant) → IsChecked p → AllByRecursion Begins p.queries
checked_begins p c =
    all_weaker Passes Begins p.queries (λ q e b within. starting_begins q b within e)
    (subst (λ (p : Meant). AllByRecursion Passes p.queries) (sym c.typed) (all_pass_from c.statements (record { catalog = []; queries = [] }) c.spelled tt))
