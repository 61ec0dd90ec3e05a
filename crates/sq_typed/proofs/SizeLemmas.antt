-- The size of a query, one equation for each form of it, and that it is at most 32 times the number of its tokens.
use Rattle.std.proofs.Common.{◌≡◌, ℕ, suc, ◌+◌, ◌*◌, ◌≤◌, Bool, true, false, List, [], ◌∷◌, ◌++◌, map, length, refl, ap, sym, ◌∙◌, arith}
use Rattle.std.specs.Prelude.{Option}
use Rattle.std.specs.List.{flat_map}
use Rattle.std.proofs.lemmas.List.{length-append}
use Rattle.sq_ast.specs.Sources.{sum, in_query, in_joined, in_step}
use Rattle.sq_ast.specs.Spelling as s
use Rattle.sq_ast.specs.Spelling.{SpellsColRef, SpellsExpr, SpellsTerms, SpellsProduct, SpellsFactors, SpellsSign, SpellsPrim, SpellsCond, SpellsOrs, SpellsConj, SpellsAnds, SpellsNeg, SpellsTest, SpellsItem, SpellsItems, SpellsColRefs, SpellsWhere, SpellsGroup, SpellsHaving, SpellsSelect, SpellsComma, SpellsJoin, SpellsLeftJoin, SpellsQuery, SpellsSteps, SpellsTerm, SpellsOperands, SpellsOperand, SpellsSource, SpellsJoined}
use Rattle.sq_ast.specs.Trees.{term, joined, step, block_of, sum_of, product_of, any_of, all_of, chain_of, intersect_of}
use Rattle.sq_ast.specs.Words.{Tokens, Text}
use Rattle.sq_ast.specs.declared.cond.CondTree.{CondTree}
use Rattle.sq_ast.specs.declared.expr.ColRef.{ColRef}
use Rattle.sq_ast.specs.declared.expr.ExprTree.{ExprTree}
use Rattle.sq_ast.specs.declared.expr.FuncTree.TheVariants.{Count}
use Rattle.sq_ast.specs.declared.expr.TermTree.{TermTree, out-roll-TermTree}
use Rattle.sq_ast.specs.declared.query.BlockTree.{BlockTree, out-BlockTree, roll-BlockTree, out-roll-BlockTree}
use Rattle.sq_ast.specs.declared.query.ItemTree.{ItemTree}
use Rattle.sq_ast.specs.declared.query.JoinTree.{JoinTree}
use Rattle.sq_ast.specs.declared.query.JoinTree.TheVariants as join
use Rattle.sq_ast.specs.declared.query.JoinedTree.{JoinedTree, out-roll-JoinedTree}
use Rattle.sq_ast.specs.declared.query.QueryTree.{QueryTree, roll-QueryTree}
use Rattle.sq_ast.specs.declared.query.QueryTree.TheFolds.{fold-BlockTree, fold-StepTree, map-QueryTree, map-SourceTree, fold-roll-QueryTree, fold-roll-SourceTree, fold_out-BlockTree, fold_out-JoinedTree, fold_out-StepTree}
use Rattle.sq_ast.specs.declared.query.QueryTree.TheOpen.{QueryTree-F, SourceTree-F}
use Rattle.sq_ast.specs.declared.query.QueryTree.TheVariants as query
use Rattle.sq_ast.specs.declared.query.SetOp.{SetOp}
use Rattle.sq_ast.specs.declared.query.SourceTree.{SourceTree, roll-SourceTree}
use Rattle.sq_ast.specs.declared.query.SourceTree.TheVariants as source
use Rattle.sq_ast.specs.declared.query.StepTree.{StepTree, out-roll-StepTree}
use Rattle.sq_ast.proofs.Taken.{shorter, alias_taken, maybe_alias_taken, cond_taken, col_ref_taken, where_taken, set_op_taken, intersect_taken}
use Rattle.sq_typed.specs.Faults.{item_exprs}
use Rattle.sq_typed.specs.Leaves.{Leaf, leaves, exprs_in, exprs_of}
use Rattle.sq_typed.specs.Sizes.{leaf_count, in_source, in_block, size_of, source_size, joined_size}
use Rattle.sq_typed.specs.declared.limits.TheConstants.{MOST_COLUMNS}
use Rattle.sq_typed.proofs.TreeEquations.{leaves-Sum, leaves-Product, leaves-Neg, leaves-Number, leaves-Text, leaves-Column, leaves-CountAll, leaves-Call, exprs-Any, exprs-All, exprs-Not, exprs-Compare, exprs-Null}

-- ---- one equation for each form

block_size : BlockTree → ℕ
block_size b = fold-BlockTree ℕ ℕ ℕ ℕ ℕ in_query in_source in_block in_joined in_step b

step_size : StepTree → ℕ
step_size s = fold-StepTree ℕ ℕ ℕ ℕ ℕ in_query in_source in_block in_joined in_step s

query_rolls : (x : QueryTree-F QueryTree SourceTree BlockTree JoinedTree StepTree) →
    size_of (roll-QueryTree x) ≡ in_query (map-QueryTree QueryTree SourceTree BlockTree JoinedTree StepTree ℕ ℕ ℕ ℕ ℕ size_of source_size block_size joined_size step_size x)
unfolding size_of source_size block_size joined_size step_size
query_rolls x = fold-roll-QueryTree ℕ ℕ ℕ ℕ ℕ in_query in_source in_block in_joined in_step x

source_rolls : (x : SourceTree-F QueryTree SourceTree BlockTree JoinedTree StepTree) →
    source_size (roll-SourceTree x) ≡ in_source (map-SourceTree QueryTree SourceTree BlockTree JoinedTree StepTree ℕ ℕ ℕ ℕ ℕ size_of source_size block_size joined_size step_size x)
unfolding size_of source_size block_size joined_size step_size
source_rolls x = fold-roll-SourceTree ℕ ℕ ℕ ℕ ℕ in_query in_source in_block in_joined in_step x

abbrev opened_size : BlockTree → ℕ
opened_size b = length (out-BlockTree b).items + length (out-BlockTree b).group + leaf_count (out-BlockTree b).items (out-BlockTree b).having + sum (map joined_size (out-BlockTree b).sources)

block_out : (b : BlockTree) → block_size b ≡ opened_size b
unfolding block_size joined_size
block_out b = fold_out-BlockTree ℕ ℕ ℕ ℕ ℕ in_query in_source in_block in_joined in_step b

pub joined_out : (j : JoinedTree) → joined_size j ≡ source_size j.source
unfolding joined_size source_size
joined_out j = fold_out-JoinedTree ℕ ℕ ℕ ℕ ℕ in_query in_source in_block in_joined in_step j

step_out : (s : StepTree) → step_size s ≡ size_of s.query
unfolding size_of step_size
step_out s = fold_out-StepTree ℕ ℕ ℕ ℕ ℕ in_query in_source in_block in_joined in_step s

summed : {A : Type 0} (f g : A → ℕ) (xs : List A) → ((x : A) → f x ≡ g x) → sum (map f xs) ≡ sum (map g xs)
summed f g [] is = refl
summed f g (x ∷ xs) is = omega (arith, is x, summed f g xs is)

pub size-Tree : (b : BlockTree) → size_of (query.Block b) ≡ opened_size b
size-Tree b = ap size_of (sym (query.rolls-Block b)) ∙ (query_rolls (QueryTree-F.Block b) ∙ block_out b)

pub size-Chain : (first : QueryTree) (rest : List StepTree) → size_of (query.Chain first rest) ≡ size_of first + sum (map (λ s. size_of s.query) rest)
size-Chain first rest = ap size_of (sym (query.rolls-Chain first rest)) ∙ (query_rolls (QueryTree-F.Chain first rest) ∙ ap (λ n. size_of first + n) (summed step_size (λ s. size_of s.query) rest step_out))

pub size-Intersect : (members : List QueryTree) → size_of (query.Intersect members) ≡ sum (map size_of members)
size-Intersect members = ap size_of (sym (query.rolls-Intersect members)) ∙ query_rolls (QueryTree-F.Intersect members)

pub size-Relation : (name : Text) (alias : Option Text) → source_size (source.Relation name alias) ≡ MOST_COLUMNS
size-Relation name alias = ap source_size (sym (source.rolls-Relation name alias)) ∙ source_rolls (SourceTree-F.Relation name alias)

pub size-Query : (q : QueryTree) (alias : Text) → source_size (source.Query q alias) ≡ size_of q
size-Query q alias = ap source_size (sym (source.rolls-Query q alias)) ∙ source_rolls (SourceTree-F.Query q alias)

-- ---- leaves are at most as many as tokens

abbrev count : ExprTree → ℕ
count e = length (leaves e)

abbrev cond_count : CondTree → ℕ
cond_count c = length (flat_map leaves (exprs_in c))

terms_count : (ts : List TermTree) → length (flat_map (λ (p : TermTree × List Leaf). p.1) (map (λ t. (t, leaves t.expr)) ts)) ≡ sum (map (λ t. count t.expr) ts)
terms_count [] = refl
terms_count (t ∷ ts) = omega (arith, length-append (leaves t.expr) (flat_map (λ (p : TermTree × List Leaf). p.1) (map (λ t. (t, leaves t.expr)) ts)), terms_count ts)

factors_count : (es : List ExprTree) → length (flat_map (λ (p : ExprTree × List Leaf). p.1) (map (λ e. (e, leaves e)) es)) ≡ sum (map count es)
factors_count [] = refl
factors_count (e ∷ es) = omega (arith, length-append (leaves e) (flat_map (λ (p : ExprTree × List Leaf). p.1) (map (λ e. (e, leaves e)) es)), factors_count es)

over_all : (es fs : List ExprTree) → length (flat_map leaves (es ++ fs)) ≡ length (flat_map leaves es) + length (flat_map leaves fs)
over_all [] fs = omega arith
over_all (e ∷ es) fs = omega (arith, length-append (leaves e) (flat_map leaves (es ++ fs)), length-append (leaves e) (flat_map leaves es), over_all es fs)

conds_count : (cs : List CondTree) → length (flat_map leaves (flat_map (λ es. es) (map exprs_in cs))) ≡ sum (map cond_count cs)
conds_count [] = refl
conds_count (c ∷ cs) = omega (arith, over_all (exprs_in c) (flat_map (λ es. es) (map exprs_in cs)), conds_count cs)

term_count : (minus : Bool) (e : ExprTree) → count (term minus e).expr ≡ count e
term_count minus e = ap (λ t. count t.expr) (out-roll-TermTree (record { minus = minus; expr = e }))

sum_count : (first : ExprTree) (more : List TermTree) → count (sum_of first more) ≡ count first + sum (map (λ t. count t.expr) more)
unfolding sum_of
sum_count first [] = omega arith
sum_count first (second ∷ more) = omega (arith, ap length (leaves-Sum (term false first ∷ second ∷ more)), terms_count (term false first ∷ second ∷ more), term_count false first)

product_count : (first : ExprTree) (more : List ExprTree) → count (product_of first more) ≡ count first + sum (map count more)
unfolding product_of
product_count first [] = omega arith
product_count first (second ∷ more) = omega (arith, ap length (leaves-Product (first ∷ second ∷ more)), factors_count (first ∷ second ∷ more))

any_count : (first : CondTree) (more : List CondTree) → cond_count (any_of first more) ≡ cond_count first + sum (map cond_count more)
unfolding any_of
any_count first [] = omega arith
any_count first (second ∷ more) = omega (arith, ap (λ es. length (flat_map leaves es)) (exprs-Any (first ∷ second ∷ more)), conds_count (first ∷ second ∷ more))

all_count : (first : CondTree) (more : List CondTree) → cond_count (all_of first more) ≡ cond_count first + sum (map cond_count more)
unfolding all_of
all_count first [] = omega arith
all_count first (second ∷ more) = omega (arith, ap (λ es. length (flat_map leaves es)) (exprs-All (first ∷ second ∷ more)), conds_count (first ∷ second ∷ more))

one_taken : {ts rest : Tokens} {c : ColRef} → SpellsColRef ts c rest → suc (length rest) ≤ length ts
one_taken (s.plain_column n) = omega arith
one_taken (s.qualified_column n m) = omega arith

mutual
  expr_few : {ts rest : Tokens} {e : ExprTree} → SpellsExpr ts e rest → count e + length rest ≤ length ts
  expr_few (s.sum {ts} {mid} {rest} {first} {more} d ds) = omega (arith, product_few d, terms_few ds, sum_count first more)

  terms_few : {ts rest : Tokens} {es : List TermTree} → SpellsTerms ts es rest → sum (map (λ t. count t.expr) es) + length rest ≤ length ts
  terms_few s.no_term = omega arith
  terms_few (s.added {e = e} d ds) = omega (arith, product_few d, terms_few ds, term_count false e)
  terms_few (s.subtracted {e = e} d ds) = omega (arith, product_few d, terms_few ds, term_count true e)

  product_few : {ts rest : Tokens} {e : ExprTree} → SpellsProduct ts e rest → count e + length rest ≤ length ts
  product_few (s.product {ts} {mid} {rest} {first} {more} d ds) = omega (arith, sign_few d, factors_few ds, product_count first more)

  factors_few : {ts rest : Tokens} {es : List ExprTree} → SpellsFactors ts es rest → sum (map count es) + length rest ≤ length ts
  factors_few s.no_factor = omega arith
  factors_few (s.factor d ds) = omega (arith, sign_few d, factors_few ds)

  sign_few : {ts rest : Tokens} {e : ExprTree} → SpellsSign ts e rest → count e + length rest ≤ length ts
  sign_few (s.unsigned d) = prim_few d
  sign_few (s.negative {e = e} d) = omega (arith, prim_few d, ap length (leaves-Neg e))

  prim_few : {ts rest : Tokens} {e : ExprTree} → SpellsPrim ts e rest → count e + length rest ≤ length ts
  prim_few (s.number {n}) = omega (arith, ap length (leaves-Number n))
  prim_few (s.text {s = t}) = omega (arith, ap length (leaves-Text t))
  prim_few (s.column {c = c} d) = omega (arith, ap length (leaves-Column c), one_taken d)
  prim_few s.count_all = omega (arith, ap length (leaves-CountAll Count))
  prim_few (s.call {f = f} {e = e} n d) = omega (arith, ap length (leaves-Call f e), expr_few d)
  prim_few (s.nested_expr d) = omega (arith, expr_few d)

mutual
  cond_few : {ts rest : Tokens} {c : CondTree} → SpellsCond ts c rest → cond_count c + length rest ≤ length ts
  cond_few (s.any {ts} {mid} {rest} {first} {more} d ds) = omega (arith, conj_few d, ors_few ds, any_count first more)

  ors_few : {ts rest : Tokens} {cs : List CondTree} → SpellsOrs ts cs rest → sum (map cond_count cs) + length rest ≤ length ts
  ors_few s.no_or = omega arith
  ors_few (s.or d ds) = omega (arith, conj_few d, ors_few ds)

  conj_few : {ts rest : Tokens} {c : CondTree} → SpellsConj ts c rest → cond_count c + length rest ≤ length ts
  conj_few (s.all {ts} {mid} {rest} {first} {more} d ds) = omega (arith, neg_few d, ands_few ds, all_count first more)

  ands_few : {ts rest : Tokens} {cs : List CondTree} → SpellsAnds ts cs rest → sum (map cond_count cs) + length rest ≤ length ts
  ands_few s.no_and = omega arith
  ands_few (s.and d ds) = omega (arith, neg_few d, ands_few ds)

  neg_few : {ts rest : Tokens} {c : CondTree} → SpellsNeg ts c rest → cond_count c + length rest ≤ length ts
  neg_few (s.positive d) = test_few d
  neg_few (s.negated {c = c} d) = omega (arith, test_few d, ap (λ es. length (flat_map leaves es)) (exprs-Not c))

  test_few : {ts rest : Tokens} {c : CondTree} → SpellsTest ts c rest → cond_count c + length rest ≤ length ts
  test_few (s.compare {cmp = cmp} {left = l} {right = r} d c e) =
      omega (arith, expr_few d, expr_few e, ap (λ es. length (flat_map leaves es)) (exprs-Compare cmp l r), length-append (leaves l) (leaves r ++ []), length-append (leaves r) [])
  test_few (s.is_null {e = e} d) = omega (arith, expr_few d, ap (λ es. length (flat_map leaves es)) (exprs-Null e false), length-append (leaves e) [])
  test_few (s.is_not_null {e = e} d) = omega (arith, expr_few d, ap (λ es. length (flat_map leaves es)) (exprs-Null e true), length-append (leaves e) [])
  test_few (s.nested_cond d) = omega (arith, cond_few d)

-- ---- a query is at most 32 times as large as its tokens are many

abbrev item_count : ItemTree → ℕ
item_count i = length (flat_map leaves (item_exprs i))

items_count : (is : List ItemTree) → length (flat_map leaves (flat_map item_exprs is)) ≡ sum (map item_count is)
items_count [] = refl
items_count (i ∷ is) = omega (arith, over_all (item_exprs i) (flat_map item_exprs is), items_count is)

item_few : {ts rest : Tokens} {i : ItemTree} → SpellsItem ts i rest → item_count i + length rest ≤ length ts
item_few s.star = omega arith
item_few (s.star_of n) = omega arith
item_few (s.computed {e = e} d a) = omega (arith, expr_few d, shorter (maybe_alias_taken a), length-append (leaves e) [])

items_few : {ts rest : Tokens} {is : List ItemTree} → SpellsItems ts is rest → length is + sum (map item_count is) + 2 * length rest ≤ 2 * length ts
items_few s.no_item = omega arith
items_few (s.an_item d ds) = omega (arith, item_few d, items_few ds)

refs_few : {ts rest : Tokens} {cs : List ColRef} → SpellsColRefs ts cs rest → length cs + length rest ≤ length ts
refs_few s.no_column = omega arith
refs_few (s.a_column d ds) = omega (arith, shorter (col_ref_taken d), refs_few ds)

group_few : {ts rest : Tokens} {cs : List ColRef} → SpellsGroup ts cs rest → length cs + length rest ≤ length ts
group_few s.no_group = omega arith
group_few (s.a_group d ds) = omega (arith, shorter (col_ref_taken d), refs_few ds)

having_few : {ts rest : Tokens} {c : Option CondTree} → SpellsHaving ts c rest → length (flat_map leaves (exprs_of c)) + length rest ≤ length ts
having_few s.no_having = omega arith
having_few (s.a_having d) = omega (arith, cond_few d)

size-Block : (distinct : Bool) (items : List ItemTree) (js : List JoinedTree) (filter : Option CondTree) (group : List ColRef) (having : Option CondTree) →
    size_of (block_of distinct items js filter group having) ≡ length items + length group + leaf_count items having + sum (map joined_size js)
size-Block distinct items js filter group having =
    size-Tree (roll-BlockTree (record { distinct = distinct; items = items; sources = js; filter = filter; group = group; having = having })) ∙
    ap (λ b. length b.items + length b.group + leaf_count b.items b.having + sum (map joined_size b.sources)) (out-roll-BlockTree (record { distinct = distinct; items = items; sources = js; filter = filter; group = group; having = having }))

joined_has : (how : JoinTree) (from : SourceTree) → joined_size (joined how from) ≡ source_size from
joined_has how from = joined_out (joined how from) ∙ ap (λ j. source_size j.source) (out-roll-JoinedTree (record { join = how; source = from }))

step_has : (op : SetOp) (q : QueryTree) → size_of (step op q).query ≡ size_of q
step_has op q = ap (λ s. size_of s.query) (out-roll-StepTree (record { op = op; query = q }))

chain_has : (first : QueryTree) (rest : List StepTree) → size_of (chain_of first rest) ≡ size_of first + sum (map (λ s. size_of s.query) rest)
unfolding chain_of
chain_has first [] = omega arith
chain_has first (second ∷ more) = size-Chain first (second ∷ more)

intersect_has : (first : QueryTree) (rest : List QueryTree) → size_of (intersect_of first rest) ≡ size_of first + sum (map size_of rest)
unfolding intersect_of
intersect_has first [] = omega arith
intersect_has first (second ∷ more) = size-Intersect (first ∷ second ∷ more)

one_selected : {ts rest : Tokens} {b : Bool} → SpellsSelect ts b rest → suc (length rest) ≤ length ts
one_selected s.select = omega arith
one_selected s.select_all = omega arith
one_selected s.select_distinct = omega arith

comma_less : {ts rest : Tokens} → SpellsComma ts rest → suc (length rest) ≤ length ts
comma_less s.comma = omega arith
comma_less s.cross_join = omega arith

join_less : {ts rest : Tokens} → SpellsJoin ts rest → suc (length rest) ≤ length ts
join_less s.plain_join = omega arith
join_less s.inner_join = omega arith

left_join_less : {ts rest : Tokens} → SpellsLeftJoin ts rest → suc (length rest) ≤ length ts
left_join_less s.left_join = omega arith
left_join_less s.left_outer_join = omega arith

mutual
  pub query_few : {ts rest : Tokens} {q : QueryTree} → SpellsQuery ts q rest → size_of q + 32 * length rest ≤ 32 * length ts
  query_few (s.chain {ts} {mid} {rest} {first} {more} d ds) = omega (arith, term_few d, steps_few ds, chain_has first more)

  steps_few : {ts rest : Tokens} {qs : List StepTree} → SpellsSteps ts qs rest → sum (map (λ s. size_of s.query) qs) + 32 * length rest ≤ 32 * length ts
  steps_few s.no_step = omega arith
  steps_few (s.a_step {ts} {us} {mid} {rest} {op} {q} {more} o d ds) = omega (arith, shorter (set_op_taken o), term_few d, steps_few ds, step_has op q)

  term_few : {ts rest : Tokens} {q : QueryTree} → SpellsTerm ts q rest → size_of q + 32 * length rest ≤ 32 * length ts
  term_few (s.intersection {ts} {mid} {rest} {first} {more} d ds) = omega (arith, operand_few d, operands_few ds, intersect_has first more)

  operands_few : {ts rest : Tokens} {qs : List QueryTree} → SpellsOperands ts qs rest → sum (map size_of qs) + 32 * length rest ≤ 32 * length ts
  operands_few s.no_operand = omega arith
  operands_few (s.an_operand i d ds) = omega (arith, shorter (intersect_taken i), operand_few d, operands_few ds)

  operand_few : {ts rest : Tokens} {q : QueryTree} → SpellsOperand ts q rest → size_of q + 32 * length rest ≤ 32 * length ts
  operand_few (s.block {ts} {items} {more_items} {sources} {more_sources} {filtered} {grouped} {had} {rest} {distinct} {i} {is} {s = src} {js} {filter} {having} {group} begun item more_of first others where_ group_ had_) =
      omega (
        arith,
        one_selected begun,
        item_few item,
        items_few more_of,
        source_few first,
        joined_few others,
        shorter (where_taken where_),
        group_few group_,
        having_few had_,
        size-Block distinct (i ∷ is) (joined join.Comma src ∷ js) filter group having,
        joined_has join.Comma src,
        items_count (i ∷ is),
      )
  operand_few (s.nested_query d) = omega (arith, query_few d)

  source_few : {ts rest : Tokens} {src : SourceTree} → SpellsSource ts src rest → source_size src + 32 * length rest ≤ 32 * suc (length ts)
  source_few (s.relation {t} {name} {alias} n a) = omega (arith, size-Relation name alias, shorter (maybe_alias_taken a))
  source_few (s.derived {ts} {mid} {rest} {q} {alias} d a) = omega (arith, size-Query q alias, query_few d, shorter (alias_taken a))

  joined_few : {ts rest : Tokens} {js : List JoinedTree} → SpellsJoined ts js rest → sum (map joined_size js) + 32 * length rest ≤ 32 * length ts
  joined_few s.no_source = omega arith
  joined_few (s.every_pair {ts} {us} {mid} {rest} {s = src} {more} c d ds) = omega (arith, comma_less c, source_few d, joined_few ds, joined_has join.Comma src)
  joined_few (s.inner {ts} {us} {on} {mid} {rest} {s = src} {c} {more} j d e ds) = omega (arith, join_less j, source_few d, shorter (cond_taken e), joined_few ds, joined_has (join.Inner c) src)
  joined_few (s.left {ts} {us} {on} {mid} {rest} {s = src} {c} {more} j d e ds) = omega (arith, left_join_less j, source_few d, shorter (cond_taken e), joined_few ds, joined_has (join.Left c) src)
