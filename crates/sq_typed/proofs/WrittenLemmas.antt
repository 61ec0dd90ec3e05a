-- Statements that tokens spell have sources, operands, and arguments of calls.
use Rattle.std.proofs.Common.{◌≡◌, ℕ, suc, ◌+◌, length, List, [], ◌∷◌, ◌++◌, map, Bool, true, false, if◌then◌else◌, refl, sym, subst}
use Rattle.std.specs.Prelude.{Option, Some, None, ⊤, bytes_eq}
use Rattle.std.specs.List.{AllByRecursion, filter_map, flat_map}
use Rattle.sq_token.specs.declared.token.Token.{Token}
use Rattle.sq_ast.specs.Spelling as by
use Rattle.sq_ast.specs.Spelling.{SpellsFunction, SpellsExpr, SpellsTerms, SpellsProduct, SpellsFactors, SpellsSign, SpellsPrim, SpellsCond, SpellsOrs, SpellsConj, SpellsAnds, SpellsNeg, SpellsTest, SpellsItem, SpellsItems, SpellsHaving, SpellsQuery, SpellsSteps, SpellsTerm, SpellsOperands, SpellsOperand, SpellsSource, SpellsJoined, SpellsBody, SpellsPlace, SpellsFrom, Spells, kinds}
use Rattle.sq_ast.specs.Trees.{term, step, joined, sum_of, product_of, any_of, all_of, chain_of, intersect_of}
use Rattle.sq_ast.specs.Words.{Tokens}
use Rattle.sq_ast.specs.declared.cond.CondTree.{CondTree}
use Rattle.sq_ast.specs.declared.expr.ExprTree.{ExprTree}
use Rattle.sq_ast.specs.declared.expr.ExprTree.TheVariants as expr
use Rattle.sq_ast.specs.declared.expr.FuncTree.{FuncTree}
use Rattle.sq_ast.specs.declared.expr.FuncTree.TheVariants as func
use Rattle.sq_ast.specs.declared.expr.TermTree.{TermTree, out-roll-TermTree}
use Rattle.sq_ast.specs.declared.query.ItemTree.{ItemTree}
use Rattle.sq_ast.specs.declared.query.ItemTree.TheVariants as item
use Rattle.sq_ast.specs.declared.query.JoinTree.{JoinTree}
use Rattle.sq_ast.specs.declared.query.JoinTree.TheVariants as join
use Rattle.sq_ast.specs.declared.query.JoinedTree.{JoinedTree}
use Rattle.sq_ast.specs.declared.query.QueryTree.{QueryTree}
use Rattle.sq_ast.specs.declared.query.QueryTree.TheOpen.{BlockTree-F}
use Rattle.sq_ast.specs.declared.query.SetOp.{SetOp}
use Rattle.sq_ast.specs.declared.query.SourceTree.{SourceTree}
use Rattle.sq_ast.specs.declared.query.StepTree.{StepTree}
use Rattle.sq_ast.specs.declared.statement.Body.{Body}
use Rattle.sq_ast.specs.declared.statement.Statement.{Statement}
use Rattle.sq_catalog.specs.declared.relation.Column.{Column}
use Rattle.sq_catalog.specs.declared.relation.Relation.{Relation}
use Rattle.sq_expr.proofs.Lists.{all_append, all_back, all_flattened, all_over, all_weaker}
use Rattle.sq_typed.specs.Faults.{described}
use Rattle.sq_typed.specs.Leaves.{Leaf, Plain, Called, leaves, call_at, exprs_in, exprs_of}
use Rattle.sq_typed.specs.Programs.{catalog_of}
use Rattle.sq_typed.specs.Resolved.{Resolved, Source, Joined, Parts, together, scoped, of_block, resolved}
use Rattle.sq_typed.specs.Scopes.{Text, Scope}
use Rattle.sq_typed.specs.Selected.{Scoped, Chosen, starred_from, starred, written_out, chosen, item_leaves, list_leaves, having_leaves, call_trees}
use Rattle.sq_typed.specs.Written.{has_member, has_argument, IsWritten, AreWritten, AllWritten}
use Rattle.sq_typed.proofs.QueryEquations.{resolved_source, resolved_joined, resolved_step, joined-is, step-is, resolved-Block, resolved-Chain, resolved-Intersect, source-Relation, source-Query}
use Rattle.sq_typed.proofs.TreeEquations.{leaves-Sum, leaves-Product, leaves-Neg, leaves-Number, leaves-Text, leaves-Column, leaves-CountAll, leaves-Call, exprs-Any, exprs-All, exprs-Not, exprs-Compare, exprs-Null}

-- ---- expressions

abbrev LeafGood : Leaf → Type 0
LeafGood (Plain r) = ⊤
LeafGood (Called c) = has_argument c.func c.arg ≡ true

abbrev ExprGood : ExprTree → Type 0
ExprGood e = AllByRecursion LeafGood (leaves e)

abbrev TermGood : TermTree → Type 0
TermGood t = ExprGood t.expr

good_from : (e : ExprTree) (ls : List Leaf) → leaves e ≡ ls → AllByRecursion LeafGood ls → ExprGood e
good_from e ls is h = subst (AllByRecursion LeafGood) (sym is) h

terms_together : (ts : List TermTree) → AllByRecursion TermGood ts → AllByRecursion LeafGood (flat_map (λ (p : TermTree × List Leaf). p.1) (map (λ t. (t, leaves t.expr)) ts))
terms_together [] h = tt
terms_together (t ∷ ts) h = all_append LeafGood (leaves t.expr) (flat_map (λ (p : TermTree × List Leaf). p.1) (map (λ t. (t, leaves t.expr)) ts)) h.0 (terms_together ts h.1)

factors_together : (es : List ExprTree) → AllByRecursion ExprGood es → AllByRecursion LeafGood (flat_map (λ (p : ExprTree × List Leaf). p.1) (map (λ e. (e, leaves e)) es))
factors_together [] h = tt
factors_together (e ∷ es) h = all_append LeafGood (leaves e) (flat_map (λ (p : ExprTree × List Leaf). p.1) (map (λ e. (e, leaves e)) es)) h.0 (factors_together es h.1)

term_good : (minus : Bool) (e : ExprTree) → ExprGood e → TermGood (term minus e)
term_good minus e h = subst (λ x. ExprGood x.expr) (sym (out-roll-TermTree (record { minus = minus; expr = e }))) h

sum_good : (first : ExprTree) (more : List TermTree) → ExprGood first → AllByRecursion TermGood more → ExprGood (sum_of first more)
unfolding sum_of
sum_good first [] h hs = h
sum_good first (second ∷ more) h hs =
    good_from (expr.Sum (term false first ∷ second ∷ more)) (flat_map (λ (p : TermTree × List Leaf). p.1) (map (λ t. (t, leaves t.expr)) (term false first ∷ second ∷ more))) (leaves-Sum (term false first ∷ second ∷ more))
    (terms_together (term false first ∷ second ∷ more) (term_good false first h, hs))

product_good : (first : ExprTree) (more : List ExprTree) → ExprGood first → AllByRecursion ExprGood more → ExprGood (product_of first more)
unfolding product_of
product_good first [] h hs = h
product_good first (second ∷ more) h hs =
    good_from (expr.Product (first ∷ second ∷ more)) (flat_map (λ (p : ExprTree × List Leaf). p.1) (map (λ e. (e, leaves e)) (first ∷ second ∷ more))) (leaves-Product (first ∷ second ∷ more)) (factors_together (first ∷ second ∷ more) (h, hs))

function_has : (f : FuncTree) (e : ExprTree) → has_argument f (Some e) ≡ true
function_has func.Count e = refl
function_has func.Sum e = refl
function_has func.Min e = refl
function_has func.Max e = refl

mutual
  expr_spelled : {ts rest : Tokens} {e : ExprTree} → SpellsExpr ts e rest → ExprGood e
  expr_spelled (by.sum {ts} {mid} {rest} {first} {more} p t) = sum_good first more (product_spelled p) (terms_spelled t)

  terms_spelled : {ts rest : Tokens} {more : List TermTree} → SpellsTerms ts more rest → AllByRecursion TermGood more
  terms_spelled by.no_term = tt
  terms_spelled (by.added {ts} {mid} {rest} {e} {more} p t) = (term_good false e (product_spelled p), terms_spelled t)
  terms_spelled (by.subtracted {ts} {mid} {rest} {e} {more} p t) = (term_good true e (product_spelled p), terms_spelled t)

  product_spelled : {ts rest : Tokens} {e : ExprTree} → SpellsProduct ts e rest → ExprGood e
  product_spelled (by.product {ts} {mid} {rest} {first} {more} p t) = product_good first more (sign_spelled p) (factors_spelled t)

  factors_spelled : {ts rest : Tokens} {more : List ExprTree} → SpellsFactors ts more rest → AllByRecursion ExprGood more
  factors_spelled by.no_factor = tt
  factors_spelled (by.factor p t) = (sign_spelled p, factors_spelled t)

  sign_spelled : {ts rest : Tokens} {e : ExprTree} → SpellsSign ts e rest → ExprGood e
  sign_spelled (by.unsigned p) = prim_spelled p
  sign_spelled (by.negative {ts} {rest} {e} p) = good_from (expr.Neg e) (leaves e) (leaves-Neg e) (prim_spelled p)

  prim_spelled : {ts rest : Tokens} {e : ExprTree} → SpellsPrim ts e rest → ExprGood e
  prim_spelled (by.number {n} {rest}) = good_from (expr.Number n) [] (leaves-Number n) tt
  prim_spelled (by.text {s} {rest}) = good_from (expr.Text s) [] (leaves-Text s) tt
  prim_spelled (by.column {ts} {rest} {c} r) = good_from (expr.Column c) (Plain c ∷ []) (leaves-Column c) (tt, tt)
  prim_spelled by.count_all = good_from (expr.Call func.Count None) (Called (record { func = func.Count; arg = None }) ∷ []) (leaves-CountAll func.Count) (refl, tt)
  prim_spelled (by.call {t} {f} {ts} {rest} {e} g p) = good_from (expr.Call f (Some e)) (Called (record { func = f; arg = Some e }) ∷ []) (leaves-Call f e) (function_has f e, tt)
  prim_spelled (by.nested_expr p) = expr_spelled p

-- ---- conditions

abbrev CondGood : CondTree → Type 0
CondGood c = AllByRecursion ExprGood (exprs_in c)

conds_together : (cs : List CondTree) → AllByRecursion CondGood cs → AllByRecursion ExprGood (flat_map (λ es. es) (map exprs_in cs))
conds_together [] h = tt
conds_together (c ∷ cs) h = all_append ExprGood (exprs_in c) (flat_map (λ es. es) (map exprs_in cs)) h.0 (conds_together cs h.1)

any_good : (first : CondTree) (more : List CondTree) → CondGood first → AllByRecursion CondGood more → CondGood (any_of first more)
unfolding any_of
any_good first [] h hs = h
any_good first (second ∷ more) h hs = subst (AllByRecursion ExprGood) (sym (exprs-Any (first ∷ second ∷ more))) (conds_together (first ∷ second ∷ more) (h, hs))

all_good : (first : CondTree) (more : List CondTree) → CondGood first → AllByRecursion CondGood more → CondGood (all_of first more)
unfolding all_of
all_good first [] h hs = h
all_good first (second ∷ more) h hs = subst (AllByRecursion ExprGood) (sym (exprs-All (first ∷ second ∷ more))) (conds_together (first ∷ second ∷ more) (h, hs))

mutual
  cond_spelled : {ts rest : Tokens} {c : CondTree} → SpellsCond ts c rest → CondGood c
  cond_spelled (by.any {ts} {mid} {rest} {first} {more} p t) = any_good first more (conj_spelled p) (ors_spelled t)

  ors_spelled : {ts rest : Tokens} {more : List CondTree} → SpellsOrs ts more rest → AllByRecursion CondGood more
  ors_spelled by.no_or = tt
  ors_spelled (by.or p t) = (conj_spelled p, ors_spelled t)

  conj_spelled : {ts rest : Tokens} {c : CondTree} → SpellsConj ts c rest → CondGood c
  conj_spelled (by.all {ts} {mid} {rest} {first} {more} p t) = all_good first more (neg_spelled p) (ands_spelled t)

  ands_spelled : {ts rest : Tokens} {more : List CondTree} → SpellsAnds ts more rest → AllByRecursion CondGood more
  ands_spelled by.no_and = tt
  ands_spelled (by.and p t) = (neg_spelled p, ands_spelled t)

  neg_spelled : {ts rest : Tokens} {c : CondTree} → SpellsNeg ts c rest → CondGood c
  neg_spelled (by.positive p) = test_spelled p
  neg_spelled (by.negated {ts} {rest} {c} p) = subst (AllByRecursion ExprGood) (sym (exprs-Not c)) (test_spelled p)

  test_spelled : {ts rest : Tokens} {c : CondTree} → SpellsTest ts c rest → CondGood c
  test_spelled (by.compare {t} {cmp} {ts} {mid} {rest} {left} {right} l g r) = subst (AllByRecursion ExprGood) (sym (exprs-Compare cmp left right)) (expr_spelled l, (expr_spelled r, tt))
  test_spelled (by.is_null {ts} {rest} {e} p) = subst (AllByRecursion ExprGood) (sym (exprs-Null e false)) (expr_spelled p, tt)
  test_spelled (by.is_not_null {ts} {rest} {e} p) = subst (AllByRecursion ExprGood) (sym (exprs-Null e true)) (expr_spelled p, tt)
  test_spelled (by.nested_cond p) = cond_spelled p

having_spelled : {ts rest : Tokens} {c : Option CondTree} → SpellsHaving ts c rest → AllByRecursion ExprGood (exprs_of c)
having_spelled by.no_having = tt
having_spelled (by.a_having p) = cond_spelled p

-- ---- items

abbrev ItemGood : ItemTree → Type 0
ItemGood item.Star = ⊤
ItemGood (item.StarOf name) = ⊤
ItemGood (item.Expr e alias) = ExprGood e

item_spelled : {ts rest : Tokens} {i : ItemTree} → SpellsItem ts i rest → ItemGood i
item_spelled by.star = tt
item_spelled (by.star_of n) = tt
item_spelled (by.computed p a) = expr_spelled p

items_spelled : {ts rest : Tokens} {more : List ItemTree} → SpellsItems ts more rest → AllByRecursion ItemGood more
items_spelled by.no_item = tt
items_spelled (by.an_item p t) = (item_spelled p, items_spelled t)

abbrev ChosenGood : Chosen → Type 0
ChosenGood i = AllByRecursion LeafGood (item_leaves i)

starred_columns_good : (n : ℕ) (cs : List Column) → AllByRecursion ChosenGood (starred_from n cs)
starred_columns_good n [] = tt
starred_columns_good n (c ∷ cs) = (tt, starred_columns_good (suc n) cs)

starred_or_none : (b : Bool) (n : ℕ) (cs : List Column) → AllByRecursion ChosenGood (if b then starred_from n cs else [])
starred_or_none true n cs = starred_columns_good n cs
starred_or_none false n cs = tt

starred_good : (test : Text → Bool) (begin : ℕ) (scope : Scope) → AllByRecursion ChosenGood (starred test begin scope)
starred_good test begin [] = tt
starred_good test begin (n ∷ scope) = all_append ChosenGood (if test n.name then starred_from begin n.columns else []) (starred test (begin + length n.columns) scope) (starred_or_none (test n.name) begin n.columns) (starred_good test (begin + length n.columns) scope)

written_out_good : (scope : Scope) (i : ItemTree) → ItemGood i → AllByRecursion ChosenGood (written_out scope i)
written_out_good scope item.Star h = starred_good (λ name. true) 0 scope
written_out_good scope (item.StarOf name) h = starred_good (bytes_eq name) 0 scope
written_out_good scope (item.Expr e alias) h = (h, tt)

calls_good : (ls : List Leaf) → AllByRecursion LeafGood ls → AllByRecursion (λ c. has_argument c.func c.arg ≡ true) (filter_map call_at ls)
calls_good [] h = tt
calls_good (Plain r ∷ ls) h = calls_good ls h.1
calls_good (Called c ∷ ls) h = (h.0, calls_good ls h.1)

block_calls_good : (b : Scoped) → AllByRecursion ItemGood b.items → AllByRecursion ExprGood (exprs_of b.having) → AllByRecursion (λ c. has_argument c.func c.arg ≡ true) (call_trees b)
block_calls_good b items having =
    calls_good (list_leaves b ++ having_leaves b)
    (all_append LeafGood (list_leaves b) (having_leaves b)
    (all_flattened LeafGood item_leaves (chosen b) (all_flattened ChosenGood (written_out b.scope) b.items (all_weaker ItemGood (λ i. AllByRecursion ChosenGood (written_out b.scope i)) b.items (written_out_good b.scope) items)))
    (all_flattened LeafGood leaves (exprs_of b.having) having))

-- ---- queries

written_together : (ps : List Parts) → AllByRecursion AreWritten ps → AreWritten (together ps)
written_together [] h = record { blocks = tt; operations = tt }
written_together (p ∷ ps) h =
    let later = written_together ps h.1 in
    record {
      blocks = all_append IsWritten p.blocks (flat_map (λ p. p.blocks) ps) h.0.blocks later.blocks;
      operations = all_append (λ o. has_member o ≡ true) p.operations (flat_map (λ p. p.operations) ps) h.0.operations later.operations;
    }

module _ (relations : List Relation) where
  abbrev Good : Resolved → Type 0
  Good r = AreWritten r.parts

  abbrev SourceGood : Source → Type 0
  SourceGood f = AreWritten f.parts

  abbrev JoinedGood : JoinedTree → Type 0
  JoinedGood j = SourceGood (resolved_joined relations j).source

  abbrev StepGood : StepTree → Type 0
  StepGood t = Good (resolved_step relations t).1

  joined_good : (how : JoinTree) (from : SourceTree) → SourceGood (resolved_source relations from) → JoinedGood (joined how from)
  joined_good how from h = subst (λ (x : Joined). SourceGood x.source) (sym (joined-is relations how from)) h

  step_good : (op : SetOp) (q : QueryTree) → Good (resolved relations q) → StepGood (step op q)
  step_good op q h = subst (λ (x : SetOp × Resolved). Good x.1) (sym (step-is relations op q)) h

  block_good : (b : BlockTree-F Resolved Source Resolved Joined (SetOp × Resolved)) → has_member b.sources ≡ true → AllByRecursion ItemGood b.items → AllByRecursion ExprGood (exprs_of b.having) → AllByRecursion (λ j. SourceGood j.source) b.sources → Good (of_block relations b)
  block_good b some items having ss =
      let own : Parts = record { blocks = scoped b ∷ []; heads = []; relations = []; operations = [] } in
      written_together (own ∷ map (λ j. j.source.parts) b.sources)
      (record { blocks = (record { sources = in_scope b.sources some; calls = block_calls_good (scoped b) items having }, tt); operations = tt }, all_over AreWritten (λ j. j.source.parts) b.sources ss)
    where
      in_scope : (ss : List Joined) → has_member ss ≡ true → has_member (map (λ j. j.source.named) ss) ≡ true
      in_scope [] e = e
      in_scope (x ∷ xs) e = refl

  operation_good : (first : Resolved) (more : List Resolved) → Good first → AllByRecursion Good more → AreWritten (together (record { blocks = []; heads = []; relations = []; operations = map (λ m. m.columns) (first ∷ more) ∷ [] } ∷ map (λ m. m.parts) (first ∷ more)))
  operation_good first more h hs =
      let own : Parts = record { blocks = []; heads = []; relations = []; operations = map (λ m. m.columns) (first ∷ more) ∷ [] } in
      written_together (own ∷ map (λ m. m.parts) (first ∷ more)) (record { blocks = tt; operations = (refl, tt) }, (h, all_over AreWritten (λ m. m.parts) more hs))

  chain_good : (first : QueryTree) (more : List StepTree) → Good (resolved relations first) → AllByRecursion StepGood more → Good (resolved relations (chain_of first more))
  unfolding chain_of
  chain_good first [] h hs = h
  chain_good first (second ∷ more) h hs = subst Good (sym (resolved-Chain relations first (second ∷ more)))
      (operation_good (resolved relations first) (map (λ t. t.1) (map (resolved_step relations) (second ∷ more))) h (all_over Good (λ t. t.1) (map (resolved_step relations) (second ∷ more)) (all_over (λ t. Good t.1) (resolved_step relations) (second ∷ more) hs)))

  intersect_good : (first : QueryTree) (more : List QueryTree) → Good (resolved relations first) → AllByRecursion (λ q. Good (resolved relations q)) more → Good (resolved relations (intersect_of first more))
  unfolding intersect_of
  intersect_good first [] h hs = h
  intersect_good first (second ∷ more) h hs = subst Good (sym (resolved-Intersect relations (first ∷ second ∷ more)))
      (operation_good (resolved relations first) (map (resolved relations) (second ∷ more)) h (all_over Good (resolved relations) (second ∷ more) hs))

  mutual
    query_spelled : {ts rest : Tokens} {q : QueryTree} → SpellsQuery ts q rest → Good (resolved relations q)
    query_spelled (by.chain {ts} {mid} {rest} {first} {more} p t) = chain_good first more (operands_term p) (steps_spelled t)

    steps_spelled : {ts rest : Tokens} {more : List StepTree} → SpellsSteps ts more rest → AllByRecursion StepGood more
    steps_spelled by.no_step = tt
    steps_spelled (by.a_step {ts} {us} {mid} {rest} {op} {q} {more} o p t) = (step_good op q (operands_term p), steps_spelled t)

    operands_term : {ts rest : Tokens} {q : QueryTree} → SpellsTerm ts q rest → Good (resolved relations q)
    operands_term (by.intersection {ts} {mid} {rest} {first} {more} p t) = intersect_good first more (operand_spelled p) (operands_spelled t)

    operands_spelled : {ts rest : Tokens} {more : List QueryTree} → SpellsOperands ts more rest → AllByRecursion (λ q. Good (resolved relations q)) more
    operands_spelled by.no_operand = tt
    operands_spelled (by.an_operand o p t) = (operand_spelled p, operands_spelled t)

    operand_spelled : {ts rest : Tokens} {q : QueryTree} → SpellsOperand ts q rest → Good (resolved relations q)
    operand_spelled (by.block {ts} {items} {more_items} {sources} {more_sources} {filtered} {grouped} {had} {rest} {distinct} {i} {is} {s} {js} {filter} {having} {group} sel p t from j wh g h) =
        subst Good (sym (resolved-Block relations distinct (i ∷ is) (joined join.Comma s ∷ js) filter group having))
        (block_good (record { distinct = distinct; items = i ∷ is; sources = map (resolved_joined relations) (joined join.Comma s ∷ js); filter = filter; group = group; having = having }) refl (item_spelled p, items_spelled t) (having_spelled h)
        (joined_good join.Comma s (source_spelled from), all_over (λ x. SourceGood x.source) (resolved_joined relations) js (joined_spelled j)))
    operand_spelled (by.nested_query p) = query_spelled p

    source_spelled : {ts rest : Tokens} {f : SourceTree} → SpellsSource ts f rest → SourceGood (resolved_source relations f)
    source_spelled (by.relation {t} {name} {alias} {ts} {rest} n a) = subst SourceGood (sym (source-Relation relations name alias)) (record { blocks = tt; operations = tt })
    source_spelled (by.derived {ts} {mid} {rest} {q} {alias} p a) =
        let inside = query_spelled p in
        subst SourceGood (sym (source-Query relations q alias)) (record { blocks = inside.blocks; operations = inside.operations })

    joined_spelled : {ts rest : Tokens} {js : List JoinedTree} → SpellsJoined ts js rest → AllByRecursion JoinedGood js
    joined_spelled by.no_source = tt
    joined_spelled (by.every_pair {ts} {us} {mid} {rest} {s} {more} c p t) = (joined_good join.Comma s (source_spelled p), joined_spelled t)
    joined_spelled (by.inner {ts} {us} {on} {mid} {rest} {s} {c} {more} j p o t) = (joined_good (join.Inner c) s (source_spelled p), joined_spelled t)
    joined_spelled (by.left {ts} {us} {on} {mid} {rest} {s} {c} {more} j p o t) = (joined_good (join.Left c) s (source_spelled p), joined_spelled t)

-- ---- statements

abbrev BodyGood : Body → Type 0
BodyGood b = (relations : List Relation) → AreWritten (described relations b).parts

body_spelled : {ts rest : Tokens} {b : Body} → SpellsBody ts b rest → BodyGood b
body_spelled (by.table n c t) relations = record { blocks = tt; operations = tt }
body_spelled (by.view f n p) relations = query_spelled relations p

place_spelled : {n : ℕ} {ts : Tokens} {found : List Statement} → SpellsPlace n ts found → AllByRecursion (λ t. BodyGood t.body) found
place_spelled by.empty_place = tt
place_spelled (by.statement p sh) = (body_spelled p, tt)

from_spelled : {n : ℕ} {ts : Tokens} {found : List Statement} → SpellsFrom n ts found → AllByRecursion (λ t. BodyGood t.body) found
from_spelled (by.last_place p) = place_spelled p
from_spelled (by.more_places {n} {ts} {rest} {found} {more} p t) = all_append (λ x. BodyGood x.body) found more (place_spelled p) (from_spelled t)

pub spelled_is_written : (tokens : List Token) (statements : List Statement) → Spells tokens statements → AllWritten statements
spelled_is_written tokens statements sp before after x is =
    (all_back (λ t. BodyGood t.body) before (x ∷ after) (subst (AllByRecursion (λ t. BodyGood t.body)) is (from_spelled sp))).0 (catalog_of before)
