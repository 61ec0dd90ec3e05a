-- Blocks of queries that pass the test are small, and what becomes of a small tree passes it.
use mathlib.Core.Logic.{◌⊎◌, inl, inr}
use Rattle.std.proofs.Common.{◌≡◌, ℕ, suc, ◌+◌, ◌<◌, ◌≤◌, ◌^◌, nat_lt, List, [], ◌∷◌, ◌++◌, fold, length, map, Bool, true, false, not, ◌&&◌, ◌||◌, if◌then◌else◌, refl, sym, ap, ap₂, subst, ◌∙◌, arith}
use Rattle.std.specs.Prelude.{bytes_eq, Option, Some, None, option_map, unwrap_or}
use Rattle.std.specs.List.{AllByRecursion, cons_option, filter_map, flat_map, list_all, list_any}
use Rattle.std.proofs.lemmas.Bool.Decides.{Decides-ltb, leb_tells}
use Rattle.std.proofs.lemmas.List.{length-append, length-map}
use Rattle.std.proofs.lemmas.List.Folds.{list_any-append}
use Rattle.sq_ast.specs.Sources.{sum}
use Rattle.sq_ast.specs.declared.query.BlockTree.{out-BlockTree}
use Rattle.sq_ast.specs.declared.query.ItemTree.{ItemTree}
use Rattle.sq_ast.specs.declared.query.ItemTree.TheVariants as item
use Rattle.sq_ast.specs.declared.query.JoinedTree.{JoinedTree}
use Rattle.sq_ast.specs.declared.query.QueryTree.{QueryTree}
use Rattle.sq_ast.specs.declared.query.QueryTree.TheOpen.{BlockTree-F}
use Rattle.sq_ast.specs.declared.query.SetOp.{SetOp}
use Rattle.sq_ast.specs.declared.query.SourceTree.{SourceTree}
use Rattle.sq_ast.specs.declared.query.StepTree.{StepTree}
use Rattle.sq_catalog.specs.Names.{place_of}
use Rattle.sq_catalog.specs.declared.relation.Column.{Column}
use Rattle.sq_catalog.specs.declared.relation.Relation.{Relation}
use Rattle.sq_expr.proofs.Lists.{all_at, all_pass}
use Rattle.sq_typed.specs.declared.limits.TheConstants.{MOST_COLUMNS, MOST_SOURCES}
use Rattle.sq_typed.specs.declared.query.Block.{Block, out-Block, roll-Block, out-roll-Block}
use Rattle.sq_typed.specs.declared.query.BlockCall.{BlockCall}
use Rattle.sq_typed.specs.declared.query.FromItem.{FromItem, out-roll-FromItem}
use Rattle.sq_typed.specs.declared.query.Grouping.{Grouping}
use Rattle.sq_typed.specs.declared.query.Origin.{Origin, roll-Origin}
use Rattle.sq_typed.specs.declared.query.Origin.TheVariants as origin
use Rattle.sq_typed.specs.declared.query.Origin.TheFolds.{fold-Block, fold-SetStep, map-Query, map-Origin, fold-roll-Query, fold-roll-Origin, fold_out-Block, fold_out-FromItem, fold_out-SetStep}
use Rattle.sq_typed.specs.declared.query.Origin.TheOpen.{Block-F, Query-F, Origin-F}
use Rattle.sq_typed.specs.declared.query.Query.{Query, roll-Query}
use Rattle.sq_typed.specs.declared.query.Query.TheVariants as query
use Rattle.sq_typed.specs.declared.query.SetStep.{SetStep, roll-SetStep, out-roll-SetStep}
use Rattle.sq_typed.specs.Faults.{has_long_list, item_exprs}
use Rattle.sq_typed.specs.Leaves.{call_at, leaves}
use Rattle.sq_typed.specs.Numbered.{is_same_call, row_cond, typed_call}
use Rattle.sq_typed.specs.Resolved.{Joined, Parts, Resolved, Source, each_join, of_block, resolved, scoped, typed_join, typed_source}
use Rattle.sq_typed.specs.Scopes.{Scope, number_of}
use Rattle.sq_typed.specs.Selected.{Chosen, Scoped, block_calls, call_trees, chosen, group_cond, grouping, having_leaves, is_grouped, item_expr, item_leaves, keys, list_leaves, starred, starred_from, written_out}
use Rattle.sq_typed.specs.Sizes.{leaf_count, size_of, source_size, joined_size}
use Rattle.sq_typed.specs.Within.{BlockOf, First, InFrom, It, Later, Member}
use Rattle.sq_typed.proofs.ColumnLemmas.{map_alike}
use Rattle.sq_typed.proofs.FitQueries.{or_left, or_right}
use Rattle.sq_typed.proofs.QueryEquations.{block_at, joined_at, resolved-Chain, resolved-Intersect, resolved_joined, resolved_source, resolved_step, source-Query, source-Relation, step_at}
use Rattle.sq_typed.proofs.QueryTrees.{QueryTreeCases, each_query_tree}
use Rattle.sq_typed.proofs.SizeLemmas.{size-Tree, size-Chain, size-Intersect, size-Query, joined_out}
use Rattle.sq_typed.proofs.Tests.{and_left, and_right}
use Rattle.sq_bridge.specs.Small.{AreFewGroups, IsSmall, are_few_groups, are_small, origin_small, small_by_block, small_by_origin, small_by_query, source_small}

-- ---- the test, form by form

step_small : SetStep → Bool
step_small s = fold-SetStep Bool Bool Bool Bool Bool small_by_origin small_by_query small_by_block (λ s. s.source) (λ s. s.query) s

block_small : Block → Bool
block_small b = fold-Block Bool Bool Bool Bool Bool small_by_origin small_by_query small_by_block (λ s. s.source) (λ s. s.query) b

query_rolls : (x : Query-F Origin Query Block FromItem SetStep) → are_small (roll-Query x) ≡ small_by_query (map-Query Origin Query Block FromItem SetStep Bool Bool Bool Bool Bool origin_small are_small block_small source_small step_small x)
unfolding are_small origin_small block_small source_small step_small
query_rolls x = fold-roll-Query Bool Bool Bool Bool Bool small_by_origin small_by_query small_by_block (λ s. s.source) (λ s. s.query) x

origin_rolls : (x : Origin-F Origin Query Block FromItem SetStep) → origin_small (roll-Origin x) ≡ small_by_origin (map-Origin Origin Query Block FromItem SetStep Bool Bool Bool Bool Bool origin_small are_small block_small source_small step_small x)
unfolding are_small origin_small block_small source_small step_small
origin_rolls x = fold-roll-Origin Bool Bool Bool Bool Bool small_by_origin small_by_query small_by_block (λ s. s.source) (λ s. s.query) x

-- a block by what its sources are
abbrev by_sources : Block-F Origin Query Block FromItem SetStep → List Bool → Bool
by_sources b ss = (not (nat_lt MOST_COLUMNS (length b.items) || nat_lt MOST_SOURCES (length ss)) && are_few_groups b.grouping) && list_all (λ s. s) ss

block_small-is : (b : Block) → block_small b ≡ by_sources (out-Block b) (map source_small (out-Block b).sources)
unfolding block_small source_small
block_small-is b = fold_out-Block Bool Bool Bool Bool Bool small_by_origin small_by_query small_by_block (λ s. s.source) (λ s. s.query) b

source_small-is : (s : FromItem) → source_small s ≡ origin_small s.source
unfolding origin_small source_small
source_small-is s = fold_out-FromItem Bool Bool Bool Bool Bool small_by_origin small_by_query small_by_block (λ s. s.source) (λ s. s.query) s

step_small-is : (s : SetStep) → step_small s ≡ are_small s.query
unfolding are_small step_small
step_small-is s = fold_out-SetStep Bool Bool Bool Bool Bool small_by_origin small_by_query small_by_block (λ s. s.source) (λ s. s.query) s

small-Relation : (n : ℕ) → origin_small (origin.Relation n) ≡ true
small-Relation n = ap origin_small (sym (origin.rolls-Relation n)) ∙ origin_rolls (Origin-F.Relation n)

small-Query : (q : Query) → origin_small (origin.Query q) ≡ are_small q
small-Query q = ap origin_small (sym (origin.rolls-Query q)) ∙ origin_rolls (Origin-F.Query q)

small-Block : (b : Block) → are_small (query.Block b) ≡ by_sources (out-Block b) (map source_small (out-Block b).sources)
small-Block b = ap are_small (sym (query.rolls-Block b)) ∙ query_rolls (Query-F.Block b) ∙ block_small-is b

small-Chain : (q : Query) (rest : List SetStep) → are_small (query.Chain q rest) ≡ (are_small q && list_all (λ b. b) (map (λ s. are_small s.query) rest))
small-Chain q rest =
    ap are_small (sym (query.rolls-Chain q rest)) ∙ query_rolls (Query-F.Chain q rest)
    ∙ ap (λ bs. are_small q && list_all (λ b. b) bs) (map_alike step_small (λ s. are_small s.query) rest step_small-is)

small-Intersect : (qs : List Query) → are_small (query.Intersect qs) ≡ list_all (λ b. b) (map are_small qs)
small-Intersect qs = ap are_small (sym (query.rolls-Intersect qs)) ∙ query_rolls (Query-F.Intersect qs)

-- ---- what passes the test is small

pub at_most : (n m : ℕ) → nat_lt n m ≡ false → m ≤ n
at_most n m e = by_case (leb_tells (suc n) m)
  where
    by_case : ((nat_lt n m ≡ true) × (suc n ≤ m)) ⊎ ((nat_lt n m ≡ false) × (m < suc n)) → m ≤ n
    by_case (inl h) = absurd (let both = sym h.0 ∙ e in cc)
    by_case (inr h) = omega (arith, h.1)

is_false : (b : Bool) → not b ≡ true → b ≡ false
is_false false e = refl
is_false true e = sym e

few_groups : (g : Option Grouping) → are_few_groups g ≡ true → AreFewGroups g
few_groups None e = tt
few_groups (Some g) e = (Decides-ltb (length g.columns + length g.calls + 1) (2 ^ 32)).0 e

block_passes : (b : Block) → are_small (query.Block b) ≡ true → IsSmall b
block_passes b e =
    let ss = map source_small (out-Block b).sources in
    let here : by_sources (out-Block b) ss ≡ true = sym (small-Block b) ∙ e in
    let lists = nat_lt MOST_COLUMNS (length (out-Block b).items) || nat_lt MOST_SOURCES (length ss) in
    let front = and_left (not lists && are_few_groups (out-Block b).grouping) (list_all (λ s. s) ss) here in
    let short = is_false lists (and_left (not lists) (are_few_groups (out-Block b).grouping) front) in
    let many : length ss ≡ length (out-Block b).sources = length-map (out-Block b).sources source_small in
    record {
      items = at_most MOST_COLUMNS (length (out-Block b).items) (or_left (nat_lt MOST_COLUMNS (length (out-Block b).items)) (nat_lt MOST_SOURCES (length ss)) short);
      sources = subst (λ n. n ≤ MOST_SOURCES) many (at_most MOST_SOURCES (length ss) (or_right (nat_lt MOST_COLUMNS (length (out-Block b).items)) (nat_lt MOST_SOURCES (length ss)) short));
      groups = few_groups (out-Block b).grouping (and_right (not lists) (are_few_groups (out-Block b).grouping) front);
    }

pub passing_small : (q : Query) (b : Block) → BlockOf q b → are_small q ≡ true → IsSmall b
passing_small _ _ (It b) e = block_passes b e
passing_small _ _ (InFrom b n s q c at is more) e =
    let ss = map source_small (out-Block b).sources in
    let here : by_sources (out-Block b) ss ≡ true = sym (small-Block b) ∙ e in
    let lists = nat_lt MOST_COLUMNS (length (out-Block b).items) || nat_lt MOST_SOURCES (length ss) in
    let all = and_right (not lists && are_few_groups (out-Block b).grouping) (list_all (λ s. s) ss) here in
    passing_small q c more
    (sym (small-Query q) ∙ ap origin_small (sym is) ∙ sym (source_small-is s) ∙ all_at (λ s. source_small s ≡ true) (out-Block b).sources n s (all_pass (λ s. s) source_small (out-Block b).sources all) at)
passing_small _ _ (First q rest c more) e = passing_small q c more (and_left (are_small q) (list_all (λ b. b) (map (λ s. are_small s.query) rest)) (sym (small-Chain q rest) ∙ e))
passing_small _ _ (Later q rest n s c at more) e =
    passing_small s.query c more
    (all_at (λ s. are_small s.query ≡ true) rest n s (all_pass (λ b. b) (λ s. are_small s.query) rest (and_right (are_small q) (list_all (λ b. b) (map (λ s. are_small s.query) rest)) (sym (small-Chain q rest) ∙ e))) at)
passing_small _ _ (Member qs n q c at more) e =
    passing_small q c more (all_at (λ q. are_small q ≡ true) qs n q (all_pass (λ b. b) are_small qs (sym (small-Intersect qs) ∙ e)) at)

-- ---- groups of a small tree

kept_short : (kept xs : List BlockCall) → length (fold (λ kept x. kept ++ (if list_any (is_same_call x) kept then [] else x ∷ [])) kept xs) ≤ length kept + length xs
kept_short kept [] = omega arith
kept_short kept (x ∷ xs) =
    omega (arith, kept_short (kept ++ (if list_any (is_same_call x) kept then [] else x ∷ [])) xs, one_more kept x (list_any (is_same_call x) kept))
  where
    one_more : (kept : List BlockCall) (x : BlockCall) (b : Bool) → length (kept ++ (if b then [] else x ∷ [])) ≤ length kept + 1
    one_more kept x true =
        let none : List BlockCall = [] in
        omega (arith, length-append kept none)
    one_more kept x false = omega (arith, length-append kept (x ∷ []))

filtered_short : {A B : Type 0} (f : A → Option B) (xs : List A) → length (filter_map f xs) ≤ length xs
filtered_short f [] = omega arith
filtered_short f (x ∷ xs) = by_case f xs (f x) (filtered_short f xs)
  where
    by_case : {A B : Type 0} (f : A → Option B) (xs : List A) (o : Option B) → length (filter_map f xs) ≤ length xs → length (cons_option o (filter_map f xs)) ≤ suc (length xs)
    by_case f xs None h = omega (arith, h)
    by_case f xs (Some y) h = omega (arith, h)

leaves_over : (is js : List Chosen) → length (flat_map item_leaves (is ++ js)) ≡ length (flat_map item_leaves is) + length (flat_map item_leaves js)
leaves_over [] js = omega arith
leaves_over (i ∷ is) js = omega (arith, length-append (item_leaves i) (flat_map item_leaves (is ++ js)), length-append (item_leaves i) (flat_map item_leaves is), leaves_over is js)

none_from : (n : ℕ) (cs : List Column) → length (flat_map item_leaves (starred_from n cs)) ≡ 0
none_from n [] = refl
none_from n (c ∷ cs) = none_from (suc n) cs

none_if : (b : Bool) (n : ℕ) (cs : List Column) → length (flat_map item_leaves (if b then starred_from n cs else [])) ≡ 0
none_if true n cs = none_from n cs
none_if false n cs = refl

none_starred : (test : List ℕ → Bool) (begin : ℕ) (ss : Scope) → length (flat_map item_leaves (starred test begin ss)) ≡ 0
none_starred test begin [] = refl
none_starred test begin (s ∷ ss) =
    omega (arith, leaves_over (if test s.name then starred_from begin s.columns else []) (starred test (begin + length s.columns) ss), none_if (test s.name) begin s.columns, none_starred test (begin + length s.columns) ss)

items_leaves : (scope : Scope) (is : List ItemTree) → length (flat_map item_leaves (flat_map (written_out scope) is)) ≤ length (flat_map leaves (flat_map item_exprs is))
items_leaves scope [] = omega arith
items_leaves scope (item.Star ∷ is) = omega (arith, leaves_over (written_out scope item.Star) (flat_map (written_out scope) is), none_starred (λ name. true) 0 scope, items_leaves scope is)
items_leaves scope (item.StarOf name ∷ is) = omega (arith, leaves_over (written_out scope (item.StarOf name)) (flat_map (written_out scope) is), none_starred (bytes_eq name) 0 scope, items_leaves scope is)
items_leaves scope (item.Expr e alias ∷ is) =
    omega (arith, length-append (leaves e) (flat_map item_leaves (flat_map (written_out scope) is)), length-append (leaves e) (flat_map leaves (flat_map item_exprs is)), items_leaves scope is)

-- the columns and calls of a block's groups are no more than its group columns and leaves
groups_short : (own : Scoped) → length (keys own) + length (block_calls own) ≤ length own.group + leaf_count own.items own.having
groups_short own =
    omega (
      arith,
      length-map own.group (number_of own.scope),
      kept_short [] (map (typed_call own.scope) (call_trees own)),
      length-map (call_trees own) (typed_call own.scope),
      filtered_short call_at (list_leaves own ++ having_leaves own),
      length-append (list_leaves own) (having_leaves own),
      items_leaves own.scope own.items,
    )

few_if : (g : Bool) (r : Grouping) → length r.columns + length r.calls + 1 < 2 ^ 32 → are_few_groups (if g then Some r else None) ≡ true
few_if true r few = (Decides-ltb (length r.columns + length r.calls + 1) (2 ^ 32)).1 few
few_if false r few = refl

groups_few : (own : Scoped) → length own.group + leaf_count own.items own.having + 1 < 2 ^ 32 → are_few_groups (grouping own) ≡ true
groups_few own few = few_if (is_grouped own) (record { columns = keys own; calls = block_calls own; having = option_map (group_cond own) own.having }) (omega (arith, groups_short own, few))

-- ---- what becomes of a tree

joins_many : (before : Scope) (js : List Joined) → length (each_join typed_source before js) ≡ length js
joins_many before [] = refl
joins_many before (j ∷ js) = omega (arith, joins_many (before ++ j.source.named ∷ []) js)

joins_small : (before : Scope) (js : List Joined) → AllByRecursion (λ j. origin_small j.source.origin ≡ true) js → list_all (λ s. s) (map source_small (each_join typed_source before js)) ≡ true
joins_small before [] h = refl
joins_small before (j ∷ js) h =
    let scope = before ++ j.source.named ∷ [] in
    let own : source_small (typed_source scope j) ≡ origin_small j.source.origin = (
    source_small-is (typed_source scope j) ∙ ap (λ s. origin_small s.source) (out-roll-FromItem (record { join = typed_join scope j.join; source = j.source.origin }))
    ) in
    ap₂ (λ a b. a && b) (own ∙ h.0) (joins_small scope js h.1)

few_lists : (n m k l : ℕ) → n ≡ m → k ≡ l → (nat_lt MOST_COLUMNS m || nat_lt MOST_SOURCES l) ≡ false → not (nat_lt MOST_COLUMNS n || nat_lt MOST_SOURCES k) ≡ true
few_lists n m k l is are short = ap not (ap₂ (λ x y. nat_lt MOST_COLUMNS x || nat_lt MOST_SOURCES y) is are ∙ short)

module _ (relations : List Relation) where
  abbrev Step : Type 0
  Step = SetOp × Resolved

  rolled : (r : Block-F Origin Query Block FromItem SetStep) → are_small (query.Block (roll-Block r)) ≡ by_sources r (map source_small r.sources)
  rolled r = small-Block (roll-Block r) ∙ ap (λ (x : Block-F Origin Query Block FromItem SetStep). by_sources x (map source_small x.sources)) (out-roll-Block r)

  of_block_small : (b : BlockTree-F Resolved Source Resolved Joined Step) → has_long_list (scoped b) ≡ false → length b.group + leaf_count b.items b.having + 1 < 2 ^ 32 →
      AllByRecursion (λ j. origin_small j.source.origin ≡ true) b.sources → are_small (of_block relations b).query ≡ true
  of_block_small b short few h =
      let own = scoped b in
      let sources = each_join typed_source [] b.sources in
      rolled (record { distinct = b.distinct; sources = sources; filter = option_map (row_cond own.scope) own.filter; grouping = grouping own; items = map (item_expr own) (chosen own) })
      ∙ ap₂ (λ x y. x && y)
      (ap₂ (λ x y. x && y)
      (few_lists (length (map (item_expr own) (chosen own))) (length (chosen own)) (length (map source_small sources)) (length own.scope) (length-map (chosen own) (item_expr own))
      (length-map sources source_small ∙ joins_many [] b.sources ∙ sym (length-map b.sources (λ (s : Joined). s.source.named))) short)
      (groups_few own few))
      (joins_small [] b.sources h)

  -- ---- blocks that stand in a query
  abbrev IsShort : Parts → Type 0
  IsShort p = list_any has_long_list p.blocks ≡ false

  short_parts : (ps : List Parts) → list_any has_long_list (flat_map (λ (p : Parts). p.blocks) ps) ≡ false → AllByRecursion IsShort ps
  short_parts [] e = tt
  short_parts (p ∷ ps) e =
      let both = sym (list_any-append has_long_list p.blocks (flat_map (λ (p : Parts). p.blocks) ps)) ∙ e in
      (or_left (list_any has_long_list p.blocks) (list_any has_long_list (flat_map (λ (p : Parts). p.blocks) ps)) both, short_parts ps (or_right (list_any has_long_list p.blocks) (list_any has_long_list (flat_map (λ (p : Parts). p.blocks) ps)) both))

  abbrev QuerySmall : QueryTree → Type 0
  QuerySmall q = size_of q + 1 < 2 ^ 32 → IsShort (resolved relations q).parts → are_small (resolved relations q).query ≡ true

  abbrev SourceSmall : SourceTree → Type 0
  SourceSmall s = source_size s + 1 < 2 ^ 32 → IsShort (resolved_source relations s).parts → origin_small (resolved_source relations s).origin ≡ true

  sources_small : (js : List JoinedTree) → AllByRecursion (λ j. SourceSmall j.source) js → sum (map joined_size js) + 1 < 2 ^ 32 → AllByRecursion IsShort (map (λ (s : Joined). s.source.parts) (map (resolved_joined relations) js)) →
      AllByRecursion (λ (j : Joined). origin_small j.source.origin ≡ true) (map (resolved_joined relations) js)
  sources_small [] h few short = tt
  sources_small (j ∷ js) h few short =
      let is = joined_at relations j in (
        ap (λ (x : Joined). origin_small x.source.origin) is ∙ h.0 (omega (arith, joined_out j, few)) (subst (λ (x : Joined). IsShort x.source.parts) is short.0),
        sources_small js h.1 (omega (arith, few)) short.1,
      )

  abbrev made_step : Step → SetStep
  made_step s = roll-SetStep (record { op = s.0; query = s.1.query })

  steps_small : (rest : List StepTree) → AllByRecursion (λ s. QuerySmall s.query) rest → sum (map (λ s. size_of s.query) rest) + 1 < 2 ^ 32 → AllByRecursion IsShort (map (λ (m : Resolved). m.parts) (map (λ (s : Step). s.1) (map (resolved_step relations) rest))) →
      list_all (λ b. b) (map (λ s. are_small s.query) (map made_step (map (resolved_step relations) rest))) ≡ true
  steps_small [] h few short = refl
  steps_small (s ∷ rest) h few short =
      let is = step_at relations s in
      let here = resolved_step relations s in
      ap₂ (λ a b. a && b)
      (ap (λ s. are_small s.query) (out-roll-SetStep (record { op = here.0; query = here.1.query }))
      ∙ ap (λ (x : Step). are_small x.1.query) is ∙ h.0 (omega (arith, few)) (subst (λ (x : Step). IsShort x.1.parts) is short.0))
      (steps_small rest h.1 (omega (arith, few)) short.1)

  members_small : (qs : List QueryTree) → AllByRecursion QuerySmall qs → sum (map size_of qs) + 1 < 2 ^ 32 → AllByRecursion IsShort (map (λ (m : Resolved). m.parts) (map (resolved relations) qs)) →
      list_all (λ b. b) (map are_small (map (λ (m : Resolved). m.query) (map (resolved relations) qs))) ≡ true
  members_small [] h few short = refl
  members_small (q ∷ qs) h few short = ap₂ (λ a b. a && b) (h.0 (omega (arith, few)) short.0) (members_small qs h.1 (omega (arith, few)) short.1)

  small_cases : QueryTreeCases QuerySmall SourceSmall
  small_cases = record {
    block = λ b ss few short.
        let o = out-BlockTree b in
        let made : BlockTree-F Resolved Source Resolved Joined Step = record { distinct = o.distinct; items = o.items; sources = map (resolved_joined relations) o.sources; filter = o.filter; group = o.group; having = o.having } in
        let all = short_parts (record { blocks = scoped made ∷ []; heads = []; relations = []; operations = [] } ∷ map (λ (s : Joined). s.source.parts) made.sources) (subst (λ (r : Resolved). IsShort r.parts) (block_at relations b) short) in
        ap (λ (r : Resolved). are_small r.query) (block_at relations b)
        ∙ of_block_small made (or_left (has_long_list (scoped made)) false all.0) (omega (arith, size-Tree b, few)) (sources_small o.sources ss (omega (arith, size-Tree b, few)) all.1);
    chain = λ q rest h hs few short.
        let steps = map (resolved_step relations) rest in
        let members : List Resolved = resolved relations q ∷ map (λ (s : Step). s.1) steps in
        let all = short_parts (record { blocks = []; heads = []; relations = []; operations = map (λ (m : Resolved). m.columns) members ∷ [] } ∷ map (λ (m : Resolved). m.parts) members) (subst (λ (r : Resolved). IsShort r.parts) (resolved-Chain relations q rest) short) in
        ap (λ (r : Resolved). are_small r.query) (resolved-Chain relations q rest)
        ∙ small-Chain (resolved relations q).query (map made_step steps)
        ∙ ap₂ (λ a b. a && b) (h (omega (arith, size-Chain q rest, few)) all.1.0) (steps_small rest hs (omega (arith, size-Chain q rest, few)) all.1.1);
    intersect = λ qs hs few short.
        let members : List Resolved = map (resolved relations) qs in
        let all = short_parts (record { blocks = []; heads = []; relations = []; operations = map (λ (m : Resolved). m.columns) members ∷ [] } ∷ map (λ (m : Resolved). m.parts) members) (subst (λ (r : Resolved). IsShort r.parts) (resolved-Intersect relations qs) short) in
        ap (λ (r : Resolved). are_small r.query) (resolved-Intersect relations qs)
        ∙ small-Intersect (map (λ (m : Resolved). m.query) members)
        ∙ members_small qs hs (omega (arith, size-Intersect qs, few)) all.1;
    relation = λ name alias few short. ap (λ (s : Source). origin_small s.origin) (source-Relation relations name alias) ∙ small-Relation (unwrap_or (place_of name relations) 0);
    of_query = λ q alias h few short.
        let is = source-Query relations q alias in
        ap (λ (s : Source). origin_small s.origin) is ∙ small-Query (resolved relations q).query ∙ h (omega (arith, size-Query q alias, few)) (subst (λ (s : Source). IsShort s.parts) is short);
  }

  pub tree_small : (q : QueryTree) → QuerySmall q
  tree_small = each_query_tree QuerySmall SourceSmall small_cases
