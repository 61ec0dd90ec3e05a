-- The parts of a small query are small, and have few columns in scope if no query in FROM has two columns of one name.
use Rattle.std.proofs.Common.{◌≡◌, ℕ, zero, suc, ◌+◌, ◌*◌, ◌^◌, ◌<◌, ◌≤◌, List, [], ◌∷◌, ◌++◌, fold, map, length, take, get_or, Bool, true, false, if◌then◌else◌, refl, sym, ap, subst, ◌∙◌, arith}
use Rattle.std.specs.Prelude.{Option, Some, None}
use Rattle.std.specs.List.{AllByRecursion, cons_option, filter_map, flat_map, list_any}
use Rattle.std.proofs.lemmas.List.{length-append, length-map}
use Rattle.sq_ast.specs.Sources.{sum}
use Rattle.sq_ast.specs.declared.query.BlockTree.{BlockTree, out-BlockTree}
use Rattle.sq_ast.specs.declared.query.ItemTree.{ItemTree}
use Rattle.sq_ast.specs.declared.query.ItemTree.TheVariants as item
use Rattle.sq_ast.specs.declared.query.JoinedTree.{JoinedTree, out-JoinedTree}
use Rattle.sq_ast.specs.declared.query.QueryTree.{QueryTree}
use Rattle.sq_ast.specs.declared.query.QueryTree.TheVariants as tree
use Rattle.sq_ast.specs.declared.query.SourceTree.{SourceTree}
use Rattle.sq_ast.specs.declared.query.SourceTree.TheVariants as from
use Rattle.sq_ast.specs.declared.query.StepTree.{StepTree}
use Rattle.sq_ast.specs.declared.statement.Body.{Body}
use Rattle.sq_ast.specs.declared.statement.Body.TheVariants as body
use Rattle.sq_ast.specs.declared.statement.Flavour.{Flavour}
use Rattle.sq_ast.specs.declared.statement.Statement.{Statement}
use Rattle.sq_ast.specs.Spelling as by
use Rattle.sq_ast.specs.Spelling.{SpellsBody}
use Rattle.sq_ast.specs.Words.{Tokens}
use Rattle.sq_ast.proofs.Taken.{shorter, flavour_taken}
use Rattle.sq_catalog.specs.declared.relation.Relation.{Relation}
use Rattle.sq_typed.specs.declared.query.BlockCall.{BlockCall}
use Rattle.sq_typed.specs.declared.query.Origin.{Origin}
use Rattle.sq_typed.specs.Checked.{Spelling}
use Rattle.sq_typed.specs.Faults.{described, item_exprs}
use Rattle.sq_typed.specs.Leaves.{Leaf, leaves, call_at}
use Rattle.sq_typed.specs.Numbered.{is_same_call, typed_call}
use Rattle.sq_typed.specs.Resolved.{Resolved, resolved, scope_of}
use Rattle.sq_typed.specs.Scopes.{Scope, columns_in, number_of}
use Rattle.sq_typed.specs.Selected.{block_calls, keys, list_leaves, having_leaves, call_trees}
use Rattle.sq_typed.specs.Sizes.{HasFewGroups, size_of, source_size, joined_size}
use Rattle.sq_typed.proofs.FitQueries.{none_pass}
use Rattle.sq_typed.proofs.NarrowLemmas.{scope_narrow}
use Rattle.sq_typed.proofs.QueryEquations.{resolved_source, resolved_joined}
use Rattle.sq_typed.proofs.SizeLemmas.{size-Tree, size-Chain, size-Intersect, size-Query, joined_out, query_few}
use Rattle.sq_scope.specs.Scoped.{scoped_by}
use Rattle.sq_scope.specs.TypesLeaves.{leaves_of_item}
use Rattle.sq_check.specs.declared.findings.Findings.{Findings}
use Rattle.sq_check.specs.declared.resolve.Wanted.TheVariants.{Distinct, Front}
use Rattle.sq_check.specs.QueriesFew.{Small, Typable, body_size}
use Rattle.sq_check.specs.QueriesFound.{GivesScope, has_same_columns, joined_repeats, source_repeats}
use Rattle.sq_check.specs.QueriesTyped.{HasSources}
use Rattle.sq_check.proofs.QueriesAdded.{or_left, or_right, any_map}
use Rattle.sq_check.proofs.QueriesGiven.{whole, heads_repeat, operation_heads, chain_is, intersect_is, chain_repeats_first, query_repeats, source_repeats_at, sources_repeat}
use Rattle.sq_check.proofs.TypesBlocks.{list_leaves-is}

-- ---- parts

pub smaller : (rs : List Relation) (n m : ℕ) → Small rs n → m ≤ n → Small rs m
smaller rs n m h le = record { narrow = h.narrow; few = let less = h.few in omega arith }

sum_at : {A : Type 0} (f : A → ℕ) (xs : List A) (i : ℕ) (x : A) → i < length xs → x ≡ get_or xs i x → f x ≤ sum (map f xs)
sum_at f [] i x below at = absurd (omega (arith, below))
sum_at f (y ∷ xs) zero x below at = omega (arith, ap f at)
sum_at f (y ∷ xs) (suc i) x below at = omega (arith, sum_at f xs i x (omega (arith, below)) at)

pub first_small : (rs : List Relation) (q first given : QueryTree) (rest : List StepTree) → q ≡ tree.Chain first rest → given ≡ first → Small rs (size_of q) → Small rs (size_of given)
first_small rs q first given rest is same h = smaller rs (size_of q) (size_of given) h (omega (arith, ap size_of is, ap size_of same, size-Chain first rest))

pub rest_small : (rs : List Relation) (q first : QueryTree) (rest : List StepTree) → q ≡ tree.Chain first rest → Small rs (size_of q) → Small rs (sum (map (λ s. size_of s.query) rest))
rest_small rs q first rest is h = smaller rs (size_of q) (sum (map (λ s. size_of s.query) rest)) h (omega (arith, ap size_of is, size-Chain first rest))

pub step_small : (rs : List Relation) (rest items : List StepTree) (i : ℕ) (x : StepTree) → items ≡ rest → i < length items → x ≡ get_or items i x → Small rs (sum (map (λ s. size_of s.query) rest)) → Small rs (size_of x.query)
step_small rs rest items i x all below at h =
    smaller rs (sum (map (λ s. size_of s.query) rest)) (size_of x.query) h (omega (arith, ap (λ (ss : List StepTree). sum (map (λ s. size_of s.query) ss)) all, sum_at (λ (s : StepTree). size_of s.query) items i x below at))

pub members_small : (rs : List Relation) (q : QueryTree) (members : List QueryTree) → q ≡ tree.Intersect members → Small rs (size_of q) → Small rs (sum (map size_of members))
members_small rs q members is h = smaller rs (size_of q) (sum (map size_of members)) h (omega (arith, ap size_of is, size-Intersect members))

pub member_small : (rs : List Relation) (members items : List QueryTree) (i : ℕ) (x : QueryTree) → items ≡ members → i < length items → x ≡ get_or items i x → Small rs (sum (map size_of members)) → Small rs (size_of x)
member_small rs members items i x all below at h =
    smaller rs (sum (map size_of members)) (size_of x) h (omega (arith, ap (λ (qs : List QueryTree). sum (map size_of qs)) all, sum_at size_of items i x below at))

pub block_small : (rs : List Relation) (q : QueryTree) (b given : BlockTree) → q ≡ tree.Block b → given ≡ b → Small rs (size_of q) → Small rs (size_of (tree.Block given))
block_small rs q b given is same h = subst (λ n. Small rs n) (ap size_of (is ∙ ap tree.Block (sym same))) h

pub sources_small : (rs : List Relation) (b : BlockTree) → Small rs (size_of (tree.Block b)) → Small rs (sum (map joined_size (out-BlockTree b).sources))
sources_small rs b h = smaller rs (size_of (tree.Block b)) (sum (map joined_size (out-BlockTree b).sources)) h (omega (arith, size-Tree b))

pub groups_small : (rs : List Relation) (b : BlockTree) → Small rs (size_of (tree.Block b)) → HasFewGroups b
groups_small rs b h = let less = h.few in omega (arith, size-Tree b)

pub source_small : (rs : List Relation) (js items : List JoinedTree) (i : ℕ) (x : JoinedTree) → items ≡ js → i < length items → x ≡ get_or items i x → Small rs (sum (map joined_size js)) → Small rs (source_size (out-JoinedTree x).source)
source_small rs js items i x all below at h =
    smaller rs (sum (map joined_size js)) (source_size (out-JoinedTree x).source) h (omega (arith, ap (λ (xs : List JoinedTree). sum (map joined_size xs)) all, sum_at joined_size items i x below at, joined_out x))

pub query_small : (rs : List Relation) (f : SourceTree) (q given : QueryTree) (alias : List ℕ) → f ≡ from.Query q alias → given ≡ q → Small rs (source_size f) → Small rs (size_of given)
query_small rs f q given alias is same h = smaller rs (source_size f) (size_of given) h (omega (arith, ap source_size is, size-Query q alias, ap size_of same))

-- ---- few columns in scope

few_by : (rs : List Relation) (js : List JoinedTree) → list_any joined_repeats (map (resolved_joined rs) js) ≡ false → Small rs (sum (map joined_size js)) → length (columns_in (scope_of (map (resolved_joined rs) js))) < 2 ^ 32
few_by rs js apart h =
    let less = h.few in
    omega (arith, scope_narrow rs h.narrow js (none_pass joined_repeats (map (resolved_joined rs) js) apart))

all_taken : (js items : List JoinedTree) (i : ℕ) → items ≡ js → length items ≤ i → take i items ≡ js
all_taken js items i all over = whole items i over ∙ all

pub scope_small : (rs : List Relation) (js items : List JoinedTree) (i : ℕ) (before now : Findings) (found : Scope) → items ≡ js → length items ≤ i → GivesScope (map (resolved_joined rs) (take i items)) before now found →
    Small rs (sum (map joined_size js)) → length (columns_in found) < 2 ^ 32
scope_small rs js items i before now found all over gives h =
    let taken = all_taken js items i all over in
    subst (λ ss. length (columns_in ss) < 2 ^ 32) (sym (gives.scope ∙ ap (λ xs. scope_of (map (resolved_joined rs) xs)) taken))
    (few_by rs js (subst (λ xs. list_any joined_repeats (map (resolved_joined rs) xs) ≡ false) taken gives.differ) h)

pub typed_scope_small : (rs : List Relation) (js items : List JoinedTree) (i : ℕ) (found : Scope) (os : List Origin) → items ≡ js → length items ≤ i → HasSources (map (resolved_joined rs) (take i items)) found os →
    list_any joined_repeats (map (resolved_joined rs) js) ≡ false → Small rs (sum (map joined_size js)) → length (columns_in found) < 2 ^ 32
typed_scope_small rs js items i found os all over has apart h =
    subst (λ ss. length (columns_in ss) < 2 ^ 32) (sym (has.scope ∙ ap (λ xs. scope_of (map (resolved_joined rs) xs)) (all_taken js items i all over))) (few_by rs js apart h)

-- ---- few columns in a group row

kept_short : (kept : List BlockCall) (xs : List BlockCall) → length (fold (λ kept x. kept ++ (if list_any (is_same_call x) kept then [] else x ∷ [])) kept xs) ≤ length kept + length xs
kept_short kept [] = omega arith
kept_short kept (x ∷ xs) =
    omega (arith, kept_short (kept ++ (if list_any (is_same_call x) kept then [] else x ∷ [])) xs, one_more kept x (list_any (is_same_call x) kept))
  where
    one_more : (kept : List BlockCall) (x : BlockCall) (b : Bool) → length (kept ++ (if b then [] else x ∷ [])) ≤ suc (length kept)
    one_more kept x true =
        let none : List BlockCall = [] in
        omega (arith, length-append kept none)
    one_more kept x false = omega (arith, length-append kept (x ∷ []))

filtered_short : {A B : Type 0} (f : A → Option B) (xs : List A) → length (filter_map f xs) ≤ length xs
filtered_short f [] = omega arith
filtered_short f (x ∷ xs) = by_case f xs (f x) (filtered_short f xs)
  where
    by_case : {A B : Type 0} (f : A → Option B) (xs : List A) (o : Option B) → length (filter_map f xs) ≤ length xs → length (cons_option o (filter_map f xs)) ≤ suc (length xs)
    by_case f xs None h = omega (arith, h)
    by_case f xs (Some y) h = omega (arith, h)

items_leaves : (is : List ItemTree) → length (flat_map leaves_of_item is) ≤ length (flat_map leaves (flat_map item_exprs is))
items_leaves [] = omega arith
items_leaves (item.Star ∷ is) = items_leaves is
items_leaves (item.StarOf name ∷ is) = items_leaves is
items_leaves (item.Expr e alias ∷ is) = omega (arith, length-append (leaves e) (flat_map leaves_of_item is), length-append (leaves e) (flat_map leaves (flat_map item_exprs is)), items_leaves is)

pub groups_few : (scope : Scope) (b : BlockTree) (numbers : List ℕ) (calls : List BlockCall) → HasFewGroups b → numbers ≡ keys (scoped_by scope b) → calls ≡ block_calls (scoped_by scope b) → length numbers + length calls < 2 ^ 32
groups_few scope b numbers calls few keys_are calls_are =
    let own = scoped_by scope b in
    omega (
      arith,
      few,
      ap (λ (ns : List ℕ). length ns) keys_are,
      length-map own.group (number_of scope),
      ap (λ (cs : List BlockCall). length cs) calls_are,
      kept_short [] (map (typed_call scope) (call_trees own)),
      length-map (call_trees own) (typed_call scope),
      filtered_short call_at (list_leaves own ++ having_leaves own),
      length-append (list_leaves own) (having_leaves own),
      ap (λ (ls : List Leaf). length ls) (list_leaves-is scope (out-BlockTree b).items),
      items_leaves (out-BlockTree b).items,
    )

-- ---- no name stands twice in the parts

not_true : (a b : Bool) → (a ≡ true → b ≡ true) → b ≡ false → a ≡ false
not_true true b f h = sym (f refl) ∙ h
not_true false b f h = refl

none_at : {A : Type 0} (p : A → Bool) (xs : List A) (i : ℕ) (x : A) → list_any p xs ≡ false → i < length xs → x ≡ get_or xs i x → p x ≡ false
none_at p [] i x none below at = absurd (omega (arith, below))
none_at p (y ∷ xs) zero x none below at = ap p at ∙ or_left (p y) (list_any p xs) none
none_at p (y ∷ xs) (suc i) x none below at = none_at p xs i x (or_right (p y) (list_any p xs) none) (omega (arith, below)) at

abbrev heads_same : Resolved → Bool
heads_same r = list_any has_same_columns r.parts.heads

module _ (rs : List Relation) where
  pub first_apart : (q first given : QueryTree) (rest : List StepTree) → q ≡ tree.Chain first rest → given ≡ first → heads_same (resolved rs q) ≡ false → heads_same (resolved rs given) ≡ false
  first_apart q first given rest is same h = not_true (heads_same (resolved rs given)) (heads_same (resolved rs q)) (chain_repeats_first rs (Front 0) q first given rest is same) h

  pub rest_apart : (q first : QueryTree) (rest : List StepTree) → q ≡ tree.Chain first rest → heads_same (resolved rs q) ≡ false → list_any (λ s. heads_same (resolved rs s.query)) rest ≡ false
  rest_apart q first rest is h =
      let members = resolved rs first ∷ map (λ s. resolved rs s.query) rest in
      let all = sym (operation_heads members) ∙ (ap heads_same (sym (chain_is rs q first rest is)) ∙ h) in
      sym (any_map heads_same (λ (s : StepTree). resolved rs s.query) rest) ∙ or_right (heads_same (resolved rs first)) (list_any heads_same (map (λ s. resolved rs s.query) rest)) all

  pub step_apart : (rest items : List StepTree) (i : ℕ) (x : StepTree) → items ≡ rest → i < length items → x ≡ get_or items i x → list_any (λ s. heads_same (resolved rs s.query)) rest ≡ false → heads_same (resolved rs x.query) ≡ false
  step_apart rest items i x all below at h = none_at (λ (s : StepTree). heads_same (resolved rs s.query)) items i x (ap (list_any (λ s. heads_same (resolved rs s.query))) all ∙ h) below at

  pub members_apart : (q : QueryTree) (members : List QueryTree) → q ≡ tree.Intersect members → heads_same (resolved rs q) ≡ false → list_any (λ q. heads_same (resolved rs q)) members ≡ false
  members_apart q members is h =
      sym (any_map heads_same (resolved rs) members) ∙ (sym (operation_heads (map (resolved rs) members)) ∙ (ap heads_same (sym (intersect_is rs q members is)) ∙ h))

  pub member_apart : (members items : List QueryTree) (i : ℕ) (x : QueryTree) → items ≡ members → i < length items → x ≡ get_or items i x → list_any (λ q. heads_same (resolved rs q)) members ≡ false → heads_same (resolved rs x) ≡ false
  member_apart members items i x all below at h = none_at (λ (q : QueryTree). heads_same (resolved rs q)) items i x (ap (list_any (λ q. heads_same (resolved rs q))) all ∙ h) below at

  pub block_apart : (q : QueryTree) (b given : BlockTree) → q ≡ tree.Block b → given ≡ b → heads_same (resolved rs q) ≡ false → heads_same (resolved rs (tree.Block given)) ≡ false
  block_apart q b given is same h = subst (λ q. heads_same (resolved rs q) ≡ false) (is ∙ ap tree.Block (sym same)) h

  pub sources_apart : (b : BlockTree) → heads_same (resolved rs (tree.Block b)) ≡ false → list_any joined_repeats (map (resolved_joined rs) (out-BlockTree b).sources) ≡ false
  sources_apart b h = not_true (list_any joined_repeats (map (resolved_joined rs) (out-BlockTree b).sources)) (heads_same (resolved rs (tree.Block b))) (sources_repeat rs (Front 0) b) h

  pub source_apart : (js items : List JoinedTree) (i : ℕ) (x : JoinedTree) → items ≡ js → i < length items → x ≡ get_or items i x → list_any joined_repeats (map (resolved_joined rs) js) ≡ false → source_repeats (resolved_source rs (out-JoinedTree x).source) ≡ false
  source_apart js items i x all below at h = not_true (source_repeats (resolved_source rs (out-JoinedTree x).source)) (list_any joined_repeats (map (resolved_joined rs) js)) (source_repeats_at rs js items i x all below at) h

  pub query_apart : (f : SourceTree) (q given : QueryTree) (alias : List ℕ) → f ≡ from.Query q alias → given ≡ q → source_repeats (resolved_source rs f) ≡ false → heads_same (resolved rs given) ≡ false
  query_apart f q given alias is same h =
      not_true (heads_same (resolved rs given)) (source_repeats (resolved_source rs f))
      (λ e. query_repeats rs f q given alias is same (heads_repeat Distinct (resolved rs given).leftmost (resolved rs given).parts e)) h

-- ---- statements

pub view_small : (rs : List Relation) (b : Body) (name : List ℕ) (flavour : Option Flavour) (q : QueryTree) → b ≡ body.View name flavour q → Small rs (body_size b) → Small rs (size_of q)
view_small rs b name flavour q is h = subst (λ b. Small rs (body_size b)) is h

pub view_typable : (rs : List Relation) (b : Body) (name : List ℕ) (flavour : Option Flavour) (q : QueryTree) → b ≡ body.View name flavour q → Small rs (body_size b) → list_any has_same_columns (described rs b).parts.heads ≡ false → Typable rs (size_of q) (heads_same (resolved rs q))
view_typable rs b name flavour q is h apart = record { small = view_small rs b name flavour q is h; apart = subst (λ b. list_any has_same_columns (described rs b).parts.heads ≡ false) is apart }

body_few : {ts rest : Tokens} {b : Body} → SpellsBody ts b rest → body_size b ≤ 32 * length ts
body_few (by.table n c cs) = omega arith
body_few (by.view f n d) = omega (arith, shorter (flavour_taken f), query_few d)

pub statement_small : (s : Statement) → Spelling s → body_size s.body < 2 ^ 32
statement_small s h = let less = h.few in omega (arith, body_few h.spelled)

pub all_at : {A : Type 0} (P : A → Type 0) (xs : List A) (i : ℕ) (x : A) → AllByRecursion P xs → i < length xs → x ≡ get_or xs i x → P x
all_at P [] i x h below at = absurd (omega (arith, below))
all_at P (y ∷ xs) zero x h below at = subst P (sym at) h.0
all_at P (y ∷ xs) (suc i) x h below at = all_at P xs i x h.1 (omega (arith, below)) at
