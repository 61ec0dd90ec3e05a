-- What the tests without a scope say of a block in any scope.
use Rattle.std.proofs.Common.{◌≡◌, ℕ, suc, ◌+◌, Bool, true, false, ◌||◌, List, [], ◌∷◌, ◌++◌, length, refl, ap, sym, ◌∙◌}
use Rattle.std.specs.Prelude.{Option, Some, None, is_some, if◌then◌else◌, bytes_eq, option_to_list, take}
use Rattle.std.specs.List.{flat_map, filter_map, cons_option, list_any}
use Rattle.std.proofs.lemmas.List.Folds.{list_any-append}
use Rattle.std.proofs.lemmas.Grind.{flat_map-append}
use Rattle.sq_expr.proofs.Lists.{any_flat}
use Rattle.sq_ast.specs.declared.cond.CondTree.{CondTree}
use Rattle.sq_ast.specs.declared.query.BlockTree.{BlockTree, out-BlockTree}
use Rattle.sq_ast.specs.declared.query.ItemTree.{ItemTree}
use Rattle.sq_ast.specs.declared.query.ItemTree.TheVariants as item
use Rattle.sq_ast.specs.declared.query.JoinTree.{JoinTree}
use Rattle.sq_ast.specs.declared.query.JoinTree.TheVariants as join
use Rattle.sq_ast.specs.declared.query.JoinedTree.{JoinedTree, out-JoinedTree}
use Rattle.sq_catalog.specs.declared.relation.Column.{Column}
use Rattle.sq_typed.specs.Faults.{has_nested_aggregate}
use Rattle.sq_typed.specs.Leaves.{Leaf, leaves, call_at, is_call, has_call, is_nested, exprs_in, exprs_of}
use Rattle.sq_typed.specs.Resolved.{on_cond}
use Rattle.sq_typed.specs.Scopes.{Scope, Text}
use Rattle.sq_typed.specs.Selected.{starred, starred_from, written_out, item_leaves, has_group, is_grouped}
use Rattle.sq_scope.specs.Scoped.{ons_from, scoped_by}
use Rattle.sq_scope.specs.TypesLeaves.{nests, leaves_of_item, item_has_call, item_nests, join_has_call, groups, calls_in_rows, calls_nest}
use Rattle.sq_scope.proofs.TypesTrees.{or_false}

-- ---- leaves of the select list

-- a star has no leaves
flat_none : (n : ℕ) (cs : List Column) → flat_map item_leaves (starred_from n cs) ≡ []
flat_none n [] = refl
flat_none n (c ∷ cs) = flat_none (suc n) cs

star_leaves : (test : Text → Bool) (begin : ℕ) (scope : Scope) → flat_map item_leaves (starred test begin scope) ≡ []
star_leaves test begin [] = refl
star_leaves test begin (s ∷ ss) =
    flat_map-append item_leaves (if test s.name then starred_from begin s.columns else []) (starred test (begin + length s.columns) ss)
    ∙ (ap (λ ls. ls ++ flat_map item_leaves (starred test (begin + length s.columns) ss)) (elim (test s.name) as (λ b. flat_map item_leaves (if b then starred_from begin s.columns else []) ≡ []) [ true ↦ flat_none begin s.columns | false ↦ refl ])
    ∙ star_leaves test (begin + length s.columns) ss)

pub append_none : {A : Type 0} (xs : List A) → xs ++ [] ≡ xs
append_none [] = refl
append_none (x ∷ xs) = ap (λ ys. x ∷ ys) (append_none xs)

item_leaves-is : (scope : Scope) (i : ItemTree) → flat_map item_leaves (written_out scope i) ≡ leaves_of_item i
item_leaves-is scope item.Star = star_leaves (λ name. true) 0 scope
item_leaves-is scope (item.StarOf name) = star_leaves (bytes_eq name) 0 scope
item_leaves-is scope (item.Expr e alias) = append_none (leaves e)

pub list_leaves-is : (scope : Scope) (items : List ItemTree) → flat_map item_leaves (flat_map (written_out scope) items) ≡ flat_map leaves_of_item items
list_leaves-is scope [] = refl
list_leaves-is scope (i ∷ is) =
    flat_map-append item_leaves (written_out scope i) (flat_map (written_out scope) is)
    ∙ (ap (λ ls. ls ++ flat_map item_leaves (flat_map (written_out scope) is)) (item_leaves-is scope i)
    ∙ ap (λ ls. leaves_of_item i ++ ls) (list_leaves-is scope is))

-- a test of the leaves of the items, item by item
any_item : (p : Leaf → Bool) (of_item : ItemTree → Bool) → ((i : ItemTree) → list_any p (leaves_of_item i) ≡ of_item i) → (items : List ItemTree) → list_any p (flat_map leaves_of_item items) ≡ list_any of_item items
any_item p of_item is [] = refl
any_item p of_item is (i ∷ items) =
    list_any-append p (leaves_of_item i) (flat_map leaves_of_item items)
    ∙ (ap (λ b. b || list_any p (flat_map leaves_of_item items)) (is i)
    ∙ ap (λ b. of_item i || b) (any_item p of_item is items))

item_has_call-is : (i : ItemTree) → list_any is_call (leaves_of_item i) ≡ item_has_call i
item_has_call-is item.Star = refl
item_has_call-is (item.StarOf name) = refl
item_has_call-is (item.Expr e alias) = refl

item_nests-is : (i : ItemTree) → list_any nests (leaves_of_item i) ≡ item_nests i
item_nests-is item.Star = refl
item_nests-is (item.StarOf name) = refl
item_nests-is (item.Expr e alias) = refl

pub is_grouped-is : (scope : Scope) (b : BlockTree) → is_grouped (scoped_by scope b) ≡ groups b
is_grouped-is scope b =
    ap (λ t. has_group (out-BlockTree b).group || is_some (out-BlockTree b).having || t)
    (ap (list_any is_call) (list_leaves-is scope (out-BlockTree b).items) ∙ any_item is_call item_has_call item_has_call-is (out-BlockTree b).items)

-- ---- calls that nest

pub any_at : {A B : Type 0} (p : B → Bool) (g : A → Option B) (xs : List A) → list_any p (filter_map g xs) ≡ list_any (λ x. list_any p (option_to_list (g x))) xs
any_at p g [] = refl
any_at p g (x ∷ xs) =
    elim (g x) as (λ o. list_any p (cons_option o (filter_map g xs)) ≡ (list_any p (option_to_list o) || list_any (λ x. list_any p (option_to_list (g x))) xs)) [
      | None ↦ any_at p g xs
      | Some y ↦ ap (λ b. p y || b) (any_at p g xs) ∙ ap (λ b. b || list_any (λ x. list_any p (option_to_list (g x))) xs) (sym (or_false (p y)))
    ]

ons_have_call : (before : ℕ) (scope : Scope) (js : List JoinedTree) → list_any has_call (flat_map (λ (on : Scope × CondTree). exprs_in on.1) (ons_from before scope js)) ≡ list_any (λ j. join_has_call j.join) js
ons_have_call before scope [] = refl
ons_have_call before scope (j ∷ js) =
    ap (list_any has_call) (flat_map-append (λ (on : Scope × CondTree). exprs_in on.1) (on_cond (take (suc before) scope) (out-JoinedTree j).join) (ons_from (suc before) scope js))
    ∙ (list_any-append has_call (flat_map (λ (on : Scope × CondTree). exprs_in on.1) (on_cond (take (suc before) scope) (out-JoinedTree j).join)) (flat_map (λ (on : Scope × CondTree). exprs_in on.1) (ons_from (suc before) scope js))
    ∙ (ap (λ b. b || list_any has_call (flat_map (λ (on : Scope × CondTree). exprs_in on.1) (ons_from (suc before) scope js))) (of_join (take (suc before) scope) (out-JoinedTree j).join)
    ∙ ap (λ b. join_has_call (out-JoinedTree j).join || b) (ons_have_call (suc before) scope js)))
  where
    of_join : (scope : Scope) (j : JoinTree) → list_any has_call (flat_map (λ (on : Scope × CondTree). exprs_in on.1) (on_cond scope j)) ≡ join_has_call j
    of_join scope join.Comma = refl
    of_join scope (join.Inner on) = ap (list_any has_call) (append_none (exprs_in on))
    of_join scope (join.Left on) = ap (list_any has_call) (append_none (exprs_in on))

pub nested_is : (scope : Scope) (b : BlockTree) → has_nested_aggregate (scoped_by scope b) ≡ (calls_in_rows b || calls_nest b)
nested_is scope b =
    let rows : list_any has_call (exprs_of (out-BlockTree b).filter ++ flat_map (λ (on : Scope × CondTree). exprs_in on.1) (ons_from 0 scope (out-BlockTree b).sources)) ≡ calls_in_rows b =
    list_any-append has_call (exprs_of (out-BlockTree b).filter) (flat_map (λ (on : Scope × CondTree). exprs_in on.1) (ons_from 0 scope (out-BlockTree b).sources))
    ∙ ap (λ t. list_any has_call (exprs_of (out-BlockTree b).filter) || t) (ons_have_call 0 scope (out-BlockTree b).sources) in
    let calls : list_any is_nested (filter_map call_at (flat_map item_leaves (flat_map (written_out scope) (out-BlockTree b).items) ++ flat_map leaves (exprs_of (out-BlockTree b).having))) ≡ calls_nest b =
    any_at is_nested call_at (flat_map item_leaves (flat_map (written_out scope) (out-BlockTree b).items) ++ flat_map leaves (exprs_of (out-BlockTree b).having))
    ∙ (list_any-append nests (flat_map item_leaves (flat_map (written_out scope) (out-BlockTree b).items)) (flat_map leaves (exprs_of (out-BlockTree b).having))
    ∙ (ap (λ t. t || list_any nests (flat_map leaves (exprs_of (out-BlockTree b).having))) (ap (list_any nests) (list_leaves-is scope (out-BlockTree b).items) ∙ any_item nests item_nests item_nests-is (out-BlockTree b).items)
    ∙ ap (λ t. list_any item_nests (out-BlockTree b).items || t) (any_flat nests leaves (exprs_of (out-BlockTree b).having)))) in
    ap (λ t. t || list_any is_nested (filter_map call_at (flat_map item_leaves (flat_map (written_out scope) (out-BlockTree b).items) ++ flat_map leaves (exprs_of (out-BlockTree b).having)))) rows
    ∙ ap (λ t. calls_in_rows b || t) calls
