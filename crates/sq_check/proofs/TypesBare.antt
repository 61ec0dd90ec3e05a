-- Columns outside calls that are none of GROUP BY.
use Rattle.std.proofs.Common.{◌≡◌, ℕ, Bool, true, false, ◌||◌, ◌&&◌, List, [], ◌∷◌, map, refl, ap, sym, ◌∙◌}
use Rattle.std.specs.List.{flat_map, filter_map, list_any}
use Rattle.std.proofs.lemmas.List.Folds.{list_any-append}
use Rattle.sq_expr.proofs.Lists.{any_flat}
use Rattle.sq_ast.specs.declared.expr.ColRef.{ColRef}
use Rattle.sq_ast.specs.declared.expr.ExprTree.TheVariants as tree
use Rattle.sq_ast.specs.declared.query.BlockTree.{BlockTree, out-BlockTree}
use Rattle.sq_ast.specs.declared.query.ItemTree.{ItemTree}
use Rattle.sq_typed.specs.Faults.{item_columns, bare_columns, has_bare_column}
use Rattle.sq_typed.specs.Leaves.{Leaf, leaves, column_at, exprs_of}
use Rattle.sq_typed.specs.Scopes.{Scope, number_of}
use Rattle.sq_typed.specs.Selected.{Chosen, Starred, Written, written_out, keys}
use Rattle.sq_typed.proofs.TreeEquations.{leaves-Neg, leaves-Number, leaves-Text, leaves-Column}
use Rattle.sq_scope.specs.Scoped.{scoped_by}
use Rattle.sq_check.specs.TypesBare.{is_bare, bare_leaf, bare_expr, bare_item}
use Rattle.sq_scope.specs.TypesLeaves.{groups}
use Rattle.sq_scope.proofs.TypesTrees.{or_false, any_leaf-Sum, any_leaf-Product, leaves_call}
use Rattle.sq_check.proofs.TypesBlocks.{any_at, is_grouped-is}

pub any_map : {A B : Type 0} (p : B → Bool) (f : A → B) (xs : List A) → list_any p (map f xs) ≡ list_any (λ x. p (f x)) xs
any_map p f [] = refl
any_map p f (x ∷ xs) = ap (λ b. p (f x) || b) (any_map p f xs)

pub any_same : {A : Type 0} (p q : A → Bool) → ((x : A) → p x ≡ q x) → (xs : List A) → list_any p xs ≡ list_any q xs
any_same p q is xs = ap (λ f. list_any f xs) (λ i x. is x i)

module _ (scope : Scope) (numbers : List ℕ) where
  pub bare-Column : (r : ColRef) → list_any (bare_leaf scope numbers) (leaves (tree.Column r)) ≡ is_bare numbers (number_of scope r)
  bare-Column r = ap (list_any (bare_leaf scope numbers)) (leaves-Column r) ∙ (or_false (is_bare numbers (number_of scope r) || false) ∙ or_false (is_bare numbers (number_of scope r)))

  -- the columns in some leaves
  in_leaves : (ls : List Leaf) → list_any (is_bare numbers) (map (number_of scope) (filter_map column_at ls)) ≡ list_any (bare_leaf scope numbers) ls
  in_leaves ls = any_map (is_bare numbers) (number_of scope) (filter_map column_at ls) ∙ any_at (λ r. is_bare numbers (number_of scope r)) column_at ls

  in_item : (i : Chosen) → list_any (is_bare numbers) (item_columns scope i) ≡ bare_item scope numbers i
  in_item (Starred n c) = or_false (is_bare numbers n)
  in_item (Written e alias) = in_leaves (leaves e)

  in_items : (items : List ItemTree) → list_any (is_bare numbers) (flat_map (item_columns scope) (flat_map (written_out scope) items)) ≡ list_any (λ i. list_any (bare_item scope numbers) (written_out scope i)) items
  in_items items =
      any_flat (is_bare numbers) (item_columns scope) (flat_map (written_out scope) items)
      ∙ (any_same (λ i. list_any (is_bare numbers) (item_columns scope i)) (bare_item scope numbers) in_item (flat_map (written_out scope) items)
      ∙ any_flat (bare_item scope numbers) (written_out scope) items)

pub ruleset bare_forms = (any_leaf-Sum, any_leaf-Product, leaves-Neg, leaves-Number, leaves-Text, bare-Column, leaves_call)

pub not_grouped : (scope : Scope) (b : BlockTree) (grouped : Bool) → grouped ≡ groups b → grouped ≡ false → false ≡ has_bare_column (scoped_by scope b)
not_grouped scope b grouped is none = ap (λ g. g && list_any (is_bare (keys (scoped_by scope b))) (bare_columns (scoped_by scope b))) (sym none ∙ (is ∙ sym (is_grouped-is scope b)))

pub bare_is : (scope row : Scope) (b : BlockTree) (grouped found having : Bool) (numbers : List ℕ) → row ≡ scope → grouped ≡ groups b → grouped ≡ true → numbers ≡ map (number_of row) (out-BlockTree b).group → found ≡ list_any (λ i. list_any (bare_item row numbers) (written_out scope i)) (out-BlockTree b).items → having ≡ list_any (bare_expr row numbers) (exprs_of (out-BlockTree b).having) → (found || having) ≡ has_bare_column (scoped_by scope b)
bare_is scope row b grouped found having numbers same is holds keyed items condition =
    let ns : numbers ≡ keys (scoped_by scope b) = keyed ∙ ap (λ s. map (number_of s) (out-BlockTree b).group) same in
    let one : found ≡ list_any (is_bare (keys (scoped_by scope b))) (flat_map (item_columns scope) (flat_map (written_out scope) (out-BlockTree b).items)) =
    items ∙ (ap (λ s. list_any (λ i. list_any (bare_item s numbers) (written_out scope i)) (out-BlockTree b).items) same
    ∙ (ap (λ n. list_any (λ i. list_any (bare_item scope n) (written_out scope i)) (out-BlockTree b).items) ns
    ∙ sym (in_items scope (keys (scoped_by scope b)) (out-BlockTree b).items))) in
    let two : having ≡ list_any (is_bare (keys (scoped_by scope b))) (map (number_of scope) (filter_map column_at (flat_map leaves (exprs_of (out-BlockTree b).having)))) =
    condition ∙ (ap (λ s. list_any (bare_expr s numbers) (exprs_of (out-BlockTree b).having)) same
    ∙ (ap (λ n. list_any (bare_expr scope n) (exprs_of (out-BlockTree b).having)) ns
    ∙ (sym (any_flat (bare_leaf scope (keys (scoped_by scope b))) leaves (exprs_of (out-BlockTree b).having))
    ∙ sym (in_leaves scope (keys (scoped_by scope b)) (flat_map leaves (exprs_of (out-BlockTree b).having)))))) in
    ap (λ t. t || having) one
    ∙ (ap (λ t. list_any (is_bare (keys (scoped_by scope b))) (flat_map (item_columns scope) (flat_map (written_out scope) (out-BlockTree b).items)) || t) two
    ∙ (sym (list_any-append (is_bare (keys (scoped_by scope b))) (flat_map (item_columns scope) (flat_map (written_out scope) (out-BlockTree b).items)) (map (number_of scope) (filter_map column_at (flat_map leaves (exprs_of (out-BlockTree b).having)))))
    ∙ ap (λ g. g && list_any (is_bare (keys (scoped_by scope b))) (bare_columns (scoped_by scope b))) (sym holds ∙ (is ∙ sym (is_grouped-is scope b)))))
