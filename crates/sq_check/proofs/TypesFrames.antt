-- What a frame says of a block.
use Rattle.std.proofs.Common.{◌≡◌, ℕ, suc, ◌+◌, Bool, true, List, [], ◌∷◌, ◌++◌, map, length, refl, ap, sym, ◌∙◌}
use Rattle.std.specs.Prelude.{if◌then◌else◌, unwrap_or, position}
use Rattle.std.specs.List.{flat_map}
use Rattle.sq_ast.specs.declared.expr.ExprTree.{ExprTree}
use Rattle.sq_ast.specs.declared.query.BlockTree.{BlockTree, out-BlockTree}
use Rattle.sq_expr.specs.declared.expr.Expr.TheVariants as expr
use Rattle.sq_expr.specs.declared.expr.Kind.{Kind}
use Rattle.sq_typed.specs.Leaves.{leaves, exprs_of}
use Rattle.sq_typed.specs.Numbered.{row_expr, replaced, typed_call, is_same_call, kind_of}
use Rattle.sq_typed.specs.Scopes.{Scope, number_of, kinds_in}
use Rattle.sq_typed.specs.Selected.{Scoped, Chosen, Starred, Written, is_grouped, keys, block_calls, key_place, group_expr, group_kinds, item_expr, item_kinds, item_name, item_column}
use Rattle.sq_scope.specs.Scoped.{scoped_by}
use Rattle.sq_check.specs.TypesFrames.{IsFrame, frame_place, frame_kinds, frame_item, frame_column}
use Rattle.sq_scope.specs.TypesGroups.{with_calls, place_of_key, over_group, key_kinds, call_kinds}
use Rattle.sq_scope.specs.TypesLeaves.{leaves_of_item, groups}
use Rattle.sq_check.specs.declared.frame.Frame.{Frame}
use Rattle.sq_scope.specs.declared.grouped.Groups.{Groups}
use Rattle.sq_check.proofs.TypesBlocks.{list_leaves-is, is_grouped-is}
use Rattle.sq_scope.proofs.TypesCalls.{with_calls_append}

-- the calls of the items and then those of HAVING are the calls of the block
pub block_calls_are : (scope : Scope) (b : BlockTree) → with_calls scope (with_calls scope [] (flat_map leaves_of_item (out-BlockTree b).items)) (flat_map leaves (exprs_of (out-BlockTree b).having)) ≡ block_calls (scoped_by scope b)
block_calls_are scope b =
    sym (with_calls_append scope [] (flat_map leaves_of_item (out-BlockTree b).items) (flat_map leaves (exprs_of (out-BlockTree b).having)))
    ∙ ap (λ ls. with_calls scope [] (ls ++ flat_map leaves (exprs_of (out-BlockTree b).having))) (sym (list_leaves-is scope (out-BlockTree b).items))

pub framed : (scope row : Scope) (b : BlockTree) (grouped : Bool) (g : Groups) (ks kinds : List Kind) → row ≡ scope → grouped ≡ groups b → g.keys.numbers ≡ keys (scoped_by row b) → g.calls ≡ block_calls (scoped_by row b) → ks ≡ kinds_in row → kinds ≡ key_kinds ks g.keys.numbers ++ call_kinds ks g.calls → IsFrame (scoped_by scope b) (record { row = row; grouped = grouped; groups = g; group_kinds = kinds })
framed scope row b grouped g ks kinds same test numbers calls of_row typed = record {
  row = same;
  grouped = test ∙ sym (is_grouped-is scope b);
  numbers = numbers ∙ ap (λ s. keys (scoped_by s b)) same;
  calls = calls ∙ ap (λ s. block_calls (scoped_by s b)) same;
  kinds =
      typed
      ∙ (ap (λ k. key_kinds k g.keys.numbers ++ call_kinds k g.calls) (of_row ∙ ap kinds_in same)
      ∙ (ap (λ ns. key_kinds (kinds_in scope) ns ++ call_kinds (kinds_in scope) g.calls) (numbers ∙ ap (λ s. keys (scoped_by s b)) same)
      ∙ ap (λ cs. key_kinds (kinds_in scope) (keys (scoped_by scope b)) ++ call_kinds (kinds_in scope) cs) (calls ∙ ap (λ s. block_calls (scoped_by s b)) same)));
}

-- ---- expressions over the group row

length_mapped : {A B : Type 0} (f : A → B) (xs : List A) → length xs ≡ length (map f xs)
length_mapped f [] = refl
length_mapped f (x ∷ xs) = ap suc (length_mapped f xs)

pub group_expr-is : (b : Scoped) (e : ExprTree) → over_group b.scope (keys b) (block_calls b) e ≡ group_expr b e
group_expr-is b e = sym (ap (λ n. replaced (λ r. expr.Column (key_place b (number_of b.scope r))) (λ c. expr.Column (n + unwrap_or (position (is_same_call (typed_call b.scope c)) (block_calls b)) 0)) e) (length_mapped (number_of b.scope) b.group))

module _ (b : Scoped) (f : Frame) (is : IsFrame b f) where
  grouped_expr : (e : ExprTree) → over_group f.row f.groups.keys.numbers f.groups.calls e ≡ group_expr b e
  grouped_expr e =
      ap (λ row. over_group row f.groups.keys.numbers f.groups.calls e) is.row
      ∙ (ap (λ ns. over_group b.scope ns f.groups.calls e) is.numbers
      ∙ (ap (λ cs. over_group b.scope (keys b) cs e) is.calls
      ∙ group_expr-is b e))

  choice : {A : Type 0} (x y z w : A) → x ≡ z → y ≡ w → (if f.grouped then x else y) ≡ (if is_grouped b then z else w)
  choice x y z w e k = ap (λ t. if t then x else y) is.grouped ∙ (ap (λ u. if is_grouped b then u else y) e ∙ ap (λ u. if is_grouped b then z else u) k)

  pub frame_place-is : (n : ℕ) → frame_place f n ≡ (if is_grouped b then key_place b n else n)
  frame_place-is n = choice (place_of_key f.groups.keys.numbers n) n (key_place b n) n (ap (λ ns. place_of_key ns n) is.numbers) refl

  pub frame_item-is : (i : Chosen) → frame_item f i ≡ item_expr b i
  frame_item-is (Starred n c) = ap expr.Column (frame_place-is n)
  frame_item-is (Written e alias) = choice (over_group f.row f.groups.keys.numbers f.groups.calls e) (row_expr f.row e) (group_expr b e) (row_expr b.scope e) (grouped_expr e) (ap (λ row. row_expr row e) is.row)

  pub frame_kinds-is : frame_kinds f ≡ item_kinds b
  frame_kinds-is = choice f.group_kinds (kinds_in f.row) (group_kinds b) (kinds_in b.scope) is.kinds (ap kinds_in is.row)

  pub frame_column-is : (i : Chosen) → frame_column f i ≡ item_column b i
  frame_column-is i =
      ap (λ ks. record { name = unwrap_or (item_name i) []; kind = kind_of ks (frame_item f i); nullable = true }) frame_kinds-is
      ∙ ap (λ e. record { name = unwrap_or (item_name i) []; kind = kind_of (item_kinds b) e; nullable = true }) (frame_item-is i)

  pub all_items : (is : List Chosen) → map (frame_item f) is ≡ map (item_expr b) is
  all_items is = ap (λ g. map g is) (λ k i. frame_item-is i k)

  pub all_columns : (is : List Chosen) → map (frame_column f) is ≡ map (item_column b) is
  all_columns is = ap (λ g. map g is) (λ k i. frame_column-is i k)
