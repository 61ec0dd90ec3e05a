-- The rows that a node makes are of the kinds that it gives.
use Rattle.std.proofs.Common.{◌≡◌, ℕ, true, false, cond, List, [], ◌∷◌, ◌++◌, replicate, get_or, Some, None, refl, sym, ap, subst, ◌∙◌}
use Rattle.std.specs.Prelude.{Option, is_some}
use Rattle.std.specs.List.{All, AllByRecursion}
use Rattle.std.specs.Ordering.{is_eq}
use Rattle.std.proofs.lemmas.Option.{cond_some}
use Rattle.sq_value.specs.Order.{row_cmp}
use Rattle.sq_value.specs.OrderLaws.{row_cmp-total}
use Rattle.sq_value.specs.declared.value.Value.{Value}
use Rattle.sq_value.specs.declared.value.Value.TheVariants.{Null}
use Rattle.sq_expr.specs.Items.{IsStorable}
use Rattle.sq_expr.specs.Kinds.{AreOfKinds, IsOfKind}
use Rattle.sq_expr.specs.Meaning.{num, columns_of}
use Rattle.sq_expr.specs.declared.cond.Cond.{Cond}
use Rattle.sq_expr.specs.declared.expr.Expr.{Expr}
use Rattle.sq_expr.specs.declared.expr.Kind.{Kind}
use Rattle.sq_expr.proofs.Equations.{num-Column}
use Rattle.sq_expr.proofs.Rows.{integers_are_bigints, kind_of_column, kinds_joined, kinds_of_nulls, number_is_bigint, text_is_text, value_of_sort}
use Rattle.sq_algebra.specs.Operators.{image, pairs_where, where_same}
use Rattle.sq_algebra.specs.ZSet.{entries}
use Rattle.sq_algebra.proofs.EachLemmas.{each-image, each-product}
use Rattle.sq_ops.specs.Extensions.{first_value_outside}
use Rattle.sq_ops.specs.Joins.{chosen, key_in}
use Rattle.sq_ops.specs.Rows.{holds, items_of, kept, numbers_of, padded}
use Rattle.sq_ops.specs.declared.bilinear.Pairing.{Pairing}
use Rattle.sq_ops.proofs.Ranges.{items_stored, none_of_each}
use Rattle.sq_circuit.specs.Invariant.{HasKinds}
use Rattle.sq_circuit.specs.Nodes.{Rows, paired}
use Rattle.sq_circuit.specs.Gives.{AreWithin, ColumnKinds, ColumnsWithin, IsWithin, ItemKind, ItemKinds, OfColumn, OfNumber, OfText, PaddedKinds, Same, Widened}

abbrev OfKinds : List Kind → List Value → Type 0
OfKinds kinds row = AreOfKinds row kinds

-- ---- wider kinds
within_kind : (k l : Kind) (x : Value) → IsWithin k l → IsOfKind x k → IsOfKind x l
within_kind k l x (Same is) h = subst (λ m. IsOfKind x m) is h
within_kind k l x (Widened is wide) h = subst (λ m. IsOfKind x m) (sym wide) (integers_are_bigints x (subst (λ m. IsOfKind x m) is h))

within_kinds : (ks ls : List Kind) (row : List Value) → AreWithin ks ls → AreOfKinds row ks → AreOfKinds row ls
within_kinds [] [] row w h = h
within_kinds [] (l ∷ ls) row w h = absurd w
within_kinds (k ∷ ks) [] row w h = absurd w
within_kinds (k ∷ ks) (l ∷ ls) [] w h = absurd h
within_kinds (k ∷ ks) (l ∷ ls) (x ∷ row) w h = (within_kind k l x w.0 h.0, within_kinds ks ls row w.1 h.1)

pub wider_follows : (ks ls : List Kind) (z : Rows) → AreWithin ks ls → HasKinds ks z → HasKinds ls z
wider_follows ks ls z w h i d low = within_kinds ks ls (get_or (entries z) i d).0 w (h i d low)

-- ---- columns
pub columns_kinds : (kinds : List Kind) (row : List Value) → AreOfKinds row kinds → (ns : List ℕ) (ks : List Kind) → ColumnKinds kinds ns ks → AreOfKinds (columns_of ns row) ks
columns_kinds kinds row h [] [] g = tt
columns_kinds kinds row h [] (k ∷ ks) g = absurd g
columns_kinds kinds row h (n ∷ ns) [] g = absurd g
columns_kinds kinds row h (n ∷ ns) (k ∷ ks) g = (kind_of_column row kinds n k h g.0, columns_kinds kinds row h ns ks g.1)

-- ---- items
item_kind : (kinds : List Kind) (row : List Value) → AreOfKinds row kinds → (e : Expr) (k : Kind) → IsStorable (num e row) → ItemKind kinds e k → IsOfKind (num e row) k
item_kind kinds row h e k stored (OfColumn n is at) = subst (λ x. IsOfKind x k) (sym (ap (λ a. num a row) is ∙ num-Column n row)) (kind_of_column row kinds n k h at)
item_kind kinds row h e k stored (OfNumber sort is) = subst (λ l. IsOfKind (num e row) l) (sym is) (number_is_bigint (num e row) (value_of_sort kinds row h e _ sort) stored)
item_kind kinds row h e k stored (OfText sort is) = subst (λ l. IsOfKind (num e row) l) (sym is) (text_is_text (num e row) (value_of_sort kinds row h e _ sort))

items_kinds : (kinds : List Kind) (row : List Value) → AreOfKinds row kinds → (es : List Expr) (ks : List Kind) → AllByRecursion IsStorable (items_of es row) → ItemKinds kinds es ks → AreOfKinds (items_of es row) ks
items_kinds kinds row h [] [] stored g = tt
items_kinds kinds row h [] (k ∷ ks) stored g = absurd g
items_kinds kinds row h (e ∷ es) [] stored g = absurd g
items_kinds kinds row h (e ∷ es) (k ∷ ks) stored g = (item_kind kinds row h e k stored.0 g.0, items_kinds kinds row h es ks stored.1 g.1)

-- ---- linear operators
kept_kinds : (c : Cond) (kinds : List Kind) (row : List Value) → AreOfKinds row kinds → AllByRecursion (OfKinds kinds) (kept c row)
kept_kinds c kinds row h = elim (holds c row) as (λ b. AllByRecursion (OfKinds kinds) (cond b (row ∷ []) [])) [ true ↦ (h, tt) | false ↦ tt ]

pub keep_follows : (c : Cond) (kinds : List Kind) (y : Rows) → HasKinds kinds y → HasKinds kinds (image row_cmp (kept c) y)
keep_follows c kinds y h = each-image (OfKinds kinds) (OfKinds kinds) row_cmp row_cmp-total (kept c) y (λ i d low. kept_kinds c kinds (get_or (entries y) i d).0) h

padded_kinds : (kinds own : List Kind) (n : ℕ) → PaddedKinds kinds n own → (row : List Value) → AreOfKinds row kinds → AreOfKinds (padded n row) own
padded_kinds kinds own n g row h =
    subst (λ ks. AreOfKinds (padded n row) ks) (sym g.is)
    (kinds_joined row (replicate n Null) kinds g.more h (subst (λ m. AreOfKinds (replicate m Null) g.more) g.many (kinds_of_nulls g.more)))

pub pad_follows : (n : ℕ) (kinds own : List Kind) (y : Rows) → PaddedKinds kinds n own → HasKinds kinds y → HasKinds own (image row_cmp (λ row. padded n row ∷ []) y)
pad_follows n kinds own y g h = each-image (OfKinds kinds) (OfKinds own) row_cmp row_cmp-total (λ row. padded n row ∷ []) y (λ i d low r. (padded_kinds kinds own n g (get_or (entries y) i d).0 r, tt)) h

-- ---- items of all rows
pub none_is : {A : Type 0} (o : Option A) → is_some o ≡ false → o ≡ None
none_is None e = refl
none_is (Some n) e = absurd (cc e)

item_rows : (es : List Expr) (y : Rows) → is_some (first_value_outside (numbers_of es) y) ≡ false → All (λ e. AllByRecursion IsStorable (items_of es e.0)) (entries y)
item_rows es y inside i d low =
    items_stored es (get_or (entries y) i d).0 ((none_of_each (λ e. numbers_of es e.0) (entries y)).0 (none_is (first_value_outside (numbers_of es) y) inside) i d low)

pub project_follows : (es : List Expr) (kinds own : List Kind) (y : Rows) → ItemKinds kinds es own → is_some (first_value_outside (numbers_of es) y) ≡ false → HasKinds kinds y → HasKinds own (image row_cmp (λ row. items_of es row ∷ []) y)
project_follows es kinds own y g inside h =
    each-image (OfKinds kinds) (OfKinds own) row_cmp row_cmp-total (λ row. items_of es row ∷ []) y
    (λ i d low r. (items_kinds kinds (get_or (entries y) i d).0 r es own (item_rows es y inside i d low) g, tt)) h

-- ---- joins
matched : (P : List Value → Type 0) (a b x : Option (List Value)) → ((v : List Value) → x ≡ Some v → P v) → AllByRecursion P (where_same row_cmp a b x)
matched P None b x h = tt
matched P (Some c) None x h = tt
matched P (Some c) (Some d) None h = tt
matched P (Some c) (Some d) (Some v) h = elim (is_eq (row_cmp c d)) as (λ t. AllByRecursion P (cond t (v ∷ []) [])) [ true ↦ (h v refl, tt) | false ↦ tt ]

module _ (op : Pairing) (left right own : List Kind) (g : ColumnKinds (left ++ right) op.items own) where
  pair_kinds : (row other : List Value) → AreOfKinds row left → AreOfKinds other right
      → AllByRecursion (OfKinds own) (pairs_where row_cmp (key_in op.left op.nulls_match) (key_in op.right op.nulls_match) (chosen op.keep op.items) row other)
  pair_kinds row other a b =
      matched (OfKinds own) (key_in op.left op.nulls_match row) (key_in op.right op.nulls_match other) (chosen op.keep op.items row other)
      (λ v e. subst (OfKinds own) (cond_some (holds op.keep (row ++ other)) (columns_of op.items (row ++ other)) v e).1
      (columns_kinds (left ++ right) (row ++ other) (kinds_joined row other left right a b) op.items own g))

  exact_follows : (y z : Rows) → HasKinds left y → HasKinds right z → HasKinds own (paired op y z)
  exact_follows y z h k =
      each-product (OfKinds left) (OfKinds right) (OfKinds own) row_cmp row_cmp-total (pairs_where row_cmp (key_in op.left op.nulls_match) (key_in op.right op.nulls_match) (chosen op.keep op.items)) pair_kinds y z h k

pub join_follows : (op : Pairing) (left right own : List Kind) → ColumnsWithin (left ++ right) op.items own → (y z : Rows) → HasKinds left y → HasKinds right z → HasKinds own (paired op y z)
join_follows op left right own g y z h k = wider_follows g.exact own (paired op y z) g.within (exact_follows op left right g.exact g.of_columns y z h k)
