-- The kinds of the rows that a node gives.
--     IsWithin k l            a value of the kind k is one of the kind l: the same, or an INTEGER where BIGINT is claimed.      AreWithin ks ls   column by column
--     ItemKind kinds e k      what an item that fits BIGINT is, over columns of these kinds
--     GivesKinds n kinds own  the node's rows are of the kinds `own`, if what it reads is of its kinds
use Rattle.std.specs.Prelude.{◌≡◌, ℕ, List, [], ◌∷◌, ◌++◌, length, slice_get, Some, ⊤}
use Rattle.sq_expr.specs.Typing.{sort_of}
use Rattle.sq_expr.specs.declared.typing.Sort.TheVariants.{Numeric, Textual}
use Rattle.sq_expr.specs.declared.expr.Expr.{Expr}
use Rattle.sq_expr.specs.declared.expr.Expr.TheVariants as expr
use Rattle.sq_expr.specs.declared.expr.Func.{Func}
use Rattle.sq_expr.specs.declared.expr.Func.TheVariants.{CountAll, Count, Sum, Min, Max}
use Rattle.sq_expr.specs.declared.expr.Kind.{Kind}
use Rattle.sq_expr.specs.declared.expr.Kind.TheVariants.{Integer, Bigint, Text}
use Rattle.sq_ops.specs.Aggregates.{group_columns}
use Rattle.sq_ops.specs.declared.aggregate.AggSpec.{AggSpec}
use Rattle.sq_ops.specs.declared.aggregate.Call.{Call}
use Rattle.sq_circuit.specs.declared.node.LinearOp.TheVariants.{Keep, Project, Pad}
use Rattle.sq_circuit.specs.declared.node.Node.{Node}
use Rattle.sq_circuit.specs.declared.node.Node.TheVariants.{Table, Linear, Join, Distinct, Aggregate, Plus, Minus, View}

-- ---- wider kinds
-- a set operation of an INTEGER and a BIGINT column gives a BIGINT one
pub data IsWithin (k l : Kind) : Type 0 where
  Same : k ≡ l → IsWithin k l
  Widened : k ≡ Integer → l ≡ Bigint → IsWithin k l

abbrev pub AreWithin : List Kind → List Kind → Type 0
AreWithin [] [] = ⊤
AreWithin [] (l ∷ ls) = ⊥
AreWithin (k ∷ ks) [] = ⊥
AreWithin (k ∷ ks) (l ∷ ls) = IsWithin k l × AreWithin ks ls

-- ---- items, columns and calls
-- a column has its own kind, and other numbers are BIGINTs
pub data ItemKind (kinds : List Kind) (e : Expr) (k : Kind) : Type 0 where
  OfColumn : (n : ℕ) → e ≡ expr.Column n → slice_get kinds n ≡ Some k → ItemKind kinds e k
  OfNumber : sort_of kinds e ≡ Some Numeric → k ≡ Bigint → ItemKind kinds e k
  OfText : sort_of kinds e ≡ Some Textual → k ≡ Text → ItemKind kinds e k

abbrev pub ItemKinds : List Kind → List Expr → List Kind → Type 0
ItemKinds kinds [] [] = ⊤
ItemKinds kinds [] (k ∷ ks) = ⊥
ItemKinds kinds (e ∷ es) [] = ⊥
ItemKinds kinds (e ∷ es) (k ∷ ks) = ItemKind kinds e k × ItemKinds kinds es ks

abbrev pub ColumnKinds : List Kind → List ℕ → List Kind → Type 0
ColumnKinds kinds [] [] = ⊤
ColumnKinds kinds [] (k ∷ ks) = ⊥
ColumnKinds kinds (n ∷ ns) [] = ⊥
ColumnKinds kinds (n ∷ ns) (k ∷ ks) = (slice_get kinds n ≡ Some k) × ColumnKinds kinds ns ks

-- columns as they are, or wider
pub record ColumnsWithin (kinds : List Kind) (columns : List ℕ) (own : List Kind) : Type 0 where
  pub exact : List Kind
  pub of_columns : ColumnKinds kinds columns exact
  pub within : AreWithin exact own

-- MIN and MAX have the kind of their column, and other calls are BIGINTs
abbrev pub CallKind : List Kind → Func → ℕ → Kind → Type 0
CallKind kinds CountAll n k = k ≡ Bigint
CallKind kinds Count n k = k ≡ Bigint
CallKind kinds Sum n k = k ≡ Bigint
CallKind kinds Min n k = slice_get kinds n ≡ Some k
CallKind kinds Max n k = slice_get kinds n ≡ Some k

abbrev pub CallKinds : List Kind → List Call → List Kind → Type 0
CallKinds kinds [] [] = ⊤
CallKinds kinds [] (k ∷ ks) = ⊥
CallKinds kinds (call ∷ calls) [] = ⊥
CallKinds kinds (call ∷ calls) (k ∷ ks) = CallKind kinds call.func call.arg k × CallKinds kinds calls ks

-- the kinds of the group columns, and then those of the calls
pub record GroupKinds (kinds : List Kind) (spec : AggSpec) (own : List Kind) : Type 0 where
  pub keys : List Kind
  pub values : List Kind
  pub is : own ≡ keys ++ values
  pub of_keys : ColumnKinds kinds (group_columns spec) keys
  pub of_values : CallKinds kinds spec.calls values

-- the kinds of the columns, and then those of the NULLs
pub record PaddedKinds (kinds : List Kind) (nulls : ℕ) (own : List Kind) : Type 0 where
  pub more : List Kind
  pub is : own ≡ kinds ++ more
  pub many : length more ≡ nulls

-- ---- nodes
abbrev pub GivesKinds : Node → (ℕ → List Kind) → List Kind → Type 0
GivesKinds (Table t) kinds own = ⊤
GivesKinds (Linear i (Keep op)) kinds own = own ≡ kinds i
GivesKinds (Linear i (Project op)) kinds own = ItemKinds (kinds i) op.items own
GivesKinds (Linear i (Pad op)) kinds own = PaddedKinds (kinds i) op.nulls own
GivesKinds (Join l r op) kinds own = ColumnsWithin (kinds l ++ kinds r) op.items own
GivesKinds (Distinct i) kinds own = own ≡ kinds i
GivesKinds (Aggregate i spec) kinds own = GroupKinds (kinds i) spec own
GivesKinds (Plus l r) kinds own = AreWithin (kinds l) own × AreWithin (kinds r) own
GivesKinds (Minus l r) kinds own = AreWithin (kinds l) own × AreWithin (kinds r) own
GivesKinds (View i v) kinds own = own ≡ kinds i
