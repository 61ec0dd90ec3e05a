-- Rows of columns of some kinds, and the values of expressions on them.
use Rattle.std.proofs.Common.{◌≡◌, ℕ, zero, suc, ◌≤◌, ℤ, List, [], ◌∷◌, ◌++◌, length, replicate, refl, ap, subst, arith}
use Rattle.std.specs.Prelude.{Option, Some, None, IsSome, slice_get, unsigned_abs}
use Rattle.sq_value.specs.declared.value.Value.{Value}
use Rattle.sq_value.specs.declared.value.Value.TheVariants.{Null, Int, Text}
use Rattle.sq_expr.specs.declared.expr.Expr.{Expr}
use Rattle.sq_expr.specs.declared.expr.Kind.{Kind}
use Rattle.sq_expr.specs.declared.expr.Kind.TheVariants as kind
use Rattle.sq_expr.specs.Bounds.{bound_of}
use Rattle.sq_expr.specs.Items.{IsStorable}
use Rattle.sq_expr.specs.Kinds.{IsOfKind, AreOfKinds}
use Rattle.sq_expr.specs.Meaning.{column_of, num}
use Rattle.sq_expr.specs.Typing.{Sort, Numeric, Textual, sort_of, IsOfSort, IsTyped}
use Rattle.std.proofs.lemmas.Option.{same_Some}
use Rattle.sq_expr.proofs.Within.{IsWithin, has_bound}

pub length_of_kinds : (row : List Value) (kinds : List Kind) → AreOfKinds row kinds → length row ≡ length kinds
length_of_kinds [] [] h = refl
length_of_kinds [] (k ∷ kinds) h = absurd h
length_of_kinds (x ∷ row) [] h = absurd h
length_of_kinds (x ∷ row) (k ∷ kinds) h = ap suc (length_of_kinds row kinds h.1)

pub kind_of_column : (row : List Value) (kinds : List Kind) (n : ℕ) (k : Kind) → AreOfKinds row kinds → slice_get kinds n ≡ Some k → IsOfKind (column_of row n) k
kind_of_column row [] n k h is = absurd (cc is)
kind_of_column [] (l ∷ kinds) n k h is = absurd h
kind_of_column (x ∷ row) (l ∷ kinds) zero k h is = subst (IsOfKind x) (same_Some l k is) h.0
kind_of_column (x ∷ row) (l ∷ kinds) (suc n) k h is = kind_of_column row kinds n k h.1 is

pub kinds_joined : (row more : List Value) (kinds others : List Kind) → AreOfKinds row kinds → AreOfKinds more others → AreOfKinds (row ++ more) (kinds ++ others)
kinds_joined [] more [] others h k = k
kinds_joined [] more (l ∷ kinds) others h k = absurd h
kinds_joined (x ∷ row) more [] others h k = absurd h
kinds_joined (x ∷ row) more (l ∷ kinds) others h k = (h.0, kinds_joined row more kinds others h.1 k)

pub kinds_of_nulls : (kinds : List Kind) → AreOfKinds (replicate (length kinds) Null) kinds
kinds_of_nulls [] = tt
kinds_of_nulls (k ∷ kinds) = (tt, kinds_of_nulls kinds)

pub integers_are_bigints : (x : Value) → IsOfKind x kind.Integer → IsOfKind x kind.Bigint
integers_are_bigints Null h = tt
integers_are_bigints (Int x) h = record { sfits = omega (arith, h.sfits) }
integers_are_bigints (Text t) h = h

-- ---- values of expressions

within_sort : (s : Sort) (b : ℕ) (x : Value) → IsWithin (Some s) b x → IsOfSort s x
within_sort s b Null h = tt
within_sort Numeric b (Int x) h = tt
within_sort Numeric b (Text t) h = h
within_sort Textual b (Int x) h = h
within_sort Textual b (Text t) h = tt

within_number : (s : Option Sort) (b : ℕ) (x : ℤ) → IsSome s → IsWithin s b (Int x) → unsigned_abs x ≤ b
within_number None b x some h = absurd (cc some)
within_number (Some Numeric) b x some h = h
within_number (Some Textual) b x some h = absurd h

module _ (kinds : List Kind) (row : List Value) (h : AreOfKinds row kinds) where
  pub value_of_sort : (e : Expr) (s : Sort) → sort_of kinds e ≡ Some s → IsOfSort s (num e row)
  value_of_sort e s is = within_sort s (bound_of kinds e) (num e row) (subst (λ s. IsWithin s (bound_of kinds e) (num e row)) is (has_bound kinds row h e))

  pub number_within : (e : Expr) (x : ℤ) → IsTyped kinds e → num e row ≡ Int x → unsigned_abs x ≤ bound_of kinds e
  number_within e x typed is = within_number (sort_of kinds e) (bound_of kinds e) x typed (subst (IsWithin (sort_of kinds e) (bound_of kinds e)) is (has_bound kinds row h e))

-- what may be stored is of the widest kind of its sort
pub number_is_bigint : (x : Value) → IsOfSort Numeric x → IsStorable x → IsOfKind x kind.Bigint
number_is_bigint Null s h = tt
number_is_bigint (Int x) s h = h
number_is_bigint (Text t) s h = s

pub text_is_text : (x : Value) → IsOfSort Textual x → IsOfKind x kind.Text
text_is_text Null s = tt
text_is_text (Int x) s = s
text_is_text (Text t) s = tt
