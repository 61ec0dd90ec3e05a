-- The rows of FROM, of groups and of items are of their kinds.
use Rattle.std.proofs.Common.{◌≡◌, ℕ, zero, suc, ◌^◌, ◌≤◌, pos, negsuc, List, [], ◌∷◌, ◌++◌, map, length, get_or, Bool, true, false, cond, not, filter, refl, sym, ap, subst, ◌∙◌, arith}
use Rattle.std.proofs.lemmas.Int.{ints}
use Rattle.std.specs.Prelude.{nat_lt, ◌+ℤ◌, ◌*ℤ◌, Option, Some, None, FitsSigned, ⊤}
use Rattle.std.specs.Int.{w64}
use Rattle.std.specs.List.{AllByRecursion, flat_map}
use Rattle.std.specs.Ordering.{is_eq}
use Rattle.std.proofs.lemmas.Bool.{ltb-true}
use Rattle.sq_value.specs.declared.value.Value.{Value}
use Rattle.sq_value.specs.declared.value.Value.TheVariants.{Null, Int, Text}
use Rattle.sq_value.specs.Order.{row_cmp}
use Rattle.sq_algebra.specs.Listed.{first_of_each}
use Rattle.sq_expr.specs.declared.cond.Cond.{Cond}
use Rattle.sq_expr.specs.declared.expr.Expr.{Expr, roll-Expr, out-Expr, roll-out-Expr}
use Rattle.sq_expr.specs.declared.expr.Expr.TheOpen.{Expr-F}
use Rattle.sq_expr.specs.declared.expr.Expr.TheVariants as expr
use Rattle.sq_expr.specs.declared.expr.Func.{Func}
use Rattle.sq_expr.specs.declared.expr.Func.TheVariants.{CountAll, Count, Sum, Min, Max}
use Rattle.sq_expr.specs.declared.expr.Kind.{Kind}
use Rattle.sq_expr.specs.declared.expr.Kind.TheVariants as kind
use Rattle.sq_expr.specs.declared.expr.Term.{Term}
use Rattle.sq_expr.specs.Kinds.{IsOfKind, AreOfKinds}
use Rattle.sq_expr.specs.Meaning.{column_of, negative, sum_of, product_of, num, term_num, is_null, columns_of}
use Rattle.sq_expr.proofs.Equations.{num-Column, num-Number, num-Text, num-Neg, num-Sum, num-Product}
use Rattle.sq_expr.proofs.Lists.{all_front, all_back, all_flat, all_weaker}
use Rattle.sq_expr.proofs.Rows.{kinds_joined, kinds_of_nulls}
use Rattle.sq_typed.specs.declared.query.BlockCall.{BlockCall}
use Rattle.sq_typed.specs.declared.query.FromJoin.{FromJoin}
use Rattle.sq_typed.specs.declared.query.Grouping.{Grouping}
use Rattle.sq_typed.specs.Blocks.{present, sum_or_null, arguments, call_value, is_sum, groups, group_row, item_rows, selected, tested_calls}
use Rattle.sq_typed.specs.Fit.{grouped_kinds, AreAllOfKinds, GivesKinds, SourceGivesKinds, Pairwise}
use Rattle.sq_typed.specs.From.{Row, Answer, Source, all_hold, members_of, joined_by, from, kept}
use Rattle.sq_typed.specs.Numbered.{kind_step, kind_of, call_kind}
use Rattle.sq_typed.specs.Queries.{is_outside}
use Rattle.sq_typed.proofs.AnswerLemmas.{all_first}
use Rattle.sq_typed.proofs.GivenRows.{IsNumber, from_of, greatest_of, joined_of, kept_of, least_of, number_folded, number_negative, number_sum}
use Rattle.sq_typed.proofs.Tests.{every, all_filter}

-- ---- FROM

pub joined_kinds_are : (before kinds : List Kind) (join : FromJoin) (a : Answer) (rows : List Row) → AreAllOfKinds rows before → GivesKinds a kinds → AllByRecursion (λ row. AreOfKinds row (before ++ kinds)) (joined_by [] join a rows)
joined_kinds_are before kinds join a rows h g = joined_of AreOfKinds kinds_joined kinds_of_nulls before kinds join a rows h g

pub rows_of_from : (sources : List Source) (kinds : List (List Kind)) → Pairwise SourceGivesKinds sources kinds → AreAllOfKinds (from sources) (flat_map (λ ks. ks) kinds)
rows_of_from sources kinds p = from_of AreOfKinds kinds_joined kinds_of_nulls sources kinds p

pub rows_of_where : (conds : List Cond) (sources : List Source) (kinds : List (List Kind)) → Pairwise SourceGivesKinds sources kinds → AreAllOfKinds (kept conds sources) (flat_map (λ ks. ks) kinds)
rows_of_where conds sources kinds p = kept_of AreOfKinds kinds_joined kinds_of_nulls conds sources kinds p

-- ---- values of expressions

fits_pos : (n : ℕ) (b : Bool) → nat_lt n (2 ^ 63) ≡ b → not b ≡ false → FitsSigned w64 (pos n)
fits_pos n true e h = record { sfits = omega (arith, ints, ltb-true n (2 ^ 63) e) }
fits_pos n false e h = absurd (cc h)

fits_neg : (n : ℕ) (b : Bool) → nat_lt n (2 ^ 63) ≡ b → not b ≡ false → FitsSigned w64 (negsuc n)
fits_neg n true e h = record { sfits = omega (arith, ints, ltb-true n (2 ^ 63) e) }
fits_neg n false e h = absurd (cc h)

-- a number inside BIGINT is a BIGINT
inside_is_bigint : (x : Value) → IsNumber x → is_outside x ≡ false → IsOfKind x kind.Bigint
inside_is_bigint Null n h = tt
inside_is_bigint (Int (pos n)) t h = fits_pos n (nat_lt n (2 ^ 63)) refl h
inside_is_bigint (Int (negsuc n)) t h = fits_neg n (nat_lt n (2 ^ 63)) refl h
inside_is_bigint (Text t) n h = n

column_kind : (row : Row) (kinds : List Kind) (n : ℕ) → AreOfKinds row kinds → IsOfKind (column_of row n) (get_or kinds n kind.Bigint)
column_kind [] [] n h = tt
column_kind [] (k ∷ kinds) n h = absurd h
column_kind (x ∷ row) [] n h = absurd h
column_kind (x ∷ row) (k ∷ kinds) zero h = h.0
column_kind (x ∷ row) (k ∷ kinds) (suc n) h = column_kind row kinds n h.1

module _ (kinds : List Kind) (row : Row) (h : AreOfKinds row kinds) where
  abbrev OfItsKind : Expr → Kind → Type 0
  OfItsKind e k = is_outside (num e row) ≡ false → IsOfKind (num e row) k

  computed : (e : Expr) (x : Value) → num e row ≡ x → IsNumber x → OfItsKind e kind.Bigint
  computed e x is n inside = inside_is_bigint (num e row) (subst IsNumber (sym is) n) inside

  level_kind : (x : Expr-F Expr Term) → OfItsKind (roll-Expr x) (kind_step kinds x)
  level_kind (Expr-F.Column n) = subst (λ e. OfItsKind e (get_or kinds n kind.Bigint)) (sym (expr.rolls-Column n)) (λ inside. subst (λ x. IsOfKind x (get_or kinds n kind.Bigint)) (sym (num-Column n row)) (column_kind row kinds n h))
  level_kind (Expr-F.Number n) = subst (λ e. OfItsKind e kind.Bigint) (sym (expr.rolls-Number n)) (computed (expr.Number n) (Int (pos n)) (num-Number n row) tt)
  level_kind (Expr-F.Text t) = subst (λ e. OfItsKind e kind.Text) (sym (expr.rolls-Text t)) (λ inside. subst (λ x. IsOfKind x kind.Text) (sym (num-Text t row)) tt)
  level_kind (Expr-F.Neg e) = subst (λ e. OfItsKind e kind.Bigint) (sym (expr.rolls-Neg e)) (computed (expr.Neg e) (negative (num e row)) (num-Neg e row) (number_negative (num e row)))
  level_kind (Expr-F.Sum ts) = subst (λ e. OfItsKind e kind.Bigint) (sym (expr.rolls-Sum ts)) (computed (expr.Sum ts) (sum_of (map (λ t. term_num t row) ts)) (num-Sum ts row) (number_folded ◌+ℤ◌ (Int (pos 0)) (map (λ t. term_num t row) ts) tt))
  level_kind (Expr-F.Product es) = subst (λ e. OfItsKind e kind.Bigint) (sym (expr.rolls-Product es)) (computed (expr.Product es) (product_of (map (λ e. num e row) es)) (num-Product es row) (number_folded ◌*ℤ◌ (Int (pos 1)) (map (λ e. num e row) es) tt))

  -- a value that is no number outside BIGINT is of its expression's kind
  pub value_kind : (e : Expr) → is_outside (num e row) ≡ false → IsOfKind (num e row) (kind_of kinds e)
  value_kind e = subst (λ x. OfItsKind x (kind_step kinds (out-Expr e))) (roll-out-Expr e) (level_kind (out-Expr e))

  item_kinds_are : (items : List Expr) → AllByRecursion (λ x. is_outside x ≡ false) (map (λ e. num e row) items) → AreOfKinds (map (λ e. num e row) items) (map (kind_of kinds) items)
  item_kinds_are [] t = tt
  item_kinds_are (e ∷ es) t = (value_kind e t.0, item_kinds_are es t.1)

-- ---- items

pub rows_of_items : (kinds : List Kind) (items : List Expr) (rows : List Row) → AreAllOfKinds rows kinds → AllByRecursion (λ x. is_outside x ≡ false) (flat_map (λ row. row) (selected items rows)) → AreAllOfKinds (selected items rows) (map (kind_of kinds) items)
rows_of_items kinds items [] h t = tt
rows_of_items kinds items (row ∷ rows) h t = (
  item_kinds_are kinds row h.0 items (all_front (λ x. is_outside x ≡ false) (map (λ e. num e row) items) (flat_map (λ row. row) (selected items rows)) t),
  rows_of_items kinds items rows h.1 (all_back (λ x. is_outside x ≡ false) (map (λ e. num e row) items) (flat_map (λ row. row) (selected items rows)) t),
)

-- ---- calls

abbrev pub Inside : Value → Type 0
Inside x = is_outside x ≡ false

-- the argument of a call on a row is of its kind
OfArgument : List Kind → Option Expr → Row → Type 0
OfArgument kinds None row = ⊤
OfArgument kinds (Some e) row = IsOfKind (num e row) (kind_of kinds e)

argument_kinds : (kinds : List Kind) (arg : Option Expr) (rows : List Row) → AreAllOfKinds rows kinds → AllByRecursion Inside (arguments arg rows) → AllByRecursion (OfArgument kinds arg) rows
unfolding OfArgument
argument_kinds kinds None rows h t = every (λ row. ⊤) rows (λ row. tt)
argument_kinds kinds (Some e) [] h t = tt
argument_kinds kinds (Some e) (row ∷ rows) h t = (value_kind kinds row h.0 e t.0, argument_kinds kinds (Some e) rows h.1 t.1)

values_kinds : (kinds : List Kind) (e : Expr) (rows : List Row) → AllByRecursion (OfArgument kinds (Some e)) rows → AllByRecursion (λ x. IsOfKind x (kind_of kinds e)) (map (num e) rows)
unfolding OfArgument
values_kinds kinds e [] h = tt
values_kinds kinds e (row ∷ rows) h = (h.0, values_kinds kinds e rows h.1)

pub length_filter : {A : Type 0} (p : A → Bool) (xs : List A) → length (filter p xs) ≤ length xs
length_filter p [] = omega arith
length_filter p (x ∷ xs) = elim (p x) as (λ b. length (cond b (x ∷ filter p xs) (filter p xs)) ≤ suc (length xs)) [ true ↦ omega (arith, length_filter p xs) | false ↦ omega (arith, length_filter p xs) ]

pub length_mapped : {A B : Type 0} (f : A → B) (xs : List A) → length (map f xs) ≡ length xs
length_mapped f [] = refl
length_mapped f (x ∷ xs) = ap suc (length_mapped f xs)

length_arguments : (arg : Option Expr) (rows : List Row) → length (arguments arg rows) ≤ length rows
length_arguments None rows = omega arith
length_arguments (Some e) rows = omega (arith, length_mapped (num e) rows)

number_of_rows : (n : ℕ) → n ≤ 2 ^ 61 → FitsSigned w64 (pos n)
number_of_rows n h = record { sfits = omega (arith, ints, h) }

call_kind_is : (kinds : List Kind) (f : Func) (arg : Option Expr) (rows : List Row) → length rows ≤ 2 ^ 61 → AllByRecursion (OfArgument kinds arg) rows → (is_sum f ≡ true → Inside (call_value f arg rows)) → IsOfKind (call_value f arg rows) (call_kind kinds f arg)
call_kind_is kinds CountAll arg rows few h t = number_of_rows (length rows) few
call_kind_is kinds Count arg rows few h t = number_of_rows (length (present (arguments arg rows))) (omega (arith, few, length_filter (λ x. not (is_null x)) (arguments arg rows), length_arguments arg rows))
call_kind_is kinds Sum arg rows few h t = inside_is_bigint (sum_or_null (present (arguments arg rows))) (number_sum (present (arguments arg rows))) (t refl)
call_kind_is kinds Min None rows few h t = tt
call_kind_is kinds Min (Some e) rows few h t = least_of (λ x. IsOfKind x (kind_of kinds e)) tt (present (map (num e) rows)) (all_filter (λ x. IsOfKind x (kind_of kinds e)) (λ x. not (is_null x)) (map (num e) rows) (values_kinds kinds e rows h))
call_kind_is kinds Max None rows few h t = tt
call_kind_is kinds Max (Some e) rows few h t = greatest_of (λ x. IsOfKind x (kind_of kinds e)) tt (present (map (num e) rows)) (all_filter (λ x. IsOfKind x (kind_of kinds e)) (λ x. not (is_null x)) (map (num e) rows) (values_kinds kinds e rows h))

-- ---- groups

-- what holds of what f makes of the members that pass a test
from_filter : {A B : Type 0} (P : B → Type 0) (f : A → B) (p : A → Bool) (xs : List A) → AllByRecursion P (map f (filter p xs)) → AllByRecursion (λ x. p x ≡ true → P (f x)) xs
from_filter P f p [] h = tt
from_filter P f p (x ∷ xs) h =
    elim (p x) as (λ b. p x ≡ b → AllByRecursion P (map f (cond b (x ∷ filter p xs) (filter p xs))) → AllByRecursion (λ x. p x ≡ true → P (f x)) (x ∷ xs)) [
      | true ↦ λ e h. (λ _. h.0, from_filter P f p xs h.1)
      | false ↦ λ e h. (λ t. absurd (cc (sym e ∙ t)), from_filter P f p xs h)
    ] refl h

-- the values of the calls over some rows
calls_are : (kinds : List Kind) (calls : List BlockCall) (rows : List Row) → length rows ≤ 2 ^ 61 → AllByRecursion (λ c. AllByRecursion (OfArgument kinds c.arg) rows) calls → AllByRecursion (λ c. is_sum c.func ≡ true → Inside (call_value c.func c.arg rows)) calls →
    AreOfKinds (map (λ c. call_value c.func c.arg rows) calls) (map (λ c. call_kind kinds c.func c.arg) calls)
calls_are kinds [] rows few h t = tt
calls_are kinds (c ∷ calls) rows few h t = (call_kind_is kinds c.func c.arg rows few h.0 t.0, calls_are kinds calls rows few h.1 t.1)

keys_are : (kinds : List Kind) (columns : List ℕ) (row : Row) → AreOfKinds row kinds → AreOfKinds (columns_of columns row) (map (λ n. get_or kinds n kind.Bigint) columns)
keys_are kinds [] row h = tt
keys_are kinds (n ∷ ns) row h = (column_kind row kinds n h, keys_are kinds ns row h)

all_keys_are : (kinds : List Kind) (columns : List ℕ) (rows : List Row) → AreAllOfKinds rows kinds → AreAllOfKinds (map (columns_of columns) rows) (map (λ n. get_or kinds n kind.Bigint) columns)
all_keys_are kinds columns [] h = tt
all_keys_are kinds columns (row ∷ rows) h = (keys_are kinds columns row h.0, all_keys_are kinds columns rows h.1)

-- the SUMs over some rows that are tested
abbrev sums : List BlockCall → Row × List Row → List Value
sums calls group = map (λ c. call_value c.func c.arg group.1) (filter (λ c. is_sum c.func) calls)

module _ (kinds : List Kind) (columns : List ℕ) (calls : List BlockCall) (rows : List Row) (few : length rows ≤ 2 ^ 61) (args : AllByRecursion (λ c. AllByRecursion (OfArgument kinds c.arg) rows) calls) where
  abbrev OfGroup : Row → Type 0
  OfGroup row = AreOfKinds row (map (λ n. get_or kinds n kind.Bigint) columns ++ map (λ c. call_kind kinds c.func c.arg) calls)

  one_group : (key : Row) (p : Row → Bool) → AreOfKinds key (map (λ n. get_or kinds n kind.Bigint) columns) → AllByRecursion Inside (sums calls (key, filter p rows)) → OfGroup (group_row calls (key, filter p rows))
  one_group key p k t = kinds_joined key (map (λ c. call_value c.func c.arg (filter p rows)) calls) (map (λ n. get_or kinds n kind.Bigint) columns) (map (λ c. call_kind kinds c.func c.arg) calls) k
      (calls_are kinds calls (filter p rows) (omega (arith, few, length_filter p rows))
      (all_weaker (λ c. AllByRecursion (OfArgument kinds c.arg) rows) (λ c. AllByRecursion (OfArgument kinds c.arg) (filter p rows)) calls (λ c h. all_filter (OfArgument kinds c.arg) p rows h) args)
      (from_filter Inside (λ c. call_value c.func c.arg (filter p rows)) (λ c. is_sum c.func) calls t))

  each_group : (p : Row → Row → Bool) (keys : List Row) → AreAllOfKinds keys (map (λ n. get_or kinds n kind.Bigint) columns) → AllByRecursion Inside (flat_map (sums calls) (map (λ k. (k, filter (p k) rows)) keys)) → AllByRecursion OfGroup (map (group_row calls) (map (λ k. (k, filter (p k) rows)) keys))
  each_group p [] h t = tt
  each_group p (k ∷ keys) h t = (
    one_group k (p k) h.0 (all_front Inside (sums calls (k, filter (p k) rows)) (flat_map (sums calls) (map (λ k. (k, filter (p k) rows)) keys)) t),
    each_group p keys h.1 (all_back Inside (sums calls (k, filter (p k) rows)) (flat_map (sums calls) (map (λ k. (k, filter (p k) rows)) keys)) t),
  )

group_rows_are : (kinds : List Kind) (columns : List ℕ) (calls : List BlockCall) (rows : List Row) → length rows ≤ 2 ^ 61 → AllByRecursion (λ c. AllByRecursion (OfArgument kinds c.arg) rows) calls → AreAllOfKinds rows kinds → AllByRecursion Inside (flat_map (sums calls) (groups columns rows)) →
    AreAllOfKinds (map (group_row calls) (groups columns rows)) (map (λ n. get_or kinds n kind.Bigint) columns ++ map (λ c. call_kind kinds c.func c.arg) calls)
group_rows_are kinds [] calls rows few args h t = (
  calls_are kinds calls rows few args (from_filter Inside (λ c. call_value c.func c.arg rows) (λ c. is_sum c.func) calls (all_front Inside (sums calls ([], rows)) [] t)),
  tt,
)
group_rows_are kinds (c ∷ cs) calls rows few args h t =
    each_group kinds (c ∷ cs) calls rows few args (λ k row. is_eq (row_cmp k (columns_of (c ∷ cs) row))) (first_of_each row_cmp (map (columns_of (c ∷ cs)) rows))
    (all_first (λ row. AreOfKinds row (map (λ n. get_or kinds n kind.Bigint) (c ∷ cs))) (map (columns_of (c ∷ cs)) rows) (all_keys_are kinds (c ∷ cs) rows h)) t

pub rows_of_groups_are : (kinds : List Kind) (g : Grouping) (rows : List Row) → length rows ≤ 2 ^ 61 → AreAllOfKinds rows kinds → AllByRecursion Inside (tested_calls (Some g) rows) → AreAllOfKinds (item_rows (Some g) rows) (grouped_kinds kinds g)
rows_of_groups_are kinds g rows few h t =
    all_filter (λ row. AreOfKinds row (grouped_kinds kinds g)) (all_hold (members_of g.having)) (map (group_row g.calls) (groups g.columns rows))
    (group_rows_are kinds g.columns g.calls rows few
    (all_weaker (λ c. AllByRecursion Inside (arguments c.arg rows)) (λ c. AllByRecursion (OfArgument kinds c.arg) rows) g.calls (λ c i. argument_kinds kinds c.arg rows h i)
    (all_flat Inside (λ c. arguments c.arg rows) g.calls (all_front Inside (flat_map (λ c. arguments c.arg rows) g.calls) (flat_map (sums g.calls) (groups g.columns rows)) t)))
    h (all_back Inside (flat_map (λ c. arguments c.arg rows) g.calls) (flat_map (sums g.calls) (groups g.columns rows)) t))
