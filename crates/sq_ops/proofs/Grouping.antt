-- The rows of a group, and groups without rows.
use Rattle.std.proofs.Common.{◌≡◌, ℕ, zero, suc, ◌^◌, ◌≤◌, List, [], ◌∷◌, Bool, true, false, cond, ◌&&◌, ℤ, pos, negsuc, None, length, get_or, refl, sym, ap, ◌∙◌, nat_eq, unsigned_abs, lit≤, arith}
use Rattle.std.specs.Prelude.{◌≤ℤ◌, FitsSigned}
use Rattle.std.specs.Int.{w32, w64}
use Rattle.std.proofs.lemmas.Bool.Decides.{nat_tests}
use borrow.Author.Differences.{ints}
use Rattle.sq_value.specs.declared.value.Value.{Value}
use Rattle.sq_value.specs.declared.value.Value.TheVariants.{Null, Int, Text}
use Rattle.sq_value.specs.Order.{row_cmp}
use Rattle.sq_value.specs.OrderLaws.{row_cmp-total, row_cmp-antisymmetric}
use Rattle.sq_algebra.specs.Groups.{integers}
use Rattle.sq_algebra.specs.Operators.{IsNonNegative}
use Rattle.sq_algebra.specs.ZSet.{ZSet, entries, entries-zero, of_list, same_entries, total, zero as no_rows}
use Rattle.sq_algebra.proofs.OperatorLemmas.{of_list-nil}
use Rattle.sq_expr.specs.declared.expr.Func.TheVariants.{CountAll, Count, Sum, Min, Max}
use Rattle.sq_expr.specs.declared.expr.Kind.{Kind}
use Rattle.sq_expr.specs.declared.expr.Kind.TheVariants as kind
use Rattle.sq_expr.specs.Kinds.{AreOfKinds, IsOfKind}
use Rattle.sq_zset.proofs.RowOperators.{lin-zero}
use Rattle.sq_zset.specs.Collecting.{mass_of}
use Rattle.sq_zset.specs.GroupLaws.{integers_are_abelian}
use Rattle.sq_ops.specs.declared.aggregate.Call.{Call}
use Rattle.sq_ops.specs.Aggregates.{number_at, number_or_zero, sums_of, tested_sum}
use Rattle.sq_expr.specs.Bigint.{first_not_bigint}
use Rattle.sq_ops.specs.Fits.{FitsRows}
use Rattle.sq_ops.specs.Measures.{HasBigints, IsMeasurable}
use Rattle.sq_ops.specs.Wholes.{has_no_values}
use Rattle.sq_ops.proofs.Measuring.{small_mass}
use Rattle.sq_ops.proofs.Ranges.{first_later}

-- ---- the numbers in a row of kinds
abs_64 : (n : ℤ) → FitsSigned w64 n → unsigned_abs n ≤ 2 ^ 63
abs_64 (pos n) h = let l = h.sfits in omega (arith, ints)
abs_64 (negsuc n) h = let l = h.sfits in omega (arith, ints)

abs_32 : (n : ℤ) → FitsSigned w32 n → unsigned_abs n ≤ 2 ^ 63
abs_32 (pos n) h = let l = h.sfits in omega (arith, ints)
abs_32 (negsuc n) h = let l = h.sfits in omega (arith, ints)

number_bound : (x : Value) (kind : Kind) → IsOfKind x kind → unsigned_abs (number_or_zero x) ≤ 2 ^ 63
number_bound Null kind h = lit≤ tt
number_bound (Int n) kind.Integer h = abs_32 n h
number_bound (Int n) kind.Bigint h = abs_64 n h
number_bound (Int n) kind.Text h = absurd h
number_bound (Text t) kind h = lit≤ tt

column_bound : (row : List Value) (kinds : List Kind) → AreOfKinds row kinds → HasBigints row
column_bound [] kinds h column = lit≤ tt
column_bound (x ∷ row) [] h column = absurd h
column_bound (x ∷ row) (kind ∷ kinds) h zero = number_bound x kind h.0
column_bound (x ∷ row) (kind ∷ kinds) h (suc column) = column_bound row kinds h.1 column

-- a change of so few rows, and the rows of a group
pub fitting_change : (suits : List Kind → Type 0) (z : ZSet (List Value) row_cmp) → FitsRows suits z → mass_of (entries z) ≤ 2 ^ 62 → IsMeasurable z
fitting_change suits z fits few = record { few = few; has_bigints = λ i d low. let fit = fits i d low in column_bound (get_or (entries z) i d).0 fit.kinds fit.of_kinds }

pub fitting_group : (suits : List Kind → Type 0) (z : ZSet (List Value) row_cmp) → FitsRows suits z → IsNonNegative z → total z ≤ℤ pos (2 ^ 61) → IsMeasurable z
fitting_group suits z fits proper bounded = fitting_change suits z fits (let small = small_mass z proper bounded in omega arith)

-- ---- no rows
eqb_suc_zero : (n : ℕ) → nat_eq (suc n) 0 ≡ false
eqb_suc_zero n = grind (arith, nat_tests)

pub none_by_length : {X : Type 0} (xs : List X) (n : ℕ) → n ≡ length xs → nat_eq n 0 ≡ has_no_values xs
none_by_length [] n e = ap (λ m. nat_eq m 0) e
none_by_length (x ∷ xs) n e = ap (λ m. nat_eq m 0) e ∙ eqb_suc_zero (length xs)

pub nothing_shown : (b : Bool) (row : List Value) → b ≡ true → of_list row_cmp (cond b [] (row ∷ [])) ≡ no_rows row_cmp
nothing_shown b row e = ap (λ t. of_list row_cmp (cond t [] (row ∷ []))) e ∙ of_list-nil row_cmp row_cmp-total row_cmp-antisymmetric

has_none : {X : Type 0} (xs : List X) → has_no_values xs ≡ true → xs ≡ []
has_none [] e = refl
has_none (x ∷ xs) e = absurd (cc e)

first_true : (a b : Bool) → a && b ≡ true → a ≡ true
first_true true b e = refl
first_true false b e = absurd (cc e)

no_sum : (f : Call) → first_not_bigint (tested_sum f.func f.arg (no_rows row_cmp)) ≡ None
no_sum f =
    elim (f.func) as (λ func. first_not_bigint (tested_sum func f.arg (no_rows row_cmp)) ≡ None) [
      | CountAll ↦ refl
      | Count ↦ refl
      | Sum ↦ ap (λ n. first_not_bigint (n ∷ [])) (lin-zero integers integers_are_abelian (number_at f.arg))
      | Min ↦ refl
      | Max ↦ refl
    ]

no_sums : (calls : List Call) → first_not_bigint (sums_of calls (no_rows row_cmp)) ≡ None
no_sums [] = refl
no_sums (call ∷ calls) = first_later (tested_sum call.func call.arg (no_rows row_cmp)) (sums_of calls (no_rows row_cmp)) (no_sum call) ∙ no_sums calls

pub none_tested : (calls : List Call) (z : ZSet (List Value) row_cmp) (stands : Bool) → has_no_values (entries z) && stands ≡ true → first_not_bigint (sums_of calls z) ≡ None
none_tested calls z stands e =
    ap (λ y. first_not_bigint (sums_of calls y)) (same_entries z (no_rows row_cmp) (has_none (entries z) (first_true (has_no_values (entries z)) stands e) ∙ sym (entries-zero row_cmp)))
    ∙ no_sums calls
