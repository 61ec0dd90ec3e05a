-- The range of BIGINT, for a list of numbers and for the items of a row.
use Rattle.std.proofs.Common.{◌≡◌, List, [], ◌∷◌, ◌++◌, true, false, cond, not, ℤ, pos, negsuc, Some, None, ◌↔◌, refl, sym, ap, ◌∙◌}
use Rattle.std.specs.Prelude.{FitsSigned}
use Rattle.std.specs.Int.{w64}
use Rattle.std.specs.List.{All, AllByRecursion, flat_map}
use Rattle.std.specs.Option.{option_or}
use Rattle.std.proofs.lemmas.Bool.{ltb-true, lt-ltb}
use Rattle.std.proofs.lemmas.List.Elements.{All-from_recursion, recursion_from_All}
use Rattle.std.proofs.lemmas.List.Folds.{find-append}
use Rattle.sq_value.specs.declared.value.Value.{Value}
use Rattle.sq_value.specs.declared.value.Value.TheVariants.{Null, Int, Text}
use Rattle.sq_expr.specs.declared.expr.Expr.{Expr}
use Rattle.sq_expr.specs.Items.{IsStorable}
use Rattle.sq_expr.proofs.Lists.{all_flat, all_flattened, all_weaker}
use Rattle.sq_expr.specs.Bigint.{is_bigint, first_not_bigint}
use Rattle.sq_ops.specs.Rows.{items_of, number_in, numbers_of}

fits_from_test : (n : ℤ) → is_bigint n ≡ true → FitsSigned w64 n
fits_from_test (pos n) e = record { sfits = ltb-true _ _ e }
fits_from_test (negsuc n) e = record { sfits = ltb-true _ _ e }

test_from_fits : (n : ℤ) → FitsSigned w64 n → is_bigint n ≡ true
test_from_fits (pos n) h = lt-ltb _ _ h.sfits
test_from_fits (negsuc n) h = lt-ltb _ _ h.sfits

-- a number outside fails the test
fails_outside : (n : ℤ) → ¬ FitsSigned w64 n → is_bigint n ≡ false
fails_outside n out = elim (is_bigint n) as (λ b. is_bigint n ≡ b → b ≡ false) [ true ↦ λ is. absurd (out (fits_from_test n is)) | false ↦ λ is. refl ] refl

pub none_outside : (ns : List ℤ) → first_not_bigint ns ≡ None → AllByRecursion (FitsSigned w64) ns
none_outside [] e = tt
none_outside (n ∷ ns) e =
    elim (is_bigint n) as (λ b. is_bigint n ≡ b → cond (not b) (Some n) (first_not_bigint ns) ≡ None → FitsSigned w64 n × AllByRecursion (FitsSigned w64) ns) [
      | true ↦ λ is rest. (fits_from_test n is, none_outside ns rest)
      | false ↦ λ is rest. absurd (cc rest)
    ] refl e

pub all_inside : (ns : List ℤ) → AllByRecursion (FitsSigned w64) ns → first_not_bigint ns ≡ None
all_inside [] h = refl
all_inside (n ∷ ns) h = ap (λ b. cond (not b) (Some n) (first_not_bigint ns)) (test_from_fits n h.0) ∙ all_inside ns h.1

-- ---- of two lists joined

joined : (ms ns : List ℤ) → first_not_bigint (ms ++ ns) ≡ option_or (first_not_bigint ms) (first_not_bigint ns)
joined ms ns = find-append (λ n. not (is_bigint n)) ms ns

pub first_later : (ms ns : List ℤ) → first_not_bigint ms ≡ None → first_not_bigint (ms ++ ns) ≡ first_not_bigint ns
first_later ms ns none = joined ms ns ∙ ap (λ o. option_or o (first_not_bigint ns)) none

pub first_here : (ms ns : List ℤ) (n : ℤ) → first_not_bigint ms ≡ Some n → first_not_bigint (ms ++ ns) ≡ Some n
first_here ms ns n some = joined ms ns ∙ ap (λ o. option_or o (first_not_bigint ns)) some

none_of_both : (ms ns : List ℤ) → first_not_bigint (ms ++ ns) ≡ None → (first_not_bigint ms ≡ None) × (first_not_bigint ns ≡ None)
none_of_both ms ns none =
    elim (first_not_bigint ms) as (λ o. option_or o (first_not_bigint ns) ≡ None → (o ≡ None) × (first_not_bigint ns ≡ None)) [
      | None ↦ λ later. (refl, later)
      | Some n ↦ λ here. absurd (cc here)
    ] (sym (joined ms ns) ∙ none)

module _ {A : Type 0} (f : A → List ℤ) where
  each_none : (xs : List A) → first_not_bigint (flat_map f xs) ≡ None → AllByRecursion (λ x. first_not_bigint (f x) ≡ None) xs
  each_none [] none = tt
  each_none (x ∷ xs) none = let both = none_of_both (f x) (flat_map f xs) none in (both.0, each_none xs both.1)

  all_none : (xs : List A) → AllByRecursion (λ x. first_not_bigint (f x) ≡ None) xs → first_not_bigint (flat_map f xs) ≡ None
  all_none [] h = refl
  all_none (x ∷ xs) h = first_later (f x) (flat_map f xs) h.0 ∙ all_none xs h.1

  pub none_of_each : (xs : List A) → (first_not_bigint (flat_map f xs) ≡ None) ↔ All (λ x. first_not_bigint (f x) ≡ None) xs
  none_of_each xs = (
    λ none. All-from_recursion (λ x. first_not_bigint (f x) ≡ None) xs (each_none xs none),
    λ h. all_none xs (recursion_from_All (λ x. first_not_bigint (f x) ≡ None) xs h),
  )

-- ---- items

stored : (x : Value) → AllByRecursion (FitsSigned w64) (number_in x) → IsStorable x
stored Null h = tt
stored (Int n) h = h.0
stored (Text t) h = tt

number_fits : (x : Value) → IsStorable x → AllByRecursion (FitsSigned w64) (number_in x)
number_fits Null h = tt
number_fits (Int n) h = (h, tt)
number_fits (Text t) h = tt

pub item_inside : (x : Value) → IsStorable x → first_not_bigint (number_in x) ≡ None
item_inside x h = all_inside (number_in x) (number_fits x h)

pub item_outside : (x : Value) (n : ℤ) → x ≡ Int n → ¬ FitsSigned w64 n → first_not_bigint (number_in x) ≡ Some n
item_outside x n is out = ap (λ y. first_not_bigint (number_in y)) is ∙ ap (λ b. cond (not b) (Some n) None) (fails_outside n out)

pub items_stored : (es : List Expr) (row : List Value) → first_not_bigint (numbers_of es row) ≡ None → AllByRecursion IsStorable (items_of es row)
items_stored es row e = all_weaker (λ x. AllByRecursion (FitsSigned w64) (number_in x)) IsStorable (items_of es row) stored (all_flat (FitsSigned w64) number_in (items_of es row) (none_outside (numbers_of es row) e))

pub items_inside : (es : List Expr) (row : List Value) → AllByRecursion IsStorable (items_of es row) → first_not_bigint (numbers_of es row) ≡ None
items_inside es row h = all_inside (numbers_of es row) (all_flattened (FitsSigned w64) number_in (items_of es row) (all_weaker IsStorable (λ x. AllByRecursion (FitsSigned w64) (number_in x)) (items_of es row) number_fits h))
