-- What expressions and conditions mean, computed on rows of a few values.
--     compared x y                what each comparison is of two values, from `=` to `>=`
--     all_of ts, any_of ts        the truth of a conjunction and of a disjunction of conditions with these truths
--     terms ts                    the sum of columns, some of them subtracted
--     can_compare i j             whether two columns of an INTEGER, a text, a BIGINT and a text may be compared
use Rattle.std.specs.Prelude.{◌≡◌, ℕ, ◌+◌, ◌^◌, ℤ, pos, neg_ℤ, Bool, true, false, List, [], ◌∷◌, map, codes, Some, None}
use Rattle.sq_value.specs.declared.tri.Tri.{Tri}
use Rattle.sq_value.specs.declared.tri.Tri.TheVariants.{True, False, Unknown}
use Rattle.sq_value.specs.declared.value.Value.{Value}
use Rattle.sq_value.specs.declared.value.Value.TheVariants.{Null, Int, Text}
use Rattle.sq_expr.specs.Bounds.{bound_of}
use Rattle.sq_expr.specs.Meaning.{num, truth}
use Rattle.sq_expr.specs.Typing.{sort_of, is_typed_cond}
use Rattle.sq_expr.specs.declared.typing.Sort.TheVariants.{Numeric, Textual}
use Rattle.sq_expr.specs.declared.cond.Cmp.TheVariants.{Eq, Ne, Lt, Le, Gt, Ge}
use Rattle.sq_expr.specs.declared.cond.Cond.{Cond}
use Rattle.sq_expr.specs.declared.cond.Cond.TheVariants as cond
use Rattle.sq_expr.specs.declared.expr.Expr.{Expr}
use Rattle.sq_expr.specs.declared.expr.Expr.TheVariants as expr
use Rattle.sq_expr.specs.declared.expr.Kind.{Kind}
use Rattle.sq_expr.specs.declared.expr.Kind.TheVariants as kind
use Rattle.sq_expr.specs.declared.expr.Term.{Term, roll-Term}

-- ---- comparisons

abbrev pub compared : Value → Value → List Tri
compared x y = map (λ cmp. truth (cond.Compare cmp (expr.Column 0) (expr.Column 1)) (x ∷ y ∷ [])) (Eq ∷ Ne ∷ Lt ∷ Le ∷ Gt ∷ Ge ∷ [])

abbrev pub of_less : List Tri
of_less = False ∷ True ∷ True ∷ True ∷ False ∷ False ∷ []

abbrev pub of_equal : List Tri
of_equal = True ∷ False ∷ False ∷ True ∷ False ∷ True ∷ []

abbrev pub of_greater : List Tri
of_greater = False ∷ True ∷ False ∷ False ∷ True ∷ True ∷ []

abbrev pub of_null : List Tri
of_null = Unknown ∷ Unknown ∷ Unknown ∷ Unknown ∷ Unknown ∷ Unknown ∷ []

abbrev pub int : ℕ → Value
int n = Int (pos n)

abbrev pub less_by : ℕ → Value
less_by n = Int (neg_ℤ (pos n))

abbrev pub numbers_compare_by_size : Type 0
numbers_compare_by_size = (compared (less_by 10) (less_by 9) ≡ of_less) × (compared (less_by 9) (int 0) ≡ of_less)
    × (compared (int 9) (int 10) ≡ of_less) × (compared (int 10) (less_by 10) ≡ of_greater) × (compared (less_by (2 ^ 63)) (less_by (2 ^ 63)) ≡ of_equal)

-- a text is less than one that goes on, and the bytes of UTF-8 decide: in UTF-16 the last two would stand the other way round
abbrev pub texts_compare_by_their_bytes : Type 0
texts_compare_by_their_bytes = (compared (Text (codes "B")) (Text (codes "a")) ≡ of_less) × (compared (Text (codes "a")) (Text (codes "aa")) ≡ of_less)
    × (compared (Text (codes "b")) (Text (195 ∷ 169 ∷ [])) ≡ of_less) × (compared (Text []) (Text []) ≡ of_equal)
    × (compared (Text (240 ∷ 144 ∷ 128 ∷ 128 ∷ [])) (Text (239 ∷ 188 ∷ 161 ∷ [])) ≡ of_greater)

abbrev pub null_compares_with_nothing : Type 0
null_compares_with_nothing = (compared Null (int 1) ≡ of_null) × (compared (int 1) Null ≡ of_null) × (compared Null Null ≡ of_null) × (compared (Text []) Null ≡ of_null)

-- ---- conjunctions, disjunctions, negations

-- a condition that has this truth on a row whose one value is NULL
abbrev pub with_truth : Tri → Cond
with_truth True = cond.Null (expr.Column 0) false
with_truth False = cond.Null (expr.Column 0) true
with_truth Unknown = cond.Compare Eq (expr.Column 0) (expr.Number 1)

abbrev pub all_of : List Tri → Tri
all_of ts = truth (cond.All (map with_truth ts)) (Null ∷ [])

abbrev pub any_of : List Tri → Tri
any_of ts = truth (cond.Any (map with_truth ts)) (Null ∷ [])

abbrev pub from_the_least : List Tri
from_the_least = False ∷ Unknown ∷ True ∷ []

abbrev pub conjunctions_are_the_least : Type 0
conjunctions_are_the_least = (all_of [] ≡ True) × (map (λ t. all_of (t ∷ [])) from_the_least ≡ from_the_least)
    × (map (λ t. all_of (False ∷ t ∷ [])) from_the_least ≡ False ∷ False ∷ False ∷ [])
    × (map (λ t. all_of (Unknown ∷ t ∷ [])) from_the_least ≡ False ∷ Unknown ∷ Unknown ∷ [])
    × (map (λ t. all_of (True ∷ t ∷ True ∷ [])) from_the_least ≡ from_the_least)

abbrev pub disjunctions_are_the_greatest : Type 0
disjunctions_are_the_greatest = (any_of [] ≡ False) × (map (λ t. any_of (t ∷ [])) from_the_least ≡ from_the_least)
    × (map (λ t. any_of (True ∷ t ∷ [])) from_the_least ≡ True ∷ True ∷ True ∷ [])
    × (map (λ t. any_of (Unknown ∷ t ∷ [])) from_the_least ≡ Unknown ∷ Unknown ∷ True ∷ [])
    × (map (λ t. any_of (False ∷ t ∷ False ∷ [])) from_the_least ≡ from_the_least)

abbrev pub negations_keep_unknown : Type 0
negations_keep_unknown = map (λ t. truth (cond.Not (with_truth t)) (Null ∷ [])) from_the_least ≡ True ∷ Unknown ∷ False ∷ []

-- ---- numbers

abbrev pub terms : List (Bool × ℕ) → Expr
terms ts = expr.Sum (map (λ t. roll-Term (record { minus = t.0; expr = expr.Column t.1 })) ts)

-- a row of 7, -100 and NULL
abbrev pub with_null : List Value
with_null = int 7 ∷ less_by 100 ∷ Null ∷ []

abbrev pub terms_are_added_and_subtracted : Type 0
terms_are_added_and_subtracted = (num (terms []) with_null ≡ int 0)
    × (num (terms ((false, 0) ∷ (false, 1) ∷ [])) with_null ≡ less_by 93)
    × (num (terms ((false, 0) ∷ (true, 1) ∷ (false, 0) ∷ [])) with_null ≡ int 114)
    × (num (expr.Neg (terms ((true, 0) ∷ (true, 0) ∷ []))) with_null ≡ int 14)
    × (num (terms ((false, 0) ∷ (false, 2) ∷ (false, 1) ∷ [])) with_null ≡ Null)

abbrev pub half : Expr
half = expr.Number (2 ^ 63)

abbrev pub bounds_multiply_and_add : Type 0
bounds_multiply_and_add = (bound_of [] (expr.Product []) ≡ 1) × (bound_of [] (expr.Product (expr.Number 0 ∷ expr.Number 7 ∷ [])) ≡ 7)
    × (bound_of [] (expr.Product (half ∷ half ∷ expr.Number 1 ∷ [])) ≡ 2 ^ 126) × (bound_of [] (expr.Product (half ∷ half ∷ expr.Number 2 ∷ [])) ≡ 2 ^ 127)
    × (bound_of (kind.Integer ∷ kind.Bigint ∷ kind.Text ∷ []) (terms ((false, 0) ∷ (true, 1) ∷ (false, 2) ∷ [])) ≡ 2 ^ 31 + 2 ^ 63)

-- great numbers and a sum of no terms
abbrev pub of_nothing : Expr
of_nothing = expr.Product (half ∷ half ∷ half ∷ expr.Sum [] ∷ [])

abbrev pub an_empty_sum_makes_a_product_0 : Type 0
an_empty_sum_makes_a_product_0 = (bound_of [] of_nothing ≡ 0) × (num of_nothing [] ≡ int 0)

-- ---- types

abbrev pub four_kinds : List Kind
four_kinds = kind.Integer ∷ kind.Text ∷ kind.Bigint ∷ kind.Text ∷ []

abbrev pub texts_have_no_arithmetic : Type 0
texts_have_no_arithmetic = (sort_of four_kinds (expr.Column 1) ≡ Some Textual) × (sort_of four_kinds (expr.Column 4) ≡ None)
    × (sort_of four_kinds (terms ((false, 0) ∷ (true, 2) ∷ [])) ≡ Some Numeric) × (sort_of four_kinds (terms ((false, 0) ∷ (true, 1) ∷ [])) ≡ None)

abbrev pub can_compare : ℕ → ℕ → Bool
can_compare i j = is_typed_cond four_kinds (cond.Compare Le (expr.Column i) (expr.Column j))

abbrev pub texts_compare_with_texts_alone : Type 0
texts_compare_with_texts_alone = (can_compare 0 2 ≡ true) × (can_compare 1 3 ≡ true) × (can_compare 0 1 ≡ false) × (can_compare 3 2 ≡ false) × (can_compare 0 4 ≡ false)
