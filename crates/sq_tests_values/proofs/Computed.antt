-- The meanings computed.
use Rattle.std.proofs.Common.{refl}
use Rattle.sq_expr.proofs.Equations.{nums, truths, sort_of_equations, bound_of_equations, is_typed_cond_equations}
use Rattle.sq_tests_values.specs.Meanings as m

pub numbers_compare_by_size : m.numbers_compare_by_size
numbers_compare_by_size = simp (nums, truths) (refl, refl, refl, refl, refl)

pub texts_compare_by_their_bytes : m.texts_compare_by_their_bytes
texts_compare_by_their_bytes = simp (nums, truths) (refl, refl, refl, refl, refl)

pub null_compares_with_nothing : m.null_compares_with_nothing
null_compares_with_nothing = simp (nums, truths) (refl, refl, refl, refl)

pub conjunctions_are_the_least : m.conjunctions_are_the_least
conjunctions_are_the_least = simp (nums, truths) (refl, refl, refl, refl, refl)

pub disjunctions_are_the_greatest : m.disjunctions_are_the_greatest
disjunctions_are_the_greatest = simp (nums, truths) (refl, refl, refl, refl, refl)

pub negations_keep_unknown : m.negations_keep_unknown
negations_keep_unknown = simp (nums, truths) refl

pub terms_are_added_and_subtracted : m.terms_are_added_and_subtracted
terms_are_added_and_subtracted = simp (nums) (refl, refl, refl, refl, refl)

pub bounds_multiply_and_add : m.bounds_multiply_and_add
bounds_multiply_and_add = simp (bound_of_equations) (refl, refl, refl, refl, refl)

pub an_empty_sum_makes_a_product_0 : m.an_empty_sum_makes_a_product_0
an_empty_sum_makes_a_product_0 = simp (nums, bound_of_equations) (refl, refl)

pub texts_have_no_arithmetic : m.texts_have_no_arithmetic
texts_have_no_arithmetic = simp (sort_of_equations) (refl, refl, refl, refl)

pub texts_compare_with_texts_alone : m.texts_compare_with_texts_alone
texts_compare_with_texts_alone = simp (sort_of_equations, is_typed_cond_equations) (refl, refl, refl, refl, refl)
