-- The examples of faults computed.
use Rattle.std.proofs.Common.{refl}
use Rattle.sq_ast.specs.declared.expr.ExprTree.TheVariants as tree
use Rattle.sq_expr.proofs.Equations.{sort_of_equations, bound_of_equations, is_typed_cond_equations, cond_parts_equations, parts-Column, parts-Number, parts-Text, parts-Neg, parts-Sum, parts-Product}
use Rattle.sq_expr.proofs.SameLemmas.{same_equations}
use Rattle.sq_expr.specs.declared.expr.Expr.TheVariants as expr
use Rattle.sq_typed.specs.FaultExamples as e
use Rattle.sq_typed.specs.Faults.{first_kind}
use Rattle.sq_typed.proofs.QueryEquations.{queries}
use Rattle.sq_typed.proofs.TreeEquations.{trees}

-- how trees open
pub ruleset opened = (tree.outs-Sum, tree.outs-Product, tree.outs-Neg, tree.outs-Number, tree.outs-Text, tree.outs-Column, tree.outs-Call, expr.outs-Sum, expr.outs-Product, expr.outs-Neg, expr.outs-Number, expr.outs-Text, expr.outs-Column)

-- what types and bounds compute with
pub ruleset types = (sort_of_equations, bound_of_equations, is_typed_cond_equations, cond_parts_equations, parts-Column, parts-Number, parts-Text, parts-Neg, parts-Sum, parts-Product, same_equations)

pub ruleset rules = (queries, trees, opened, types)

pub the_same_relation : e.the_same_relation
unfolding first_kind
the_same_relation = refl

pub the_same_source : e.the_same_source
unfolding first_kind
the_same_source = simp rules refl

pub no_such_relation : e.no_such_relation
unfolding first_kind
no_such_relation = simp rules refl

pub no_name : e.no_name
unfolding first_kind
no_name = simp rules refl

pub the_same_column : e.the_same_column
unfolding first_kind
the_same_column = simp rules refl

pub the_same_column_of_a_table : e.the_same_column_of_a_table
unfolding first_kind
the_same_column_of_a_table = refl

pub the_same_column_behind_a_star : e.the_same_column_behind_a_star
unfolding first_kind
the_same_column_behind_a_star = simp rules refl

pub no_such_column : e.no_such_column
unfolding first_kind
no_such_column = simp rules refl

pub no_such_source : e.no_such_source
unfolding first_kind
no_such_source = simp rules refl

pub a_later_source : e.a_later_source
unfolding first_kind
a_later_source = simp rules refl

pub in_two_sources : e.in_two_sources
unfolding first_kind
in_two_sources = simp rules refl

pub a_call_in_a_call : e.a_call_in_a_call
unfolding first_kind
a_call_in_a_call = simp rules refl

pub a_call_in_where : e.a_call_in_where
unfolding first_kind
a_call_in_where = simp rules refl

pub outside_groups : e.outside_groups
unfolding first_kind
outside_groups = simp rules refl

pub a_star_outside_groups : e.a_star_outside_groups
unfolding first_kind
a_star_outside_groups = simp rules refl

pub one_column_and_two : e.one_column_and_two
unfolding first_kind
one_column_and_two = simp rules refl

pub a_number_compared_with_a_text : e.a_number_compared_with_a_text
unfolding first_kind
a_number_compared_with_a_text = simp rules refl

pub numbers_and_texts : e.numbers_and_texts
unfolding first_kind
numbers_and_texts = simp rules refl

pub a_sum_with_a_text : e.a_sum_with_a_text
unfolding first_kind
a_sum_with_a_text = simp rules refl

pub a_sum_of_texts : e.a_sum_of_texts
unfolding first_kind
a_sum_of_texts = simp rules refl

pub too_wide : e.too_wide
unfolding first_kind
too_wide = simp rules refl

pub as_wide_as_it_goes : e.as_wide_as_it_goes
unfolding first_kind
as_wide_as_it_goes = simp rules refl

pub too_many_sources : e.too_many_sources
unfolding first_kind
too_many_sources = simp rules refl

pub as_many_sources_as_there_may_be : e.as_many_sources_as_there_may_be
unfolding first_kind
as_many_sources_as_there_may_be = simp rules refl

pub name_before_relation : e.name_before_relation
unfolding first_kind
name_before_relation = refl

pub relation_before_unnamed : e.relation_before_unnamed
unfolding first_kind
relation_before_unnamed = simp rules refl

pub unnamed_before_duplicate : e.unnamed_before_duplicate
unfolding first_kind
unnamed_before_duplicate = simp rules refl

pub duplicate_before_unknown : e.duplicate_before_unknown
unfolding first_kind
duplicate_before_unknown = simp rules refl

pub unknown_before_ambiguous : e.unknown_before_ambiguous
unfolding first_kind
unknown_before_ambiguous = simp rules refl

pub ambiguous_before_nested : e.ambiguous_before_nested
unfolding first_kind
ambiguous_before_nested = simp rules refl

pub nested_before_grouped : e.nested_before_grouped
unfolding first_kind
nested_before_grouped = simp rules refl

pub grouped_before_count : e.grouped_before_count
unfolding first_kind
grouped_before_count = simp rules refl

pub count_before_type : e.count_before_type
unfolding first_kind
count_before_type = simp rules refl

pub type_before_width : e.type_before_width
unfolding first_kind
type_before_width = simp rules refl

pub width_before_limit : e.width_before_limit
unfolding first_kind
width_before_limit = simp rules refl

pub ruleset fault_examples = (the_same_relation, the_same_source, no_such_relation, no_name, the_same_column, the_same_column_of_a_table, the_same_column_behind_a_star, no_such_column, no_such_source, a_later_source, in_two_sources, a_call_in_a_call, a_call_in_where, outside_groups, a_star_outside_groups, one_column_and_two, a_number_compared_with_a_text, numbers_and_texts, a_sum_with_a_text, a_sum_of_texts, too_wide, as_wide_as_it_goes, too_many_sources, as_many_sources_as_there_may_be, name_before_relation, relation_before_unnamed, unnamed_before_duplicate, duplicate_before_unknown, unknown_before_ambiguous, ambiguous_before_nested, nested_before_grouped, grouped_before_count, count_before_type, type_before_width, width_before_limit)
