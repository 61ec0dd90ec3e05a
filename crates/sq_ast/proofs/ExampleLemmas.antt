-- Each example is read as what it spells.
use Rattle.std.specs.Prelude.{refl}
use Rattle.sq_ast.specs.Words as w
use Rattle.sq_ast.specs.Words.{Tokens}
use Rattle.sq_ast.specs.Trees as trees
use Rattle.sq_ast.specs.Parser as p
use Rattle.sq_ast.specs.Reading as r
use Rattle.sq_ast.specs.Examples as e
use Rattle.sq_ast.proofs.Programs.{program_sound, unspelled}

-- what a reading computes with
rules : Unit {0}
unfolding w.is_reserved w.same_symbol trees.sum_of trees.product_of trees.any_of trees.all_of trees.chain_of trees.intersect_of p.sees p.after p.many_for p.many r.name_of r.function_of r.comparison_of r.type_of r.name r.alias r.maybe_alias r.col_ref r.count_all r.argument r.prim r.sign r.next_factor r.product r.next_term r.sum r.null_test r.after_operand r.nested_cond r.one_test r.neg r.next_and r.conj r.next_or r.disj r.set_op r.select r.star_of r.next_col_ref r.group_by r.computed_item r.select_item r.next_item r.from_item r.next_joined r.block r.operand r.next_operand r.intersection r.next_step r.query_chain r.level r.nullness r.column_def r.next_column_def r.table r.flavour r.view r.create r.statement r.is_shallow_from r.is_shallow r.pieces r.place r.places r.program
rules = tt

pub nothing_spelled : e.IsSpelled e.nothing
unfolding rules
nothing_spelled = program_sound _ _ refl

pub third_statement_spelled : e.IsSpelled e.third_statement
unfolding rules
third_statement_spelled = program_sound _ _ refl

pub words_as_names_spelled : e.IsSpelled e.words_as_names
unfolding rules
words_as_names_spelled = program_sound _ _ refl

pub quoted_word_spelled : e.IsSpelled e.quoted_word
unfolding rules
quoted_word_spelled = program_sound _ _ refl

pub chain_spelled : e.IsSpelled e.chain
unfolding rules
chain_spelled = program_sound _ _ refl

pub chain_in_chain_spelled : e.IsSpelled e.chain_in_chain
unfolding rules
chain_in_chain_spelled = program_sound _ _ refl

pub signs_spelled : e.IsSpelled e.signs
unfolding rules
signs_spelled = program_sound _ _ refl

pub precedence_spelled : e.IsSpelled e.precedence
unfolding rules
precedence_spelled = program_sound _ _ refl

pub either_parenthesis_spelled : e.IsSpelled e.either_parenthesis
unfolding rules
either_parenthesis_spelled = program_sound _ _ refl

pub joins_spelled : e.IsSpelled e.joins
unfolding rules
joins_spelled = program_sound _ _ refl

pub groups_spelled : e.IsSpelled e.groups
unfolding rules
groups_spelled = program_sound _ _ refl

pub set_operations_spelled : e.IsSpelled e.set_operations
unfolding rules
set_operations_spelled = program_sound _ _ refl

pub as_deep_as_it_goes_spelled : e.IsSpelled e.as_deep_as_it_goes
unfolding rules
as_deep_as_it_goes_spelled = program_sound _ _ refl

pub too_deep_unspelled : e.IsUnspelled e.too_deep
unfolding rules
too_deep_unspelled statements g = unspelled _ _ statements refl g

pub reserved_name_unspelled : e.IsUnspelled e.reserved_name
unfolding rules
reserved_name_unspelled statements g = unspelled _ _ statements refl g

pub right_join_unspelled : e.IsUnspelled e.right_join
unfolding rules
right_join_unspelled statements g = unspelled _ _ statements refl g

pub join_without_on_unspelled : e.IsUnspelled e.join_without_on
unfolding rules
join_without_on_unspelled statements g = unspelled _ _ statements refl g

pub expression_as_condition_unspelled : e.IsUnspelled e.expression_as_condition
unfolding rules
expression_as_condition_unspelled statements g = unspelled _ _ statements refl g

pub not_twice_unspelled : e.IsUnspelled e.not_twice
unfolding rules
not_twice_unspelled statements g = unspelled _ _ statements refl g

pub sum_of_star_unspelled : e.IsUnspelled e.sum_of_star
unfolding rules
sum_of_star_unspelled statements g = unspelled _ _ statements refl g

pub intersect_all_unspelled : e.IsUnspelled e.intersect_all
unfolding rules
intersect_all_unspelled statements g = unspelled _ _ statements refl g

pub no_semicolon_unspelled : e.IsUnspelled e.no_semicolon
unfolding rules
no_semicolon_unspelled statements g = unspelled _ _ statements refl g

pub ruleset examples = (nothing_spelled, third_statement_spelled, words_as_names_spelled, quoted_word_spelled, chain_spelled, chain_in_chain_spelled, signs_spelled, precedence_spelled, either_parenthesis_spelled, joins_spelled, groups_spelled, set_operations_spelled, as_deep_as_it_goes_spelled, too_deep_unspelled, reserved_name_unspelled, right_join_unspelled, join_without_on_unspelled, expression_as_condition_unspelled, not_twice_unspelled, sum_of_star_unspelled, intersect_all_unspelled, no_semicolon_unspelled)
