use Rattle.sq_algebra.proofs.NonNegativeLemmas.{nonnegative-image}
use Rattle.sq_value.specs.Order.{row_cmp}
use Rattle.sq_value.specs.OrderLaws.{row_cmp-total, row_cmp-antisymmetric}
use Rattle.sq_zset.proofs.RowOperators.{image-IsAdditive, image-zero}
use Rattle.sq_ops.specs.Arguments.{argument_of}
use Rattle.sq_ops.proofs.Arguments.{group_arguments_add, null_is_not_kept}
use Rattle.sq_ops.proofs.extreme_laws.arguments_add_up.Goals as goal

pub returns-clause-sums : goal.returns-clause-sums
returns-clause-sums c column = image-IsAdditive (argument_of column)

pub returns-clause-groups : goal.returns-clause-groups
returns-clause-groups c spec column key = group_arguments_add spec column key

pub returns-clause-none : goal.returns-clause-none
returns-clause-none c column = image-zero (argument_of column)

pub returns-clause-nulls : goal.returns-clause-nulls
returns-clause-nulls c column z = null_is_not_kept column z

pub returns-clause-above : goal.returns-clause-above
returns-clause-above c column z proper = nonnegative-image row_cmp row_cmp-total row_cmp-antisymmetric row_cmp row_cmp-total row_cmp-antisymmetric (argument_of column) z proper
