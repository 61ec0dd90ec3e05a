use Rattle.sq_ops.specs.Rows.{holds, items_of, padded}
use Rattle.sq_ops.proofs.Extending.{one_image_counted, test_counted}
use Rattle.sq_ops.proofs.laws.lists_are_kept_projected_padded.Goals as goal

pub returns-clause-kept : goal.returns-clause-kept
returns-clause-kept c op rows = test_counted (holds op.cond) rows

pub returns-clause-projected : goal.returns-clause-projected
returns-clause-projected c op rows = one_image_counted (items_of op.items) rows

pub returns-clause-padded : goal.returns-clause-padded
returns-clause-padded c op rows = one_image_counted (padded op.nulls) rows
