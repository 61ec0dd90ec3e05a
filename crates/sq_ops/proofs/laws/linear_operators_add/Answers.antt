use Rattle.sq_ops.proofs.Extending.{image_of_none, images_counted}
use Rattle.sq_ops.proofs.laws.linear_operators_add.Goals as goal

pub returns-clause-none : goal.returns-clause-none
returns-clause-none g c op = image_of_none (g.O.Linear.images op)

pub returns-clause-lists : goal.returns-clause-lists
returns-clause-lists g c op rows = images_counted (g.O.Linear.images op) rows
