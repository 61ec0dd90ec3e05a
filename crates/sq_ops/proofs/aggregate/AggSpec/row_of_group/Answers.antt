use Rattle.sq_ops.specs.Aggregates.{SuitsSpec}
use Rattle.sq_ops.proofs.Grouping.{fitting_group}
use Rattle.sq_ops.proofs.aggregate.AggSpec.row_of_group.Goals as goal

pub call_values-requires : goal.call_values-requires
call_values-requires c = fitting_group (SuitsSpec c.args.self.now) c.args.z.now c.requires.fits c.requires.not_negative c.requires.bounded
