use Rattle.sq_ops.proofs.Extending.{weight-padded}
use Rattle.sq_ops.proofs.row_laws.padding_keeps_weights.Goals as goal

pub returns : goal.returns
returns c op row z = weight-padded op.nulls row z
