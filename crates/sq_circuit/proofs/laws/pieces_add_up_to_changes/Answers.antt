-- The pieces in all shards.
use Rattle.sq_circuit.proofs.Composing.{pieces_add_up}
use Rattle.sq_circuit.proofs.laws.pieces_add_up_to_changes.Goals as goal

pub returns : goal.returns
returns c = pieces_add_up
