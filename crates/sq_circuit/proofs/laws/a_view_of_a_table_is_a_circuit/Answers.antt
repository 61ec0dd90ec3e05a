-- The least circuit.
use Rattle.sq_circuit.proofs.Smallest.{table_and_view_is}
use Rattle.sq_circuit.proofs.laws.a_view_of_a_table_is_a_circuit.Goals as goal

pub returns : goal.returns
returns c = table_and_view_is
