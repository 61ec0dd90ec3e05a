use Rattle.std.proofs.Common.{subst, sym}
use Rattle.sq_circuit.specs.Begun.{IsBegun}
use Rattle.sq_tests_ticks.proofs.Closing.{three_begin}
use Rattle.sq_tests_ticks.proofs.ended.three_tables.Goals as goal

pub returns : goal.returns
returns c = subst (IsBegun 3 0) (sym c.in_ok-parts.ensures) three_begin
