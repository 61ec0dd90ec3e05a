-- A Keep.
use Rattle.std.proofs.Common.{rules}
use Rattle.sq_expr.specs.Fits.{SuitsCond}
use Rattle.sq_tests_circuits.specs.Small.{numbers}
use Rattle.sq_tests_circuits.proofs.Samples.{keeps}
use Rattle.sq_tests_circuits.proofs.nodes.kept.Goals as goal

pub small_circuit-requires : goal.small_circuit-requires
small_circuit-requires c = let h : SuitsCond numbers c.args.cond = search rules in keeps c.args.cond h
