-- A Project.
use Rattle.std.proofs.Common.{◌≡◌, Some, rules}
use Rattle.sq_expr.specs.Fits.{Suits}
use Rattle.sq_expr.specs.Typing.{sort_of}
use Rattle.sq_expr.specs.declared.typing.Sort.TheVariants.{Numeric}
use Rattle.sq_tests_circuits.specs.Small.{numbers}
use Rattle.sq_tests_circuits.proofs.Samples.{projects}
use Rattle.sq_tests_circuits.proofs.nodes.projected.Goals as goal

pub small_circuit-requires : goal.small_circuit-requires
small_circuit-requires c =
    let h : Suits numbers c.args.expr = search rules in
    let sort : sort_of numbers c.args.expr ≡ Some Numeric = search rules in
    rw c.in_ok-items.ensures (projects c.args.expr h sort)
