-- The three tests.
use Rattle.std.proofs.Common.{rules, ◌≤ℤ◌, pos, ◌^◌}
use Rattle.std.specs.List.{All}
use Rattle.sq_algebra.specs.ZSet.{entries, total}
use Rattle.sq_circuit.specs.Invariant.{HasKinds}
use Rattle.sq_tests_circuits.specs.Small.{numbers}
use Rattle.sq_tests_circuits.proofs.Tables.{is_table}
use Rattle.sq_tests_circuits.proofs.circuits.is_table.Goals as goal

pub returns : goal.returns
returns c _ =
    let kinds : HasKinds numbers c.args.z.now = search rules in
    let above : All (λ e. pos 0 ≤ℤ e.1) (entries c.args.z.now) = search rules in
    let few : total c.args.z.now ≤ℤ pos (2 ^ 61) = search rules in
    is_table numbers c.args.z.now kinds above few
