use Rattle.std.proofs.Common.{rules, ◌≡◌, ◌≤◌, length, None}
use Rattle.sq_algebra.specs.ZSet.{entries}
use Rattle.sq_zset.specs.Range.{first_outside_in}
use Rattle.sq_tests_operators.proofs.NoneBelow.{few_rows}
use Rattle.sq_tests_operators.proofs.accumulators.acc_on.Goals as goal

pub of_rows-requires-clause-few : goal.of_rows-requires-clause-few
of_rows-requires-clause-few c =
    let few : length (entries c.args.z.now) ≤ 1 = search rules in
    let inside : first_outside_in (entries c.args.z.now) ≡ None = search rules in
    few_rows (entries c.args.z.now) few inside
