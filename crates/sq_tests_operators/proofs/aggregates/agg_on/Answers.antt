use Rattle.std.proofs.Common.{rules, ◌≤ℤ◌, pos}
use Rattle.std.specs.List.{All}
use Rattle.sq_algebra.specs.ZSet.{entries}
use Rattle.sq_tests_operators.proofs.NoneBelow.{none_below}
use Rattle.sq_tests_operators.proofs.aggregates.agg_on.Goals as goal

pub agg_whole-requires-clause-not_negative : goal.agg_whole-requires-clause-not_negative
agg_whole-requires-clause-not_negative c =
    let all : All (λ e. pos 0 ≤ℤ e.1) (entries c.args.z.now) = search rules in
    none_below c.args.z.now all
