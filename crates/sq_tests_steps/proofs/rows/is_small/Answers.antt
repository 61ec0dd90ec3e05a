use Rattle.std.proofs.Common.{rules, ◌≡◌, ◌≤ℤ◌, ◌^◌, ℤ, pos, subst}
use Rattle.std.specs.List.{All}
use Rattle.sq_algebra.specs.ZSet.{entries, total}
use Rattle.sq_tests_steps.proofs.Small.{none_below}
use Rattle.sq_tests_steps.proofs.rows.is_small.Goals as goal

pub returns : goal.returns
returns c low =
    let all : All (λ e. pos 0 ≤ℤ e.1) (entries c.args.z.now) = search rules in
    let most : c.total.result ≤ℤ pos (2 ^ 61) = search rules in
    record { not_negative = none_below c.args.z.now all; bounded = subst (λ n. n ≤ℤ pos (2 ^ 61)) c.total.ensures most }
