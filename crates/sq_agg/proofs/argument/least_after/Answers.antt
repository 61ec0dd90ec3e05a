use Rattle.std.proofs.Common.{length}
use Rattle.sq_algebra.specs.ZSet.{entries}
use Rattle.sq_ops.specs.Arguments.{arguments}
use Rattle.sq_agg.specs.Kept.{argument_key}
use Rattle.sq_agg.proofs.GroupRows.{looked}
use Rattle.sq_agg.proofs.Values.{least_value}
use Rattle.sq_agg.proofs.argument.least_after.Goals as goal

pub returns-in_err-end-clause-count : goal.returns-in_err-end-clause-count
returns-in_err-end-clause-count g c = looked c.in_ok-change.change c.args.steps.now.count c.least_of.new.steps.count (length (entries c.args.changed.now)) c.in_ok-change.ensures.few c.least_of.ensures.count

pub returns-in_err-value-clause-count : goal.returns-in_err-value-clause-count
returns-in_err-value-clause-count g c = looked c.in_ok-change.change c.args.steps.now.count c.least_of.new.steps.count (length (entries c.args.changed.now)) c.in_ok-change.ensures.few c.least_of.ensures.count

pub returns-clause-ok : goal.returns-clause-ok
returns-clause-ok g c =
    least_value c.args.ordered.now (argument_key c.args.key.now c.args.call) c.in_ok-kept.kept c.in_ok-change.change (arguments c.args.column c.args.changed.now) c.in_ok-kept.ensures c.in_ok-change.ensures.ok
    c.in_ok-end.end c.in_ok-value.value c.in_ok-value.ensures c.in_ok-end.ensures.ok

pub returns-clause-count : goal.returns-clause-count
returns-clause-count g c = looked c.in_ok-change.change c.args.steps.now.count c.least_of.new.steps.count (length (entries c.args.changed.now)) c.in_ok-change.ensures.few c.least_of.ensures.count
