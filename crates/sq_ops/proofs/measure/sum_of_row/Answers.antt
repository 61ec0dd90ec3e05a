use Rattle.std.proofs.Common.{◌∙◌, ◌*ℤ◌, ◌^◌, ap, lit≤, sym, to_z-of_z}
use Rattle.sq_zset.proofs.Entries.{kept_128}
use Rattle.sq_ops.specs.Aggregates.{number_at}
use Rattle.sq_ops.proofs.Measuring.{measure_of_row}
use Rattle.sq_ops.proofs.measure.sum_of_row.Goals as goal

pub returns-clause-sum : goal.returns-clause-sum
returns-clause-sum c =
    kept_128 c.product.result (2 ^ 125) c.product.ensures.bound (lit≤ tt)
    ∙ c.product.ensures.value
    ∙ ap (λ n. n *ℤ number_at c.args.column c.args.row.now) (to_z-of_z c.ranges.weight)
    ∙ sym (measure_of_row (number_at c.args.column) c.args.row.now c.args.weight)
