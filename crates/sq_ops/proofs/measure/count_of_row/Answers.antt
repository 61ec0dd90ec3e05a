use Rattle.std.proofs.Common.{◌∙◌, ap, cond, not, pos, sym, to_z-of_z}
use Rattle.sq_ops.proofs.Measuring.{count_of_one}
use Rattle.sq_ops.proofs.measure.count_of_row.Goals as goal

pub returns-then-is_null_at : goal.returns-then-is_null_at
returns-then-is_null_at c =
    sym (count_of_one c.args.column c.args.row.now c.args.weight ∙ ap (λ b. cond (not b) c.args.weight (pos 0)) (sym c.is_null_at.ensures ∙ c.if-is_null_at.true))

pub returns-else-is_null_at : goal.returns-else-is_null_at
returns-else-is_null_at c =
    to_z-of_z c.ranges.weight
    ∙ sym (count_of_one c.args.column c.args.row.now c.args.weight ∙ ap (λ b. cond (not b) c.args.weight (pos 0)) (sym c.is_null_at.ensures ∙ c.if-is_null_at.false))
