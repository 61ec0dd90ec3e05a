use Rattle.std.proofs.Common.{◌∙◌, ◌≤◌, ◌^◌, sym, subst, unsigned_abs}
use Rattle.sq_ops.proofs.Measuring.{back_64, fits_64, total_bound}
use Rattle.sq_ops.proofs.measure.total_of.Goals as goal

pub overflow_cast-result : goal.overflow_cast-result
overflow_cast-result c =
    let bound : unsigned_abs c.total.result ≤ 2 ^ 62 = subst (λ n. unsigned_abs n ≤ 2 ^ 62) (sym c.total.ensures) (total_bound c.args.z.now c.requires) in
    fits_64 c.total.result bound

pub returns : goal.returns
returns c =
    let bound : unsigned_abs c.total.result ≤ 2 ^ 62 = subst (λ n. unsigned_abs n ≤ 2 ^ 62) (sym c.total.ensures) (total_bound c.args.z.now c.requires) in
    back_64 c.total.result bound ∙ c.total.ensures
