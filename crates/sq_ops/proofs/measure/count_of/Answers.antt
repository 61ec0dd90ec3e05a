use Rattle.std.proofs.Common.{◌≡◌, ◌∙◌, ◌≤◌, ◌^◌, sym, subst, unsigned_abs}
use Rattle.sq_ops.specs.Aggregates.{count_in}
use Rattle.sq_ops.proofs.Measuring.{back_64, count_bound, count_is, fits_64}
use Rattle.sq_ops.proofs.measure.count_of.Goals as goal

pub overflow_cast-result : goal.overflow_cast-result
overflow_cast-result c =
    let is : c.measured.result ≡ count_in c.args.column c.args.z.now = c.measured.ensures ∙ count_is c.args.column c.args.z.now in
    let bound : unsigned_abs c.measured.result ≤ 2 ^ 62 = subst (λ n. unsigned_abs n ≤ 2 ^ 62) (sym is) (count_bound c.args.z.now c.requires c.args.column) in
    fits_64 c.measured.result bound

pub returns : goal.returns
returns c =
    let is : c.measured.result ≡ count_in c.args.column c.args.z.now = c.measured.ensures ∙ count_is c.args.column c.args.z.now in
    let bound : unsigned_abs c.measured.result ≤ 2 ^ 62 = subst (λ n. unsigned_abs n ≤ 2 ^ 62) (sym is) (count_bound c.args.z.now c.requires c.args.column) in
    back_64 c.measured.result bound ∙ is
