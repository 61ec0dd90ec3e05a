use Rattle.std.proofs.Common.{◌≡◌, sym}
use Rattle.sq_ops.specs.Fits.{FitsRow}
use Rattle.sq_tests_operators.proofs.OneRow.{all_of_one, one_bounded, one_not_negative}
use Rattle.sq_tests_operators.proofs.parts.part_of_one.Goals as goal

pub part-requires-clause-fits : goal.part-requires-clause-fits
part-requires-clause-fits g c = all_of_one c.args.row c.in_ok-z.z c.in_ok-z.ensures.ok (FitsRow (g.W.Whole.suits c.args.op.now)) c.requires

pub part-requires-clause-one_key : goal.part-requires-clause-one_key
part-requires-clause-one_key g c = all_of_one c.args.row c.in_ok-z.z c.in_ok-z.ensures.ok (λ row. g.W.Whole.keys c.args.op.now row ≡ c.in_ok-key.key) (sym c.in_ok-key.ensures)

pub part-requires-clause-not_negative : goal.part-requires-clause-not_negative
part-requires-clause-not_negative g c = one_not_negative c.args.row c.in_ok-z.z c.in_ok-z.ensures.ok

pub part-requires-clause-bounded : goal.part-requires-clause-bounded
part-requires-clause-bounded g c = one_bounded c.args.row c.in_ok-z.z c.in_ok-z.ensures.ok
