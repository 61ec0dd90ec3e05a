use Rattle.std.proofs.Common.{◌≡◌, Err, None}
use Rattle.std.proofs.lemmas.Result.{err_from_is_err_and}
use Rattle.sq_expr.specs.Bigint.{first_not_bigint}
use Rattle.sq_ops.specs.Aggregates.{sums_of}
use Rattle.sq_ops.specs.declared.whole.WholeFault.TheVariants.{Sum}
use Rattle.sq_agg.specs.Shifts.{FirstSum, shown_row}
use Rattle.sq_agg.proofs.Changing.{told, whole_within}
use Rattle.sq_agg.proofs.change.change_of_group.Goals as goal

pub acc_after-requires : goal.acc_after-requires
acc_after-requires g c = record { in_range = whole_within c.args.spec.now c.args.accs.now c.args.ordered.now c.args.key.now c.args.changed.now c.requires.state c.in_ok-acc.acc c.in_ok-acc.ensures.ok }

pub returns-in_err-after-clause-outside : goal.returns-in_err-after-clause-outside
returns-in_err-after-clause-outside g c group sum e =
    let (fault, is, same) = err_from_is_err_and c.from_residual-in_err-after.result c.from_residual-in_err-after.ensures.1 in
    let failed : c.row_after.result ≡ Err (Sum group sum) = cc (c.in_err-after.was, is, same, e) in
    let out = c.row_after.ensures.outside group sum failed in (
      out.0,
      λ s. told c.args.spec.now c.args.accs.now c.args.ordered.now c.args.key.now c.args.changed.now s (λ z. FirstSum c.args.spec.now.calls z sum)
          c.in_ok-whole.whole c.in_ok-acc.acc c.in_ok-whole.ensures.ok c.in_ok-acc.ensures.ok out.1,
    )

pub returns-clause-after : goal.returns-clause-after
returns-clause-after g c s =
    told c.args.spec.now c.args.accs.now c.args.ordered.now c.args.key.now c.args.changed.now s (λ z. c.in_ok-after.after ≡ shown_row c.args.spec.now.global c.args.spec.now.calls c.args.key.now z)
    c.in_ok-whole.whole c.in_ok-acc.acc c.in_ok-whole.ensures.ok c.in_ok-acc.ensures.ok c.in_ok-after.ensures.ok

pub returns-clause-all_sums : goal.returns-clause-all_sums
returns-clause-all_sums g c s =
    told c.args.spec.now c.args.accs.now c.args.ordered.now c.args.key.now c.args.changed.now s (λ z. first_not_bigint (sums_of c.args.spec.now.calls z) ≡ None)
    c.in_ok-whole.whole c.in_ok-acc.acc c.in_ok-whole.ensures.ok c.in_ok-acc.ensures.ok c.in_ok-after.ensures.all_sums
