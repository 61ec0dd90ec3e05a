use Rattle.std.proofs.Common.{◌^◌, ◌≤◌, sym, subst, unsigned_abs}
use Rattle.sq_ops.specs.Aggregates.{SuitsSpec}
use Rattle.sq_ops.proofs.Grouping.{fitting_change}
use Rattle.sq_ops.proofs.Measuring.{total_bound}
use Rattle.sq_agg.proofs.Bounding.{none_outside}
use Rattle.sq_agg.proofs.Holding.{kept_bound}
use Rattle.sq_agg.proofs.acc.Acc.of_rows.Goals as goal

pub tallies_of-requires : goal.tallies_of-requires
tallies_of-requires c = fitting_change (SuitsSpec c.args.spec.now) c.args.z.now c.requires.fits c.requires.few

pub total_of-rows-requires : goal.total_of-rows-requires
total_of-rows-requires c = fitting_change (SuitsSpec c.args.spec.now) c.args.z.now c.requires.fits c.requires.few

pub invariant_of-result : goal.invariant_of-result
invariant_of-result c =
    let bound : unsigned_abs c.total_of-rows.result ≤ 2 ^ 62 =
    subst (λ n. unsigned_abs n ≤ 2 ^ 62) (sym c.total_of-rows.ensures) (total_bound c.args.z.now (fitting_change (SuitsSpec c.args.spec.now) c.args.z.now c.requires.fits c.requires.few)) in
    record { rows = kept_bound c.total_of-rows.result bound; tallies = c.in_ok-tallies.ensures.within }

pub returns-clause-in_range : goal.returns-clause-in_range
returns-clause-in_range c =
    let bound : unsigned_abs c.total_of-rows.result ≤ 2 ^ 62 =
    subst (λ n. unsigned_abs n ≤ 2 ^ 62) (sym c.total_of-rows.ensures) (total_bound c.args.z.now (fitting_change (SuitsSpec c.args.spec.now) c.args.z.now c.requires.fits c.requires.few)) in
    none_outside _ c.in_ok-tallies.tallies.items (record { rows = kept_bound c.total_of-rows.result bound; tallies = c.in_ok-tallies.ensures.within })
