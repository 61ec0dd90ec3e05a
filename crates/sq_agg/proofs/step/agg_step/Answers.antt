use Rattle.std.proofs.Common.{rules, ◌≡◌, ◌∙◌, ◌≤◌, ap, sym, subst, unsigned_abs, ℤ}
use Rattle.std.specs.List.{AllByRecursion}
use Rattle.std.specs.Ordering.{nat_cmp}
use Rattle.sq_algebra.specs.Groups.{integers, z_sets}
use Rattle.sq_algebra.specs.ZSet.{from_pairs}
use Rattle.sq_trace.specs.Keys.{AllInRange, AreDistinct, IsRunOf}
use Rattle.sq_trace.specs.declared.entry.Entry.{Entry}
use Rattle.sq_value.specs.Order.{row_cmp}
use Rattle.sq_zset.specs.Range.{number_outside}
use Rattle.sq_agg.specs.Accumulators.{first_number_outside}
use Rattle.sq_agg.specs.Entering.{as_pairs}
use Rattle.sq_agg.proofs.Keeping.{accumulators_apart, accumulators_kept, accumulators_within, arguments_apart, arguments_kept, arguments_within, moves_apart, moves_kept, moves_units, moves_within}
use Rattle.sq_agg.proofs.Elsewhere.{no_others_change, others_stay}
use Rattle.sq_agg.proofs.Risen.{risen}
use Rattle.sq_agg.proofs.step.agg_step.Goals as goal

pub rows_of_entries-requires : goal.rows_of_entries-requires
rows_of_entries-requires g c =
    let lent : c.in_ok-accs.field-0.shown.items ≡ c.deref.result.now = search rules in
    subst (AllByRecursion (λ (e : Entry ℤ). unsigned_abs e.payload ≤ 1)) (sym (c.in_ok-accs.ensures.shown c.requires.state) ∙ lent)
    (moves_units c.args.spec.now c.args.acc.now c.args.ordered.now c.args.shown.now c.args.d.now c.args.first c.requires.state)

pub of-requires-clause-distinct : goal.of-requires-clause-distinct
of-requires-clause-distinct g c =
    subst (λ es. AreDistinct es) (sym c.in_ok-accs.ensures.accs) (accumulators_apart c.args.spec.now c.args.acc.now c.args.ordered.now c.args.shown.now c.args.d.now c.args.first c.requires.state)

pub of-requires-clause-in_range : goal.of-requires-clause-in_range
of-requires-clause-in_range g c =
    subst (λ es. AllInRange first_number_outside es) (sym c.in_ok-accs.ensures.accs) (accumulators_within c.args.spec.now c.args.acc.now c.args.ordered.now c.args.shown.now c.args.d.now c.args.first c.requires.state)

pub of-requires-2-clause-distinct : goal.of-requires-2-clause-distinct
of-requires-2-clause-distinct g c =
    subst (λ es. AreDistinct es) (sym c.in_ok-accs.ensures.ordered) (arguments_apart c.args.spec.now c.args.acc.now c.args.ordered.now c.args.shown.now c.args.d.now c.args.first c.requires.state)

pub of-requires-2-clause-in_range : goal.of-requires-2-clause-in_range
of-requires-2-clause-in_range g c =
    subst (λ es. AllInRange number_outside es) (sym c.in_ok-accs.ensures.ordered) (arguments_within c.args.spec.now c.args.acc.now c.args.ordered.now c.args.shown.now c.args.d.now c.args.first c.requires.state)

pub of-requires-3-clause-distinct : goal.of-requires-3-clause-distinct
of-requires-3-clause-distinct g c =
    subst (λ es. AreDistinct es) (sym (c.in_ok-accs.ensures.shown c.requires.state)) (moves_apart c.args.spec.now c.args.acc.now c.args.ordered.now c.args.shown.now c.args.d.now c.args.first c.requires.state)

pub of-requires-3-clause-in_range : goal.of-requires-3-clause-in_range
of-requires-3-clause-in_range g c =
    subst (λ es. AllInRange number_outside es) (sym (c.in_ok-accs.ensures.shown c.requires.state)) (moves_within c.args.spec.now c.args.acc.now c.args.ordered.now c.args.shown.now c.args.d.now c.args.first c.requires.state)

pub returns-clause-change : goal.returns-clause-change
returns-clause-change g c s =
    let lent : c.in_ok-accs.field-0.shown.items ≡ c.deref.result.now = search rules in
    c.in_ok-change.ensures.ok ∙ ap (λ es. from_pairs row_cmp (as_pairs es)) (sym lent ∙ c.in_ok-accs.ensures.shown s)
    ∙ risen c.args.spec.now c.args.acc.now c.args.ordered.now c.args.shown.now c.args.d.now c.args.first s

pub returns-clause-acc : goal.returns-clause-acc
returns-clause-acc g c s =
    accumulators_kept c.args.spec.now c.args.acc.now c.args.ordered.now c.args.shown.now c.args.d.now c.args.first s c.in_ok-acc.acc
    (subst (λ es. IsRunOf (z_sets nat_cmp) first_number_outside es c.in_ok-acc.acc) c.in_ok-accs.ensures.accs c.in_ok-acc.ensures)

pub returns-clause-ordered : goal.returns-clause-ordered
returns-clause-ordered g c s =
    arguments_kept c.args.spec.now c.args.acc.now c.args.ordered.now c.args.shown.now c.args.d.now c.args.first s c.in_ok-ordered.ordered
    (subst (λ es. IsRunOf integers number_outside es c.in_ok-ordered.ordered) c.in_ok-accs.ensures.ordered c.in_ok-ordered.ensures)

pub returns-clause-shown : goal.returns-clause-shown
returns-clause-shown g c s =
    moves_kept c.args.spec.now c.args.acc.now c.args.ordered.now c.args.shown.now c.args.d.now c.args.first s c.in_ok-shown.shown
    (subst (λ es. IsRunOf integers number_outside es c.in_ok-shown.shown) (c.in_ok-accs.ensures.shown s) c.in_ok-shown.ensures)

pub returns-clause-no_others : goal.returns-clause-no_others
returns-clause-no_others g c =
    no_others_change c.args.spec.now c.args.d.now c.args.first c.in_ok-ordered.ordered (subst (λ es. IsRunOf integers number_outside es c.in_ok-ordered.ordered) c.in_ok-accs.ensures.ordered c.in_ok-ordered.ensures)

pub returns-clause-elsewhere : goal.returns-clause-elsewhere
returns-clause-elsewhere g c =
    others_stay c.args.spec.now c.requires.state.old c.args.d.now c.args.first c.in_ok-shown.shown
    (subst (λ es. IsRunOf integers number_outside es c.in_ok-shown.shown) (c.in_ok-accs.ensures.shown c.requires.state) c.in_ok-shown.ensures)
