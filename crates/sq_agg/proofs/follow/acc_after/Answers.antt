use Rattle.std.proofs.Common.{IfOk, ◌≡◌, ◌∙◌, subst}
use Rattle.sq_agg.specs.Kept.{kept_accumulator}
use Rattle.sq_agg.proofs.Following.{from_nothing, none_kept}
use Rattle.sq_agg.proofs.follow.acc_after.Goals as goal

pub returns-clause-ok : goal.returns-clause-ok
returns-clause-ok g c =
    subst (λ x. IfOk c.copy_of.result (λ after. after ≡ x))
    (from_nothing (kept_accumulator c.args.accs.now c.args.key.now) c.args.change.now
    (none_kept c.args.accs.now c.args.key.now c.of-no_values.result c.in_ok-kept.field-0 (c.of-no_values.ensures ∙ c.new.ensures.items) c.in-None.is c.in_ok-kept.ensures.ok))
    c.copy_of.ensures
