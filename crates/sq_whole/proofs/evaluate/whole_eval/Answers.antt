-- What is known of all nodes gives the verdict, and with no verdict all values.
use Rattle.std.proofs.Common.{◌≡◌, length, Some, sym, ap, ◌∙◌}
use Rattle.sq_circuit.specs.Circuits.{known}
use Rattle.sq_circuit.proofs.Alongside.{each-length}
use Rattle.sq_whole.proofs.Gathering.{all_values, missing_verdict}
use Rattle.sq_whole.proofs.evaluate.whole_eval.Goals as goal

pub least_owner-requires : goal.least_owner-requires
least_owner-requires c = ap length (c.deref.ensures.value ∙ c.in_ok-values.ensures) ∙ each-length (known c.args.circuit.now c.args.tables.now) (length c.args.circuit.now)

pub returns-in-Some-clause-range : goal.returns-in-Some-clause-range
returns-in-Some-clause-range c = λ view e.
    sym (missing_verdict c.args.circuit.now c.least_owner.ensures.sound c.args.tables.now c.deref.result.now (c.deref.ensures.value ∙ c.in_ok-values.ensures))
    ∙ sym c.least_owner.ensures.least
    ∙ c.in-Some.is
    ∙ ap Some (let same : c.in-Some.view ≡ view = cc in same)

pub returns-in_ok-all_values-in-None-clause-ok : goal.returns-in_ok-all_values-in-None-clause-ok
returns-in_ok-all_values-in-None-clause-ok c =
    c.in_ok-all_values-in-None.ensures
    ∙ all_values c.args.circuit.now c.least_owner.ensures.sound c.args.tables.now c.in_ok-values.values.items c.in_ok-values.ensures
    (sym (missing_verdict c.args.circuit.now c.least_owner.ensures.sound c.args.tables.now c.deref.result.now (c.deref.ensures.value ∙ c.in_ok-values.ensures)) ∙ sym c.least_owner.ensures.least ∙ c.in-None.is)

pub returns-in_ok-all_values-in-None-clause-in_range : goal.returns-in_ok-all_values-in-None-clause-in_range
returns-in_ok-all_values-in-None-clause-in_range c =
    sym (missing_verdict c.args.circuit.now c.least_owner.ensures.sound c.args.tables.now c.deref.result.now (c.deref.ensures.value ∙ c.in_ok-values.ensures))
    ∙ sym c.least_owner.ensures.least
    ∙ c.in-None.is
