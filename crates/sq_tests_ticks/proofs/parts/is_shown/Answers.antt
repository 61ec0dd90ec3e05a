use Rattle.std.proofs.Common.{◌<◌, length, rules, ap, sym, ◌∙◌}
use Rattle.sq_circuit.specs.declared.circuit.Part.{Part}
use Rattle.sq_tests_ticks.proofs.Standing.{shown_is}
use Rattle.sq_tests_ticks.proofs.parts.is_shown.Goals as goal

pub returns : goal.returns
returns c t =
    let low : c.args.i < length c.args.parts.now = search rules in
    shown_is c.args.parts.now c.args.view c.args.i c.index-parts-at.result low c.index-parts-at.is (λ w o. c.is_not_later.ensures t w (sym (ap (λ (q : Part). q.owner) c.index-parts-at.is) ∙ o))
