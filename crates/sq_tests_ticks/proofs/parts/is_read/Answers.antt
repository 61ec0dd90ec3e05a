use Rattle.std.proofs.Common.{◌<◌, length, rules, ap, sym, ◌∙◌}
use Rattle.sq_circuit.specs.declared.circuit.Part.{Part}
use Rattle.sq_tests_ticks.proofs.Standing.{read_is}
use Rattle.sq_tests_ticks.proofs.parts.is_read.Goals as goal

pub returns : goal.returns
returns c t =
    let low : c.args.i < length c.args.parts.now = search rules in
    read_is c.args.parts.now c.args.i c.index-parts-at.result low c.index-parts-at.is (ap (λ (q : Part). q.kinds) c.index-parts-at.is ∙ sym c.as_slice.ensures ∙ c.are_pairs.ensures t)
