use Rattle.std.proofs.Common.{◌<◌, length, rules, sym, ◌∙◌}
use Rattle.sq_tests_ticks.proofs.Standing.{input_is}
use Rattle.sq_tests_ticks.proofs.parts.is_input.Goals as goal

pub returns : goal.returns
returns c t =
    let low : c.args.i < length c.args.parts.now = search rules in
    input_is c.args.parts.now c.args.i c.index-parts-at.result low c.index-parts-at.is (sym c.as_slice.ensures ∙ c.are_pairs.ensures c.if-not-are_pairs.false)
    (sym c.is_loose.ensures ∙ c.if-is_loose.false)
