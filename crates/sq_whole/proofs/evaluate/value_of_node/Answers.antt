-- The answer of a node, tested at its place, is what is known of the node.
use Rattle.std.proofs.Common.{ap, ◌∙◌}
use Rattle.sq_whole.specs.Answers.{rows_within}
use Rattle.sq_whole.proofs.Knowing.{known_is}
use Rattle.sq_whole.proofs.evaluate.value_of_node.Goals as goal

pub returns : goal.returns
returns c =
    c.within_place.ensures
    ∙ ap (λ b. rows_within b c.in_ok-answer.answer) c.place.ensures.place
    ∙ known_is c.args.circuit.now c.place.ensures.sound c.args.tables.now c.requires.good c.args.i c.in_ok-answer.answer c.requires.inside c.in_ok-answer.ensures
