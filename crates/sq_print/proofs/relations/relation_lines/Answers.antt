use Rattle.std.proofs.Common.{ap, ◌∙◌, ◌++◌}
use Rattle.sq_print.specs.Catalogues.{relation_text}
use Rattle.sq_print.proofs.ViewLemmas.{text_more}
use Rattle.sq_print.proofs.relations.relation_lines.Goals as goal

pub loop-i-preserved : goal.loop-i-preserved
loop-i-preserved c =
    c.in_ok-push_relation.ensures
    ∙ ap (λ t. t ++ relation_text c.at.result.now) c.loop-i.invariant
    ∙ text_more relation_text c.args.catalog.now c.loop-i.i c.at.result.now c.at.ensures
