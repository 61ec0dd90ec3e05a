use Rattle.std.proofs.Common.{ap, ◌∙◌, ◌++◌, append_assoc, take}
use Rattle.std.specs.List.{flat_map}
use Rattle.sq_algebra.specs.ZSet.{entries}
use Rattle.sq_zset.proofs.Entries.{kept}
use Rattle.sq_print.specs.Texts.{rise_text}
use Rattle.sq_print.proofs.ViewLemmas.{text_more}
use Rattle.sq_print.proofs.blocks.push_changes.Goals as goal

pub loop-i-preserved : goal.loop-i-preserved
loop-i-preserved c =
    c.in_ok-push_rise.ensures
    ∙ ap (λ w. c.loop-i.out.items ++ rise_text c.args.view.now c.at-weight.result.0.now w) (kept c.at-weight.result.1 c.at-weight.ensures.in_range)
    ∙ ap (λ t. t ++ rise_text c.args.view.now c.at-weight.result.0.now c.at-weight.result.1) c.loop-i.invariant
    ∙ append_assoc c.args.out.now.items (flat_map (λ e. rise_text c.args.view.now e.0 e.1) (take c.loop-i.i (entries c.args.change.now))) (rise_text c.args.view.now c.at-weight.result.0.now c.at-weight.result.1)
    ∙ ap (λ t. c.args.out.now.items ++ t) (text_more (λ e. rise_text c.args.view.now e.0 e.1) (entries c.args.change.now) c.loop-i.i (c.at-weight.result.0.now, c.at-weight.result.1) c.at-weight.ensures.entry)
