use Rattle.std.proofs.Common.{rules, sym, subst, ◌∙◌, to_z-of_z, ap, SFits}
use Rattle.std.specs.Int.{w128}
use Rattle.sq_incr.specs.Inputs.{IsSmall, fitting}
use Rattle.sq_incr.proofs.Noting.{got_at}
use Rattle.sq_incr.proofs.Summing.{change_answered}
use Rattle.sq_incr.proofs.inputs.change_of.Goals as goal

pub unless_full-requires : goal.unless_full-requires
unless_full-requires c place =
    let fits : SFits w128 c.total_at.result = search rules in
    subst IsSmall (sym (to_z-of_z fits)) (c.requires.small c.args.node c.total_at.result c.total_at.ensures (sym c.place.ensures.place ∙ place))

pub returns : goal.returns
returns c changes states first r front noted done =
    let fits : SFits w128 c.total_at.result = search rules in
    change_answered c.place.ensures.sound r front c.args.lines.now noted c.args.node c.index-lines-node.result
    (got_at c.args.lines.now c.args.node c.index-lines-node.result c.requires.lines c.index-lines-node.is) done
    c.total_at.result c.total_at.ensures c.place.result c.place.ensures.place c.in_ok-sum.sum c.in_ok-sum.ensures c.unless_full.result
    (c.unless_full.ensures ∙ ap (λ t. fitting c.place.result t c.in_ok-sum.sum) (to_z-of_z fits))
