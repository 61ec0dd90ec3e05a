use Rattle.std.proofs.Common.{rules, ◌≡◌, ◌∙◌, sym, ap, Some, SFits, to_z, of_z, to_z-of_z, w64}
use mir.Syntax.{w128}
use Rattle.std.proofs.lemmas.Result.{err_from_is_err_and}
use Rattle.sq_zset.specs.Range.{is_in_range}
use Rattle.sq_zset.proofs.Collecting.{weighing_turn, weighing_stops}
use Rattle.sq_zset.proofs.collect.weights_of.Goals as goal

pub returns-in_err-weight-clause-outside : goal.returns-in_err-weight-clause-outside
returns-in_err-weight-clause-outside c sum e =
    let fits : SFits w128 c.in-Some.sum = search rules in
    let (fault, is, same) = err_from_is_err_and c.from_residual-in_err-weight.result c.from_residual-in_err-weight.ensures.1 in
    let named : sum ≡ to_z w128 (of_z w128 c.in-Some.sum) = cc (c.in_err-weight.ensures.fault, is, same, e) in
    weighing_stops c.args.sums.items c.loop-row.sums.items c.pop.new.self.items c.loop-row.list.items c.in-Some.row c.in-Some.sum c.loop-row.invariant c.in-Some.ensures.items
    (ap is_in_range (sym (to_z-of_z fits)) ∙ c.in_err-weight.ensures.outside)
    ∙ ap Some (sym (named ∙ to_z-of_z fits))

pub loop-row-preserved : goal.loop-row-preserved
loop-row-preserved c =
    let fits : SFits w128 c.in-Some.sum = search rules in
    let weight_fits : SFits w64 c.in_ok-weight.weight = search rules in
    weighing_turn c.args.sums.items c.loop-row.sums.items c.pop.new.self.items c.loop-row.list.items c.push.new.self.items c.in-Some.row c.in-Some.sum _ c.loop-row.invariant c.in-Some.ensures.items
    c.in_ok-push.ensures.items (to_z-of_z weight_fits ∙ c.in_ok-weight.ensures.ok ∙ to_z-of_z fits) (ap is_in_range (sym (to_z-of_z fits)) ∙ c.in_ok-weight.ensures.in_range)
