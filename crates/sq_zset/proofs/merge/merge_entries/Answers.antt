use Rattle.std.proofs.Common.{rules, ◌≡◌, ◌∙◌, ◌++◌, [], sym, ap, Some, Err, SFits, to_z, of_z, to_z-of_z}
use mir.Syntax.{w128}
use Rattle.std.proofs.lemmas.Result.{err_from_is_err_and}
use Rattle.sq_zset.specs.declared.pair.ZFault.TheVariants.{Weight}
use Rattle.sq_algebra.specs.ZSet.{in_front}
use Rattle.sq_zset.specs.Range.{is_in_range}
use Rattle.sq_zset.proofs.Merging.{merging_turn, merging_stops}
use Rattle.sq_zset.proofs.merge.merge_entries.Goals as goal

pub returns-in_err-push_weight-clause-outside : goal.returns-in_err-push_weight-clause-outside
returns-in_err-push_weight-clause-outside c sum e =
    let (fault, is, same) = err_from_is_err_and c.from_residual.result c.from_residual.ensures.1 in
    let pushed : c.push_weight.result ≡ Err (Weight sum) = cc (c.in_err-push_weight.was, is, same, e) in
    let fits : SFits w128 c.in-Some.next.weight = search rules in
    let back : to_z w128 (of_z w128 c.in-Some.next.weight) ≡ c.in-Some.next.weight = to_z-of_z fits in
    merging_stops c.args.sign c.args.left.now c.args.right.now c.loop-next.left.now c.loop-next.right.now c.loop-next.list.items c.in-Some.next.row.now c.in-Some.next.weight c.in-Some.next.from_left c.in-Some.next.from_right
    c.loop-next.invariant c.in-Some.ensures (ap is_in_range (sym back) ∙ c.push_weight.ensures.outside sum pushed)
    ∙ ap Some (sym (c.push_weight.ensures.fault sum pushed ∙ back))

pub loop-next-preserved : goal.loop-next-preserved
loop-next-preserved c =
    let fits : SFits w128 c.in-Some.next.weight = search rules in
    let back : to_z w128 (of_z w128 c.in-Some.next.weight) ≡ c.in-Some.next.weight = to_z-of_z fits in
    merging_turn c.args.sign c.args.left.now c.args.right.now c.loop-next.left.now c.loop-next.right.now c.loop-next.list.items _ c.in-Some.next.row.now c.in-Some.next.weight c.in-Some.next.from_left c.in-Some.next.from_right
    c.loop-next.invariant c.in-Some.ensures (ap is_in_range (sym back) ∙ c.in_ok-push_weight.ensures.in_range)
    (c.in_ok-push_weight.ensures.ok ∙ ap (λ w. c.loop-next.list.items ++ in_front c.in-Some.next.row.now w []) back)
