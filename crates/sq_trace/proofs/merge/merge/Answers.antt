use Rattle.std.proofs.Common.{rules, ◌≡◌, Err}
use Rattle.std.proofs.lemmas.Result.{err_from_is_err_and}
use Rattle.std.specs.Option.{option_to_list}
use Rattle.sq_zset.specs.declared.pair.ZFault.TheVariants.{Weight}
use Rattle.sq_trace.specs.Inside.{BeginsWith}
use Rattle.sq_trace.proofs.Merging.{merging_turn, merging_stops}
use Rattle.sq_trace.proofs.merge.merge.Goals as goal

pub returns-in_err-turn-clause-outside : goal.returns-in_err-turn-clause-outside
returns-in_err-turn-clause-outside g c number e =
    let (fault, is, same) = err_from_is_err_and c.from_residual-in_err-turn.result c.from_residual-in_err-turn.ensures.1 in
    let was : c.next_turn.result ≡ Err (Weight number) = cc (c.in_err-turn.was, is, same, e) in
    merging_stops g.P.Group.addition g.met.P.Group.laws g.P.Group.first_outside c.args.left.now c.args.right.now c.loop-list.left.now c.loop-list.right.now c.loop-list.list.items number c.loop-list.invariant (c.next_turn.ensures.outside number was)

pub loop-list-preserved : goal.loop-list-preserved
loop-list-preserved g c =
    let begun : BeginsWith g.P.Group.addition g.P.Group.first_outside c.loop-list.left.now c.loop-list.right.now (option_to_list c.in-Some.turn.made) c.in-Some.turn.from_left c.in-Some.turn.from_right = search rules in
    merging_turn g.P.Group.addition g.met.P.Group.laws g.P.Group.first_outside c.args.left.now c.args.right.now c.loop-list.left.now c.loop-list.right.now c.loop-list.list.items (option_to_list c.in-Some.turn.made) _ c.in-Some.turn.from_left c.in-Some.turn.from_right
    c.loop-list.invariant begun c.in_ok-push_made.ensures
