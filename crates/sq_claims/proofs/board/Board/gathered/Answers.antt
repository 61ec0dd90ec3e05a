use Rattle.std.proofs.Common.{◌≡◌, List, ◌++◌, All, Option, option_to_list, ap, ◌∙◌, subst, arith}
use Rattle.sq_claims.specs.Claims.{Turn}
use Rattle.sq_claims.proofs.Gatherings.{all_mid, gathers_more}
use Rattle.sq_claims.proofs.board.Board.gathered.Goals as goal

pub join-requires-clause-share : goal.join-requires-clause-share
join-requires-clause-share c =
    let share = c.loop-pass.invariant.holds.seat.share_is in
    let some = c.loop-pass.invariant.some in omega (arith, share, some)

pub join-requires-clause-pass : goal.join-requires-clause-pass
join-requires-clause-pass c =
    let left = c.pop-in-loop-pass.ensures.items ∙ ap (λ (r : Option Turn). c.pop-in-loop-pass.new.self.items ++ option_to_list r) c.in-Some-pop.is in
    let all = c.loop-pass.invariant.all_is ∙ ap (λ (l : List Turn). l ++ c.loop-pass.invariant.taken) left in
    all_mid (λ (t : Turn). t.board ≡ c.args.self.now) _ _ _ (subst (All (λ (t : Turn). t.board ≡ c.args.self.now)) all c.requires.board)

pub loop-pass-preserved : goal.loop-pass-preserved
loop-pass-preserved c =
    let left = c.pop-in-loop-pass.ensures.items ∙ ap (λ (r : Option Turn). c.pop-in-loop-pass.new.self.items ++ option_to_list r) c.in-Some-pop.is in
    let j = c.join.ensures in gathers_more _ _ _ _ _ _ _ _ _ c.loop-pass.invariant left j.ascends j.seat j.both
