use Rattle.std.proofs.Common.{◌==◌, arith}
use Rattle.std.proofs.lemmas.Grind.{common_steps}
use Rattle.sq_scope.proofs.TypesLists.{position_push}
use Rattle.sq_scope.proofs.keys.Keys.of.Goals as goal

pub loop-r-preserved : goal.loop-r-preserved
loop-r-preserved c = record {
  numbered = grind (arith, common_steps);
  placed = λ q. let before = c.loop-r.invariant.placed q in let now = c.in_ok-keep_first.ensures q in let push = position_push (λ k. k == q) c.loop-r.numbers c.number_of-number.result in cc (before, now, push, c.in_ok-push.ensures.ok, c.len-place.ensures);
}
