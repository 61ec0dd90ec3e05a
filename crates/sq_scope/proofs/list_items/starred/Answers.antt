use Rattle.std.proofs.Common.{rules}
use Rattle.sq_scope.proofs.TypesStars.{appended}
use Rattle.sq_scope.proofs.list_items.starred.Goals as goal

pub loop-place-preserved : goal.loop-place-preserved
loop-place-preserved c = appended c.args.scope.now c.loop-place.place c.loop-place.items.items c.append.new.self.items c.in_ok-more.more.items (search rules) c.in_ok-append.ensures.items c.loop-place.invariant c.in_ok-more.ensures
