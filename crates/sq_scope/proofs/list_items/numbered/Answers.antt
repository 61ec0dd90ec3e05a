use Rattle.std.proofs.Common.{rules, refl}
use Rattle.sq_scope.proofs.TypesStars.{pushed}
use Rattle.sq_scope.proofs.list_items.numbered.Goals as goal

pub loop-i-preserved : goal.loop-i-preserved
loop-i-preserved c = pushed c.args.begin c.args.columns.now c.loop-i.i c.index-columns-i.result c.loop-i.items.items c.push.new.self.items _ c.in_ok-push.ensures.items c.loop-i.invariant refl (search rules) c.index-columns-i.is
