use Rattle.std.proofs.Common.{◌≡◌, ◌++◌}
use Rattle.std.specs.Vec.Iter.{into_iter_items}
use Rattle.sq_ticks.specs.Over.{first_bad, updates_in_front}
use Rattle.sq_ticks.proofs.tick.updates_in_front.Given as goal

-- the updates so far and those to come are all, and the first bad line is to come
abbrev pub invariant-loop-line : goal.invariant-loop-line
invariant-loop-line l = (l.updates.items ++ updates_in_front (into_iter_items l.line-iterator) ≡ updates_in_front l.fn.lines.items)
    × (first_bad (into_iter_items l.line-iterator) ≡ first_bad l.fn.lines.items)
