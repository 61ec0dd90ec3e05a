use Rattle.std.proofs.Common.{◌≡◌, ◌≤◌, length, take, vec_len}
use Rattle.sq_workers.specs.Work.{filled}
use Rattle.sq_workers.proofs.placed.fill.Given as goal

abbrev pub invariant-loop-answer : goal.invariant-loop-answer
invariant-loop-answer g l = (length l.slots ≡ length l.initial.slots) × (vec_len l.answers ≤ length l.numbers)
    × (filled l.slots (take (vec_len l.answers) l.numbers) l.answers.items ≡ filled l.initial.slots l.numbers l.initial.answers.items)

abbrev pub decreases-loop-answer : goal.decreases-loop-answer
decreases-loop-answer g l = goal.left-loop-answer g l
