use Rattle.std.proofs.Common.{◌≡◌, ◌++◌, map, length}
use Rattle.sq_workers.proofs.Slots.{IsSettled}
use Rattle.sq_workers.proofs.placed.placed.Given as goal

abbrev pub invariant-loop-one : goal.invariant-loop-one
invariant-loop-one g l = (l.yielded ++ l.one-iterator.rest.items ≡ l.fn.yields.items) × (length l.slots.items ≡ g.J.Job.tasks l.job)
    × (map (λ v. v.items) l.claims.items ≡ map (λ y. y.claims.items) l.yielded)
    × IsSettled (g.J.Job.answers l.job) l.slots.items (map (λ y. y.claims.items) l.yielded)
