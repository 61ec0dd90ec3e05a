use Rattle.std.proofs.Common.{◌≡◌, ◌≤◌, ◌+◌, All, vec_len, vec_capacity}
use Rattle.std.specs.List.{AllZip}
use Rattle.sq_claims.specs.Claims.{total}
use Rattle.sq_workers.specs.Work.{HasWorked, IsYield}
use Rattle.sq_workers.proofs.crew.release.Given as goal

abbrev pub invariant-loop-worker : goal.invariant-loop-worker
invariant-loop-worker g l = (vec_len l.passes + vec_len l.crew ≡ vec_len l.initial.crew) × (vec_len l.yields ≡ vec_len l.passes)
    × (vec_len l.initial.crew ≤ vec_capacity l.passes) × (vec_len l.initial.crew ≤ vec_capacity l.yields)
    × All (λ t. t.board ≡ l.board) l.passes.items × AllZip (IsYield (g.J.Job.answers l.job)) l.passes.items l.yields.items
    × All (λ w. HasWorked (g.J.Job.answers l.job) (g.J.Job.cost l.job) l.board w w.ended) l.crew.items
    × (l.steps.count ≤ l.initial.steps.count + total (λ t. total (g.J.Job.cost l.job) t.claims) l.passes.items) × (l.steps.ledger ≡ l.initial.steps.ledger)

abbrev pub decreases-loop-worker : goal.decreases-loop-worker
decreases-loop-worker g l = goal.left-loop-worker g l
