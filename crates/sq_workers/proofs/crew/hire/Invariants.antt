use Rattle.std.proofs.Common.{◌≡◌, ◌≤◌, ◌+◌, All, vec_len, vec_capacity}
use Rattle.sq_claims.specs.Claims.{fresh}
use Rattle.sq_workers.specs.Work.{IsHired}
use Rattle.sq_workers.proofs.crew.hire.Given as goal

abbrev pub invariant-loop-pass : goal.invariant-loop-pass
invariant-loop-pass g l = (l.steps ≡ l.initial.steps) × (vec_len l.crew + vec_len l.passes ≡ vec_len l.initial.passes) × All (IsHired l.board) l.crew.items
    × All (λ t. t ≡ fresh l.board) l.passes.items × (vec_len l.initial.passes ≤ vec_capacity l.crew)

abbrev pub decreases-loop-pass : goal.decreases-loop-pass
decreases-loop-pass g l = goal.left-loop-pass g l
