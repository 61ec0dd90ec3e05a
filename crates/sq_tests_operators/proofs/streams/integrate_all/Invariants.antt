use Rattle.std.proofs.Common.{◌≡◌, ◌++◌, drop}
use Rattle.sq_algebra.specs.Groups.{z_sets}
use Rattle.sq_algebra.specs.ZSet.{zero}
use Rattle.sq_stream.specs.Steps.{run, integrator_step}
use Rattle.sq_value.specs.Order.{row_cmp}
use Rattle.sq_tests_operators.proofs.streams.integrate_all.Given as goal

-- the answers so far, and those to what is left, are those to all
abbrev pub invariant-loop-change : goal.invariant-loop-change
invariant-loop-change l = l.answers.items ++ run (integrator_step (z_sets row_cmp)) l.integrator (drop l.change-index l.changes) ≡ run (integrator_step (z_sets row_cmp)) (zero row_cmp) l.changes
