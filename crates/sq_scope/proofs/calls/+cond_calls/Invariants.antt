use Rattle.std.proofs.Common.{◌≡◌, take}
use Rattle.std.specs.List.{flat_map}
use Rattle.sq_scope.specs.TypesGroups.{with_calls}
use Rattle.sq_scope.specs.TypesLeaves.{cond_leaves}
use Rattle.sq_scope.proofs.calls.+cond_calls.Given as goal

-- the calls of the conditions so far are there
abbrev pub invariant-push_all_calls-loop-cond : goal.invariant-push_all_calls-loop-cond
invariant-push_all_calls-loop-cond l = l.calls ≡ with_calls l.row l.initial.calls (flat_map cond_leaves (take l.cond-index l.conds))
