use Rattle.std.proofs.Common.{◌≡◌, map, take}
use Rattle.sq_scope.specs.TypesGroups.{over_group_cond}
use Rattle.sq_scope.proofs.grouped.+group_cond.Given as goal

-- the conditions so far are typed
abbrev pub invariant-group_conds-loop-cond : goal.invariant-group_conds-loop-cond
invariant-group_conds-loop-cond l = l.typed ≡ map (over_group_cond l.row l.groups.keys.numbers l.groups.calls) (take l.cond-index l.conds)
