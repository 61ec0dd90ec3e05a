use Rattle.std.proofs.Common.{◌≡◌, map, take}
use Rattle.sq_typed.specs.Numbered.{row_cond}
use Rattle.sq_scope.proofs.numbered.+row_cond.Given as goal

-- the conditions so far are typed
abbrev pub invariant-row_conds-loop-cond : goal.invariant-row_conds-loop-cond
invariant-row_conds-loop-cond l = l.typed ≡ map (row_cond l.row) (take l.cond-index l.conds)
