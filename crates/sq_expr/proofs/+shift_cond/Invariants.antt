use Rattle.std.proofs.Common.{◌≡◌, take, map}
use Rattle.sq_expr.specs.Shifted.{shifted_cond}
use Rattle.sq_expr.proofs.+shift_cond.Given as goal

-- the conditions so far are shifted
abbrev pub invariant-shift::shifted_conds-loop-cond : goal.invariant-shift::shifted_conds-loop-cond
invariant-shift::shifted_conds-loop-cond l = l.found ≡ map (shifted_cond l.by) (take l.cond-index l.cond-items)
