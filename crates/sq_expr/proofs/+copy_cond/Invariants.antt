use Rattle.std.proofs.Common.{◌≡◌, take}
use Rattle.sq_expr.proofs.+copy_cond.Given as goal

-- the conditions so far are copied
abbrev pub invariant-copy::clone_conds-loop-cond : goal.invariant-copy::clone_conds-loop-cond
invariant-copy::clone_conds-loop-cond l = l.copies ≡ take l.cond-index l.cond-items
