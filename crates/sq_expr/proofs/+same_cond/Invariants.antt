use Rattle.std.proofs.Common.{◌≡◌, take}
use Rattle.sq_expr.proofs.+same_cond.Given as goal

-- the conditions so far are the same
abbrev pub invariant-same::same_conds-loop-i : goal.invariant-same::same_conds-loop-i
invariant-same::same_conds-loop-i l = take l.i l.conds ≡ take l.i l.others
