use Rattle.std.proofs.Common.{rules}
use Rattle.sq_scope.specs.TypesLeaves.{cond_leaves}
use Rattle.sq_scope.proofs.TypesCalls.{with_more}
use Rattle.sq_scope.proofs.calls.+cond_calls.Goals as goal

pub push_all_calls-loop-cond-preserved : goal.push_all_calls-loop-cond-preserved
push_all_calls-loop-cond-preserved t c = with_more c.args.row.now cond_leaves c.args.conds.now c.loop-cond.cond-index c.cond-item.result c.args.calls.now c.loop-cond.calls c.push_cond_calls.new.calls (search rules) c.loop-cond.invariant (search rules) c.cond-item.is
