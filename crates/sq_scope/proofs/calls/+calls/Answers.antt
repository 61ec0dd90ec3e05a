use Rattle.std.proofs.Common.{rules}
use Rattle.sq_typed.specs.Leaves.{leaves}
use Rattle.sq_scope.proofs.TypesCalls.{with_more}
use Rattle.sq_scope.proofs.calls.+calls.Goals as goal

pub push_term_calls-loop-term-preserved : goal.push_term_calls-loop-term-preserved
push_term_calls-loop-term-preserved t c = with_more c.args.row.now (λ t. leaves t.expr) c.args.terms.now c.loop-term.term-index c.term-item.result c.args.calls.now c.loop-term.calls c.push_calls.new.calls (search rules) c.loop-term.invariant (search rules) c.term-item.is

pub push_factor_calls-loop-factor-preserved : goal.push_factor_calls-loop-factor-preserved
push_factor_calls-loop-factor-preserved t c = with_more c.args.row.now leaves c.args.factors.now c.loop-factor.factor-index c.factor-item.result c.args.calls.now c.loop-factor.calls c.push_calls.new.calls (search rules) c.loop-factor.invariant (search rules) c.factor-item.is
