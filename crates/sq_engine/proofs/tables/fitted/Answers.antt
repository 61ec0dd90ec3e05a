use Rattle.std.proofs.Common.{◌∙◌, arith}
use Rattle.sq_engine.proofs.Fitted.{fitted_end, fitted_start, fitted_turn}
use Rattle.sq_engine.proofs.tables.fitted.Goals as goal

pub loop-alloc-init : goal.loop-alloc-init
loop-alloc-init c = fitted_start c.args.changes.items c.args.tables c.truncate.new.self.items c.truncate.ensures.items

pub loop-alloc-preserved : goal.loop-alloc-preserved
loop-alloc-preserved c =
    let low = c.loop-alloc-test.true in
    let long = c.len.ensures ∙ c.loop-alloc.fitted.ok.0 in
    fitted_turn c.args.changes.items c.args.tables c.loop-alloc.fitted.items c.push.new.self.items _ c.loop-alloc.invariant (omega (arith, low, long)) c.empty.ensures c.in_ok-push.ensures.items

pub returns : goal.returns
returns c =
    let high = c.loop-alloc-test.false in
    let long = c.len.ensures ∙ c.loop-alloc.fitted.ok.0 in
    fitted_end c.args.changes.items c.args.tables c.loop-alloc.fitted.items c.loop-alloc.invariant (omega (arith, high, long))
