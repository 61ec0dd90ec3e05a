use Rattle.std.proofs.Common.{ap}
use Rattle.std.proofs.lemmas.Result.{err_from_is_err_and}
use Rattle.sq_claims.specs.Claims.{Turn}
use Rattle.sq_workers.proofs.Turns.{nearer, turned_on, turned_off}
use Rattle.sq_workers.proofs.worker.run_claims.Goals as goal

pub returns-in_err-push : goal.returns-in_err-push
returns-in_err-push g c =
    let p = err_from_is_err_and c.from_residual.result c.from_residual.ensures.1 in
    turned_off _ _ _ c.loop-task.worker _ c.in-Some.task _ p.0 record { work = c.loop-task.invariant; claimed = c.in-Some.ensures.some.2; spent = c.run-answer.ensures.cost; ledger = c.run-answer.ensures.ledger } p.1

pub loop-task-smaller : goal.loop-task-smaller
loop-task-smaller g c =
    let s = c.in-Some.ensures.some in nearer c.args.board.now.tasks c.in-Some.task c.loop-task.worker.pass.claims _ c.in-Some.ensures.higher s.0 (ap (λ (t : Turn). t.claims) s.2)

pub loop-task-preserved : goal.loop-task-preserved
loop-task-preserved g c =
    turned_on _ _ _ c.loop-task.worker _ c.in-Some.task c.run-answer.result record { work = c.loop-task.invariant; claimed = c.in-Some.ensures.some.2; spent = c.run-answer.ensures.cost; ledger = c.run-answer.ensures.ledger }
    c.in_ok-push.ensures.items c.in_ok-push-2.ensures.items c.run-answer.ensures.answer

pub returns-in_err-push-2 : goal.returns-in_err-push-2
returns-in_err-push-2 g c =
    let p = err_from_is_err_and c.from_residual-in_err-push-2.result c.from_residual-in_err-push-2.ensures.1 in
    turned_off _ _ _ c.loop-task.worker _ c.in-Some.task _ p.0 record { work = c.loop-task.invariant; claimed = c.in-Some.ensures.some.2; spent = c.run-answer.ensures.cost; ledger = c.run-answer.ensures.ledger } p.1
