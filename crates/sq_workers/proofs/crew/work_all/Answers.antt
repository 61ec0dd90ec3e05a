use Rattle.std.proofs.Common.{rules, sym, subst}
use denote.Exit.{no}
use denote.Param.{param, layout}
use denote.Param.Send.{param_send, param_sync, arg_send, arg_sync}
use Rattle.sq_workers.specs.Work.{IsAtWork, HasWorked}
use Rattle.sq_workers.specs.declared.worker.Worker.{Worker}
use Rattle.sq_workers.proofs.crew.work_all.Goals as goal

pub for_each_mut-requires-clause-accepts : goal.for_each_mut-requires-clause-accepts
for_each_mut-requires-clause-accepts g c κs within = let b = c.type_bounds in λ i p lt is. ((c.requires.tasks, subst (IsAtWork (g.J.Job.answers c.args.job.now) (g.J.Job.cost c.args.job.now) c.args.board.now) (sym is) (c.requires.each i p.now lt)), (param_send _ _ (arg_send (layout g.row.L) no (param 1 g.row.L) b.send-L), param_send _ _ (arg_send (layout g.row.J-Piece) no (param 4 g.row.J-Piece) b.send-J-Piece), param_send _ _ (arg_send (layout g.row.J-Fault) no (param 5 g.row.J-Fault) b.send-J-Fault), param_sync _ _ (arg_sync (layout g.row.J) no (param 2 g.row.J) b.sync-J), param_sync _ _ (arg_sync (layout g.row.G) no (param 3 g.row.G) b.sync-G)))

pub returns : goal.returns
returns g c = λ k d lt. let ch = (c.for_each_mut.ensures k d (search rules)).1 in
    subst (λ (w : Worker _ _). HasWorked (g.J.Job.answers c.args.job.now) (g.J.Job.cost c.args.job.now) c.args.board.now w w.ended) ch.left ch.call
