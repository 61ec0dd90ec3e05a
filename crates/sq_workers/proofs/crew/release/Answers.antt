use Rattle.std.proofs.Common.{rules, ◌≡◌, ◌+◌, ◌≤◌, [], ◌∷◌, ◌++◌, All, List, Option, option_to_list, sym, ap, ◌∙◌, subst}
use Rattle.std.specs.List.{AllZip}
use Rattle.sq_claims.specs.Claims.{Turn, total}
use Rattle.sq_workers.specs.declared.worker.Worker.{Worker}
use Rattle.sq_workers.specs.Work.{HasWorked, IsYield}
use Rattle.sq_workers.proofs.Crews.{all_front, all_last, all_more, steps_more}
use Rattle.sq_workers.proofs.Sums.{zip_more}
use Rattle.sq_workers.proofs.crew.release.Goals as goal

pub loop-worker-preserved : goal.loop-worker-preserved
loop-worker-preserved g c =
    let i = c.loop-worker.invariant in
    let P : Worker _ _ → Type 0 = λ w. HasWorked (g.J.Job.answers c.args.job.now) (g.J.Job.cost c.args.job.now) c.args.board.now w w.ended in
    let left = c.pop.ensures.items ∙ ap (λ (r : Option (Worker _ _)). c.pop.new.self.items ++ option_to_list r) c.in-Some.is in
    let all = subst (All P) left i.6 in
    let w = all_last P c.pop.new.self.items c.in-Some.worker all in
    let ps = c.push_within.ensures.items in
    let ys = c.push_within-in-Some.ensures.items in (
      search rules,
      search rules,
      search rules,
      search rules,
      subst (All (λ (t : Turn). t.board ≡ c.args.board.now)) (sym {A = List Turn} ps) (all_more (λ (t : Turn). t.board ≡ c.args.board.now) _ _ i.4 w.board_is),
      subst (λ l. AllZip (IsYield (g.J.Job.answers c.args.job.now)) l c.push_within-in-Some.new.all.items) (sym {A = List Turn} ps)
          (subst (AllZip (IsYield (g.J.Job.answers c.args.job.now)) (c.loop-worker.passes.items ++ c.in-Some.worker.pass ∷ [])) (sym ys) (zip_more (IsYield (g.J.Job.answers c.args.job.now)) _ _ _ _ i.5 w.leaves)),
      all_front P c.pop.new.self.items (c.in-Some.worker ∷ []) all,
      subst (λ l. c.merge.new.self.count ≤ c.args.steps.now.count + total (λ t. total (g.J.Job.cost c.args.job.now) t.claims) l) (sym {A = List Turn} ps)
          (steps_more (g.J.Job.cost c.args.job.now) c.loop-worker.passes.items c.in-Some.worker.pass c.args.steps.now.count c.loop-worker.steps.count c.in-Some.worker.steps.count _ i.7 w.bound c.merge.ensures.count),
      c.merge.ensures.ledger ∙ i.8,
    )
