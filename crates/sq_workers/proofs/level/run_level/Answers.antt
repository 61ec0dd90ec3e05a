use Rattle.std.proofs.Common.{rules, ◌≡◌, All, length, drop, sym, ap, ◌∙◌, subst, arith}
use Rattle.std.proofs.lemmas.List.{length-replicate}
use Rattle.sq_base.specs.Counters.{Counter}
use Rattle.sq_workers.specs.declared.worker.Worker.{Worker}
use Rattle.sq_workers.specs.Work.{HasWorked}
use Rattle.sq_workers.proofs.Costs.{turns_cost}
use Rattle.sq_workers.proofs.Yields.{take_whole, if_ok, yields_claimed, yields_count, yields_answers}
use Rattle.sq_workers.proofs.level.run_level.Goals as goal

pub release-requires-clause-each : goal.release-requires-clause-each
release-requires-clause-each g c κs within =
    let P : Worker _ _ → Type 0 = λ w. HasWorked (g.J.Job.answers c.args.job.now) (g.J.Job.cost c.args.job.now) c.in_ok-board.board w w.ended in
    subst (All P) (sym (take_whole c.hire.new.crew.len c.work_all.new.crew (drop (length c.work_all.new.crew) c.hire.new.crew.items) (search rules))) c.work_all.ensures

pub placed-requires-clause-claimed : goal.placed-requires-clause-claimed
placed-requires-clause-claimed g c κs within =
    let whole = take_whole c.hire.new.crew.len c.work_all.new.crew (drop (length c.work_all.new.crew) c.hire.new.crew.items) (search rules) in
    let same : length c.work_all.new.crew ≡ length c.hire.new.crew.items = search rules in
    let count = c.release.ensures.count ∙ (ap length whole ∙ (same ∙ (c.hire.ensures.count ∙ (ap length c.in_ok-board.ensures.each ∙ length-replicate _ _)))) in
    let workers = c.requires.workers.0 in
    yields_claimed (g.J.Job.answers c.args.job.now) c.release.new.passes.items c.release.new.yields.items c.close.result (g.J.Job.tasks c.args.job.now)
    c.release.ensures.yields (omega (arith, count, workers)) c.close.ensures.claimed (λ late. c.close.ensures.ended late ∙ (search rules))

pub placed-requires-clause-answers : goal.placed-requires-clause-answers
placed-requires-clause-answers g c κs within =
    yields_answers (g.J.Job.answers c.args.job.now) c.release.new.passes.items c.release.new.yields.items c.release.ensures.yields

pub returns-clause-workers : goal.returns-clause-workers
returns-clause-workers g c =
    let whole = take_whole c.hire.new.crew.len c.work_all.new.crew (drop (length c.work_all.new.crew) c.hire.new.crew.items) (search rules) in
    let same : length c.work_all.new.crew ≡ length c.hire.new.crew.items = search rules in
    let count = c.release.ensures.count ∙ (ap length whole ∙ (same ∙ (c.hire.ensures.count ∙ (ap length c.in_ok-board.ensures.each ∙ length-replicate _ _)))) in
    let ys = yields_count (g.J.Job.answers c.args.job.now) c.release.new.passes.items c.release.new.yields.items c.release.ensures.yields in
    if_ok c.placed.result (λ l. length l.claims.items ≡ length c.release.new.yields.items) (λ l. length l.claims.items ≡ c.args.workers)
    (λ l is. is ∙ (ys ∙ count)) c.placed.ensures.count

pub returns-clause-cost : goal.returns-clause-cost
returns-clause-cost g c =
    let tasks : c.in_ok-board.board.tasks ≡ g.J.Job.tasks c.args.job.now = search rules in
    let most = c.close.ensures.most in
    let before = ap (λ (s : Counter _). s.count) c.hire.ensures.steps in
    let cost = c.release.ensures.cost in
    turns_cost (g.J.Job.cost c.args.job.now) c.release.new.passes.items c.close.result (g.J.Job.tasks c.args.job.now) c.args.steps.now.count c.release.new.steps.count
    c.close.ensures.claimed (omega (arith, most, tasks)) (omega (arith, before, cost))
