-- The tables have no rows.
use Rattle.std.proofs.Common.{sym, ap, subst, ◌∙◌}
use Rattle.sq_engine.specs.Engines.{State, begun}
use Rattle.sq_engine.proofs.Counting.{on_ok}
use Rattle.sq_tests_engine.specs.Totals.{IsReady}
use Rattle.sq_tests_engine.proofs.Ready.{ready_begun}
use Rattle.sq_tests_engine.proofs.bench.start.Goals as goal

pub start-result-requires : goal.start-result-requires
start-result-requires c = ap (λ (s : State). s.started) c.requires.is

pub returns : goal.returns
returns c = on_ok c.start-result.result _ _ (λ e. subst (IsReady 0) (sym (e ∙ ap begun c.requires.is)) (ready_begun c.requires.shards)) c.start-result.ensures.engine
