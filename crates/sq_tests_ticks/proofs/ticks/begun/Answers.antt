use Rattle.std.proofs.Common.{pos, replicate, ap, ◌∙◌}
use Rattle.sq_tests_ticks.proofs.Settling.{live_begun}
use Rattle.sq_tests_ticks.proofs.ticks.begun.Goals as goal

pub returns : goal.returns
returns c =
    live_begun c.args.circuit.now c.args.shards c.in_ok-states.states.items c.in_ok-totals.totals.items c.args.tables.items c.requires.shards c.requires.good c.in_ok-states.ensures
    (c.in_ok-totals.ensures ∙ ap (λ k. replicate k (pos 0)) c.len.ensures.len)
