use Rattle.std.proofs.Common.{ap, replicate, pos, ◌∙◌}
use Rattle.sq_engine.proofs.Keeping.{fresh_is, kept_fresh}
use Rattle.sq_engine.proofs.engine.Engine.new.Goals as goal

pub invariant_of-result : goal.invariant_of-result
invariant_of-result c =
    kept_fresh c.args.circuit c.in_ok-states.states.items c.in_ok-totals.totals.items c.args.workers c.requires.some c.requires.few c.requires.nodes
    c.in_ok-states.ensures (c.in_ok-totals.ensures ∙ ap (λ n. replicate n (pos 0)) c.len.ensures.len)

pub returns : goal.returns
returns c = fresh_is c.args.circuit c.in_ok-states.states.items c.args.workers c.in_ok-states.ensures
