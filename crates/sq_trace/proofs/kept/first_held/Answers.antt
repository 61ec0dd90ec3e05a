use Rattle.std.specs.Prelude.{option_copied}
use Rattle.sq_algebra.specs.Groups.{integers}
use Rattle.sq_trace.specs.Runs.{content}
use Rattle.sq_trace.specs.Extremes.{weight_after}
use Rattle.sq_trace.specs.Ends.{left_of}
use Rattle.sq_trace.proofs.Firsts.{gone_start, gone_turn}
use Rattle.sq_trace.proofs.kept.first_held.Goals as goal

pub loop-row-init : goal.loop-row-init
loop-row-init c = gone_start c.args.side c.args.key.now (weight_after c.args.key.now c.args.parts.now c.args.change.now) (λ q. content integers (c.args.key.now, q) c.args.parts.now)

pub loop-row-preserved : goal.loop-row-preserved
loop-row-preserved c =
    gone_turn c.args.side c.args.key.now (weight_after c.args.key.now c.args.parts.now c.args.change.now) (λ q. content integers (c.args.key.now, q) c.args.parts.now) (option_copied c.loop-row.last) (left_of c.args.side c.args.key.now c.args.parts.now) c.in-Some.row.now
    c.loop-row.invariant c.in-Some.ensures (c.in_ok-is_kept.ensures.gone c.if-branch.false)
