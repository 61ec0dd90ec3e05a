use Rattle.std.proofs.Common.{refl, ap, Some, ◌∙◌}
use Rattle.sq_incr.specs.declared.store.Slot.TheVariants.{Open, Skipped, Broken}
use Rattle.sq_incr.proofs.Answering.{line_got, not_run}
use Rattle.sq_incr.proofs.pieces.Pieces.at.Goals as goal

pub unreachable-requires : goal.unreachable-requires
unreachable-requires c = not_run c.self.inside.lines.items c.args.self.now c.self.view_is c.self.invariant c.args.task.node c.args.task.shard c.index.result.now c.at.result.now (line_got c.self.inside.lines.items c.args.self.now c.self.view_is c.args.task.node c.requires.node c.index.result.now c.index.ensures) c.at.ensures Open c.in-Open.is refl

pub unreachable-requires-in-Skipped : goal.unreachable-requires-in-Skipped
unreachable-requires-in-Skipped c = not_run c.self.inside.lines.items c.args.self.now c.self.view_is c.self.invariant c.args.task.node c.args.task.shard c.index.result.now c.at.result.now (line_got c.self.inside.lines.items c.args.self.now c.self.view_is c.args.task.node c.requires.node c.index.result.now c.index.ensures) c.at.ensures Skipped c.in-Skipped.is refl

pub unreachable-requires-in-Broken : goal.unreachable-requires-in-Broken
unreachable-requires-in-Broken c = not_run c.self.inside.lines.items c.args.self.now c.self.view_is c.self.invariant c.args.task.node c.args.task.shard c.index.result.now c.at.result.now (line_got c.self.inside.lines.items c.args.self.now c.self.view_is c.args.task.node c.requires.node c.index.result.now c.index.ensures) c.at.ensures Broken c.in-Broken.is refl

pub returns : goal.returns
returns c = record { line = c.index.result.now; at = (line_got c.self.inside.lines.items c.args.self.now c.self.view_is c.args.task.node c.requires.node c.index.result.now c.index.ensures); is = c.at.ensures ∙ ap Some c.in-Ran.is }
