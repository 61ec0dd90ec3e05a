use Rattle.std.proofs.Common.{refl}
use Rattle.std.specs.Prelude.{option_copied}
use Rattle.sq_algebra.specs.Groups.{integers}
use Rattle.sq_trace.specs.Runs.{content}
use Rattle.sq_trace.specs.Extremes.{weight_after}
use Rattle.sq_trace.proofs.Firsts.{first_in_change, first_in_trace}
use Rattle.sq_trace.proofs.kept.first_of.Goals as goal

pub returns-then-branch-clause-first : goal.returns-then-branch-clause-first
returns-then-branch-clause-first c =
    first_in_change c.args.side (weight_after c.args.key.now c.args.parts.now c.args.change.now) (λ q. content integers (c.args.key.now, q) c.args.parts.now) c.args.change.now (λ q. refl) (option_copied c.in_ok-held.held) c.loop-row.tested c.in-Some.row.now c.in_ok-clone_row.field-0
    c.in_ok-held.ensures c.loop-row.invariant.1 c.in-Some.ensures.some (c.in_ok-is_kept.ensures.kept c.if-branch.true) c.in_ok-clone_row.ensures.equal

pub returns-clause-first : goal.returns-clause-first
returns-clause-first c =
    first_in_trace c.args.side (weight_after c.args.key.now c.args.parts.now c.args.change.now) (λ q. content integers (c.args.key.now, q) c.args.parts.now) c.args.change.now (λ q. refl) (option_copied c.in_ok-held.held) c.in_ok-copy_row.field-0 c.loop-row.tested
    c.in_ok-held.ensures c.loop-row.invariant.1 c.in_default.ensures.none c.in_ok-copy_row.ensures
