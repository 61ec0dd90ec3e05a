use Rattle.std.proofs.Common.{◌≡◌, length, rules, subst}
use Rattle.sq_circuit.specs.Invariant.{IsGood}
use Rattle.sq_tests_ticks.specs.Ticks.{EachAt, IsPlusAt}
use Rattle.sq_tests_ticks.proofs.Settling.{later_step}
use Rattle.sq_tests_ticks.proofs.changes.later_step.Goals as goal

pub returns : goal.returns
returns c =
    let many : length c.in_ok-changes.changes.items ≡ length c.args.old.now = search rules in
    later_step c.args.circuit.now c.args.old.now c.in_ok-changes.changes.items c.in_ok-tables.tables.items many
    (subst (λ ts. EachAt (IsPlusAt c.args.old.now ts) c.in_ok-tables.tables.items (length c.args.old.now)) c.deref.ensures.value c.in_ok-tables.ensures)
    (subst (IsGood c.args.circuit.now) c.deref-2.ensures.value (c.are_good.ensures c.if-not-are_good.false))
