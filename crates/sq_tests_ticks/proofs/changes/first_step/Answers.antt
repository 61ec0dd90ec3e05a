use Rattle.std.proofs.Common.{length, subst}
use Rattle.sq_circuit.specs.Invariant.{IsGood}
use Rattle.sq_tests_ticks.specs.Ticks.{EachAt, IsCopyAt}
use Rattle.sq_tests_ticks.proofs.Settling.{first_step}
use Rattle.sq_tests_ticks.proofs.changes.first_step.Goals as goal

pub returns : goal.returns
returns c old =
    first_step c.args.circuit.now old c.args.changes.items c.in_ok-tables.tables.items (subst (λ ts. EachAt (IsCopyAt ts) c.in_ok-tables.tables.items (length ts)) c.deref.ensures.value c.in_ok-tables.ensures)
    (subst (IsGood c.args.circuit.now) c.deref-2.ensures.value (c.are_good.ensures c.if-not-are_good.false))
