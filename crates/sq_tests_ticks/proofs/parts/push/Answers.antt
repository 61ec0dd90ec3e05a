use Rattle.std.proofs.Common.{subst, sym}
use Rattle.sq_circuit.specs.Begun.{IsBegun, IsNext}
use Rattle.sq_circuit.proofs.Making.{grown}
use Rattle.sq_tests_ticks.specs.Making.{part_of}
use Rattle.sq_tests_ticks.proofs.parts.push.Goals as goal

pub returns-clause-begun : goal.returns-clause-begun
returns-clause-begun c = subst (IsBegun 3 c.args.view) (sym c.in_ok-push.ensures.items) (grown 3 c.args.view c.args.parts.now.items (part_of c.args.node c.in_ok-kinds.kinds c.args.place c.args.view) c.requires.begun
    (subst (λ ks. IsNext 3 c.args.view c.args.parts.now.items (part_of c.args.node ks c.args.place c.args.view)) (sym c.in_ok-kinds.ensures) c.requires.next))
