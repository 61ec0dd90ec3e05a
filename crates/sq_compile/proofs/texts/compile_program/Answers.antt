use Rattle.std.proofs.Common.{subst}
use Rattle.sq_typed.specs.Checked as typed
use Rattle.sq_compile.proofs.Judging.{few_nodes}
use Rattle.sq_compile.proofs.texts.compile_program.Goals as goal

pub returns-in-None-clause-circuit : goal.returns-in-None-clause-circuit
returns-in-None-clause-circuit c = record {
  plan = c.in_ok-circuit.ensures;
  nodes = few_nodes c.args.program c.in_ok-circuit.circuit (subst typed.IsChecked c.program.view_is c.program.invariant) c.in_ok-circuit.ensures c.requires.few;
}
