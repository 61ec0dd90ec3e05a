-- Who is to blame.
use Rattle.sq_circuit.proofs.Lawfully.{blamed, by_soundness, clear, clear_from, not_above}
use Rattle.sq_circuit.proofs.laws.verdicts_are_least_owners.Goals as goal

pub returns-clause-found : goal.returns-clause-found
returns-clause-found a = blamed

pub returns-clause-least : goal.returns-clause-least
returns-clause-least a = not_above

pub returns-clause-none : goal.returns-clause-none
returns-clause-none a = clear

pub returns-clause-clear : goal.returns-clause-clear
returns-clause-clear a = clear_from

pub returns-clause-unsound : goal.returns-clause-unsound
returns-clause-unsound a = by_soundness
