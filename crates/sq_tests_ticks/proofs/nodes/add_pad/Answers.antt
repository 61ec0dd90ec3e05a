use Rattle.std.proofs.Common.{refl}
use Rattle.sq_circuit.specs.declared.node.LinearOp.TheVariants.{Pad}
use Rattle.sq_circuit.specs.declared.node.Node.TheVariants.{Linear}
use Rattle.sq_tests_ticks.proofs.Standing.{last_padded, pad_next}
use Rattle.sq_tests_ticks.proofs.nodes.add_pad.Goals as goal

pub push-requires-clause-next : goal.push-requires-clause-next
push-requires-clause-next c = pad_next c.args.view c.requires.view c.args.parts.now.items c.args.input c.args.place c.requires.input

pub returns-clause-last : goal.returns-clause-last
returns-clause-last c = last_padded c.args.parts.now.items (Linear c.args.input (Pad (record { nulls = 1 }))) c.args.place c.args.view c.push.new.parts.items c.in_ok-push.ensures.is refl
