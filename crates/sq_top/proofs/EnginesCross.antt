-- An engine may be handed to another thread and be shared. The search gives up at a circuit beside states, so the parts are named.
use denote.Param.Send.{IsSend, IsSync, sendable, recorded_send, recorded_sync, struct_send, struct_sync}
use denote.Struct.Declared.{shape}
use Rattle.std.proofs.Crossing as std
use Rattle.std.proofs.option.Option.TheSendSync as option
use Rattle.sqlite_items.proofs.items.Items.TheSendSync as items
use Rattle.sq_value.proofs.text.Str.TheSendSync as text
use Rattle.sq_expr.proofs.cond.Cmp.TheSendSync as cmp
use Rattle.sq_expr.proofs.cond.Cond.TheLaws.TheKnot as cond
use Rattle.sq_expr.proofs.expr.Expr.TheLaws.TheKnot as expr
use Rattle.sq_expr.proofs.expr.Func.TheSendSync as func
use Rattle.sq_circuit.specs.contracts.circuit.Circuit as circuit
use Rattle.sq_states.proofs.kept.States.TheSendSync as states
use Rattle.sq_engine.specs.contracts.engine.Engine as engine
use Rattle.sq_engine.specs.contracts.engine.Engine.TheInside as inside

-- what circuits are made of
ruleset inner = (cond.crosses, cond.crosses_both, expr.crosses, expr.crosses_both, cmp.the_send, cmp.the_sync, func.the_send, func.the_sync, items.the_send, items.the_sync, text.the_send, text.the_sync, option.the_send, option.the_sync, std.crosses, sendable)

circuit_send : IsSend circuit.the_row
circuit_send = search inner depth 150 fits 300000

circuit_sync : IsSync circuit.the_row
circuit_sync = search inner depth 150 fits 300000

ruleset parts = (circuit_send, circuit_sync, states.the_send, states.the_sync, std.crosses, sendable)

fields_send : IsSend inside.the_row
fields_send = recorded_send inside.the_field.row _ _ inside.the_type.to_one (struct_send (shape inside.the_type) (search parts depth 30, (search parts depth 30, (search parts depth 30, (search parts depth 30, tt)))))

fields_sync : IsSync inside.the_row
fields_sync = recorded_sync inside.the_field.row _ _ inside.the_type.to_one (struct_sync (shape inside.the_type) (search parts depth 30, (search parts depth 30, (search parts depth 30, (search parts depth 30, tt)))))

pub engine_send : IsSend engine.the_row
engine_send = search (fields_send, sendable)

pub engine_sync : IsSync engine.the_row
engine_sync = search (fields_sync, sendable)
