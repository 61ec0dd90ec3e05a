-- What a query is made of may be handed to another thread and be shared. The types contain each other, and the search alone gives up.
use denote.Param.Send.{IsSend, IsSync, sendable}
use Rattle.std.proofs.Crossing as std
use Rattle.std.proofs.option.Option.TheSendSync as option
use Rattle.sqlite_items.proofs.boxed.Boxed.TheSendSync as boxed
use Rattle.sqlite_items.proofs.items.Items.TheSendSync as items
use Rattle.sq_value.proofs.text.Str.TheSendSync as text
use Rattle.sq_ast.proofs.query.SetOp.TheSendSync as set_op
use Rattle.sq_expr.proofs.cond.Cmp.TheSendSync as cmp
use Rattle.sq_expr.proofs.cond.Cond.TheLaws.TheKnot as cond
use Rattle.sq_expr.proofs.expr.Expr.TheLaws.TheKnot as expr
use Rattle.sq_expr.proofs.expr.Func.TheSendSync as func
use Rattle.sq_typed.specs.contracts.query.Query as query
use Rattle.sq_typed.specs.contracts.query.SetStep as step
use Rattle.sq_typed.specs.contracts.query.FromItem as item
use Rattle.sq_typed.specs.contracts.query.Origin as origin
use Rattle.sq_typed.proofs.query.Origin.TheLaws.TheKnot as knot

-- what holds queries together
ruleset parts = (cond.crosses, cond.crosses_both, expr.crosses, expr.crosses_both, set_op.the_send, set_op.the_sync, cmp.the_send, cmp.the_sync, func.the_send, func.the_sync, items.the_send, items.the_sync, text.the_send, text.the_sync, option.the_send, option.the_sync, std.crosses, sendable)

query_opened_send : IsSend (query.the_field).row
query_opened_send = knot.both_send-Query (search parts depth 30) (search parts depth 30) (λ h s y. boxed.the_send h s) (λ h s y. boxed.the_sync h y) (λ h s y. items.the_send h s) (λ h s y. items.the_sync h y) (search parts depth 30) (search parts depth 30) (search parts depth 30) (search parts depth 30) (search parts depth 30) (search parts depth 30) (search parts depth 30) (search parts depth 30) (search parts depth 30) (search parts depth 30) (search parts depth 30) (search parts depth 30)

pub query_send : IsSend query.the_row
query_send = search (query_opened_send, sendable)

query_opened_sync : IsSync (query.the_field).row
query_opened_sync = knot.both_sync-Query (search parts depth 30) (search parts depth 30) (λ h s y. boxed.the_send h s) (λ h s y. boxed.the_sync h y) (λ h s y. items.the_send h s) (λ h s y. items.the_sync h y) (search parts depth 30) (search parts depth 30) (search parts depth 30) (search parts depth 30) (search parts depth 30) (search parts depth 30) (search parts depth 30) (search parts depth 30) (search parts depth 30) (search parts depth 30) (search parts depth 30) (search parts depth 30)

pub query_sync : IsSync query.the_row
query_sync = search (query_opened_sync, sendable)

step_opened_send : IsSend (step.the_field).row
step_opened_send = knot.both_send-SetStep (search parts depth 30) (search parts depth 30) (λ h s y. boxed.the_send h s) (λ h s y. boxed.the_sync h y) (λ h s y. items.the_send h s) (λ h s y. items.the_sync h y) (search parts depth 30) (search parts depth 30) (search parts depth 30) (search parts depth 30) (search parts depth 30) (search parts depth 30) (search parts depth 30) (search parts depth 30) (search parts depth 30) (search parts depth 30) (search parts depth 30) (search parts depth 30)

pub step_send : IsSend step.the_row
step_send = search (step_opened_send, sendable)

step_opened_sync : IsSync (step.the_field).row
step_opened_sync = knot.both_sync-SetStep (search parts depth 30) (search parts depth 30) (λ h s y. boxed.the_send h s) (λ h s y. boxed.the_sync h y) (λ h s y. items.the_send h s) (λ h s y. items.the_sync h y) (search parts depth 30) (search parts depth 30) (search parts depth 30) (search parts depth 30) (search parts depth 30) (search parts depth 30) (search parts depth 30) (search parts depth 30) (search parts depth 30) (search parts depth 30) (search parts depth 30) (search parts depth 30)

pub step_sync : IsSync step.the_row
step_sync = search (step_opened_sync, sendable)

item_opened_send : IsSend (item.the_field).row
item_opened_send = knot.both_send-FromItem (search parts depth 30) (search parts depth 30) (λ h s y. boxed.the_send h s) (λ h s y. boxed.the_sync h y) (λ h s y. items.the_send h s) (λ h s y. items.the_sync h y) (search parts depth 30) (search parts depth 30) (search parts depth 30) (search parts depth 30) (search parts depth 30) (search parts depth 30) (search parts depth 30) (search parts depth 30) (search parts depth 30) (search parts depth 30) (search parts depth 30) (search parts depth 30)

pub item_send : IsSend item.the_row
item_send = search (item_opened_send, sendable)

item_opened_sync : IsSync (item.the_field).row
item_opened_sync = knot.both_sync-FromItem (search parts depth 30) (search parts depth 30) (λ h s y. boxed.the_send h s) (λ h s y. boxed.the_sync h y) (λ h s y. items.the_send h s) (λ h s y. items.the_sync h y) (search parts depth 30) (search parts depth 30) (search parts depth 30) (search parts depth 30) (search parts depth 30) (search parts depth 30) (search parts depth 30) (search parts depth 30) (search parts depth 30) (search parts depth 30) (search parts depth 30) (search parts depth 30)

pub item_sync : IsSync item.the_row
item_sync = search (item_opened_sync, sendable)

origin_opened_send : IsSend (origin.the_field).row
origin_opened_send = knot.both_send-Origin (search parts depth 30) (search parts depth 30) (λ h s y. boxed.the_send h s) (λ h s y. boxed.the_sync h y) (λ h s y. items.the_send h s) (λ h s y. items.the_sync h y) (search parts depth 30) (search parts depth 30) (search parts depth 30) (search parts depth 30) (search parts depth 30) (search parts depth 30) (search parts depth 30) (search parts depth 30) (search parts depth 30) (search parts depth 30) (search parts depth 30) (search parts depth 30)

pub origin_send : IsSend origin.the_row
origin_send = search (origin_opened_send, sendable)

origin_opened_sync : IsSync (origin.the_field).row
origin_opened_sync = knot.both_sync-Origin (search parts depth 30) (search parts depth 30) (λ h s y. boxed.the_send h s) (λ h s y. boxed.the_sync h y) (λ h s y. items.the_send h s) (λ h s y. items.the_sync h y) (search parts depth 30) (search parts depth 30) (search parts depth 30) (search parts depth 30) (search parts depth 30) (search parts depth 30) (search parts depth 30) (search parts depth 30) (search parts depth 30) (search parts depth 30) (search parts depth 30) (search parts depth 30)

pub origin_sync : IsSync origin.the_row
origin_sync = search (origin_opened_sync, sendable)
