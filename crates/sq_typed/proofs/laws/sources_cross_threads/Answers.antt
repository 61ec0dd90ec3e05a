use denote.Param.Send.{sendable}
use Rattle.sqlite_items.proofs.items.Items.TheSendSync as items
use Rattle.sq_typed.proofs.QueriesCross.{item_send, item_sync}
use Rattle.sq_typed.proofs.laws.sources_cross_threads.Goals as goal

pub is_send_and_sync-requires-send-T : goal.is_send_and_sync-requires-send-T
is_send_and_sync-requires-send-T c κs = search (items.the_send, item_send, sendable)

pub is_send_and_sync-requires-sync-T : goal.is_send_and_sync-requires-sync-T
is_send_and_sync-requires-sync-T c κs = search (items.the_sync, item_sync, sendable)
