use denote.Param.Send.{sendable}
use Rattle.sq_typed.proofs.QueriesCross.{step_send, step_sync, origin_send, origin_sync}
use Rattle.sq_typed.proofs.laws.data_crosses_threads.Goals as goal

pub is_send_and_sync-requires-2-send-T : goal.is_send_and_sync-requires-2-send-T
is_send_and_sync-requires-2-send-T c κs = search (step_send, sendable)

pub is_send_and_sync-requires-2-sync-T : goal.is_send_and_sync-requires-2-sync-T
is_send_and_sync-requires-2-sync-T c κs = search (step_sync, sendable)

pub is_send_and_sync-requires-5-send-T : goal.is_send_and_sync-requires-5-send-T
is_send_and_sync-requires-5-send-T c κs = search (origin_send, sendable)

pub is_send_and_sync-requires-5-sync-T : goal.is_send_and_sync-requires-5-sync-T
is_send_and_sync-requires-5-sync-T c κs = search (origin_sync, sendable)
