use denote.Param.Send.{sendable}
use Rattle.std.proofs.option.Option.TheSendSync as option
use Rattle.sq_top.proofs.EnginesCross.{engine_send, engine_sync}
use Rattle.sq_top.proofs.data_crosses_threads.Goals as goal

pub is_send_and_sync-requires-2-send-T : goal.is_send_and_sync-requires-2-send-T
is_send_and_sync-requires-2-send-T c κs = search (engine_send, option.the_send, sendable) depth 40 fits 20000

pub is_send_and_sync-requires-2-sync-T : goal.is_send_and_sync-requires-2-sync-T
is_send_and_sync-requires-2-sync-T c κs = search (engine_sync, option.the_sync, sendable) depth 40 fits 20000
