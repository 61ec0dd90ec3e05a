use denote.Param.Send.{IsSend, IsSync, sendable, recorded_send, recorded_sync, struct_send, struct_sync}
use denote.Struct.Declared.{shape}
use Rattle.sqlite_items.proofs.items.Items.TheSendSync as items
use Rattle.sq_catalog.proofs.catalog.Catalog.TheSendSync as catalog
use Rattle.sq_typed.specs.contracts.program.Program.TheInside as inside
use Rattle.sq_typed.specs.contracts.query.Query as query
use Rattle.sq_typed.proofs.QueriesCross.{query_send, query_sync}
use Rattle.sq_typed.proofs.laws.programs_cross_threads.Goals as goal

-- the search gives up at a catalogue beside queries, so the parts of a program are named
fields_send : IsSend inside.the_row
fields_send = recorded_send inside.the_field.row _ _ inside.the_type.to_one (struct_send (shape inside.the_type) (catalog.the_send, (items.the_send query.the_row query_send, tt)))

fields_sync : IsSync inside.the_row
fields_sync = recorded_sync inside.the_field.row _ _ inside.the_type.to_one (struct_sync (shape inside.the_type) (catalog.the_sync, (items.the_sync query.the_row query_sync, tt)))

pub is_send_and_sync-requires-send-T : goal.is_send_and_sync-requires-send-T
is_send_and_sync-requires-send-T c κs = search (fields_send, sendable)

pub is_send_and_sync-requires-sync-T : goal.is_send_and_sync-requires-sync-T
is_send_and_sync-requires-sync-T c κs = search (fields_sync, sendable)
