-- A floor may go to another thread if its object may
use denote.RattleType.{RattleType}
use denote.Param.Send.{IsSend, sendable, view_send, struct_send, recorded_send, AllSend}
use denote.Struct.Declared.{shape}
use Rattle.std.proofs.Crossing.{crosses, Vec-send}
use Rattle.monk_kinds.specs.declared.kind.Kind as Kind
use Rattle.monk_object.specs.declared.guarded.Guarded as Guarded
use Rattle.std.specs.contracts.snapshot.Snapshot as Snapshot
use Rattle.monk_history.specs.contracts.event.Event as Event
use Rattle.monk_floor.specs.contracts.links.Links as Links
use Rattle.monk_floor.specs.contracts.queues.Queues as Queues
use Rattle.monk_floor.specs.contracts.ledger.Ledger as Ledger
use Rattle.monk_floor.specs.contracts.floor.Floor as Floor
use Rattle.monk_floor.specs.contracts.floor.Floor.TheInside as Inside

links_send : IsSend Links.the_row
links_send = search (sendable, crosses) depth 40

queues_send : IsSend Queues.the_row
queues_send = search (sendable, crosses, links_send) depth 40

ledger_send : IsSend (Ledger.the_field).row
ledger_send = search (sendable, crosses, queues_send) depth 40

event_send : IsSend Event.the_row
event_send = search sendable depth 40 fits 100000

snapshot_send : (T : RattleType) → IsSend (Snapshot.the_row T)
snapshot_send T = search sendable depth 40

inside_send : (K T : RattleType) (k : Kind.Ghosts K.Denot) (t : Guarded.Ghosts T.Denot) → IsSend K → IsSend T
    → IsSend (Inside.the_row K T k t)
inside_send K T k t sk st =
    let all : AllSend (shape (Inside.the_type K T k t)).fields = (
      st,
      (
        snapshot_send T,
        (
          Vec-send Event.the_row event_send,
          (ledger_send, (search sendable, (search sendable, (search sendable, (search sendable, tt))))),
        ),
      ),
    ) in
    recorded_send _ _ _ ((Inside.the_type K T k t).to_one) (struct_send (shape (Inside.the_type K T k t)) all)

pub floor_send : (K T : RattleType) (k : Kind.Ghosts K.Denot) (t : Guarded.Ghosts T.Denot) → IsSend K → IsSend T
    → IsSend (Floor.the_row K T k t)
floor_send K T k t sk st = view_send (Inside.the_row K T k t) _ _ _ _ (inside_send K T k t sk st)
