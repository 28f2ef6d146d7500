-- A seat of a monitor of any kind may go to another thread
use denote.RattleType.{RattleType}
use denote.Param.Send.{IsSend, IsSync, AllSend, AllSync, EachSend, sendable, enum_send, struct_send, struct_sync}
use denote.Param.Send.{recorded_send, recorded_sync, view_send, view_sync}
use denote.Struct.Declared.{shape}
use denote.Enum.Declared.{shape as choice}
use Rattle.std.proofs.Crossing.{Arc-send}
use Rattle.monk_kinds.specs.declared.kind.Kind as Kind
use Rattle.monk_object.specs.contracts.flags.Flags as Flags
use Rattle.monk_object.specs.contracts.flags.FlagsGuarded.TheImpl.{ghosts}
use Rattle.monk_history.specs.contracts.text.header.Header as Header
use Rattle.monk_hall.proofs.PublicLaws.{active_send, hall_send, hall_sync, parked_send, pass_send}
use Rattle.monk_hall.specs.contracts.hall.Hall as Hall
use Rattle.monk_c.specs.contracts.any_seat.AnySeat as AnySeat
use Rattle.monk_c.specs.contracts.room.Room as Room
use Rattle.monk_c.specs.contracts.room.Room.TheInside as RoomInside
use Rattle.monk_c.specs.contracts.seat.Seat as Seat
use Rattle.monk_c.specs.contracts.seat.Seat.TheInside as SeatInside
use Rattle.monk_c.specs.contracts.token.SeatToken as SeatToken

flags_send : IsSend Flags.the_row
flags_send = search sendable depth 20

header_send : IsSend Header.the_row
header_send = search sendable depth 20

header_sync : IsSync Header.the_row
header_sync = search sendable depth 20

room_send : (K : RattleType) (k : Kind.Ghosts K.Denot) → IsSend K → IsSend (Room.the_row K k)
room_send K k s =
    let hall : IsSend (Hall.the_row K Flags.the_row k ghosts) = hall_send K Flags.the_row k ghosts s flags_send in
    let all : AllSend (shape (RoomInside.the_type K k)).fields = search (sendable, hall, header_send) depth 20 in
    view_send (RoomInside.the_row K k) _ _ _ _
    (recorded_send _ _ _ ((RoomInside.the_type K k).to_one) (struct_send (shape (RoomInside.the_type K k)) all))

room_sync : (K : RattleType) (k : Kind.Ghosts K.Denot) → IsSend K → IsSync (Room.the_row K k)
room_sync K k s =
    let hall : IsSync (Hall.the_row K Flags.the_row k ghosts) = hall_sync K Flags.the_row k ghosts s flags_send in
    let all : AllSync (shape (RoomInside.the_type K k)).fields = search (sendable, hall, header_sync) depth 20 in
    view_sync (RoomInside.the_row K k) _ _ _ _
    (recorded_sync _ _ _ ((RoomInside.the_type K k).to_one) (struct_sync (shape (RoomInside.the_type K k)) all))

token_send : (K : RattleType) (k : Kind.Ghosts K.Denot) → IsSend K → IsSend (SeatToken.the_field K k).row
token_send K k s =
    let each : EachSend (choice (SeatToken.the_type K k)).variants = (
      (pass_send K Flags.the_row k ghosts s flags_send, tt),
      (
        (parked_send K Flags.the_row k ghosts s flags_send, tt),
        ((active_send K Flags.the_row k ghosts s flags_send, tt), tt),
      ),
    ) in
    enum_send (choice (SeatToken.the_type K k)) each

seat_send : (K : RattleType) (k : Kind.Ghosts K.Denot) → IsSend K → IsSend (Seat.the_row K k)
seat_send K k s =
    let all : AllSend (shape (SeatInside.the_type K k)).fields =
    (Arc-send (Room.the_row K k) (room_send K k s) (room_sync K k s), (token_send K k s, tt)) in
    view_send (SeatInside.the_row K k) _ _ _ _
    (recorded_send _ _ _ ((SeatInside.the_type K k).to_one) (struct_send (shape (SeatInside.the_type K k)) all))

pub any_seat_send : IsSend AnySeat.the_row
any_seat_send =
    let each : EachSend (choice AnySeat.the_type).variants = search (sendable, seat_send) depth 40 in
    recorded_send _ _ _ (AnySeat.the_type.to_one) (enum_send (choice AnySeat.the_type) each)
